use Rattle.std.proofs.Common.{◌≡◌, ◌+◌, ◌≤◌, length}
use Rattle.std.specs.Vec.{vec_capacity, vec_len}
use Rattle.shared_stores.specs.Locked.{IsSharedStore, locked}
use Rattle.cluster_opening.specs.Opening.{AreEach}
use Rattle.cluster_opening.proofs.opening.lock_stores.Given as goal

-- those that are left may be shared, and there is room for them
abbrev pub invariant-loop-store : goal.invariant-loop-store
invariant-loop-store g l = record {
  shared : AreEach (λ store keeper notes. IsSharedStore g.K.Keeper.TELLS g.J.Sharing.making g.J.Logs.log (locked store (g.K.Keeper.state keeper).told notes))
      l.stores.items l.keepers.items l.noted.items;
  room : vec_len l.shared + length l.stores.items ≤ vec_capacity l.shared;
  many : vec_len l.shared + length l.stores.items ≡ length l.fn.stores.items;
}

-- one less is left in each turn
abbrev pub decreases-loop-store : goal.decreases-loop-store
decreases-loop-store g l = length l.stores.items
