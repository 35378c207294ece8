use Rattle.std.proofs.Common.{◌≡◌, ◌+◌, length}
use Rattle.shared_stores.specs.Locked.{IsSharedStore, locked}
use Rattle.cluster_closing.specs.Freeing.{AreEachFreed, HasRoomLeft}
use Rattle.cluster_closing.proofs.freeing.free_stores.Given as goal

-- those that were taken out are such as their locks kept, each with its keeper and its notes, and there is room for the others
abbrev pub invariant-loop-store : goal.invariant-loop-store
invariant-loop-store g l = record {
  shared : AreEachFreed (λ store keeper notes. IsSharedStore g.K.Keeper.TELLS g.J.Sharing.making g.J.Logs.log (locked store (g.K.Keeper.state keeper).told notes))
      l.freed;
  room : HasRoomLeft (length l.store-iterator.rest.items) l.freed;
  many : length l.freed.keepers.items + length l.store-iterator.rest.items ≡ length l.fn.stores.items;
}
