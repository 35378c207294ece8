use Rattle.std.proofs.Common.{rules}
use Rattle.shard_clone.proofs.Places.{place_below, sets_clone}
use Rattle.shard_clone.proofs.table.CloneTable.set.Goals as goal

pub set-requires : goal.set-requires
set-requires c = rw c.clone_place.ensures (place_below _ c.self.invariant c.args.follower c.args.shard (search rules))

pub returns-clause-set : goal.returns-clause-set
returns-clause-set c _ =
    rw (← c.self.view_is) (rw c.set.ensures (rw c.clone_place.ensures (sets_clone _ c.self.invariant c.args.follower c.args.shard (search rules) c.args.on)))
