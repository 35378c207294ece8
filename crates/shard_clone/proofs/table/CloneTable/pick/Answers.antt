use Rattle.shard_clone.proofs.Rows.{picked_able}
use Rattle.shard_clone.proofs.table.CloneTable.pick.Goals as goal

pub returns-clause-able : goal.returns-clause-able
returns-clause-able c = rw c.pick_in_turn.ensures
    (picked_able c.args.self.now c.args.topology.now c.args.region c.args.shard c.args.session c.args.tier)
