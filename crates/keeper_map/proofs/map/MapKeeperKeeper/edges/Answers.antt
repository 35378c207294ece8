use Rattle.keeper_map.proofs.Stamps.{part_given}
use Rattle.keeper_map.proofs.map.MapKeeperKeeper.edges.Goals as goal

pub returns-clause-given : goal.returns-clause-given
returns-clause-given c = rw c.in_ok-edges.ensures (part_given c.log.result.now c.args.id1 c.args.atype c.args.pos c.args.most c.log.ensures.stamps)
