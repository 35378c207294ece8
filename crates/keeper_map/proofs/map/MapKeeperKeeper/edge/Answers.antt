use Rattle.keeper_map.proofs.Stamps.{record_small}
use Rattle.keeper_map.proofs.map.MapKeeperKeeper.edge.Goals as goal

pub returns-clause-small : goal.returns-clause-small
returns-clause-small c = rw c.in_ok-record.ensures (record_small c.log.result.now c.args.id1 c.args.atype c.args.id2 c.log.ensures.stamps)
