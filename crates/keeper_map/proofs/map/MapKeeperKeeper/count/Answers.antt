use Rattle.keeper_map.proofs.Few.{few_edges}
use Rattle.keeper_map.proofs.map.MapKeeperKeeper.count.Goals as goal
use Rattle.tao_keeper.specs.declared.keeper.TheConstants.{MOST_ENTRIES}

pub returns-clause-few : goal.returns-clause-few
returns-clause-few c = rw c.in_ok-count.ensures (few_edges c.log.result.now c.args.id1 c.args.atype MOST_ENTRIES c.log.ensures.sound c.log.ensures.few)
