use Rattle.unlocked_nodes.proofs.MovedStores.{some_shards}
use Rattle.topology.specs.Config.{Settings}
use Rattle.std.proofs.Common.{◌≤◌, subst}
use Rattle.unlocked_nodes.proofs.moving.stand_ins.Goals as goal

pub unbegun-requires : goal.unbegun-requires
unbegun-requires g c = record {
  shards = subst (λ (n : Settings). 1 ≤ n.shards) c.config.view_is (some_shards c.config.inside.shards c.config.invariant.shards);
}

pub returns-in-Err-begin-clause-stop : goal.returns-in-Err-begin-clause-stop
returns-in-Err-begin-clause-stop g c = c.unbegun.ensures (g.K.Keeper.state c.args.keepers.now) c.in-Err-begin.ensures.unmade
