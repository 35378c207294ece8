use Rattle.std.proofs.lemmas.Result.{IfOk-weaker}
use Rattle.node_stages.specs.Standing.{StandsSo}
use Rattle.core_nodes.specs.Emptying.{ServesTruly}
use Rattle.core_nodes.proofs.NodesOfNames.{holds_at, is_here}
use Rattle.core_nodes.proofs.failing.stand_at.Goals as goal

pub stand_so-requires : goal.stand_so-requires
stand_so-requires g c = record {
  truth = holds_at (λ x. ServesTruly c.args.config.now c.args.name (g.C.Cache.node x)) c.args.caches.now c.args.name c.place_of-place.result
      c.index-caches-place.result c.place_of-place.ensures.first c.requires.truth;
}

pub returns-clause-stands : goal.returns-clause-stands
returns-clause-stands g c =
    IfOk-weaker c.stand_so.result _ _ (λ stand stands. is_here (λ x. StandsSo (g.C.Cache.node x).served stand) c.args.caches.now
    c.args.name c.place_of-place.result c.index-caches-place.result c.place_of-place.ensures.first stands) c.stand_so.ensures.stands
