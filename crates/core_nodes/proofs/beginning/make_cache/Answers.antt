use Rattle.std.proofs.Common.{◌<◌, ◌∙◌, ap, refl, sym, subst}
use Rattle.std.specs.List.{AllByRecursion}
use Rattle.std.proofs.lemmas.List.Elements.{All-from_recursion}
use Rattle.std.proofs.lemmas.Result.{IfOk-weaker}
use Rattle.topology.specs.Config.{Settings}
use Rattle.core_nodes.proofs.BeginLemmas.{begun_is, turn_named}
use Rattle.core_nodes.proofs.ServedWithin.{served_within}
use Rattle.core_nodes.proofs.beginning.make_cache.Goals as goal

pub turn_at-requires-clause-within : goal.turn_at-requires-clause-within
turn_at-requires-clause-within g c =
    let is = c.deref.ensures.value ∙ c.in_ok-shards.ensures in
    All-from_recursion (λ shard. shard < c.args.config.now.shards) c.deref.result.now
    (subst (AllByRecursion (λ shard. shard < c.args.config.now.shards)) (sym is)
    (served_within c.args.config.now c.args.name c.args.config.now.shards refl))

pub returns-clause-begun : goal.returns-clause-begun
returns-clause-begun g c =
    let s = c.args.config.now in
    let turn = turn_named s c.args.stores.now c.args.lengths.now _ _ _ _ c.in_ok-lows.field-0 c.region_of.ensures
    (c.deref.ensures.value ∙ c.in_ok-shards.ensures) c.in_ok-lows.ensures.turn in
    IfOk-weaker c.make.result _ _
    (λ cache begins. record {
      node_is = begun_is s c.args.stores.now c.args.lengths.now c.args.name (g.C.Cache.node cache) c.config.inside.cache_items c.deref-2.result.now
          c.deref-3.result.now c.in_ok-lows.field-0.notes.items begins.node_is (ap (λ (n : Settings). n.cache_items) c.config.view_is)
          (c.deref-2.ensures.value ∙ c.in_ok-shards.ensures)
          (c.deref-3.ensures.value ∙ turn.lows)
          turn.notes;
      refills_are = begins.refills_are;
      truth = begins.truth;
    }) c.make.ensures
