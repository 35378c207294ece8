use Rattle.std.proofs.Common.{◌<◌, ◌∙◌, refl, sym, subst}
use Rattle.std.specs.List.{AllByRecursion}
use Rattle.std.proofs.lemmas.List.Elements.{All-from_recursion}
use Rattle.core_nodes.proofs.RestartLemmas.{restart_named}
use Rattle.core_nodes.proofs.ServedWithin.{served_within}
use Rattle.core_nodes.proofs.emptying.restart_for.Goals as goal

pub restart_of-requires-clause-within : goal.restart_of-requires-clause-within
restart_of-requires-clause-within g c =
    let is = c.deref.ensures.value ∙ c.in_ok-shards.ensures in
    All-from_recursion (λ shard. shard < c.args.config.now.shards) c.deref.result.now
    (subst (AllByRecursion (λ shard. shard < c.args.config.now.shards)) (sym is) (served_within c.args.config.now c.args.name c.args.config.now.shards refl))

pub returns-clause-restart : goal.returns-clause-restart
returns-clause-restart g c =
    restart_named g.K.Keeper.TELLS (g.K.Keeper.state c.args.keepers.now).told c.args.stores.now _ _ _ _ c.restart_of.result c.region_of-region.ensures
    (c.deref.ensures.value ∙ c.in_ok-shards.ensures) c.restart_of.ensures.restart
