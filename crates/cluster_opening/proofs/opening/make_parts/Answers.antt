use Rattle.std.proofs.Common.{◌≡◌, ◌∙◌, ap, arith, length, subst, sym}
use Rattle.std.proofs.lemmas.List.{with_items_is}
use Rattle.std.specs.List.{AllByRecursion}
use Rattle.cache_items.specs.Node.{Node}
use Rattle.core_model.specs.declared.named.Named.{Named}
use Rattle.follower_cache.specs.Seen.{FollowerState}
use Rattle.locked_nodes.specs.shared_nodes.Nodes.{IsSharedNode}
use Rattle.cluster_opening.proofs.OpenedNodes.{each_in}
use Rattle.cluster_opening.proofs.opening.make_parts.Goals as goal

pub lock_leaders-requires : goal.lock_leaders-requires
lock_leaders-requires g c =
    subst (AllByRecursion (λ (leader : Named Node). IsSharedNode g.J.Sharing.making g.J.Logs.log leader.name leader.node))
    (sym c.into_parts-leaders.ensures.leaders)
    (each_in (λ name node. IsSharedNode g.J.Sharing.making g.J.Logs.log name node) c.args.fleet.leaders c.requires.nodes.leaders)

pub lock_followers-requires : goal.lock_followers-requires
lock_followers-requires g c =
    subst (AllByRecursion (λ (follower : Named FollowerState). IsSharedNode g.J.Sharing.making g.J.Logs.log follower.name follower.node.node))
    (sym c.into_parts-leaders.ensures.followers)
    (each_in (λ name follower. IsSharedNode g.J.Sharing.making g.J.Logs.log name follower.node) c.args.fleet.followers c.requires.nodes.followers)

pub returns-clause-stores : goal.returns-clause-stores
returns-clause-stores g c =
    let same = c.all_notes.ensures.same ∙ c.deref_mut.ensures.value in
    let long : length c.all_notes.new.stores ≡ c.into_parts-leaders.result.stores.len = omega (arith, ap length same) in
    with_items_is c.into_parts-leaders.result.stores c.all_notes.new.stores long ∙ (same ∙ c.into_parts-leaders.ensures.stores)
