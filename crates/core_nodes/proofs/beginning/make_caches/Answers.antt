use Rattle.std.proofs.Common.{◌<◌, ◌∙◌, length, sym, subst}
use Rattle.std.specs.List.{AllByRecursion}
use Rattle.std.proofs.lemmas.List.Elements.{All-from_recursion}
use Rattle.core_model.specs.Fleet.{region_of}
use Rattle.core_nodes.proofs.FleetBegins.{follower_regions, leader_regions}
use Rattle.core_nodes.proofs.beginning.make_caches.Goals as goal

pub make_nodes-requires-clause-regions : goal.make_nodes-requires-clause-regions
make_nodes-requires-clause-regions c =
    let s = c.args.config.now in
    All-from_recursion (λ name. region_of name < length s.regions) c.deref.result.now
    (subst (AllByRecursion (λ name. region_of name < length s.regions)) (sym (c.deref.ensures.value ∙ c.in_ok-leaders.ensures)) (leader_regions s))

pub make_nodes-requires-2-clause-regions : goal.make_nodes-requires-2-clause-regions
make_nodes-requires-2-clause-regions c =
    let s = c.args.config.now in
    All-from_recursion (λ name. region_of name < length s.regions) c.deref-2.result.now
    (subst (AllByRecursion (λ name. region_of name < length s.regions)) (sym (c.deref-2.ensures.value ∙ c.in_ok-followers.ensures)) (follower_regions s))
