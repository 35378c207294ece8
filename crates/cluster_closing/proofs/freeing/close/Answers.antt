use Rattle.std.proofs.Common.{ap, subst, sym, ◌∙◌}
use Rattle.core_model.specs.Fleet.{EachIs}
use Rattle.shared_nodes.specs.Nodes.{IsSharedNode}
use Rattle.unlocked_nodes.specs.Unlocked.{IsFreedFollower}
use Rattle.unlocked_nodes.specs.declared.unlocked.Unlocked.{Unlocked}
use Rattle.cluster_closing.proofs.FreedStores.{may_settle}
use Rattle.cluster_closing.proofs.freeing.close.Goals as goal

pub returns-clause-ready : goal.returns-clause-ready
returns-clause-ready g c =
    may_settle g.K.Keeper.TELLS g.K.Keeper.state g.J.Sharing.making g.J.Logs.log c.of.result.unlocked c.free_stores-stores.result c.of_parts-fleet.result
    c.of.result.keepers.items (ap (λ (u : Unlocked). u.fleet) c.of.ensures.unlocked) c.of_parts-fleet.ensures.stores
    (ap (λ (u : Unlocked). u.noted.items) c.of.ensures.unlocked) (ap (λ (u : Unlocked). u.met) c.of.ensures.unlocked)
    (ap (λ ks. ks.items) c.of.ensures.keepers) (c.free_stores-stores.ensures.many ∙ c.into_parts-topology.ensures.many.stores_are)
    c.free_stores-stores.ensures.shared
    (subst (λ xs. EachIs (IsSharedNode g.J.Sharing.making g.J.Logs.log) xs) (sym c.of_parts-fleet.ensures.leaders) c.free_leaders-leaders.ensures)
    (subst (λ xs. EachIs (IsFreedFollower g.J.Sharing.making g.J.Logs.log) xs) (sym c.of_parts-fleet.ensures.followers) c.free_followers-followers.ensures)
