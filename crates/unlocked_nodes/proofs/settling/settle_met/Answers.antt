use Rattle.std.proofs.Common.{subst}
use Rattle.std.specs.Prelude.{⊤, IfErr, OnOk}
use Rattle.core_nodes.specs.Outside.{outside}
use Rattle.graph_model.specs.Told.{WhereTold}
use Rattle.tao_base.specs.EdgeTypes.{InversesMatch}
use Rattle.tao_schema.specs.Schema.{types_of}
use Rattle.topology.specs.Config.{Settings}
use Rattle.unlocked_nodes.specs.Settling.{HasStopCause, RestsWhole}
use Rattle.unlocked_nodes.specs.Unlocked.{fleet_of}
use Rattle.unlocked_nodes.proofs.MetNodes.{lent_as}
use Rattle.unlocked_nodes.proofs.SettledNodes.{left_caught, left_comes, left_consistent, left_met, left_past, left_stops}
use Rattle.unlocked_nodes.proofs.settling.settle_met.Goals as goal

pub settle_moved-requires-clause-consistent : goal.settle_moved-requires-clause-consistent
settle_moved-requires-clause-consistent g c =
    left_consistent g.K.Keeper.TELLS g.J.Sharing.making g.J.Logs.log (fleet_of c.args.parts) _ _ (outside (g.K.Keeper.state c.args.keepers.now) (g.L.Link.shown c.args.link.now))
    (outside (g.K.Keeper.state c.move_all-stores.new.keepers) (g.L.Link.shown c.move_all-stores.new.link)) c.args.around.now.config.now c.requires.made
    c.requires.met (lent_as c.of_parts-fleet.ensures.leaders c.of_parts-fleet.ensures.followers c.of_parts-fleet.ensures.stores) c.move_all-stores.ensures.moves
    c.masters_are_regions.ensures
    (subst (λ r. WhereTold g.K.Keeper.TELLS (OnOk r (RestsWhole c.args.around.now.config.now (g.K.Keeper.state c.move_all-stores.new.keepers).told))) c.in-Ok.is
    c.move_all-stores.ensures.rests)

pub settle_moved-requires-clause-past : goal.settle_moved-requires-clause-past
settle_moved-requires-clause-past g c =
    left_past g.K.Keeper.TELLS g.J.Sharing.making g.J.Logs.log (fleet_of c.args.parts) _ _ (outside (g.K.Keeper.state c.args.keepers.now) (g.L.Link.shown c.args.link.now))
    (outside (g.K.Keeper.state c.move_all-stores.new.keepers) (g.L.Link.shown c.move_all-stores.new.link)) c.args.around.now.config.now c.requires.made
    c.requires.met (lent_as c.of_parts-fleet.ensures.leaders c.of_parts-fleet.ensures.followers c.of_parts-fleet.ensures.stores) c.move_all-stores.ensures.moves
    c.masters_are_regions.ensures

pub returns-in-Ok-clause-met : goal.returns-in-Ok-clause-met
returns-in-Ok-clause-met g c =
    left_caught g.K.Keeper.TELLS g.J.Sharing.making g.J.Logs.log (fleet_of c.args.parts) c.of_parts-fleet.result _
    (outside (g.K.Keeper.state c.args.keepers.now) (g.L.Link.shown c.args.link.now))
    (outside (g.K.Keeper.state c.move_all-stores.new.keepers) (g.L.Link.shown c.move_all-stores.new.link)) c.args.around.now.config.now c.requires.made
    c.requires.met (lent_as c.of_parts-fleet.ensures.leaders c.of_parts-fleet.ensures.followers c.of_parts-fleet.ensures.stores) _ _
    c.move_all-stores.ensures.moves c.masters_are_regions.ensures
    (subst (λ r. WhereTold g.K.Keeper.TELLS (OnOk r (RestsWhole c.args.around.now.config.now (g.K.Keeper.state c.move_all-stores.new.keepers).told))) c.in-Ok.is
    c.move_all-stores.ensures.rests) c.settle_moved.ensures.catches

pub returns-in-Ok-clause-comes : goal.returns-in-Ok-clause-comes
returns-in-Ok-clause-comes g c =
    left_comes g.K.Keeper.TELLS g.J.Sharing.making g.J.Logs.log (fleet_of c.args.parts) c.of_parts-fleet.result _
    (outside (g.K.Keeper.state c.args.keepers.now) (g.L.Link.shown c.args.link.now))
    (outside (g.K.Keeper.state c.move_all-stores.new.keepers) (g.L.Link.shown c.move_all-stores.new.link)) c.args.around.now.config.now c.requires.made
    c.requires.met (lent_as c.of_parts-fleet.ensures.leaders c.of_parts-fleet.ensures.followers c.of_parts-fleet.ensures.stores) _ _
    c.move_all-stores.ensures.moves c.masters_are_regions.ensures
    (subst (λ (n : Settings). InversesMatch (types_of n.schema)) c.config.view_is c.inverses_match.ensures)
    (subst (λ r. WhereTold g.K.Keeper.TELLS (OnOk r (RestsWhole c.args.around.now.config.now (g.K.Keeper.state c.move_all-stores.new.keepers).told))) c.in-Ok.is
    c.move_all-stores.ensures.rests) c.settle_moved.ensures.catches

pub returns-in-Err-clause-met : goal.returns-in-Err-clause-met
returns-in-Err-clause-met g c =
    left_met g.K.Keeper.TELLS g.J.Sharing.making g.J.Logs.log (fleet_of c.args.parts) _ _ (outside (g.K.Keeper.state c.args.keepers.now) (g.L.Link.shown c.args.link.now))
    (outside (g.K.Keeper.state c.move_all-stores.new.keepers) (g.L.Link.shown c.move_all-stores.new.link)) c.args.around.now.config.now c.requires.made
    c.requires.met (lent_as c.of_parts-fleet.ensures.leaders c.of_parts-fleet.ensures.followers c.of_parts-fleet.ensures.stores) c.move_all-stores.ensures.moves
    c.masters_are_regions.ensures

pub returns-in-Err-clause-comes : goal.returns-in-Err-clause-comes
returns-in-Err-clause-comes g c =
    left_stops g.K.Keeper.TELLS g.J.Sharing.making g.J.Logs.log (fleet_of c.args.parts) _ _ (outside (g.K.Keeper.state c.args.keepers.now) (g.L.Link.shown c.args.link.now))
    (outside (g.K.Keeper.state c.move_all-stores.new.keepers) (g.L.Link.shown c.move_all-stores.new.link)) c.args.around.now.config.now c.requires.made
    c.requires.met (lent_as c.of_parts-fleet.ensures.leaders c.of_parts-fleet.ensures.followers c.of_parts-fleet.ensures.stores) ⊤ _ c.move_all-stores.ensures.moves
    c.masters_are_regions.ensures
    (subst (λ r. IfErr r (λ given. HasStopCause g.K.Keeper.TELLS c.args.around.now.config.now given
    (outside (g.K.Keeper.state c.args.keepers.now) (g.L.Link.shown c.args.link.now))
    (outside (g.K.Keeper.state c.move_all-stores.new.keepers) (g.L.Link.shown c.move_all-stores.new.link)))) c.in-Err.is c.move_all-stores.ensures.cause)
