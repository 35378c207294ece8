use Rattle.std.proofs.Common.{subst, sym, ◌∙◌}
use Rattle.core_mail.specs.Inboxes.{AreEmpty, AreInboxesOf}
use Rattle.core_model.specs.Pens.{Pens}
use Rattle.core_model.specs.Stores.{AreStoresOf}
use Rattle.core_nodes.specs.Outside.{outside}
use Rattle.unlocked_nodes.proofs.MovedStores.{may_post, moves_over, stand_before}
use Rattle.unlocked_nodes.proofs.moving.move_with.Goals as goal

pub run_both-outcome-requires : goal.run_both-outcome-requires
run_both-outcome-requires g c =
    let tells = g.K.Keeper.TELLS in
    let s = c.args.around.now.config.now in
    let tables = (g.K.Keeper.state c.args.keepers.now).told in
    record {
      ready = may_post tells s c.nodes_of-nodes.result.fleet c.nodes_of-nodes.result.mail c.nodes_of-nodes.result.topology
          (g.K.Keeper.state c.args.keepers.now) (g.L.Link.shown c.args.link.now)
          (stand_before tells s tables c.args.stores.items _ _ c.nodes_of-nodes.result.fleet c.nodes_of-nodes.ensures.leaders
          c.nodes_of-nodes.ensures.followers c.nodes_of-nodes.ensures.stores c.requires.stand)
          (subst (AreStoresOf tells s tables) (sym c.nodes_of-nodes.ensures.stores) c.requires.stores)
          (subst (λ mail. (pens : Pens) → AreInboxesOf s pens mail) (sym c.nodes_of-nodes.ensures.mail) c.requires.mail)
          (subst AreEmpty (sym c.nodes_of-nodes.ensures.mail) c.requires.empty) (c.nodes_of-nodes.ensures.up ∙ c.requires.up);
    }

pub returns-clause-moves : goal.returns-clause-moves
returns-clause-moves g c =
    moves_over g.K.Keeper.TELLS c.args.around.now.config.now c.args.stores.items c.nodes_of-nodes.result.fleet.stores c.run_both-outcome.new.nodes.fleet.stores _
    (outside (g.K.Keeper.state c.args.keepers.now) (g.L.Link.shown c.args.link.now))
    (outside (g.K.Keeper.state c.run_both-outcome.new.keepers) (g.L.Link.shown c.run_both-outcome.new.link)) c.nodes_of-nodes.ensures.stores c.stores_of.ensures
    c.run_both-outcome.ensures.moves
