use Rattle.std.proofs.Common.{ap, refl, subst, ◌∙◌}
use Rattle.std.proofs.lemmas.List.{with_items_is}
use Rattle.std.specs.Prelude.{⊤}
use Rattle.core_model.specs.Fleet.{Fleet}
use Rattle.core_nodes.specs.Outside.{outside}
use Rattle.unlocked_nodes.specs.Settling.{ComesTo, closed_now}
use Rattle.unlocked_nodes.specs.Unlocked.{notes_of}
use Rattle.unlocked_nodes.proofs.MetNodes.{lent_as}
use Rattle.unlocked_nodes.proofs.SettledNodes.{comes_after, stops_looking, unlocked_stays}
use Rattle.unlocked_nodes.proofs.settling.settle_unlocked.Goals as goal

pub returns-in-Ok-clause-comes : goal.returns-in-Ok-clause-comes
returns-in-Ok-clause-comes g c =
    let tells = g.K.Keeper.TELLS in
    let s = c.args.around.now.config.now in
    let mid = outside (g.K.Keeper.state c.look_through.new.keepers) (g.L.Link.shown c.args.link.now) in
    let after = closed_now c.settle_parts-in-Ok.result.unlocked.fleet
    (outside (g.K.Keeper.state c.settle_parts-in-Ok.new.keepers) (g.L.Link.shown c.settle_parts-in-Ok.new.link)) in
    comes_after tells s c.args.unlocked.fleet (outside (g.K.Keeper.state c.args.keepers.now) (g.L.Link.shown c.args.link.now)) mid c.in-Ok.ensures.stays
    c.in-Ok.ensures.later refl c.settle_parts-in-Ok.result.outcome after
    (subst (λ (x : Fleet). ComesTo tells s c.settle_parts-in-Ok.result.outcome (closed_now x mid) after)
    (c.in-Ok.ensures.parts ∙ lent_as c.into_parts-parts.ensures.leaders c.into_parts-parts.ensures.followers c.into_parts-parts.ensures.stores)
    c.settle_parts-in-Ok.ensures.comes)

pub returns-in-Err-clause-ready : goal.returns-in-Err-clause-ready
returns-in-Err-clause-ready g c = record {
  unmet = λ unmet. unlocked_stays g.K.Keeper.TELLS g.J.Sharing.making g.J.Logs.log (g.K.Keeper.state c.args.keepers.now).told
      (g.K.Keeper.state c.look_through.new.keepers).told c.args.unlocked.fleet c.of_parts.result (notes_of c.args.unlocked.noted.items) _
      (lent_as c.of_parts.ensures.leaders c.of_parts.ensures.followers c.of_parts.ensures.stores ∙ c.in-Err.ensures.parts
      ∙ lent_as c.into_parts-parts.ensures.leaders c.into_parts-parts.ensures.followers c.into_parts-parts.ensures.stores)
      (ap notes_of (with_items_is c.args.unlocked.noted c.look_through.new.noted (c.look_through.auto.noted ∙ c.as_mut_slice.ensures.len))
      ∙ c.in-Err.ensures.noted ∙ ap notes_of c.as_mut_slice.ensures.value) c.in-Err.ensures.stays (c.requires.ready.unmet c.if-met.false);
  met = λ met. absurd (cc);
}

pub returns-in-Err-clause-comes : goal.returns-in-Err-clause-comes
returns-in-Err-clause-comes g c =
    stops_looking g.K.Keeper.TELLS c.args.around.now.config.now c.args.unlocked.fleet
    (outside (g.K.Keeper.state c.args.keepers.now) (g.L.Link.shown c.args.link.now))
    (outside (g.K.Keeper.state c.look_through.new.keepers) (g.L.Link.shown c.args.link.now)) c.in-Err.ensures.stays c.in-Err.ensures.later refl ⊤ c.in-Err.stop
    c.of_parts.result
    (lent_as c.of_parts.ensures.leaders c.of_parts.ensures.followers c.of_parts.ensures.stores ∙ c.in-Err.ensures.parts
    ∙ lent_as c.into_parts-parts.ensures.leaders c.into_parts-parts.ensures.followers c.into_parts-parts.ensures.stores) c.in-Err.ensures.stop
