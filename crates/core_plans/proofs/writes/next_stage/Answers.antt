use Rattle.std.proofs.Common.{◌∙◌, ap, refl, sym}
use Rattle.core_steps.specs.Posting.{AppliesAlone}
use Rattle.core_steps.specs.World.{World, world}
use Rattle.core_steps.specs.declared.nodes.Nodes.{Nodes}
use Rattle.core_steps.proofs.LinkLemmas.{link_self}
use Rattle.core_steps.proofs.PostsLemmas.{posts_applied, posts_relayed, posts_same}
use Rattle.core_steps.specs.Relays.{RelaysAlone}
use Rattle.core_plans.specs.LedBy.{rules_of}
use Rattle.core_plans.proofs.HeldWriteStages.{at_apply, at_relay, passes_at}
use Rattle.core_plans.proofs.writes.next_stage.Goals as goal

pub apply_stage-requires-clause-spare : goal.apply_stage-requires-clause-spare
apply_stage-requires-clause-spare g c =
    let at = at_apply c.args.plan.now (sym c.next.ensures ∙ c.in-Apply.is) in
    c.requires.write.spare at.0 at.1

pub relay_stage-requires-clause-relay : goal.relay_stage-requires-clause-relay
relay_stage-requires-clause-relay g c =
    let at = at_relay c.args.plan.now (sym c.next.ensures ∙ c.in-Relay.is) in
    c.requires.write.relay at.unrefused at.ahead

pub returns-in-Commit : goal.returns-in-Commit
returns-in-Commit g c = passes_at _ _ _ _ _ _ (sym c.next.ensures ∙ c.in-Commit.is) c.commit_stage.ensures

pub returns-in-Inverse : goal.returns-in-Inverse
returns-in-Inverse g c = passes_at _ _ _ _ _ _ (sym c.next.ensures ∙ c.in-Inverse.is) c.inverse_stage.ensures

pub returns-in-End : goal.returns-in-End
returns-in-End g c =
    let state = g.K.Keeper.state in
    let tells = g.K.Keeper.TELLS in
    let s = c.args.config.now in
    let link = g.L.Link.shown c.args.link.now in
    let old : World = world c.args.nodes.now (state c.args.keepers.now) link in
    let new : World = world c.end_stage.new.nodes (state c.end_stage.new.keepers) link in
    let end = c.end_stage.ensures in
    passes_at (rules_of tells s) _ c.args.plan.now c.end_stage.new.plan old new (sym c.next.ensures ∙ c.in-End.is) (record {
      does = end.does link;
      write = end.write;
      on = posts_same tells s old new c.requires.ready.inboxes c.requires.ready.arrived (ap (λ (n : Nodes). n.fleet) end.same)
          (ap (λ (n : Nodes). n.mail) end.same) (ap (λ (n : Nodes). n.topology) end.same) end.consistent end.grows end.later (link_self link);
    })

pub returns-in-Apply : goal.returns-in-Apply
returns-in-Apply g c =
    let state = g.K.Keeper.state c.args.keepers.now in
    let tells = g.K.Keeper.TELLS in
    let s = c.args.config.now in
    let old : World = world c.args.nodes.now state (g.L.Link.shown c.args.link.now) in
    let new : World = world c.apply_stage.new.nodes state (g.L.Link.shown c.apply_stage.new.link) in
    let ready = c.requires.ready in
    let applied = c.apply_stage.ensures in
    let alone : AppliesAlone old new = record {
      fleet = ap (λ (n : Nodes). n.fleet) applied.rest;
      keepers = refl;
      inboxes = ap (λ (n : Nodes). n.mail) applied.rest;
      states = ap (λ (n : Nodes). n.topology) applied.rest;
    } in
    passes_at (rules_of tells s) _ c.args.plan.now c.apply_stage.new.plan old new (sym c.next.ensures ∙ c.in-Apply.is) (record {
      does = applied.does state;
      write = applied.write tells state.told c.requires.write;
      on = posts_applied tells s old new ready.consistent ready.inboxes ready.arrived alone applied.fleet applied.goes (applied.reached state.told)
          applied.link;
    })

pub returns-in-Relay : goal.returns-in-Relay
returns-in-Relay g c =
    let state = g.K.Keeper.state c.args.keepers.now in
    let tells = g.K.Keeper.TELLS in
    let s = c.args.config.now in
    let old : World = world c.args.nodes.now state (g.L.Link.shown c.args.link.now) in
    let new : World = world c.relay_stage.new.nodes state (g.L.Link.shown c.relay_stage.new.link) in
    let ready = c.requires.ready in
    let relayed = c.relay_stage.ensures in
    let alone : RelaysAlone old new = record {
      fleet = ap (λ (n : Nodes). n.fleet) relayed.rest;
      keepers = refl;
      inboxes = ap (λ (n : Nodes). n.mail) relayed.rest;
      states = ap (λ (n : Nodes). n.topology) relayed.rest;
    } in
    passes_at (rules_of tells s) _ c.args.plan.now c.relay_stage.new.plan old new (sym c.next.ensures ∙ c.in-Relay.is) (record {
      does = relayed.does state;
      write = relayed.write tells state.told c.requires.write;
      on = posts_relayed tells s old new ready.consistent ready.inboxes ready.arrived alone relayed.fleet relayed.goes (relayed.reached state.told)
          relayed.link;
    })
