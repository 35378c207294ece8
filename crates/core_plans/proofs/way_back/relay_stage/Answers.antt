use Rattle.std.proofs.Common.{◌≡◌, ◌<◌, ◌∙◌, ap, arith, refl, subst, sym}
use Rattle.std.proofs.lemmas.Option.{IfSome_then}
use Rattle.std.proofs.lemmas.Result.{on_err_weaker}
use Rattle.std.specs.Prelude.{Contains, IfSome, IsSome}
use Rattle.core_model.specs.Fleet.{leader_names}
use Rattle.core_plans.specs.HeldWrites.{IsBefore, call_of_plan}
use Rattle.core_plans.proofs.ComingBack.{ComesPast, relays_done, way_past}
use Rattle.core_plans.proofs.HeldWriteStages.{at_relay, passed_named, relay_now, relayed_still, taken_on}
use Rattle.core_plans.proofs.WritesGoOn.{same_stores}
use Rattle.core_plans.proofs.way_back.relay_stage.Goals as goal
use Rattle.core_steps.specs.Routes.{hops_between}
use Rattle.core_steps.specs.World.{World, world}
use Rattle.core_steps.specs.Writes.{CanBeApplied}
use Rattle.core_steps.specs.declared.nodes.Nodes.{Nodes}
use Rattle.tao_base.specs.Writes.{write_shard}
use Rattle.tao_keeper.specs.KeeperState.{KeeperState}
use Rattle.write_plan.specs.Plans.{Writing, after_stage, next_of}
use Rattle.write_plan.specs.declared.results.WriteResult.TheVariants as came

pub passed_of-requires : goal.passed_of-requires
passed_of-requires g c = (at_relay c.args.plan.now c.requires.stage).passed

pub committer-requires : goal.committer-requires
committer-requires g c = (at_relay c.args.plan.now c.requires.stage).answered

pub relay_note_of-note-requires-clause-committed : goal.relay_note_of-note-requires-clause-committed
relay_note_of-note-requires-clause-committed g c = (at_relay c.args.plan.now c.requires.stage).answered

pub relay_note_of-note-requires-clause-relay : goal.relay_note_of-note-requires-clause-relay
relay_note_of-note-requires-clause-relay g c =
    let p = c.args.plan.now in
    relay_now p.committed p.relay (at_relay p c.requires.stage).passed c.requires.relay

pub carry_past-outcome-requires-clause-leader : goal.carry_past-outcome-requires-clause-leader
carry_past-outcome-requires-clause-leader g c =
    let names = Contains (leader_names c.args.config.now) in
    passed_named names c.args.plan.now.committed c.passed_of.result c.passed_of.ensures
    (IfSome_then c.args.plan.now.committed c.requires.answer (λ a answer. answer.passed))

pub carry_past-outcome-requires-clause-here : goal.carry_past-outcome-requires-clause-here
carry_past-outcome-requires-clause-here g c =
    subst (λ (m : Writing). write_shard m.write < c.args.config.now.shards) (sym c.relay_note_of-note.ensures.rest) c.requires.here

pub carry_past-outcome-requires-clause-apply : goal.carry_past-outcome-requires-clause-apply
carry_past-outcome-requires-clause-apply g c =
    let stores = c.args.nodes.now.fleet.stores in
    subst (λ (m : Writing). IfSome m.committed (λ a. CanBeApplied (call_of_plan m) a.wrote stores)) (sym c.relay_note_of-note.ensures.rest)
    (IfSome_then c.args.plan.now.committed c.requires.answer (λ a answer. answer.apply))

pub carry_past-outcome-requires-clause-committed : goal.carry_past-outcome-requires-clause-committed
carry_past-outcome-requires-clause-committed g c =
    subst (λ (m : Writing). IsSome m.committed) (sym c.relay_note_of-note.ensures.rest) (at_relay c.args.plan.now c.requires.stage).answered

pub carry_past-outcome-requires-clause-note : goal.carry_past-outcome-requires-clause-note
carry_past-outcome-requires-clause-note g c =
    subst (λ (m : Writing). IfSome m.committed (λ a. c.relay_note_of-note.result ≡ a.wrote.note)) (sym c.relay_note_of-note.ensures.rest) c.relay_note_of-note.ensures.note

pub returns : goal.returns
returns g c =
    let shown = g.L.Link.shown in
    let s = c.args.config.now in
    let route = way_past c.committer.result c.passed_of.result in
    let p = c.args.plan.now in
    let at = at_relay p c.requires.stage in
    let mid = c.relay_note_of-note.new.plan in
    let is = c.relay_note_of-note.ensures.rest in
    let came_past = c.carry_past-outcome in
    let past = came_past.ensures in
    let outcome = came_past.result in
    let was = c.args.nodes.now in
    let end = came_past.new.nodes in
    let from = shown c.args.link.now in
    let to = shown came_past.new.link in
    let took = c.saturating_sub-hops.result in
    let then = c.take.ensures.next (sym (ap next_of is ∙ c.requires.stage)) in
    record {
      does = λ (keepers : KeeperState).
          let old : World = world was keepers from in
          let new : World = world end keepers to in
          let hops : took ≡ hops_between old.link new.link = omega (arith, c.saturating_sub-hops.ensures, c.carries.ensures, c.carries-carries.ensures) in
          let comes : ComesPast s route mid outcome old new = record {
            carried = past.carried;
            relays = past.relays;
            failed = past.failed;
            reply = past.reply;
            stays = on_err_weaker outcome (ap (λ (n : Nodes). n.fleet)) past.stays;
            rest = record {
              fleet = ap (λ (n : Nodes). n.fleet) past.rest;
              keepers = refl;
              inboxes = ap (λ (n : Nodes). n.mail) past.rest;
              states = ap (λ (n : Nodes). n.topology) past.rest;
            };
          } in
          relays_done s route p mid c.take.new.self old new outcome is c.passed_of.ensures c.committer.ensures comes
          (then ∙ ap (after_stage mid (came.Relay outcome)) hops);
      write = λ tells tables under.
          taken_on tells s tables end.fleet p c.take.new.self (came.Relay outcome) took
          (then ∙ ap (λ m. after_stage m (came.Relay outcome) took) is)
          (same_stores tells s tables was.fleet end.fleet (after_stage p (came.Relay outcome) took) (ap (λ (n : Nodes). n.fleet.stores) past.rest)
          (relayed_still tells s tables was.fleet p under outcome took (subst IsBefore (sym at.ahead) tt)));
      rest = past.rest;
      fleet = past.fleet;
      reached = past.reached;
      goes = past.goes;
      link = past.link;
    }
