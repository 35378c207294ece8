use Rattle.std.proofs.Common.{◌≡◌, ◌∙◌, ap, arith, refl, subst, sym}
use Rattle.std.proofs.lemmas.Option.{IfSome_then}
use Rattle.std.proofs.lemmas.Result.{on_err_weaker}
use Rattle.std.specs.Prelude.{IfErr, IfSome, IsSome, OnOk}
use Rattle.core_model.specs.Serving.{IsFollowerFor}
use Rattle.core_plans.specs.HeldWrites.{call_of_plan}
use Rattle.core_plans.proofs.ComingBack.{ComesBack, applies_done}
use Rattle.core_plans.proofs.HeldWriteStages.{applied_still, at_apply, taken_on}
use Rattle.core_plans.proofs.WritesGoOn.{same_stores}
use Rattle.core_plans.proofs.way_back.apply_stage.Goals as goal
use Rattle.core_steps.specs.Routes.{FailsCarry, hops_between}
use Rattle.core_steps.specs.World.{World, world}
use Rattle.core_steps.specs.Writes.{CanBeApplied, FollowerTakes}
use Rattle.core_steps.specs.declared.nodes.Nodes.{Nodes}
use Rattle.tao_base.specs.Writes.{write_shard}
use Rattle.tao_keeper.specs.KeeperState.{KeeperState}
use Rattle.tao_schema.specs.Schema.{types_of}
use Rattle.write_plan.specs.Plans.{Writing, after_stage, next_of}
use Rattle.write_plan.specs.declared.results.WriteResult.TheVariants as came

pub last_before-requires : goal.last_before-requires
last_before-requires g c = (at_apply c.args.plan.now c.requires.stage).2

pub spare_note_of-note-requires-clause-committed : goal.spare_note_of-note-requires-clause-committed
spare_note_of-note-requires-clause-committed g c = (at_apply c.args.plan.now c.requires.stage).2

pub carry_back-outcome-requires-clause-follower : goal.carry_back-outcome-requires-clause-follower
carry_back-outcome-requires-clause-follower g c =
    subst (λ (m : Writing). IsFollowerFor c.args.config.now (write_shard m.write) m.follower) (sym c.spare_note_of-note.ensures.rest) c.requires.follower

pub carry_back-outcome-requires-clause-apply : goal.carry_back-outcome-requires-clause-apply
carry_back-outcome-requires-clause-apply g c =
    let stores = c.args.nodes.now.fleet.stores in
    subst (λ (m : Writing). IfSome m.committed (λ a. CanBeApplied (call_of_plan m) a.wrote stores)) (sym c.spare_note_of-note.ensures.rest)
    (IfSome_then c.args.plan.now.committed c.requires.answer (λ a answer. answer.apply))

pub carry_back-outcome-requires-clause-route : goal.carry_back-outcome-requires-clause-route
carry_back-outcome-requires-clause-route g c = c.follower.ensures ∙ ap (λ (m : Writing). m.follower) (sym c.spare_note_of-note.ensures.rest)

pub carry_back-outcome-requires-clause-committed : goal.carry_back-outcome-requires-clause-committed
carry_back-outcome-requires-clause-committed g c =
    subst (λ (m : Writing). IsSome m.committed) (sym c.spare_note_of-note.ensures.rest) (at_apply c.args.plan.now c.requires.stage).2

pub carry_back-outcome-requires-clause-note : goal.carry_back-outcome-requires-clause-note
carry_back-outcome-requires-clause-note g c =
    subst (λ (m : Writing). IfSome m.committed (λ a. c.spare_note_of-note.result ≡ a.wrote.note)) (sym c.spare_note_of-note.ensures.rest) c.spare_note_of-note.ensures.note

pub returns : goal.returns
returns g c =
    let shown = g.L.Link.shown in
    let s = c.args.config.now in
    let last = c.last_before.result in
    let p = c.args.plan.now in
    let mid = c.spare_note_of-note.new.plan in
    let is = c.spare_note_of-note.ensures.rest in
    let came_back = c.carry_back-outcome in
    let back = came_back.ensures in
    let outcome = came_back.result in
    let was = c.args.nodes.now in
    let end = came_back.new.nodes in
    let from = shown c.args.link.now in
    let to = shown came_back.new.link in
    let took = c.saturating_sub-hops.result in
    let follower : c.follower.result ≡ mid.follower = c.follower.ensures ∙ ap (λ (m : Writing). m.follower) (sym is) in
    let then = c.take.ensures.next (sym (ap next_of is ∙ c.requires.stage)) in
    record {
      does = λ (keepers : KeeperState).
          let old : World = world was keepers from in
          let new : World = world end keepers to in
          let hops : took ≡ hops_between old.link new.link = omega (arith, c.saturating_sub-hops.ensures, c.carries.ensures, c.carries-carries.ensures) in
          let comes : ComesBack s last mid outcome old new = record {
            carried = back.carried;
            takes = subst (λ f. OnOk outcome (IfSome mid.committed (λ a. FollowerTakes (types_of s.schema) (record { follower = f; leader = last })
                (write_shard mid.write) a.wrote.entry was.fleet end.fleet))) follower back.takes;
            failed = subst (λ f. IfErr outcome (λ _. FailsCarry last f from to)) follower back.failed;
            reply = back.reply;
            stays = on_err_weaker outcome (ap (λ (n : Nodes). n.fleet)) back.stays;
            rest = record {
              fleet = ap (λ (n : Nodes). n.fleet) back.rest;
              keepers = refl;
              inboxes = ap (λ (n : Nodes). n.mail) back.rest;
              states = ap (λ (n : Nodes). n.topology) back.rest;
            };
          } in
          applies_done s last p mid c.take.new.self old new outcome is (at_apply p c.requires.stage).2 c.last_before.ensures comes
          (then ∙ ap (after_stage mid (came.Apply outcome)) hops);
      write = λ tells tables under.
          taken_on tells s tables end.fleet p c.take.new.self (came.Apply outcome) took
          (then ∙ ap (λ m. after_stage m (came.Apply outcome) took) is)
          (same_stores tells s tables was.fleet end.fleet (after_stage p (came.Apply outcome) took) (ap (λ (n : Nodes). n.fleet.stores) back.rest)
          (applied_still tells s tables was.fleet p under outcome took));
      rest = back.rest;
      fleet = back.fleet;
      reached = back.reached;
      goes = back.goes;
      link = back.link;
    }
