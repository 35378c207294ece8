use Rattle.std.proofs.Common.{◌≡◌, ◌<◌, ◌∙◌, Some, ap, inl, inr, subst, sym}
use Rattle.std.proofs.lemmas.Result.{err_from_is_err_and}
use Rattle.std.specs.Option.{option_map}
use Rattle.std.specs.Prelude.{IfSome}
use Rattle.core_model.specs.Jobs.{CanBeMerged, job_on}
use Rattle.core_model.specs.Pens.{pens_of}
use Rattle.core_steps.proofs.PostsLemmas.{posts_carried}
use Rattle.core_steps.specs.Posting.{PostsOn}
use Rattle.core_steps.specs.World.{world}
use Rattle.core_model.specs.Asked.{client_call}
use Rattle.core_steps.specs.Writes.{CanBeApplied, IsCommitted, RefusesCommit, sent_write}
use Rattle.core_steps.specs.declared.nodes.Nodes.{Nodes}
use Rattle.shard_log.specs.View.{View, as_note}
use Rattle.tao_base.specs.Writes.{write_shard}
use Rattle.tao_schema.specs.Schema.{types_of}
use Rattle.topology.specs.Config.{Settings}
use Rattle.write_plan.specs.Committing.{has_inverse, kind_said}
use Rattle.core_plans.specs.HeldWrites.{RefusesOnWay, come_past, sent_by}
use Rattle.core_plans.specs.LedBy.{led_by, rules_of}
use Rattle.core_plans.proofs.CommitLemmas.{IsOfWriting, answers, one_log, posts_there, ready_there, renewed_so, sent_there}
use Rattle.core_plans.proofs.committing.commit_there.Goals as goal

pub commit_over-requires-clause-ready : goal.commit_over-requires-clause-ready
commit_over-requires-clause-ready g c =
    let shown = g.L.Link.shown in
    ready_there g.K.Keeper.TELLS c.args.config.now c.args.nodes.now c.pass_there.new.nodes (g.K.Keeper.state c.args.keepers.now)
    (shown c.args.link.now) (shown c.pass_there.new.link) c.pass_there.ensures.same c.requires.ready

pub renewed-requires-clause-here : goal.renewed-requires-clause-here
renewed-requires-clause-here g c =
    subst (λ n. n < c.args.config.now.shards) (sym (c.shard.ensures ∙ ap write_shard c.write-write.ensures)) c.requires.write.follower.here

pub renewed-requires-clause-one_log : goal.renewed-requires-clause-one_log
renewed-requires-clause-one_log g c =
    let shard = write_shard c.args.plan.now.write in
    let was = c.args.nodes.now.fleet.stores in
    let now = c.commit_over.new.self.fleet.stores in
    let note = c.in_ok-note.note in
    subst (λ n. IfSome note (λ (v : View). (pens_of now n).log ≡ v.log)) (sym (c.shard.ensures ∙ ap write_shard c.write-write.ensures))
    (one_log c.args.leaders.passed note (pens_of was shard) (pens_of now shard) c.in_ok-note.ensures.note
    ((c.commit_over.ensures.on.goes.rise shard).log_is ∙ ap (λ (n : Nodes). (pens_of n.fleet.stores shard).log) c.pass_there.ensures.same))

pub returns-in_err-note-clause-comes : goal.returns-in_err-note-clause-comes
returns-in_err-note-clause-comes g c =
    let keepers = g.K.Keeper.state c.args.keepers.now in
    let old = world c.args.nodes.now keepers (g.L.Link.shown c.args.link.now) in
    let new = world c.pass_there.new.nodes keepers (g.L.Link.shown c.pass_there.new.link) in
    let p = err_from_is_err_and c.from_residual.result c.from_residual.ensures.1 in
    let same : p.0 ≡ c.in_err-note.field-0.0 = cc (p.2) in
    rw p.1 (inl (subst (λ r. RefusesOnWay g.K.Keeper.TELLS c.args.leaders.passed c.args.plan.now r old new) (sym same)
    (c.in_err-note.ensures.refused g.K.Keeper.TELLS keepers)))

pub returns-in_err-note-clause-on : goal.returns-in_err-note-clause-on
returns-in_err-note-clause-on g c =
    let tells = g.K.Keeper.TELLS in
    let s = c.args.config.now in
    let keepers = g.K.Keeper.state c.args.keepers.now in
    let from = g.L.Link.shown c.args.link.now in
    let to = g.L.Link.shown c.pass_there.new.link in
    subst (λ (n : Nodes). PostsOn tells s (world c.args.nodes.now keepers from) (world n keepers to)) (sym c.pass_there.ensures.same)
    (posts_carried tells s c.args.nodes.now keepers from to c.requires.ready c.pass_there.ensures.later)

pub returns-in-Ok-clause-comes : goal.returns-in-Ok-clause-comes
returns-in-Ok-clause-comes g c =
    let tells = g.K.Keeper.TELLS in
    let state = g.K.Keeper.state in
    let shown = g.L.Link.shown in
    let s = c.args.config.now in
    let leaders = c.args.leaders in
    let p = c.args.plan.now in
    let led = led_by (rules_of tells s) leaders in
    let nodes = c.args.nodes.now in
    let mid = c.pass_there.new.nodes in
    let keepers = state c.args.keepers.now in
    let from = shown c.args.link.now in
    let past = shown c.pass_there.new.link in
    let over = c.in-Ok.ensures in
    let wrote = c.in-Ok.wrote in
    let later = state c.commit_over.new.keepers in
    let to = shown c.commit_over.new.link in
    let end = c.commit_over.new.self in
    let fin = c.renewed.new.nodes in
    let origin = c.origin-origin.result in
    let write = c.write-write.result.now in
    let shard = write_shard p.write in
    let was = nodes.fleet.stores in
    let now = end.fleet.stores in
    let made = c.of in
    let of : IsOfWriting p c.follower.result origin write =
    record { follower_is = c.follower.ensures; origin_is = c.origin-origin.ensures; write_is = c.write-write.ensures } in
    let sent = sent_there led p c.follower.result origin write of nodes mid keepers from past c.pass_there.ensures.same c.in_ok-note.ensures.carried in
    let seen : as_note (pens_of now c.shard.result) ≡ wrote.note =
    ap (λ n. as_note (pens_of now n)) c.shard.ensures ∙ sym over.all in
    answers tells s leaders p (world nodes keepers from) (world fin later to) c.requires.lead wrote made.result c.renewed.result c.in-Ok.spare
    (record {
      wrote_is = made.ensures.wrote;
      leader_is = made.ensures.leader;
      passed_is = made.ensures.passed;
      kind_is = subst (λ w. kind_said w wrote.entry ≡ Some made.result.kind) c.write-write.ensures made.ensures.kind;
      paired_is = made.ensures.paired ∙ ap (λ (n : Settings). has_inverse (types_of n.schema) write) c.config.view_is
          ∙ ap (has_inverse (types_of s.schema)) c.write-write.ensures;
      relay_is = c.renewed.ensures.note
          ∙ renewed_so leaders.passed c.in_ok-note.note (as_note (pens_of was shard)) (as_note (pens_of now c.shard.result)) c.in_ok-note.ensures.note
          ∙ ap (λ v. option_map (λ _. v) leaders.passed) seen;
      spare_is = over.spare;
    })
    (subst (λ (n : Nodes). IsCommitted tells s (sent_by led p) wrote (come_past led (world nodes keepers from)) (world n later to))
    (sym c.renewed.ensures.same)
    (sent (λ at x. IsCommitted tells s at wrote x (world end later to))
    (subst (λ f. IsCommitted tells s (sent_write (record { follower = f; leader = leaders.leader }) (client_call origin write)) wrote
    (world mid keepers past) (world end later to)) c.unwrap_or.ensures over.committed)))
    (subst (λ (n : Nodes). CanBeApplied (sent_by led p).call wrote n.fleet.stores) (sym c.renewed.ensures.same)
    (sent (λ at x. CanBeApplied at.call wrote now) over.apply))
    (sent (λ at x. IfSome wrote.job (λ j. CanBeMerged tells s later.told (job_on (write_shard at.call.write) j))) over.job)

pub returns-in-Ok-clause-on : goal.returns-in-Ok-clause-on
returns-in-Ok-clause-on g c =
    let tells = g.K.Keeper.TELLS in
    let state = g.K.Keeper.state in
    let shown = g.L.Link.shown in
    let s = c.args.config.now in
    let nodes = c.args.nodes.now in
    let keepers = state c.args.keepers.now in
    let from = shown c.args.link.now in
    let past = shown c.pass_there.new.link in
    let later = state c.commit_over.new.keepers in
    let to = shown c.commit_over.new.link in
    subst (λ (n : Nodes). PostsOn tells s (world nodes keepers from) (world n later to)) (sym c.renewed.ensures.same)
    (posts_there tells s nodes c.pass_there.new.nodes keepers from past (world c.commit_over.new.self later to) c.pass_there.ensures.same
    c.requires.ready c.pass_there.ensures.later c.commit_over.ensures.on)

pub returns-in-Err-clause-comes : goal.returns-in-Err-clause-comes
returns-in-Err-clause-comes g c =
    let tells = g.K.Keeper.TELLS in
    let state = g.K.Keeper.state in
    let shown = g.L.Link.shown in
    let s = c.args.config.now in
    let leaders = c.args.leaders in
    let p = c.args.plan.now in
    let led = led_by (rules_of tells s) leaders in
    let nodes = c.args.nodes.now in
    let mid = c.pass_there.new.nodes in
    let keepers = state c.args.keepers.now in
    let from = shown c.args.link.now in
    let past = shown c.pass_there.new.link in
    let refusal = c.in-Err.refusal in
    let new = world c.commit_over.new.self (state c.commit_over.new.keepers) (shown c.commit_over.new.link) in
    let origin = c.origin-origin.result in
    let write = c.write-write.result.now in
    let of : IsOfWriting p c.follower.result origin write =
    record { follower_is = c.follower.ensures; origin_is = c.origin-origin.ensures; write_is = c.write-write.ensures } in
    inr (sent_there led p c.follower.result origin write of nodes mid keepers from past c.pass_there.ensures.same c.in_ok-note.ensures.carried
    (λ at x. RefusesCommit tells s at refusal x new)
    (subst (λ f. RefusesCommit tells s (sent_write (record { follower = f; leader = leaders.leader }) (client_call origin write)) refusal
    (world mid keepers past) new) c.unwrap_or.ensures c.in-Err.ensures.refused))

pub returns-in-Err-clause-on : goal.returns-in-Err-clause-on
returns-in-Err-clause-on g c =
    let tells = g.K.Keeper.TELLS in
    let state = g.K.Keeper.state in
    let shown = g.L.Link.shown in
    let s = c.args.config.now in
    posts_there tells s c.args.nodes.now c.pass_there.new.nodes (state c.args.keepers.now) (shown c.args.link.now) (shown c.pass_there.new.link)
    (world c.commit_over.new.self (state c.commit_over.new.keepers) (shown c.commit_over.new.link)) c.pass_there.ensures.same
    c.requires.ready c.pass_there.ensures.later c.commit_over.ensures.on
