-- A write that is refused is replied no Ok reply.
use Rattle.std.proofs.Common.{◌≡◌, ℕ, Option, Some, None, Ok, Err, refl, sym, subst, inl, inr}
use Rattle.std.specs.Prelude.{⊤, IfSome, Result}
use Rattle.core_plans.specs.HeldWrites.{ComesOfWrite, CommitsBy, DoesWriteStage, job_by, job_sender}
use Rattle.core_plans.specs.LedBy.{Rules}
use Rattle.core_plans.specs.Needs.{leaders_of_write}
use Rattle.core_plans.specs.declared.leaders.Leaders.{Leaders}
use Rattle.core_plans.proofs.StageLemmas.{ended_down, merge_refuses_none}
use Rattle.core_model.specs.Jobs.{ShardJob}
use Rattle.core_steps.specs.OtherEnds.{EndsOver, MergesOver, SentJob, sent_job}
use Rattle.core_steps.specs.World.{World}
use Rattle.replies.specs.declared.calls.CallReply.{CallReply}
use Rattle.replies.specs.declared.reply.Reply.{Reply}
use Rattle.replies.specs.declared.reply.Reply.TheVariants.{Called}
use Rattle.shard_tables.specs.declared.writes.Wrote.{Wrote}
use Rattle.write_plan.specs.Plans.{Writing, after_stage, next_of, reply_after, reply_by, reply_of}
use Rattle.write_plan.specs.declared.committed.Committed.{Committed}
use Rattle.write_plan.specs.declared.progress.OtherEnd.{OtherEnd}
use Rattle.write_plan.specs.declared.results.LeftOpen.{LeftOpen}
use Rattle.write_plan.specs.declared.results.LeftOpen.TheVariants.{Refused, Scheduled}
use Rattle.write_plan.specs.declared.results.WriteResult.TheVariants as came
use Rattle.write_plan.specs.declared.stage.WriteStage.{WriteStage}
use Rattle.write_plan.specs.declared.stage.WriteStage.TheVariants.{Apply, Commit, Done, End, Inverse, Relay}

-- what refuses the write is no reply of a call
abbrev pub IsRefusedSo : Option Reply → Type 0
IsRefusedSo refused = IfSome refused (λ reply. (answered : CallReply) → reply ≡ Called answered → ⊥)

module _ (rules : Rules) (p q : Writing) (old new : World) (was : IsRefusedSo p.refused) where
  abbrev Now : Writing → Type 0
  Now x = IsRefusedSo x.refused

  commit_so : (leaders : Option Leaders) → CommitsBy rules leaders p old q new → Now q
  commit_so (Some leaders) (inl commits) = subst Now (sym commits.then) was
  commit_so (Some leaders) (inr refuses) = subst Now (sym refuses.then) (λ answered is. absurd (cc))
  commit_so None finds = subst Now (sym finds.then) (λ answered is. absurd (cc))

  merge_so : (sent : SentJob) (result : Result Wrote LeftOpen) (hops : ℕ) → MergesOver rules.tells rules.settings sent result old new
      → q ≡ after_stage p (came.Inverse result) hops → Now q
  merge_so sent (Ok wrote) hops merges then = subst Now (sym then) was
  merge_so sent (Err (Scheduled why wrote)) hops merges then = subst Now (sym then) was
  merge_so sent (Err (Refused reply)) hops merges then = absurd (merge_refuses_none _ _ sent reply old new merges)

  end_so : (j : ShardJob) (result : Result ⊤ LeftOpen) (hops : ℕ) → EndsOver rules.tells rules.settings j result old new
      → q ≡ after_stage p (came.End result) hops → Now q
  end_so j (Ok done) hops ends then = subst Now (sym then) was
  end_so j (Err (Scheduled why wrote)) hops ends then = subst Now (sym then) was
  end_so j (Err (Refused reply)) hops ends then = absurd ends

  stage_so : (at : WriteStage) → DoesWriteStage rules at p old q new → Now q
  stage_so Commit does = commit_so (leaders_of_write rules.settings old.states p) does
  stage_so Inverse merges = merge_so (sent_job (job_sender p merges.committed) (job_by p merges.job)) merges.result _ merges.merges merges.then
  stage_so End ends = end_so (job_by p ends.job) ends.result 0 ends.ends ends.then
  stage_so Apply (inl applies) = subst Now (sym applies.then) was
  stage_so Apply (inr loses) = subst Now (sym loses.then) (λ answered is. absurd (cc))
  stage_so Relay (inl relays) = subst Now (sym relays.then) was
  stage_so Relay (inr loses) = subst Now (sym loses.then) (λ answered is. absurd (cc))
  stage_so Done does = absurd does

  pub refused_so : ComesOfWrite rules p old q new → Now q
  refused_so (inl does) = stage_so (next_of p) does.does
  refused_so (inr ends) = subst IsRefusedSo (sym (ended_down p q old new ends).refused) (λ answered is. absurd (cc))

-- a write that was carried out, by its Ok reply
pub record IsAnswered (p : Writing) (reply : CallReply) : Type 0 where
  pub committed : Committed
  pub answered : p.committed ≡ Some committed
  pub unrefused : p.refused ≡ None
  pub reply_is : Called reply ≡ reply_after committed p.job p.hops

answered_by : (refused : Option Reply) (committed : Option Committed) (job : OtherEnd) (hops : ℕ) (reply : CallReply) → IsRefusedSo refused
    → reply_by refused committed job hops ≡ Some (Called reply)
    → (c : Committed) × (committed ≡ Some c) × (refused ≡ None) × (Called reply ≡ reply_after c job hops)
answered_by (Some own) committed job hops reply never is = (let same : own ≡ Called reply = cc in absurd (never reply same))
answered_by None None job hops reply never is = absurd (cc)
answered_by None (Some c) job hops reply never is = (let same : reply_after c job hops ≡ Called reply = cc in (c, refl, refl, sym same))

pub answered_write : (p : Writing) (reply : CallReply) → IsRefusedSo p.refused → reply_of p ≡ Some (Called reply) → IsAnswered p reply
answered_write p reply never is =
    let by = answered_by p.refused p.committed p.job p.hops reply never is in
    record { committed = by.0; answered = by.1; unrefused = by.2; reply_is = by.3 }
