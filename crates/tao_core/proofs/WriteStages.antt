-- What the stages of a held write leave of its plan, and which stages are left.
use Rattle.std.proofs.Common.{◌≡◌, ℕ, Bool, Option, Some, None, Result, Ok, Err, ap, refl, subst, sym, ◌∙◌}
use Rattle.std.specs.Prelude.{⊤, IsSome, option_and_then, unwrap_or}
use Rattle.core_model.specs.Jobs.{ShardJob}
use Rattle.core_plans.specs.Held.{next_stage}
use Rattle.core_plans.specs.HeldWrites.{EndsHeld, IsBefore, MergesHeld, job_by, job_sender}
use Rattle.core_plans.specs.declared.held.HeldPlan.TheVariants.{Write}
use Rattle.core_plans.specs.LedBy.{Rules}
use Rattle.core_plans.proofs.StageLemmas.{merge_refuses_none}
use Rattle.core_steps.specs.OtherEnds.{EndsOver, MergesOver, SentJob, sent_job}
use Rattle.core_steps.specs.World.{World}
use Rattle.hop_count.specs.Hops.{hops_after}
use Rattle.node_name.specs.declared.NodeName.{NodeName}
use Rattle.replies.specs.declared.reply.Reply.{Reply}
use Rattle.shard_tables.specs.declared.writes.Wrote.{Wrote}
use Rattle.tao_keeper.specs.declared.jobs.Job.{Job}
use Rattle.topology.specs.Config.{Settings}
use Rattle.write_plan.specs.Plans.{Writing, after_stage, back_stage, job_stage, next_of, stage_from as stage_by, written_there}
use Rattle.write_plan.specs.Stages.{stage_said}
use Rattle.write_plan.specs.declared.committed.Committed.{Committed}
use Rattle.write_plan.specs.declared.progress.OtherEnd.{OtherEnd}
use Rattle.write_plan.specs.declared.progress.OtherEnd.TheVariants.{Due, Merged, Ended, Open}
use Rattle.write_plan.specs.declared.progress.WayBack.{WayBack}
use Rattle.write_plan.specs.declared.progress.WayBack.TheVariants.{Ahead, Relayed, Applied}
use Rattle.write_plan.specs.declared.results.LeftOpen.{LeftOpen}
use Rattle.write_plan.specs.declared.results.LeftOpen.TheVariants.{Scheduled, Refused}
use Rattle.write_plan.specs.declared.results.WriteResult.TheVariants as came
use Rattle.write_plan.specs.declared.stage.WriteStage.TheVariants.{Apply}

-- ---- the stages of the other end

-- a stage of the other end leaves who asked, what the commit answered, and how far the way back has come
pub record KeepsAnswer (p q : Writing) : Type 0 where
  pub origin : q.origin ≡ p.origin
  pub refused : q.refused ≡ p.refused
  pub committed : q.committed ≡ p.committed
  pub back : q.back ≡ p.back

module _ (tells : Bool) (s : Settings) (old new : World) (p q : Writing) (hops : ℕ) where
  -- it changes how far the job has come, what was written at the other end, and the carries
  keeps_answer : (job : OtherEnd) (other : Option Wrote) (count : ℕ) → q ≡ record p { job = job; other = other; hops = count } → KeepsAnswer p q
  keeps_answer job other count is = record {
    origin = ap (λ (x : Writing). x.origin) is;
    refused = ap (λ (x : Writing). x.refused) is;
    committed = ap (λ (x : Writing). x.committed) is;
    back = ap (λ (x : Writing). x.back) is;
  }

  merged_keeps : (sent : SentJob) (result : Result Wrote LeftOpen) → MergesOver tells s sent result old new → q ≡ after_stage p (came.Inverse result) hops
      → KeepsAnswer p q
  merged_keeps sent (Ok wrote) merges is = keeps_answer Merged (written_there p.other (Some wrote)) (hops_after p.hops hops) is
  merged_keeps sent (Err (Scheduled why wrote)) merges is = keeps_answer (Open why) (written_there p.other wrote) (hops_after p.hops hops) is
  merged_keeps sent (Err (Refused reply)) merges is = absurd (merge_refuses_none tells s sent reply old new merges)

  ended_keeps : (j : ShardJob) (result : Result ⊤ LeftOpen) → EndsOver tells s j result old new → q ≡ after_stage p (came.End result) hops → KeepsAnswer p q
  ended_keeps j (Ok done) ends is = keeps_answer Ended p.other (hops_after p.hops hops) is
  ended_keeps j (Err (Scheduled why wrote)) ends is = keeps_answer (Open why) (written_there p.other wrote) (hops_after p.hops hops) is
  ended_keeps j (Err (Refused reply)) ends is = absurd ends

-- what a commit answered whose job it is
answered : (committed : Option Committed) (job : Job) → option_and_then (λ c. c.wrote.job) committed ≡ Some job
    → (c : Committed) × (committed ≡ Some c)
answered None job is = absurd (cc)
answered (Some c) job is = (c, refl)

-- so does each of the two stages of a held write, whose commit was answered
pub record KeepsOn (p q : Writing) : Type 0 where
  pub keeps : KeepsAnswer p q
  pub committed : Committed
  pub answered : q.committed ≡ Some committed

pub inverse_keeps : (rules : Rules) (p q : Writing) (old new : World) → MergesHeld rules p old q new → KeepsOn p q
inverse_keeps rules p q old new merges =
    let sent = sent_job (job_sender p merges.committed) (job_by p merges.job) in
    let keeps = merged_keeps rules.tells rules.settings old new p q _ sent merges.result merges.merges merges.then in
    record { keeps = keeps; committed = merges.committed; answered = keeps.committed ∙ merges.answer }

pub end_keeps : (tells : Bool) (s : Settings) (p q : Writing) (old new : World) → EndsHeld tells s p old q new → KeepsOn p q
end_keeps tells s p q old new ends =
    let keeps = ended_keeps tells s old new p q 0 (job_by p ends.job) ends.result ends.ends ends.then in
    let one = answered p.committed ends.job ends.answered in
    record { keeps = keeps; committed = one.0; answered = keeps.committed ∙ one.1 }

-- ---- the stages that are left

-- a plan with a stage left wasn't refused
pub unrefused : (refused : Option Reply) (committed : Option Committed) (job : OtherEnd) (back : WayBack)
    → IsSome (stage_said (stage_by refused committed job back)) → refused ≡ None
unrefused None committed job back some = refl
unrefused (Some reply) committed job back some = absurd (cc)

back_left : (passed : Option NodeName) (back : WayBack) → IsBefore back → IsSome (stage_said (back_stage passed back))
back_left None Ahead before = refl
back_left (Some leader) Ahead before = refl
back_left None Relayed before = refl
back_left (Some leader) Relayed before = refl
back_left passed Applied before = absurd before

job_left : (o : Option Job) (passed : Option NodeName) (job : OtherEnd) (back : WayBack) → IsBefore back
    → IsSome (stage_said (unwrap_or (option_and_then (λ _. job_stage job) o) (back_stage passed back)))
job_left None passed job back before = back_left passed back before
job_left (Some j) passed Due back before = refl
job_left (Some j) passed Merged back before = refl
job_left (Some j) passed Ended back before = back_left passed back before
job_left (Some j) passed (Open why) back before = back_left passed back before

-- one whose commit was answered has a stage left, until its way back is done
pub stage_left : (q : Writing) (c : Committed) → q.refused ≡ None → q.committed ≡ Some c → IsBefore q.back → IsSome (next_stage (Write q))
stage_left q c none is before =
    subst (λ r. IsSome (stage_said (stage_by r q.committed q.job q.back))) (sym none)
    (subst (λ o. IsSome (stage_said (stage_by None o q.job q.back))) (sym is) (job_left c.wrote.job c.passed q.job q.back before))

back_over : (passed : Option NodeName) → stage_said (back_stage passed Applied) ≡ None
back_over None = refl
back_over (Some leader) = refl

job_over : (o : Option Job) (passed : Option NodeName) (job : OtherEnd) (back : WayBack)
    → unwrap_or (option_and_then (λ _. job_stage job) o) (back_stage passed back) ≡ Apply
    → stage_said (unwrap_or (option_and_then (λ _. job_stage job) o) (back_stage passed Applied)) ≡ None
job_over None passed job back at = back_over passed
job_over (Some j) passed Due back at = absurd (cc)
job_over (Some j) passed Merged back at = absurd (cc)
job_over (Some j) passed Ended back at = back_over passed
job_over (Some j) passed (Open why) back at = back_over passed

over_by : (refused : Option Reply) (committed : Option Committed) (job : OtherEnd) (back : WayBack) → stage_by refused committed job back ≡ Apply
    → stage_said (stage_by refused committed job Applied) ≡ None
over_by (Some reply) committed job back at = refl
over_by None None job back at = absurd (cc)
over_by None (Some c) job back at = job_over c.wrote.job c.passed job back at

-- and then none
pub applied_over : (p q : Writing) (hops : ℕ) → next_of p ≡ Apply → q ≡ after_stage p (came.Apply (Ok tt)) hops → next_stage (Write q) ≡ None
applied_over p q hops at is = subst (λ x. next_stage (Write x) ≡ None) (sym is) (over_by p.refused p.committed p.job p.back at)
