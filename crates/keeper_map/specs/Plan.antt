-- Which calls of the keeper in memory fail.
use Rattle.std.specs.Prelude.{◌≡◌, ◌≤◌, ◌⊎◌, ℕ, Bool, true, Option, IsFalse, IsSomeAnd, Result, Ok, Err}
use Rattle.counts.specs.Count.{after_one}
use Rattle.counts.specs.Planned.{FailsNext, Planned, after_next}
use Rattle.tao_keeper.specs.declared.keeper.KeepFail.{KeepFail}
use Rattle.tao_keeper.specs.declared.keeper.KeepFail.TheVariants.{Failed, OutOfMemory}

-- the numbers of the calls and of the commits, of which the listed fail, from which call on every one does, whether all that was taken away,
-- and how many faults there were
pub record CallPlan : Type 0 where
  pub calls : Planned
  pub commits : Planned
  pub from : Option ℕ
  pub is_mended : Bool
  pub faults : ℕ

-- the plan after one more call
abbrev pub with_call : CallPlan → CallPlan
with_call plan = record plan { calls = after_next plan.calls }

-- the plan after one more commit, which counts as a call too
abbrev pub with_commit : CallPlan → CallPlan
with_commit plan = record plan { calls = after_next plan.calls; commits = after_next plan.commits }

-- the plan after one more fault
abbrev pub with_fault : CallPlan → CallPlan
with_fault plan = record plan { faults = after_one plan.faults }

-- the next call is one of those from which on every one fails
abbrev pub FailsOn : CallPlan → Type 0
FailsOn plan = IsSomeAnd plan.from (λ first. first ≤ after_one plan.calls.count)

-- the next call is to fail: it is listed, or every call fails by now, and that wasn't taken away
abbrev pub CallFails : CallPlan → Type 0
CallFails plan = IsFalse plan.is_mended × (FailsNext plan.calls ⊎ FailsOn plan)

-- the next commit is to fail by its number among the commits, and that wasn't taken away
abbrev pub CommitIsListed : CallPlan → Type 0
CommitIsListed plan = IsFalse plan.is_mended × FailsNext plan.commits

-- the plan without the failures that were to come: what was counted stays
abbrev pub mended : CallPlan → CallPlan
mended plan = record plan { is_mended = true }

-- a call that was to fail did, and counted its fault; any other didn't, and counted none
abbrev pub EndsAsPlanned : {T : Type 0} → Type 0 → CallPlan → CallPlan → Result T KeepFail → Type 0
EndsAsPlanned fails counted now (Err Failed) = fails × (now ≡ with_fault counted)
EndsAsPlanned fails counted now (Err OutOfMemory) = ¬ fails × (now ≡ counted)
EndsAsPlanned fails counted now (Ok answer) = ¬ fails × (now ≡ counted)

-- a call fails where its number among the calls is listed, or every call from there on is to fail
abbrev pub CallsAsPlanned : {T : Type 0} → CallPlan → CallPlan → Result T KeepFail → Type 0
CallsAsPlanned old new result = EndsAsPlanned (CallFails old) (with_call old) new result

-- a commit fails there too, and where its number among the commits is listed
abbrev pub CommitsAsPlanned : {T : Type 0} → CallPlan → CallPlan → Result T KeepFail → Type 0
CommitsAsPlanned old new result = EndsAsPlanned (CallFails old ⊎ CommitIsListed old) (with_commit old) new result
