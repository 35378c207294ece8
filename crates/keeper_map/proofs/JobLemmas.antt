-- What calls find among the open jobs in memory, and make of them.
use Rattle.std.proofs.Common.{◌≡◌, ◌∙◌, ℕ, ◌<◌, Bool, true, false, cond, refl, sym, ap, subst, arith}
use Rattle.std.proofs.lemmas.Bool.Decides.{nat_tests}
use Rattle.std.specs.BTreeMap.{BTreeMap, IsLowerBound, IsUnchanged, Updates, get, is_at}
use Rattle.std.specs.Map.{lookup}
use Rattle.std.specs.Option.{option_map}
use Rattle.std.specs.Ordering.{is_eq, is_gt, nat_cmp}
use Rattle.std.specs.Prelude.{Option, Some, None, Result, Ok, Err, IsSome, OnErr, OnOk, ◌==◌, nat_le}
use Rattle.tao_keeper.specs.Given.{IsGivenJob}
use Rattle.tao_keeper.specs.Table.{IsLeastJob, IsJobAt}
use Rattle.tao_keeper.specs.declared.jobs.Job.{Job}
use Rattle.keeper_map.specs.Jobs.{IsGivenJobAt, StandAtPositions, listed}
use Rattle.tao_base.proofs.Tests.{same_order}

-- the job that is found at a position
pub found_is : (jobs : BTreeMap ℕ Job) (position : ℕ) (found : Option Job) → StandAtPositions jobs → found ≡ get nat_cmp jobs position
    → IsJobAt (listed jobs) position found
found_is jobs position None stand is = sym (ap (option_map (λ (job : Job). job.edges)) is)
found_is jobs position (Some job) stand is = ((stand position job (sym is)).position_is, sym (ap (option_map (λ (job : Job). job.edges)) is))

-- where none is below a position, none is found there
none_below : (jobs : BTreeMap ℕ Job) (first position : ℕ) (found : Option Job) → IsLowerBound nat_cmp jobs first → position < first
    → found ≡ get nat_cmp jobs position → found ≡ None
none_below jobs first position None least below is = refl
none_below jobs first position (Some job) least below is =
    let not_past : is_gt (nat_cmp first position) ≡ false = least position (subst IsSome is refl) in
    absurd (grind (arith, nat_tests))

-- the first job has the least position
pub first_is : (jobs : BTreeMap ℕ Job) (first : ℕ) (job : Job) → StandAtPositions jobs → get nat_cmp jobs first ≡ Some job → IsLowerBound nat_cmp jobs first
    → IsLeastJob (listed jobs) (Some job)
first_is jobs first job stand is least =
    let at : job.position ≡ first = (stand first job is).position_is in (
      ap (λ p. option_map (λ (j : Job). j.edges) (get nat_cmp jobs p)) at ∙ ap (option_map (λ (j : Job). j.edges)) is,
      λ position below. ap (option_map (λ (j : Job). j.edges))
          (none_below jobs first position (get nat_cmp jobs position) least (omega (arith, below, at)) refl),
    )

-- the jobs with another at a position, or none
abbrev pub Changed : ℕ → Option Job → BTreeMap ℕ Job → BTreeMap ℕ Job → Type 0
Changed position given old new = (q : ℕ) → get nat_cmp new q ≡ cond (is_eq (nat_cmp position q)) given (get nat_cmp old q)

pub still_stand : (position : ℕ) (given : Option Job) (old new : BTreeMap ℕ Job) → Changed position given old new → StandAtPositions old
    → ((job : Job) → given ≡ Some job → IsGivenJobAt position job) → StandAtPositions new
still_stand position given old new step stand is q job h =
    by (q == position) (sym (step q ∙ ap (λ b. cond b given (get nat_cmp old q)) (same_order position q)) ∙ h) refl
  where
    by : (b : Bool) → cond b given (get nat_cmp old q) ≡ Some job → (q == position) ≡ b → IsGivenJobAt q job
    by true found same = let here : position ≡ q = grind (arith, nat_tests) in subst (λ p. IsGivenJobAt p job) here (is job found)
    by false found same = stand q job found

pub still_stand_opened : {T E : Type 0} (result : Result T E) (job : Job) (old new : BTreeMap ℕ Job)
    → OnOk result (Updates nat_cmp old new job.position (Some job))
    → OnErr result (IsUnchanged old new) → StandAtPositions old → IsGivenJob job → StandAtPositions new
still_stand_opened (Ok x) job old new done failed stand given =
    still_stand job.position (Some job) old new done.0 stand
    (λ other h. let same : job ≡ other = cc in subst (IsGivenJobAt job.position) same (record { position_is = refl; given = given }))
still_stand_opened (Err e) job old new done failed stand given = λ q other h. stand q other (ap (λ es. lookup (is_at (nat_cmp q)) es) (sym failed) ∙ h)

-- ---- the jobs up to a position

-- a position that is found at one lies within the same bounds
pub same_within : (position found last : ℕ) → is_at (nat_cmp position) found ≡ true → nat_le found last ≡ nat_le position last
same_within position found last here = let same : position ≡ found = grind (arith, nat_tests) in ap (λ n. nat_le n last) (sym same)

pub still_stand_within : (last : ℕ) (old new : BTreeMap ℕ Job)
    → ((position : ℕ) → get nat_cmp new position ≡ cond (nat_le position last) (get nat_cmp old position) None) → StandAtPositions old → StandAtPositions new
still_stand_within last old new step stand position job h = by (nat_le position last) (sym (step position) ∙ h)
  where
    by : (b : Bool) → cond b (get nat_cmp old position) None ≡ Some job → IsGivenJobAt position job
    by true found = stand position job found
    by false found = absurd (cc)
