-- A log that an entry may have been added to.
use Rattle.std.proofs.Common.{◌≡◌, ℕ, ◌+◌, ◌<◌, ◌≤◌, Bool, true, false, cond, List, [], ◌∷◌, ◌++◌, length, length-append, inl, inr, refl, ap, ◌∙◌}
use Rattle.std.proofs.Common.{sym, subst, arith}
use Rattle.std.proofs.lemmas.Bool.{cases_Bool}
use Rattle.std.proofs.lemmas.Bool.Decides.{nat_tests}
use Rattle.std.proofs.lemmas.List.Elements.{All-push}
use Rattle.std.specs.Prelude.{Option, Some, None, Result, Ok, Err, All, IfSome, is_err, is_ok, is_some, ◌==◌}
use Rattle.tao_base.specs.declared.entry.Entry.{Entry}
use Rattle.graph_model.proofs.Sound.{sound_grows}
use Rattle.graph_model.specs.Soundness.{CanFollow, EdgeUpdate, IsSound}
use Rattle.tao_keeper.specs.Table.{Jobs, with_job, with_new_job, with_opened}
use Rattle.tao_keeper.specs.declared.jobs.Job.{Job}

-- a fact that the longer log has too
either : (P : List Entry → Type 0) (added : Bool) (log : List Entry) (entry : Entry) → P log → P (log ++ entry ∷ []) → P (cond added (log ++ entry ∷ []) log)
either P true log entry before after = after
either P false log entry before after = before

pub still_sound : (added : Bool) (log now : List Entry) (entry : Entry) → now ≡ cond added (log ++ entry ∷ []) log → IsSound log → CanFollow log entry
    → IsSound now
still_sound added log now entry is sound follows =
    subst IsSound (sym is) (either IsSound added log entry sound ((sound_grows log entry).grows sound follows))

pub still_all : (P : Entry → Type 0) (added : Bool) (log now : List Entry) (entry : Entry) → now ≡ cond added (log ++ entry ∷ []) log → All P log → P entry
    → All P now
still_all P added log now entry is all here = subst (All P) (sym is) (either (All P) added log entry all (All-push P log entry all here))

-- a job of the entry that comes next is past all others
pub last_of_all : (log : List Entry) (entry : Entry) (jobs : Jobs) (job : Option Job) → CanFollow log entry
    → ((position : ℕ) → length log < position → jobs position ≡ None)
    → IfSome job (λ j. j.position ≡ entry.position) → IfSome job (λ j. (position : ℕ) → j.position ≤ position → jobs position ≡ None)
last_of_all log entry jobs None follows of_entries is = tt
last_of_all log entry jobs (Some job) follows of_entries is = λ position past.
    let at : entry.position ≡ length log + 1 = follows.position_is in
    of_entries position (omega (arith, at, is, past))

-- the open jobs stay those of entries
pub still_of_entries : (added : Bool) (log now : List Entry) (entry : Entry) (jobs after : Jobs) (job : Option Job) → now ≡ cond added (log ++ entry ∷ []) log
    → after ≡ cond added (with_new_job jobs job) jobs → CanFollow log entry → ((position : ℕ) → length log < position → jobs position ≡ None)
    → IfSome job (λ j. j.position ≡ entry.position) → (position : ℕ) → length now < position → after position ≡ None
still_of_entries false log now entry jobs after job log_is jobs_is follows of_entries is position past =
    ap (λ j. j position) jobs_is ∙ of_entries position (subst (λ l. length l < position) log_is past)
still_of_entries true log now entry jobs after job log_is jobs_is follows of_entries is position past =
    ap (λ j. j position) jobs_is ∙ opens job is
  where
    opens : (given : Option Job) → IfSome given (λ j. j.position ≡ entry.position) → with_new_job jobs given position ≡ None
    opens None same = of_entries position (let longer : length now ≡ length log + 1 = ap length log_is ∙ length-append log (entry ∷ []) in
        omega (arith, longer, past))
    opens (Some given) same =
        let longer : length now ≡ length log + 1 = ap length log_is ∙ length-append log (entry ∷ []) in
        let at : entry.position ≡ length log + 1 = follows.position_is in
        let apart : (position == given.position) ≡ false = grind (arith, nat_tests) in
        rw apart (of_entries position (omega (arith, longer, past)))

-- a job that is ended leaves none where there was none
pub ended_of_entries : (jobs : Jobs) (at position : ℕ) → jobs position ≡ None → with_job jobs at None position ≡ None
ended_of_entries jobs at position none = elim (cases_Bool (position == at)) [ inl h ↦ rw h refl | inr h ↦ rw h none ]

-- a job that is opened where none is
pub opened_first : (jobs : Jobs) (job : Job) → jobs job.position ≡ None → with_opened jobs job ≡ with_job jobs job.position (Some job.edges)
opened_first jobs job none = rw none refl

-- a job of an entry of the log that may have been opened leaves the open jobs those of entries
pub opened_of_entries : (done : Bool) (log : List Entry) (jobs after : Jobs) (job : Job) → after ≡ cond done (with_opened jobs job) jobs
    → job.position ≤ length log
    → ((position : ℕ) → length log < position → jobs position ≡ None) → (position : ℕ) → length log < position → after position ≡ None
opened_of_entries false log jobs after job is within of_entries position past = ap (λ j. j position) is ∙ of_entries position past
opened_of_entries true log jobs after job is within of_entries position past = ap (λ j. j position) is ∙ opens (is_some (jobs job.position))
  where
    opens : (here : Bool) → cond here jobs (with_job jobs job.position (Some job.edges)) position ≡ None
    opens true = of_entries position past
    opens false = let apart : (position == job.position) ≡ false = grind (arith, nat_tests) in rw apart (of_entries position past)

-- a job that is opened and ended
pub closed_again : (jobs : Jobs) (at : ℕ) (given : Option (List EdgeUpdate)) → jobs at ≡ None → (position : ℕ)
    → with_job (with_job jobs at given) at None position ≡ jobs position
closed_again jobs at given none position = elim (cases_Bool (position == at)) [
  | inl h ↦ (let same : position ≡ at = grind (arith, nat_tests) in rw h (sym (ap jobs same ∙ none)))
  | inr h ↦ rw h refl
]

-- what an error leaves
pub not_opened : {T E : Type 0} (result : Result T E) (jobs now opened : Jobs) → is_err result ≡ true → now ≡ jobs → now ≡ cond (is_ok result) opened jobs
not_opened (Ok x) jobs now opened h is = absurd (cc)
not_opened (Err e) jobs now opened h is = is
