-- The end of a job whose records are all there keeps the stores sound and covered; stores that are empty are so.
use Rattle.std.proofs.Common.{◌≡◌, ◌≢◌, ◌⊎◌, ℕ, List, inl, inr, sym, ap, ◌∙◌, subst}
use Rattle.std.proofs.lemmas.Bool.{cases_eq}
use Rattle.std.proofs.lemmas.Option.{same_Some}
use Rattle.std.specs.Prelude.{All, Some, None}
use Rattle.tao_base.specs.EdgeTypes.{EdgeTypes}
use Rattle.tao_base.specs.Ids.{shard_of}
use Rattle.tao_base.specs.declared.entry.Entry.{Entry}
use Rattle.graph_model.proofs.Members.{All-from_in, All-in}
use Rattle.write_model.proofs.SameLogs.{same_logs_keep}
use Rattle.write_model.specs.CoverLaws.{EndsKeep}
use Rattle.graph_model.specs.Records.{HasStamp}
use Rattle.write_model.specs.Merges.{AreThere, HasJob, JobSource, OwesOpenly, Stores, job_of, log_of}
use Rattle.graph_model.specs.Log.{entry_at}
use Rattle.graph_model.specs.Soundness.{EdgeUpdate}
use Rattle.write_model.specs.Steps.{AreSoundAndCovered, EndsJob}

-- a job of which all is at the shard that its records lie on
pub job_there : (types : EdgeTypes) (log : ℕ → List Entry) (owed : JobSource) → All (λ u. shard_of u.0 ≡ owed.other) (job_of types owed.entry)
    → HasJob types (log owed.other) owed.entry → AreThere log (job_of types owed.entry)
job_there types log owed there done = All-from_in (λ u. HasStamp (log (shard_of u.0)) u) (job_of types owed.entry) (λ u k.
    subst (λ s. HasStamp (log s) u) (sym (All-in (λ w. shard_of w.0 ≡ owed.other) (job_of types owed.entry) u there k))
    (All-in (HasStamp (log owed.other)) (job_of types owed.entry) u done k))

module _ (types : EdgeTypes) (old new : Stores) (owed : JobSource) (was : AreSoundAndCovered types old) (h : EndsJob types old new owed) where
  abbrev position : ℕ
  position = owed.entry.position

  -- the job that is ended, or another one
  pub cases_job : (s p : ℕ) → ((s ≡ owed.shard) × (p ≡ position)) ⊎ (s ≡ owed.shard → p ≢ position)
  cases_job s p = elim (cases_eq s owed.shard) [
    | inl same ↦ elim (cases_eq p position) [ inl at ↦ inl (same, at) | inr apart ↦ inr (λ q. apart) ]
    | inr apart ↦ inr (λ q. absurd (apart q))
  ]

  back : (s p : ℕ) (us : List EdgeUpdate) → new.job s p ≡ Some us → old.job s p ≡ Some us
  back s p us j = elim (cases_job s p) [
    | inl at ↦ (let none : None ≡ Some us = sym (ap (new.job s) at.1 ∙ ap (λ i. new.job i position) at.0 ∙ h.ends.here) ∙ j in absurd (cc))
    | inr apart ↦ sym (h.ends.others s p apart) ∙ j
  ]

  all_there : (x : Entry) → entry_at (log_of old.logs owed.shard) position ≡ Some x → AreThere (log_of old.logs) (job_of types x)
  all_there x at =
      let one : owed.entry ≡ x = same_Some owed.entry x (sym h.owes.stands ∙ at) in
      subst (λ y. AreThere (log_of old.logs) (job_of types y)) one (job_there types (log_of old.logs) owed h.owes.there h.done)

  still_owed : (s : ℕ) → OwesOpenly types (log_of old.logs) (new.job s) s
  still_owed s p x stands none = elim (cases_job s p) [
    | inl at ↦ all_there x (subst (λ i. entry_at (log_of old.logs owed.shard) i ≡ Some x) at.1
        (subst (λ i. entry_at (log_of old.logs i) p ≡ Some x) at.0 stands))
    | inr apart ↦ (was.covered.each s).owed p x stands (sym (h.ends.others s p apart) ∙ none)
  ]

  pub end_keeps : AreSoundAndCovered types new
  end_keeps = same_logs_keep types old new h.logs h.epochs was (λ s p us j. (was.covered.each s).jobs p us (back s p us j)) still_owed

pub ends_keep : EndsKeep
ends_keep = record { keep = λ types old new owed was h. end_keeps types old new owed was h }
