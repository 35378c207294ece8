-- Jobs that are opened again, and a master that has them all.
use Rattle.std.proofs.Common.{◌≡◌, ℕ, List, inl, inr, refl, sym, ◌∙◌, subst}
use Rattle.std.proofs.lemmas.Bool.{cases_eq}
use Rattle.std.specs.Prelude.{Option, Some, None, IsSome}
use Rattle.tao_base.specs.EdgeTypes.{EdgeTypes}
use Rattle.tao_base.specs.Ids.{shard_of}
use Rattle.graph_model.proofs.Members.{All-from_in, contains_from_in}
use Rattle.graph_model.specs.Records.{HasStamp}
use Rattle.graph_model.specs.Soundness.{EdgeUpdate}
use Rattle.write_model.proofs.SameLogs.{same_logs_keep}
use Rattle.write_model.specs.Merges.{HasItsJobs, OwesOpenly, Stores, job_of, log_of}
use Rattle.write_model.specs.Steps.{AreSoundAndCovered}
use Rattle.promotion_model.specs.Promotion.{ChangesMaster, IsFresh, OpensJobs}
use Rattle.promotion_model.specs.PromotionLaws.{ChangesKeep, OpensKeep}

module _ (types : EdgeTypes) (old new : Stores) (was : AreSoundAndCovered types old) (h : OpensJobs types old new) where
  -- a job that isn't open now wasn't before
  was_closed : (s p : ℕ) (o : Option (List EdgeUpdate)) → old.job s p ≡ o → new.job s p ≡ None → old.job s p ≡ None
  was_closed s p None e none = e
  was_closed s p (Some us) e none = let some : None ≡ Some us = sym none ∙ h.still s p us e in absurd (cc)

  still_owed : (s : ℕ) → OwesOpenly types (log_of old.logs) (new.job s) s
  still_owed s p x stands none = (was.covered.each s).owed p x stands (was_closed s p (old.job s p) refl none)

  open_keeps : AreSoundAndCovered types new
  open_keeps = same_logs_keep types old new h.logs h.epochs was h.theirs still_owed

-- a job that is open isn't none
pub not_open : (o : Option (List EdgeUpdate)) → o ≡ None → IsSome o → ⊥
not_open None e h = absurd (cc)
not_open (Some us) e h = absurd (cc)

still_fresh : (types : EdgeTypes) (old new : Stores) (shard : ℕ) → OpensJobs types old new → IsFresh old shard → IsFresh new shard
still_fresh types old new shard h fresh =
    subst (λ l. IsFresh (record { logs = l; job = new.job; epochs = new.epochs }) shard) (sym h.logs)
    (subst (λ e. IsFresh (record { logs = old.logs; job = new.job; epochs = e }) shard) (sym h.epochs)
    (record { stamps = fresh.stamps; origins = fresh.origins }))

pub opens_keep : OpensKeep
opens_keep = record { keep = open_keeps; fresh = still_fresh }

module _ (types : EdgeTypes) (old new : Stores) (shard : ℕ) (was : AreSoundAndCovered types old) (h : ChangesMaster types old new shard) where
  same_jobs : (s : ℕ) → (s ≡ shard → ⊥) → old.job s ≡ new.job s
  same_jobs s apart i p = sym (h.others s p apart) i

  jobs_now : (s : ℕ) → HasItsJobs types (log_of old.logs s) (new.job s)
  jobs_now s = elim (cases_eq s shard) [
    | inl same ↦ subst (λ i. HasItsJobs types (log_of old.logs i) (new.job i)) (sym same) h.theirs
    | inr apart ↦ subst (HasItsJobs types (log_of old.logs s)) (same_jobs s apart) (was.covered.each s).jobs
  ]

  owed_here : OwesOpenly types (log_of old.logs) (new.job shard) shard
  owed_here p e stands none = All-from_in (λ u. HasStamp (log_of old.logs (shard_of u.0)) u) (job_of types e)
      (λ u k. absurd (not_open (new.job shard p) none (h.all p e u stands (contains_from_in (job_of types e) u k))))

  owed_now : (s : ℕ) → OwesOpenly types (log_of old.logs) (new.job s) s
  owed_now s = elim (cases_eq s shard) [
    | inl same ↦ subst (λ i. OwesOpenly types (log_of old.logs) (new.job i) i) (sym same) owed_here
    | inr apart ↦ subst (λ job. OwesOpenly types (log_of old.logs) job s) (same_jobs s apart) (was.covered.each s).owed
  ]

  change_keeps : AreSoundAndCovered types new
  change_keeps = same_logs_keep types old new h.logs h.epochs was jobs_now owed_now

pub changes_keep : ChangesKeep
changes_keep = record { keep = change_keeps }
