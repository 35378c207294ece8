-- Stores whose logs and epochs stay, and whose open jobs are those of their entries.
use Rattle.std.proofs.Common.{◌≡◌, ℕ, sym, subst}
use Rattle.tao_base.specs.EdgeTypes.{EdgeTypes}
use Rattle.write_model.specs.Merges.{AreCovered, HasItsJobs, OwesOpenly, Stores, log_of}
use Rattle.write_model.specs.Steps.{AreSound, AreSoundAndCovered, JobsStay}

module _ (types : EdgeTypes) (old new : Stores) (logs : new.logs ≡ old.logs) (epochs : new.epochs ≡ old.epochs) (was : AreSoundAndCovered types old)
    (jobs : (s : ℕ) → HasItsJobs types (log_of old.logs s) (new.job s)) (owed : (s : ℕ) → OwesOpenly types (log_of old.logs) (new.job s) s) where
  covered_between : AreCovered types (record { logs = old.logs; job = new.job; epochs = old.epochs })
  covered_between = record {
    each = λ s. (let each = was.covered.each s in record { owed = owed s; jobs = jobs s; one = each.one; stamps = each.stamps; merges = each.merges });
    numbers = was.covered.numbers;
    epochs = was.covered.epochs;
  }

  pub same_logs_keep : AreSoundAndCovered types new
  same_logs_keep = record {
    sound = subst (AreSound types) (sym logs) was.sound;
    covered = subst (λ l. AreCovered types (record { logs = l; job = new.job; epochs = new.epochs })) (sym logs)
        (subst (λ e. AreCovered types (record { logs = old.logs; job = new.job; epochs = e })) (sym epochs) covered_between);
  }

pub nothing_changes : (types : EdgeTypes) (old new : Stores) → new.logs ≡ old.logs → JobsStay old new → new.epochs ≡ old.epochs
    → AreSoundAndCovered types old → AreSoundAndCovered types new
nothing_changes types old new logs jobs epochs was = same_logs_keep types old new logs epochs was
    (λ s. subst (HasItsJobs types (log_of old.logs s)) (same s) (was.covered.each s).jobs)
    (λ s. subst (λ job. OwesOpenly types (log_of old.logs) job s) (same s) (was.covered.each s).owed)
  where
    same : (s : ℕ) → old.job s ≡ new.job s
    same s i p = sym (jobs s p) i
