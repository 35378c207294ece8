-- The stores of all shards, where their logs and jobs stay.
use Rattle.std.proofs.Common.{◌≡◌, ℕ, zero, suc, ◌+◌, ◌<◌, nat_lt, Option, None, List, ◌∷◌, inl, inr, refl, sym, ap, ◌∙◌, subst, arith}
use Rattle.std.proofs.lemmas.Bool.{cases_Bool}
use Rattle.std.proofs.lemmas.Bool.Decides.{nat_tests}
use Rattle.std.specs.Prelude.{if◌then◌else◌}
use Rattle.graph_model.specs.Soundness.{EdgeUpdate, IsSoundOf}
use Rattle.leader_tier.proofs.master_tables_lemmas.Calls.{tables_are_stores}
use Rattle.leader_tier.specs.master_tables.Masters.{each_shard}
use Rattle.tao_base.specs.declared.entry.Entry.{Entry}
use Rattle.tao_base.specs.declared.id.StoreName.{StoreName}
use Rattle.tao_keeper.specs.Table.{Stays, Tables}
use Rattle.tao_schema.specs.Schema.{types_of}
use Rattle.topology.specs.Config.{Settings}
use Rattle.write_model.specs.Merges.{no_epochs}
use Rattle.write_model.specs.Steps.{AreSoundAndCovered}
use Rattle.core_model.specs.Stores.{AreKeptIn, HasSoundLogs, master_log, master_store, masters_of, stores_in}

-- each log of kept stores is sound
pub sound_logs : (s : Settings) (tables : Tables) → AreKeptIn s tables → HasSoundLogs s tables
sound_logs s tables kept shard within =
    subst (IsSoundOf (types_of s.schema) shard) ((tables_are_stores (masters_of s) tables).log_is shard within) (kept.sound shard)

-- no table changes
pub kept_stays : (s : Settings) (old new : Tables) → Stays old new → AreKeptIn s old → AreKeptIn s new
kept_stays s old new stays kept = let same : new ≡ old = λ i at. stays at i in subst (AreKeptIn s) (sym same) kept

-- no log and no job changes, as where lines are written
pub record KeepLogsAndJobs (old new : Tables) : Type 0 where
  pub logs : (at : StoreName) → (new at).log ≡ (old at).log
  pub jobs : (at : StoreName) → (new at).jobs ≡ (old at).jobs

-- none of the stores of a configuration does
pub record KeepsStores (s : Settings) (old new : Tables) : Type 0 where
  pub logs : (shard : ℕ) → shard < s.shards → (new (master_store s shard)).log ≡ (old (master_store s shard)).log
  pub jobs : (shard : ℕ) → shard < s.shards → (new (master_store s shard)).jobs ≡ (old (master_store s shard)).jobs

same_logs : (f g : ℕ → List Entry) (from n : ℕ) → ((i : ℕ) → i < from + n → g i ≡ f i) → each_shard g from n ≡ each_shard f from n
same_logs f g from zero same = refl
same_logs f g from (suc n) same = λ k. same from (omega arith) k ∷ same_logs f g (from + 1) n (λ i lt. same i (omega (arith, lt))) k

same_within : (n shard : ℕ) (a b : Option (List EdgeUpdate)) → (shard < n → b ≡ a)
    → (if nat_lt shard n then b else None) ≡ (if nat_lt shard n then a else None)
same_within n shard a b same = elim (cases_Bool (nat_lt shard n)) [
  | inl is ↦ ap (λ o. if nat_lt shard n then o else None) (same (grind (arith, nat_tests)))
  | inr is ↦ ap (λ c. if c then b else None) is ∙ sym (ap (λ c. if c then a else None) is)
]

same_stores : (s : Settings) (old new : Tables) → KeepsStores s old new → stores_in s new ≡ stores_in s old
same_stores s old new same = λ i. record {
  logs = same_logs (master_log s old) (master_log s new) 0 s.shards (λ shard lt. same.logs shard (omega (arith, lt))) i;
  job = λ shard position. same_within s.shards shard ((old (master_store s shard)).jobs position) ((new (master_store s shard)).jobs position)
      (λ within. ap (λ jobs. jobs position) (same.jobs shard within)) i;
  epochs = no_epochs;
}

pub kept_within : (s : Settings) (old new : Tables) → KeepsStores s old new → AreKeptIn s old → AreKeptIn s new
kept_within s old new same kept = subst (AreSoundAndCovered (types_of s.schema)) (sym (same_stores s old new same)) kept

pub kept_same : (s : Settings) (old new : Tables) → KeepLogsAndJobs old new → AreKeptIn s old → AreKeptIn s new
kept_same s old new same =
    kept_within s old new (record { logs = λ shard within. same.logs (master_store s shard); jobs = λ shard within. same.jobs (master_store s shard) })
