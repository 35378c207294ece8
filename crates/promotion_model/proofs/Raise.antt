-- A raised epoch keeps the stores covered, and nothing of it was written yet.
use Rattle.std.proofs.Common.{◌≡◌, ℕ, ◌+◌, ◌<◌, ◌≤◌, inl, inr, refl, sym, ap, ◌∙◌, subst, take, arith}
use Rattle.std.proofs.lemmas.Bool.{cases_eq}
use Rattle.std.specs.Prelude.{Some, ◌^◌}
use Rattle.tao_base.specs.EdgeTypes.{EdgeTypes}
use Rattle.tao_base.specs.Ids.{shard_of}
use Rattle.tao_base.specs.Stamps.{stamp_of}
use Rattle.tao_base.specs.declared.entry.Entry.{Entry}
use Rattle.tao_base.specs.declared.entry.Origin.TheVariants.{Merge}
use Rattle.graph_model.specs.Log.{entry_at}
use Rattle.graph_model.specs.Records.{HasStamp}
use Rattle.graph_model.specs.Soundness.{EdgeUpdate, other_end}
use Rattle.write_model.specs.Merges.{IsMergeAt, IsWritten, Stores, entries_ever, log_of, number_in}
use Rattle.write_model.specs.Steps.{AreSoundAndCovered}
use Rattle.write_model.specs.Writes.{epoch_base}
use Rattle.promotion_model.proofs.Numbers.{origin_number}
use Rattle.promotion_model.specs.Promotion.{IsFresh, RaisesEpoch}
use Rattle.promotion_model.specs.PromotionLaws.{RaisesKeep}

-- what is of an epoch so far is below the next one
below_next : (n last now count : ℕ) → n ≤ number_in last count → count < 2 ^ 32 → now ≡ last + 1 → n ≤ epoch_base now
below_next n last now count h few is = omega (arith, h, few, is)

module _ (types : EdgeTypes) (old new : Stores) (shard : ℕ) (was : AreSoundAndCovered types old) (few : entries_ever old < 2 ^ 32)
    (h : RaisesEpoch old new shard) where
  stamp_below : (u : EdgeUpdate) → IsWritten (log_of old.logs) u → (stamp_of u.3).number ≤ epoch_base (new.epochs.of shard)
  stamp_below u w = below_next (stamp_of u.3).number old.epochs.last (new.epochs.of shard) (entries_ever old) (was.covered.numbers u w) few h.here

  origin_below : (s position : ℕ) (e : Entry) (from number : ℕ) → entry_at (log_of old.logs s) position ≡ Some e → e.origin ≡ Merge from number
      → number ≤ epoch_base (new.epochs.of shard)
  origin_below s position e from number at origin =
      below_next number old.epochs.last (new.epochs.of shard) (entries_ever old)
      (origin_number types old was.covered s position e from number at origin) few h.here

  -- the stores at their old logs and jobs
  abbrev at_old : Stores
  at_old = record { logs = old.logs; job = old.job; epochs = new.epochs }

  stamps : (u v : EdgeUpdate) → IsWritten (log_of old.logs) u → other_end types u ≡ Some v → (stamp_of u.3).shard ≡ shard_of v.0
      → epoch_base (new.epochs.of (shard_of v.0)) < (stamp_of u.3).number → HasStamp (log_of old.logs (shard_of v.0)) v
  stamps u v w other is above = elim (cases_eq (shard_of v.0) shard) [
    | inl same ↦ (
        let there : epoch_base (new.epochs.of shard) < (stamp_of u.3).number = subst (λ s. epoch_base (new.epochs.of s) < (stamp_of u.3).number) same above in
        let below = stamp_below u w in
        absurd (omega (arith, there, below)))
    | inr apart ↦ (was.covered.each (shard_of u.0)).stamps u v refl w other is
        (subst (λ e. epoch_base e < (stamp_of u.3).number) (h.others (shard_of v.0) apart) above)
  ]

  merges : (s position : ℕ) (e : Entry) (from number : ℕ) → entry_at (log_of old.logs s) position ≡ Some e → e.origin ≡ Merge from number
      → epoch_base (new.epochs.of from) < number
      → ∥ IsMergeAt types (log_of old.logs from) (new.epochs.of from) (take position (log_of old.logs s)) e number ∥₁
  merges s position e from number at origin above = elim (cases_eq from shard) [
    | inl same ↦ (
        let there : epoch_base (new.epochs.of shard) < number = subst (λ f. epoch_base (new.epochs.of f) < number) same above in
        let below = origin_below s position e from number at origin in
        absurd (omega (arith, there, below)))
    | inr apart ↦ (
        subst (λ epoch. ∥ IsMergeAt types (log_of old.logs from) epoch (take position (log_of old.logs s)) e number ∥₁) (sym (h.others from apart))
        ((was.covered.each s).merges position e from number at origin (subst (λ k. epoch_base k < number) (h.others from apart) above)))
  ]

  epoch_at : (s : ℕ) → new.epochs.of s ≤ new.epochs.last
  epoch_at s =
      let last = h.last in
      elim (cases_eq s shard) [
        | inl same ↦ (let is : new.epochs.of s ≡ old.epochs.last + 1 = ap new.epochs.of same ∙ h.here in omega (arith, is, last))
        | inr apart ↦ (
            let is = h.others s apart in
            let before = was.covered.epochs s in
            omega (arith, is, before, last))
      ]

  number_at : (u : EdgeUpdate) → IsWritten (log_of old.logs) u → (stamp_of u.3).number ≤ number_in new.epochs.last (entries_ever at_old)
  number_at u w =
      let n = was.covered.numbers u w in
      let last = h.last in
      let lost = h.lost in
      omega (arith, n, last, lost)

  raised_at : AreSoundAndCovered types at_old
  raised_at = record {
    sound = was.sound;
    covered = record {
      each = λ s. record {
        owed = (was.covered.each s).owed;
        jobs = (was.covered.each s).jobs;
        one = (was.covered.each s).one;
        stamps = λ u v lies. stamps u v;
        merges = merges s;
      };
      numbers = number_at;
      epochs = epoch_at;
    };
  }

  fresh_at : IsFresh at_old shard
  fresh_at = record { stamps = λ u w is. stamp_below u w; origins = λ s position e number at origin. origin_below s position e shard number at origin }

  -- and so at the new ones, which are the same
  same : (P : Stores → Type 0) → P at_old → P new
  same P p = subst P (λ i. record { logs = sym h.logs i; job = λ s q. sym (h.jobs s q) i; epochs = new.epochs }) p

  raise_keeps : AreSoundAndCovered types new
  raise_keeps = same (AreSoundAndCovered types) raised_at

  raise_is_fresh : IsFresh new shard
  raise_is_fresh = same (λ x. IsFresh x shard) fresh_at

pub raises_keep : RaisesKeep
raises_keep = record {
  keep = λ types old new shard was few h. raise_keeps types old new shard was few h;
  fresh = λ types old new shard was few h. raise_is_fresh types old new shard was few h;
}
