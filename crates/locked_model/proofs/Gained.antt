-- A store's own log gains an entry.
use Rattle.std.proofs.Common.{◌≡◌, ◌≢◌, ℕ, ◌+◌, ◌≤◌, List, [], ◌∷◌, length, take, inl, inr, sym, ap, ◌∙◌, subst, arith}
use Rattle.std.proofs.Math.Logic.{∥∥₁_map}
use Rattle.std.proofs.lemmas.Bool.{cases_eq}
use Rattle.std.proofs.lemmas.List.{length-append}
use Rattle.std.specs.Prelude.{Contains, Some, None}
use Rattle.tao_base.specs.EdgeTypes.{EdgeTypes}
use Rattle.tao_base.specs.Ids.{shard_of}
use Rattle.tao_base.specs.Stamps.{stamp_of}
use Rattle.tao_base.specs.declared.entry.Entry.{Entry}
use Rattle.tao_base.specs.declared.entry.Origin.TheVariants.{Merge}
use Rattle.graph_model.specs.Log.{entry_at}
use Rattle.graph_model.specs.Records.{HasStamp}
use Rattle.graph_model.specs.Soundness.{EdgeUpdate, IsSoundOf, other_end, updates_of}
use Rattle.write_model.proofs.Agreeing.{agree_here, agree_near, near_reached}
use Rattle.write_model.proofs.BothEnds.{IsOtherEnd, other_end_is}
use Rattle.write_model.proofs.Growing.{GainsAt, Grown, entry_stays, gained_entry, gained_grown, gained_sound, gained_written, merge_stays, stamp_stays}
use Rattle.write_model.proofs.Growing.{there_stays}
use Rattle.write_model.specs.Merges.{AreThere, HasItsJobs, HasItsMerges, HasItsStamps, HasOneRecord, IsMergeAt, IsWritten, OwesOpenly, job_of}
use Rattle.locked_model.specs.Locked.{IsMergedFrom, HasItsOwn, HasItsSources, IsKept, Knowledge}

-- what a merge came from stays while logs grow
pub source_stays : (types : EdgeTypes) (old new : ℕ → List Entry) → Grown old new → (from : ℕ) (e : Entry) → ∥ IsMergedFrom types (old from) e ∥₁
    → ∥ IsMergedFrom types (new from) e ∥₁
source_stays types old new grown from e was = ∥∥₁_map was (λ c.
    record { position = c.position; entry = c.entry; stands = entry_stays types old new grown from c.position c.entry c.stands; owed = c.owed })

-- what is to be shown of the entry, and of the open jobs
pub record KeepsOwn (types : EdgeTypes) (old new : Knowledge) (shard : ℕ) (e : Entry) : Type 0 where
  pub jobs : HasItsJobs types (new.log shard) new.job
  pub still_open : (p : ℕ) (x : Entry) → entry_at (old.log shard) p ≡ Some x → new.job p ≡ None → old.job p ≡ None
  pub owed : new.job (length (old.log shard) + 1) ≡ None → AreThere new.log (job_of types e)
  pub one : (u v : EdgeUpdate) → shard_of u.0 ≡ shard → Contains (updates_of e) u → IsWritten old.log v → IsOtherEnd types u (v.0, v.1, v.2, u.3)
      → stamp_of u.3 ≡ stamp_of v.3 → shard_of u.0 ≢ shard_of u.2 → u.3 ≡ v.3
  pub stamps : (u v : EdgeUpdate) → IsWritten new.log u → shard_of u.0 ≡ shard → Contains (updates_of e) u → other_end types u ≡ Some v
      → (stamp_of u.3).shard ≡ shard_of v.0 → HasStamp (new.log (shard_of v.0)) v
  pub merge : (from number : ℕ) → e.origin ≡ Merge from number
      → ∥ IsMergeAt types (new.log from) (old.epoch from) (take (length (old.log shard) + 1) (new.log shard)) e number ∥₁
  pub source : (from number : ℕ) → e.origin ≡ Merge from number → ∥ IsMergedFrom types (new.log from) e ∥₁

module _ (types : EdgeTypes) (old new : Knowledge) (shard : ℕ) (e : Entry) (g : GainsAt types old.log new.log shard e) (was : IsKept types shard old)
    (k : KeepsOwn types old new shard e) where
  grown : Grown old.log new.log
  grown = gained_grown types old.log new.log shard e g

  sound_new : (s : ℕ) → IsSoundOf types s (new.log s)
  sound_new = gained_sound types old.log new.log shard e g was.sound

  owed_new : OwesOpenly types new.log new.job shard
  owed_new p x stands none = elim (gained_entry types old.log new.log shard e g shard p x stands) [
    | inl before ↦ there_stays types old.log new.log grown sound_new (job_of types x) (was.covered.owed p x before (k.still_open p x before none))
    | inr last ↦ subst (λ y. AreThere new.log (job_of types y)) last.2 (k.owed (subst (λ i. new.job i ≡ None) last.1 none))
  ]

  -- of two far ends one lies elsewhere, and was seen before
  far_new : (u v : EdgeUpdate) → shard_of u.0 ≡ shard → IsWritten new.log u → IsWritten new.log v → IsOtherEnd types u (v.0, v.1, v.2, u.3)
      → other_end types u ≡ Some (v.0, v.1, v.2, u.3) → stamp_of u.3 ≡ stamp_of v.3 → shard_of u.0 ≢ shard_of u.2 → u.3 ≡ v.3
  far_new u v here w x other is same apart = elim (gained_written types old.log new.log shard e g v x) [
    | inl x_old ↦ elim (gained_written types old.log new.log shard e g u w) [
      | inl w_old ↦ was.covered.one u v here w_old x_old (inr is) same
      | inr w_new ↦ k.one u v here w_new.1 x_old other same apart
    ]
    | inr x_new ↦ absurd (apart (here ∙ sym x_new.0 ∙ ap shard_of other.id1))
  ]

  one_new : HasOneRecord types new.log shard
  one_new u v here w x (inl one) same = agree_here types new.log sound_new u v w x one same
  one_new u v here w x (inr other) same = elim (cases_eq (shard_of u.0) (shard_of u.2)) [
    | inl near ↦ agree_near types new.log sound_new u v w x other near same
    | inr apart ↦ far_new u v here w x (other_end_is types u (v.0, v.1, v.2, u.3) other) other same apart
  ]

  stamps_new : HasItsStamps types new.log old.epoch shard
  stamps_new u v here w other is above = elim (gained_written types old.log new.log shard e g u w) [
    | inl before ↦ stamp_stays types old.log new.log grown sound_new (shard_of v.0) v (was.covered.stamps u v here before other is above)
    | inr last ↦ k.stamps u v w last.0 last.1 other is
  ]

  merges_new : HasItsMerges types new.log old.epoch shard
  merges_new p x from number at origin above = elim (gained_entry types old.log new.log shard e g shard p x at) [
    | inl before ↦ merge_stays types old.log new.log grown shard p x from (old.epoch from) number before
        (was.covered.merges p x from number before origin above)
    | inr last ↦ (
        subst (λ y. ∥ IsMergeAt types (new.log from) (old.epoch from) (take p (new.log shard)) y number ∥₁) last.2
        (subst (λ i. ∥ IsMergeAt types (new.log from) (old.epoch from) (take i (new.log shard)) e number ∥₁) (sym last.1)
        (k.merge from number (ap (λ y. y.origin) last.2 ∙ origin))))
  ]

  own_new : HasItsOwn types new.log old.epoch shard
  own_new u v w other at is above = elim (gained_written types old.log new.log shard e g u w) [
    | inl before ↦ stamp_stays types old.log new.log grown sound_new shard v (was.own u v before other at is above)
    | inr last ↦ subst (λ s. HasStamp (new.log s) v) at (near_reached types new.log sound_new u v w other (last.0 ∙ sym at))
  ]

  sources_new : HasItsSources types new.log old.begun shard
  sources_new p x from number past at origin = elim (gained_entry types old.log new.log shard e g shard p x at) [
    | inl before ↦ source_stays types old.log new.log grown from x (was.sources p x from number past before origin)
    | inr last ↦ subst (λ y. ∥ IsMergedFrom types (new.log from) y ∥₁) last.2 (k.source from number (ap (λ y. y.origin) last.2 ∙ origin))
  ]

  longer : old.begun ≤ length (new.log shard)
  longer =
      let more : length (new.log shard) ≡ length (old.log shard) + 1 = ap length g.here ∙ length-append (old.log shard) (e ∷ []) in
      let was_long = was.fits in
      omega (arith, more, was_long)

  pub stays_kept : new.epoch ≡ old.epoch → new.begun ≡ old.begun → IsKept types shard new
  stays_kept same begun =
      subst (λ b. IsKept types shard (record { log = new.log; epoch = new.epoch; job = new.job; begun = b })) (sym begun)
      (subst (λ f. IsKept types shard (record { log = new.log; epoch = f; job = new.job; begun = old.begun })) (sym same) (record {
        sound = sound_new;
        covered = record { owed = owed_new; jobs = k.jobs; one = one_new; stamps = stamps_new; merges = merges_new };
        own = own_new;
        sources = sources_new;
        fits = longer;
      }))
