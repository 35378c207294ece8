-- In covered stores jobs may be merged.
use Rattle.std.proofs.Common.{◌≡◌, ℕ, zero, suc, ◌+◌, ◌<◌, ◌≢◌, ◌⊎◌, List, [], ◌∷◌, ◌++◌, length, take, drop, inl, inr, refl, sym, ap, ◌∙◌, subst, arith}
use Rattle.std.proofs.Math.Logic.{∥∥₁_elim}
use Rattle.std.proofs.Props.{props}
use Rattle.std.proofs.lemmas.Bool.{cases_eq}
use Rattle.std.proofs.lemmas.List.{length-take, take-append-drop}
use Rattle.std.proofs.lemmas.List.Elements.{All-cons, All-nil, All-weaker}
use Rattle.std.proofs.lemmas.Option.{same_Some, slice_get_within}
use Rattle.std.specs.Prelude.{All, Some, slice_get}
use Rattle.tao_base.specs.EdgeTypes.{EdgeTypes}
use Rattle.tao_base.specs.Ids.{shard_of}
use Rattle.tao_base.specs.declared.entry.Entry.{Entry}
use Rattle.tao_base.specs.declared.entry.Origin.{Origin}
use Rattle.tao_base.specs.declared.entry.Origin.TheVariants.{Client, Merge}
use Rattle.write_model.proofs.FarJobs.{jobs_are_far}
use Rattle.graph_model.proofs.Rising.{stamps_stay}
use Rattle.write_model.specs.MergeLaws.{CoveredJobsMayMerge, IsNewOrDone}
use Rattle.write_model.specs.Merges.{HasItsMerges, JobSource, job_of, log_of, number_in, source_number}
use Rattle.write_model.specs.Writes.{epoch_base}
use Rattle.graph_model.specs.Records.{HasStamp}
use Rattle.graph_model.specs.Log.{entry_at}
use Rattle.graph_model.specs.Soundness.{EdgeUpdate, IsSound, IsSoundOf, IsNewOrigin}

-- one origin or another
cases_origin : (a b : Origin) → (a ≡ b) ⊎ (a ≢ b)
cases_origin (Client session seq) (Client other next) = elim (cases_eq session other) [
  | inl e ↦ elim (cases_eq seq next) [ inl f ↦ inl (λ i. Client (e i) (f i)) | inr ne ↦ inr (λ h. ne (cc)) ]
  | inr ne ↦ inr (λ h. ne (cc))
]
cases_origin (Client session seq) (Merge shard position) = inr (λ h. absurd (cc))
cases_origin (Merge shard position) (Client session seq) = inr (λ h. absurd (cc))
cases_origin (Merge shard position) (Merge other next) = elim (cases_eq shard other) [
  | inl e ↦ elim (cases_eq position next) [ inl f ↦ inl (λ i. Merge (e i) (f i)) | inr ne ↦ inr (λ h. ne (cc)) ]
  | inr ne ↦ inr (λ h. ne (cc))
]

-- an entry of the log has the origin
record HasOrigin (log : List Entry) (origin : Origin) : Type 0 where
  place : ℕ
  entry : Entry
  stands : slice_get log place ≡ Some entry
  is : entry.origin ≡ origin

new_or_there : (log : List Entry) (origin : Origin) → IsNewOrigin log origin ⊎ HasOrigin log origin
new_or_there [] origin = inl (All-nil (λ old. old.origin ≢ origin))
new_or_there (e ∷ es) origin = elim (cases_origin e.origin origin) [
  | inl is ↦ inr (record { place = 0; entry = e; stands = refl; is = is })
  | inr ne ↦ elim (new_or_there es origin) [
    | inl new ↦ inl (All-cons (λ old. old.origin ≢ origin) e es ne new)
    | inr there ↦ inr (record { place = suc there.place; entry = there.entry; stands = there.stands; is = there.is })
  ]
]

-- the entry at a position stands at the place before it, and its position is that one
pub at_place : (types : EdgeTypes) (shard : ℕ) (log : List Entry) (position : ℕ) (e : Entry) → IsSoundOf types shard log → entry_at log position ≡ Some e
    → (place : ℕ) × (slice_get log place ≡ Some e) × (e.position ≡ position)
at_place types shard log zero e sound h = absurd (cc)
at_place types shard log (suc place) e sound h =
    let within : place < length log = slice_get_within log place e h in
    let is = (sound.sound place e h).position_is in
    (place, h, is ∙ (rw (length-take place log) (omega arith)))

done_there : (log : List Entry) (n : ℕ) (us : List EdgeUpdate) → IsSound log → All (HasStamp (take n log)) us → All (HasStamp log) us
done_there log n us sound done =
    let whole : take n log ++ drop n log ≡ log = take-append-drop n log in
    All-weaker (HasStamp (take n log)) (HasStamp log) (λ u h. subst (λ l. HasStamp l u) whole
    ((stamps_stay (take n log)).stays (drop n log) u (subst IsSound (sym whole) sound) h)) us done

pub new_or_done : (types : EdgeTypes) (log : ℕ → List Entry) (epoch : ℕ → ℕ) (shard position : ℕ) (owed : JobSource) → IsSoundOf types shard (log shard)
    → HasItsMerges types log epoch shard → owed.epoch ≡ epoch owed.shard → entry_at (log owed.shard) position ≡ Some owed.entry
    → owed.entry.position ≡ position → IsNewOrDone types (log shard) owed
new_or_done types log epoch shard position owed sound merges epoch_is stands same =
    elim (new_or_there (log shard) (Merge owed.shard (source_number owed))) [
      | inl new ↦ inl new
      | inr there ↦ (
          let first = at_first position owed.entry stands in
          let number : source_number owed ≡ number_in (epoch owed.shard) position = λ i. number_in (epoch_is i) (same i) in
          let merged = merges (suc there.place) there.entry owed.shard (source_number owed) there.stands there.is
          (above (source_number owed) (epoch_base (epoch owed.shard)) position number first) in
          inr (∥∥₁_elim merged (hlevel props) (λ merge.
          let at : merge.position ≡ position = one_position (epoch_base (epoch owed.shard)) merge.position position (sym merge.number_is ∙ number) in
          let one : merge.entry ≡ owed.entry = same_Some merge.entry owed.entry (sym merge.stands ∙ ap (entry_at (log owed.shard)) at ∙ stands) in
          done_there (log shard) (suc there.place) (job_of types owed.entry) sound.sound
          (subst (λ x. All (HasStamp (take (suc there.place) (log shard))) (job_of types x)) one merge.done))))
    ]
  where
    at_first : (p : ℕ) (e : Entry) → entry_at (log owed.shard) p ≡ Some e → 0 < p
    at_first zero e h = absurd (cc)
    at_first (suc n) e h = omega arith

    above : (number base p : ℕ) → number ≡ base + p → 0 < p → base < number
    above number base p is some = omega (arith, is, some)

    one_position : (base p q : ℕ) → base + p ≡ base + q → p ≡ q
    one_position base p q is = omega (arith, is)

pub covered_jobs_may_merge : CoveredJobsMayMerge
covered_jobs_may_merge = record {
  may = λ types stores match sound covered from position e u stands h.
      (let at = at_place types from (log_of stores.logs from) position e (sound from) stands in
      record {
        inverses = match;
        sound = sound (shard_of u.0);
        far = (jobs_are_far from (log_of stores.logs from)).far types (sound from) at.0 e u at.1 h;
        origin = new_or_done types (log_of stores.logs) stores.epochs.of (shard_of u.0) position
            (record { shard = from; epoch = stores.epochs.of from; entry = e; other = shard_of u.0 }) (sound (shard_of u.0))
            (covered.each (shard_of u.0)).merges refl stands at.2;
      });
}
