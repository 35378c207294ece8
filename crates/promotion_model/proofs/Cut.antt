-- A log that is cut back, once its jobs were opened and while nothing of its epoch was written.
use Rattle.std.proofs.Common.{◌≡◌, ◌≢◌, ℕ, ◌<◌, ◌≤◌, List, [], length, take, inl, inr, refl, sym, ap, ◌∙◌, subst, arith}
use Rattle.std.proofs.Math.Logic.{∥∥₁_map}
use Rattle.std.proofs.lemmas.Bool.{cases_eq, cases_lt}
use Rattle.std.proofs.lemmas.List.{get_or-set_same, get_or-set_other, length-take-le, take-take}
use Rattle.std.proofs.lemmas.List.Elements.{All-take}
use Rattle.std.proofs.lemmas.List.Sums.{sum_by-set}
use Rattle.std.specs.Prelude.{Contains, Option, Some, None, sum_by, slice_set}
use Rattle.tao_base.specs.EdgeTypes.{EdgeTypes}
use Rattle.tao_base.specs.Ids.{shard_of}
use Rattle.tao_base.specs.Stamps.{stamp_of}
use Rattle.tao_base.specs.declared.entry.Entry.{Entry}
use Rattle.tao_base.specs.declared.entry.Origin.TheVariants.{Merge}
use Rattle.graph_model.proofs.Members.{All-from_in, All-in, contains_from_in}
use Rattle.graph_model.proofs.Sound.{sound_take}
use Rattle.graph_model.specs.Log.{entry_at}
use Rattle.graph_model.specs.Records.{HasStamp}
use Rattle.graph_model.specs.Soundness.{EdgeUpdate, IsSoundOf, KeepsEnds, other_end}
use Rattle.write_model.proofs.Covered.{at_place}
use Rattle.write_model.proofs.FarJobs.{jobs_are_far}
use Rattle.write_model.proofs.Growing.{entry_at-more}
use Rattle.write_model.specs.Merges.{HasItsJobs, IsMergeAt, IsWritten, OwesOpenly, Stores, entries_ever, job_of, log_of, number_in}
use Rattle.write_model.specs.Steps.{AreSound, AreSoundAndCovered}
use Rattle.write_model.specs.Writes.{epoch_base}
use Rattle.promotion_model.proofs.Numbers.{entry_at-take, entry_at_in_take}
use Rattle.promotion_model.proofs.Open.{not_open}
use Rattle.promotion_model.specs.Promotion.{CutsBack, IsFresh, IsOwedAll, JobsAreCut}
use Rattle.promotion_model.specs.PromotionLaws.{CutsKeep, KeptJobsStay}

-- the jobs of one store whose log is cut back
jobs_cut : (types : EdgeTypes) (log : List Entry) (old new : ℕ → Option (List EdgeUpdate)) (kept : ℕ) → HasItsJobs types log old → JobsAreCut old new kept
    → HasItsJobs types (take kept log) new
jobs_cut types log old new kept theirs h p us j = elim (cases_lt kept p) [
  | inl past ↦ (let none : None ≡ Some us = sym (h.past p past) ∙ j in absurd (cc))
  | inr le ↦ (
      ∥∥₁_map (theirs p us (sym (h.before p le) ∙ j)) (λ was.
      record { entry = was.entry; stands = entry_at_in_take log kept p was.entry was.stands le; job_is = was.job_is; some = was.some }))
]

pub kept_jobs_stay : KeptJobsStay
kept_jobs_stay = record {
  grows = λ types log more job theirs p us j. ∥∥₁_map (theirs p us j) (λ was.
      record { entry = was.entry; stands = entry_at-more log more p was.entry was.stands; job_is = was.job_is; some = was.some });
  cut = jobs_cut;
}

module _ (types : EdgeTypes) (old new : Stores) (shard kept : ℕ) (was : AreSoundAndCovered types old) (fresh : IsFresh old shard)
    (all : IsOwedAll types old shard) (h : CutsBack old new shard kept) where
  abbrev log : List Entry
  log = log_of old.logs shard

  cut_log : log_of new.logs shard ≡ take kept log
  cut_log = ap (λ l. log_of l shard) h.logs ∙ get_or-set_same old.logs shard (take kept log) [] h.within

  elsewhere : (s : ℕ) → s ≢ shard → log_of new.logs s ≡ log_of old.logs s
  elsewhere s apart = ap (λ l. log_of l s) h.logs ∙ get_or-set_other old.logs shard s (take kept log) [] apart

  cut_sound : AreSound types new.logs
  cut_sound s = elim (cases_eq s shard) [
    | inl same ↦ subst (λ i. IsSoundOf types i (log_of new.logs i)) (sym same)
        (subst (IsSoundOf types shard) (sym cut_log)
        (record { sound = sound_take log kept (was.sound shard).sound; ends = All-take (KeepsEnds types shard) kept log (was.sound shard).ends }))
    | inr apart ↦ subst (IsSoundOf types s) (sym (elsewhere s apart)) (was.sound s)
  ]

  -- what stands now stood before
  stood : (s p : ℕ) (e : Entry) → entry_at (log_of new.logs s) p ≡ Some e → (entry_at (log_of old.logs s) p ≡ Some e) × (s ≡ shard → p ≤ kept)
  stood s p e at = elim (cases_eq s shard) [
    | inl same ↦ (
        let cut = entry_at-take log kept p e (subst (λ l. entry_at l p ≡ Some e) cut_log (subst (λ i. entry_at (log_of new.logs i) p ≡ Some e) same at)) in
        (subst (λ i. entry_at (log_of old.logs i) p ≡ Some e) (sym same) cut.0, λ q. cut.1))
    | inr apart ↦ (subst (λ l. entry_at l p ≡ Some e) (elsewhere s apart) at, λ q. absurd (apart q))
  ]

  was_written : (u : EdgeUpdate) → IsWritten (log_of new.logs) u → IsWritten (log_of old.logs) u
  was_written u w = record { position = w.position; entry = w.entry; stands = (stood (shard_of u.0) w.position w.entry w.stands).0; writes = w.writes }

  job_kept : (s p : ℕ) → (s ≡ shard → p ≤ kept) → new.job s p ≡ old.job s p
  job_kept s p within = elim (cases_eq s shard) [
    | inl same ↦ subst (λ i. new.job i p ≡ old.job i p) (sym same) (h.here.before p (within same))
    | inr apart ↦ h.others s p apart
  ]

  -- a record that an entry owes, and whose job isn't open, lies elsewhere, where the log stays
  owed_one : (s p : ℕ) (e : Entry) → entry_at (log_of old.logs s) p ≡ Some e → old.job s p ≡ None → (u : EdgeUpdate) → Contains (job_of types e) u
      → HasStamp (log_of old.logs (shard_of u.0)) u → HasStamp (log_of new.logs (shard_of u.0)) u
  owed_one s p e at none u k there = elim (cases_eq (shard_of u.0) shard) [
    | inl to ↦ elim (cases_eq s shard) [
      | inl same ↦ absurd (away s p e at u k (same ∙ sym to))
      | inr apart ↦ absurd (not_open (old.job s p) none (all s p e u apart at k to))
    ]
    | inr off ↦ subst (λ l. HasStamp l u) (sym (elsewhere (shard_of u.0) off)) there
  ]
    where
      away : (s p : ℕ) (e : Entry) → entry_at (log_of old.logs s) p ≡ Some e → (u : EdgeUpdate) → Contains (job_of types e) u → s ≢ shard_of u.0
      away s p e at u k =
          let place = at_place types s (log_of old.logs s) p e (was.sound s) at in
          ((jobs_are_far s (log_of old.logs s)).far types (was.sound s) place.0 e u place.1 k).away

  owed : (s : ℕ) → OwesOpenly types (log_of new.logs) (new.job s) s
  owed s p e at none =
      let before = stood s p e at in
      let closed : old.job s p ≡ None = sym (job_kept s p before.1) ∙ none in
      All-from_in (λ u. HasStamp (log_of new.logs (shard_of u.0)) u) (job_of types e) (λ u k.
      owed_one s p e before.0 closed u (contains_from_in (job_of types e) u k)
      (All-in (λ w. HasStamp (log_of old.logs (shard_of w.0)) w) (job_of types e) u ((was.covered.each s).owed p e before.0 closed) k))

  jobs : (s : ℕ) → HasItsJobs types (log_of new.logs s) (new.job s)
  jobs s = elim (cases_eq s shard) [
    | inl same ↦ subst (λ i. HasItsJobs types (log_of new.logs i) (new.job i)) (sym same)
        (subst (λ l. HasItsJobs types l (new.job shard)) (sym cut_log)
        (jobs_cut types log (old.job shard) (new.job shard) kept (was.covered.each shard).jobs h.here))
    | inr apart ↦ subst (λ l. HasItsJobs types l (new.job s)) (sym (elsewhere s apart)) (subst (HasItsJobs types (log_of old.logs s)) (same_jobs s apart)
        (was.covered.each s).jobs)
  ]
    where
      same_jobs : (s : ℕ) → s ≢ shard → old.job s ≡ new.job s
      same_jobs s apart i p = sym (h.others s p apart) i

  ever_is : entries_ever new ≡ entries_ever old
  ever_is =
      let sum = sum_by-set length old.logs shard (take kept log) [] h.within in
      let short : length (take kept log) ≡ kept = length-take-le kept log h.fits in
      let lost = h.lost in
      let whole : sum_by length new.logs ≡ sum_by length (slice_set old.logs shard (take kept log)) = ap (sum_by length) h.logs in
      omega (arith, sum, short, lost, whole)

  numbers : (u : EdgeUpdate) → IsWritten (log_of new.logs) u → (stamp_of u.3).number ≤ number_in new.epochs.last (entries_ever new)
  numbers u w =
      let n = was.covered.numbers u (was_written u w) in
      let count = ever_is in
      let last = h.last in
      omega (arith, n, count, last)

  stamps : (u v : EdgeUpdate) → IsWritten (log_of new.logs) u → other_end types u ≡ Some v → (stamp_of u.3).shard ≡ shard_of v.0
      → epoch_base (old.epochs.of (shard_of v.0)) < (stamp_of u.3).number → HasStamp (log_of new.logs (shard_of v.0)) v
  stamps u v w other is above = elim (cases_eq (shard_of v.0) shard) [
    | inl same ↦ (
        let below = fresh.stamps u (was_written u w) (is ∙ same) in
        let there : epoch_base (old.epochs.of shard) < (stamp_of u.3).number = subst (λ s. epoch_base (old.epochs.of s) < (stamp_of u.3).number) same above in
        absurd (omega (arith, below, there)))
    | inr apart ↦ subst (λ l. HasStamp l v) (sym (elsewhere (shard_of v.0) apart))
        ((was.covered.each (shard_of u.0)).stamps u v refl (was_written u w) other is above)
  ]

  take_kept : (s p : ℕ) (e : Entry) → entry_at (log_of new.logs s) p ≡ Some e → take p (log_of new.logs s) ≡ take p (log_of old.logs s)
  take_kept s p e at = elim (cases_eq s shard) [
    | inl same ↦ (
        let le = (stood s p e at).1 same in
        subst (λ i. take p (log_of new.logs i) ≡ take p (log_of old.logs i)) (sym same) (ap (take p) cut_log ∙ take-take p kept log le))
    | inr apart ↦ ap (take p) (elsewhere s apart)
  ]

  merges : (s p : ℕ) (e : Entry) (from number : ℕ) → entry_at (log_of new.logs s) p ≡ Some e → e.origin ≡ Merge from number
      → epoch_base (old.epochs.of from) < number → ∥ IsMergeAt types (log_of new.logs from) (old.epochs.of from) (take p (log_of new.logs s)) e number ∥₁
  merges s p e from number at origin above =
      let before = stood s p e at in
      elim (cases_eq from shard) [
        | inl same ↦ (
            let below = fresh.origins s p e number before.0 (origin ∙ ap (λ f. Merge f number) same) in
            let there : epoch_base (old.epochs.of shard) < number = subst (λ f. epoch_base (old.epochs.of f) < number) same above in
            absurd (omega (arith, below, there)))
        | inr apart ↦ (
            subst (λ l. ∥ IsMergeAt types l (old.epochs.of from) (take p (log_of new.logs s)) e number ∥₁) (sym (elsewhere from apart))
            (subst (λ l. ∥ IsMergeAt types (log_of old.logs from) (old.epochs.of from) l e number ∥₁) (sym (take_kept s p e at))
            ((was.covered.each s).merges p e from number before.0 origin above)))
      ]

  cut_keeps : AreSoundAndCovered types new
  cut_keeps = record {
    sound = cut_sound;
    covered = record {
      each = λ s. record {
        owed = owed s;
        jobs = jobs s;
        one = λ u v lies w x one same. (was.covered.each s).one u v lies (was_written u w) (was_written v x) one same;
        stamps = λ u v lies w other is above. stamps u v w other is (subst (λ f. epoch_base (f (shard_of v.0)) < (stamp_of u.3).number) h.of above);
        merges = λ p e from number at origin above.
            subst (λ f. ∥ IsMergeAt types (log_of new.logs from) (f from) (take p (log_of new.logs s)) e number ∥₁) (sym h.of)
            (merges s p e from number at origin (subst (λ f. epoch_base (f from) < number) h.of above));
      };
      numbers = numbers;
      epochs = λ s. (let e : new.epochs.of s ≡ old.epochs.of s = ap (λ f. f s) h.of in
          let l = h.last in
          let before = was.covered.epochs s in
          omega (arith, e, l, before));
    };
  }

pub cuts_keep : CutsKeep
cuts_keep = record { keep = cut_keeps }
