-- What stays as it is in the stores while their logs grow.
use Rattle.std.proofs.Common.{◌≡◌, ◌≢◌, ℕ, zero, suc, ◌+◌, ◌<◌, ◌⊎◌, List, [], ◌∷◌, ◌++◌, append-nil, length, take, inl, inr, sym, ap, ◌∙◌, subst, arith}
use Rattle.std.proofs.Math.Logic.{∥∥₁_map}
use Rattle.std.proofs.lemmas.Bool.{cases_eq}
use Rattle.std.proofs.lemmas.List.{get_or-set_same, get_or-set_other, length-append, take-append-le}
use Rattle.std.proofs.lemmas.List.Elements.{All-weaker}
use Rattle.std.proofs.lemmas.List.Sums.{sum_by-set}
use Rattle.std.proofs.lemmas.Option.{slice_get_within}
use Rattle.std.specs.Prelude.{Contains, Some, slice_get, slice_set, sum_by}
use Rattle.tao_base.specs.EdgeTypes.{EdgeTypes}
use Rattle.tao_base.specs.Ids.{shard_of}
use Rattle.tao_base.specs.declared.entry.Entry.{Entry}
use Rattle.graph_model.proofs.Rising.{stamps_stay}
use Rattle.graph_model.proofs.Sound.{slice_get-push}
use Rattle.write_model.specs.Merges.{AreThere, HasJob, IsJob, IsMergeAt, IsWritten, log_of}
use Rattle.graph_model.specs.Records.{HasStamp}
use Rattle.graph_model.specs.Log.{entry_at}
use Rattle.graph_model.specs.Soundness.{EdgeUpdate, IsSound, IsSoundOf, updates_of}
use Rattle.write_model.specs.WriteLaws.{StaysSound}
pub use Rattle.graph_model.proofs.EntryLemmas.{entry_at-last}

-- entries stay at their positions
slice_get-more : {X : Type 0} (xs more : List X) (n : ℕ) (x : X) → slice_get xs n ≡ Some x → slice_get (xs ++ more) n ≡ Some x
slice_get-more [] more n x h = absurd (cc)
slice_get-more (y ∷ ys) more zero x h = h
slice_get-more (y ∷ ys) more (suc n) x h = slice_get-more ys more n x h

pub entry_at-more : (log more : List Entry) (position : ℕ) (e : Entry) → entry_at log position ≡ Some e → entry_at (log ++ more) position ≡ Some e
entry_at-more log more zero e h = absurd (cc)
entry_at-more log more (suc n) e h = slice_get-more log more n e h

pub entry_at-push : (log : List Entry) (last : Entry) (position : ℕ) (e : Entry) → entry_at (log ++ last ∷ []) position ≡ Some e
    → (entry_at log position ≡ Some e) ⊎ ((position ≡ length log + 1) × (last ≡ e))
entry_at-push log last zero e h = absurd (cc)
entry_at-push log last (suc n) e h = elim (slice_get-push log last n e h) [ inl k ↦ inl k | inr k ↦ inr (omega (arith, k.0), k.1) ]

pub entry_at-within : (log : List Entry) (position : ℕ) (e : Entry) → entry_at log position ≡ Some e → position < length log + 1
entry_at-within log zero e h = absurd (cc)
entry_at-within log (suc n) e h = let within = slice_get_within log n e h in omega arith

-- each log has become a longer one, or stays
pub record Grown (old new : ℕ → List Entry) : Type 0 where
  pub more : (shard : ℕ) → List Entry
  pub is : (shard : ℕ) → new shard ≡ old shard ++ more shard

pub grown_same : (old new : List (List Entry)) → new ≡ old → Grown (log_of old) (log_of new)
grown_same old new same = record { more = λ s. []; is = λ s. ap (λ l. log_of l s) same ∙ sym (append-nil (log_of old s)) }

module _ (types : EdgeTypes) (old new : ℕ → List Entry) (grown : Grown old new) where
  pub entry_stays : (shard position : ℕ) (e : Entry) → entry_at (old shard) position ≡ Some e → entry_at (new shard) position ≡ Some e
  entry_stays shard position e h =
      subst (λ l. entry_at l position ≡ Some e) (sym (grown.is shard)) (entry_at-more (old shard) (grown.more shard) position e h)

  pub take_stays : (shard position : ℕ) (e : Entry) → entry_at (old shard) position ≡ Some e → take position (new shard) ≡ take position (old shard)
  take_stays shard position e h =
      let within = entry_at-within (old shard) position e h in
      ap (take position) (grown.is shard) ∙ take-append-le position (old shard) (grown.more shard) (omega arith)

  pub stamp_stays : ((s : ℕ) → IsSoundOf types s (new s)) → (shard : ℕ) (u : EdgeUpdate) → HasStamp (old shard) u → HasStamp (new shard) u
  stamp_stays sound shard u h =
      subst (λ l. HasStamp l u) (sym (grown.is shard))
      ((stamps_stay (old shard)).stays (grown.more shard) u (subst IsSound (grown.is shard) (sound shard).sound) h)

  pub there_stays : ((s : ℕ) → IsSoundOf types s (new s)) → (us : List EdgeUpdate) → AreThere old us → AreThere new us
  there_stays sound us there = All-weaker (λ u. HasStamp (old (shard_of u.0)) u) (λ u. HasStamp (new (shard_of u.0)) u)
      (λ u. stamp_stays sound (shard_of u.0) u) us there

  pub written_stays : (u : EdgeUpdate) → IsWritten old u → IsWritten new u
  written_stays u w =
      record { position = w.position; entry = w.entry; stands = entry_stays (shard_of u.0) w.position w.entry w.stands; writes = w.writes }

  pub job_stays : (shard position : ℕ) (us : List EdgeUpdate) → ∥ IsJob types (old shard) position us ∥₁ → ∥ IsJob types (new shard) position us ∥₁
  job_stays shard position us was = ∥∥₁_map was (λ h.
      record { entry = h.entry; stands = entry_stays shard position h.entry h.stands; job_is = h.job_is; some = h.some })

  pub merge_stays : (shard position : ℕ) (e : Entry) (from epoch number : ℕ) → entry_at (old shard) position ≡ Some e
      → ∥ IsMergeAt types (old from) epoch (take position (old shard)) e number ∥₁ → ∥ IsMergeAt types (new from) epoch (take position (new shard)) e number ∥₁
  merge_stays shard position e from epoch number at was = ∥∥₁_map was (λ h. record {
    position = h.position;
    entry = h.entry;
    number_is = h.number_is;
    stands = entry_stays from h.position h.entry h.stands;
    touches = h.touches;
    done = subst (λ l. HasJob types l h.entry) (sym (take_stays shard position e at)) h.done;
  })

-- one log gains an entry that keeps it sound, and no other changes
pub record GainsAt (types : EdgeTypes) (old new : ℕ → List Entry) (shard : ℕ) (e : Entry) : Type 0 where
  pub here : new shard ≡ old shard ++ e ∷ []
  pub elsewhere : (s : ℕ) → s ≢ shard → new s ≡ old s
  pub stays : StaysSound types shard (old shard) e

module _ (types : EdgeTypes) (old new : ℕ → List Entry) (shard : ℕ) (e : Entry) (g : GainsAt types old new shard e) where
  grown_at : (s : ℕ) → (more : List Entry) × (new s ≡ old s ++ more)
  grown_at s = elim (cases_eq s shard) [
    | inl same ↦ (e ∷ [], subst (λ i. new i ≡ old i ++ e ∷ []) (sym same) g.here)
    | inr apart ↦ ([], g.elsewhere s apart ∙ sym (append-nil (old s)))
  ]

  pub gained_grown : Grown old new
  gained_grown = record { more = λ s. (grown_at s).0; is = λ s. (grown_at s).1 }

  pub gained_sound : ((s : ℕ) → IsSoundOf types s (old s)) → (s : ℕ) → IsSoundOf types s (new s)
  gained_sound sound s = elim (cases_eq s shard) [
    | inl same ↦ subst (λ i. IsSoundOf types i (new i)) (sym same) (subst (IsSoundOf types shard) (sym g.here) g.stays.sound)
    | inr apart ↦ subst (IsSoundOf types s) (sym (g.elsewhere s apart)) (sound s)
  ]

  pub gained_entry : (s position : ℕ) (x : Entry) → entry_at (new s) position ≡ Some x
      → (entry_at (old s) position ≡ Some x) ⊎ ((s ≡ shard) × (position ≡ length (old shard) + 1) × (e ≡ x))
  gained_entry s position x h = elim (cases_eq s shard) [
    | inl same ↦ elim (entry_at-push (old shard) e position x (subst (λ l. entry_at l position ≡ Some x) (ap new same ∙ g.here) h)) [
      | inl k ↦ inl (subst (λ i. entry_at (old i) position ≡ Some x) (sym same) k)
      | inr k ↦ inr (same, k.0, k.1)
    ]
    | inr apart ↦ inl (subst (λ l. entry_at l position ≡ Some x) (g.elsewhere s apart) h)
  ]

  pub gained_written : (u : EdgeUpdate) → IsWritten new u → IsWritten old u ⊎ ((shard_of u.0 ≡ shard) × Contains (updates_of e) u)
  gained_written u w = elim (gained_entry (shard_of u.0) w.position w.entry w.stands) [
    | inl before ↦ inl (record { position = w.position; entry = w.entry; stands = before; writes = w.writes })
    | inr last ↦ inr (last.0, subst (λ x. Contains (updates_of x) u) (sym last.2) w.writes)
  ]

-- so among the logs of all shards
pub record IsGain (types : EdgeTypes) (old new : List (List Entry)) (shard : ℕ) (e : Entry) : Type 0 where
  pub within : shard < length old
  pub is : new ≡ slice_set old shard (log_of old shard ++ e ∷ [])
  pub stays : StaysSound types shard (log_of old shard) e

module _ (types : EdgeTypes) (old new : List (List Entry)) (shard : ℕ) (e : Entry) (g : IsGain types old new shard e) where
  pub gains_at : GainsAt types (log_of old) (log_of new) shard e
  gains_at = record {
    here = ap (λ l. log_of l shard) g.is ∙ get_or-set_same old shard (log_of old shard ++ e ∷ []) [] g.within;
    elsewhere = λ s apart. ap (λ l. log_of l s) g.is ∙ get_or-set_other old shard s (log_of old shard ++ e ∷ []) [] apart;
    stays = g.stays;
  }

  pub gained_sum : sum_by length new ≡ sum_by length old + 1
  gained_sum =
      let sum = sum_by-set length old shard (log_of old shard ++ e ∷ []) [] g.within in
      let longer : length (log_of old shard ++ e ∷ []) ≡ length (log_of old shard) + 1 = length-append (log_of old shard) (e ∷ []) in
      ap (sum_by length) g.is ∙ (omega (arith, sum, longer))
