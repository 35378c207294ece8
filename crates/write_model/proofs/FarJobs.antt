-- The records of a job: a cut and then a set at the other end, far from where the job is from.
use Rattle.std.proofs.Common.{◌≡◌, ℕ, ◌≢◌, ◌⊎◌, true, false, List, [], ◌∷◌, inl, inr, sym, ap, ◌∙◌, subst}
use Rattle.std.proofs.lemmas.Bool.{both_ways, eq-eqb, not-true}
use Rattle.std.proofs.lemmas.Option.{slice_get_within, get_or_from_slice_get}
use Rattle.std.proofs.Math.Logic.{∥∥₁_elim}
use Rattle.std.proofs.Math.Nat.{ℕ_set}
use Rattle.std.specs.Prelude.{All, Option, Some, None, IfSome, IsSomeAnd, not, slice_get}
use Rattle.tao_base.specs.EdgeTypes.{EdgeTypes, InversesMatch}
use Rattle.tao_base.specs.Ids.{shard_of}
use Rattle.tao_base.specs.declared.id.Key.{Key}
use Rattle.tao_base.specs.declared.id.Key.TheVariants.{List as Assocs}
use Rattle.tao_base.specs.declared.edge.EdgeState.{EdgeState}
use Rattle.tao_base.specs.declared.edge.EdgeState.TheVariants.{Live, Cut}
use Rattle.tao_base.specs.declared.entry.Change.{Change}
use Rattle.tao_base.specs.declared.entry.Change.TheVariants.{SetEdge, CutEdge}
use Rattle.tao_base.specs.declared.entry.Entry.{Entry}
use Rattle.tao_base.specs.declared.entry.Touch.{Touch}
use Rattle.write_model.proofs.BothEnds.{one_inverse, other_end_is, other_mates, when_some}
use Rattle.graph_model.proofs.Members.{IsIn, PairsByRecursion, All-from_in, All-in, all_in, in_filter_map_parts, in_from_contains, pairs_append}
use Rattle.graph_model.proofs.Members.{pairs_both, pairs_filter_map, pairs_from_in, pairs_prop, pairs_weaker, recursion_from_AllPairs}
use Rattle.graph_model.proofs.Updates.{written}
use Rattle.write_model.proofs.Written.{AreApart, CutBefore, update_of}
use Rattle.tao_base.specs.Keys.{key_shard}
use Rattle.write_model.specs.MergeLaws.{IsCutThenLive, IsEntryOf, IsFarEntry, JobsAreFar}
use Rattle.write_model.specs.Merges.{job_of}
use Rattle.graph_model.specs.Soundness.{AreInOrder, AreOpposite, EdgeUpdate, IsOneEnd, IsSoundOf, KeepsEnds, other_end, updates_of}
use Rattle.write_model.specs.Writes.{is_near, when}

-- the records of two touches, where both write one
abbrev OfRecords : (EdgeUpdate → EdgeUpdate → Type 0) → Touch → Touch → Type 0
OfRecords R s t = IfSome (update_of s) (λ u. IfSome (update_of t) (R u))

of_records : (R : EdgeUpdate → EdgeUpdate → Type 0) (s t : Touch) (u v : EdgeUpdate) → OfRecords R s t → update_of s ≡ Some u → update_of t ≡ Some v → R u v
of_records R s t u v h e k = rw (e, k) at h

-- a cut and then a set at one end are such records
cut_then_set : (key1 : Key) (change1 : Change) (version1 : ℕ) (key2 : Key) (change2 : Change) (version2 : ℕ)
    → IsOneEnd (record { key = key1; change = change1; version = version1 } ∷ record { key = key2; change = change2; version = version2 } ∷ [])
    → OfRecords CutBefore (record { key = key1; change = change1; version = version1 }) (record { key = key2; change = change2; version = version2 })
cut_then_set (Assocs id1 atype) (CutEdge id2 stamp was) version1 (Assocs other newtype) (SetEdge edge was2) version2 h =
    record { states = tt; id1 = h.0; id2 = h.1 }
cut_then_set key1 change1 version1 key2 change2 version2 h = absurd h

one_end_pairs : (ts : List Touch) → IsOneEnd ts → PairsByRecursion (OfRecords CutBefore) ts
one_end_pairs [] h = tt
one_end_pairs (t ∷ []) h = (tt, tt)
one_end_pairs (s ∷ t ∷ []) h = ((cut_then_set s.key s.change s.version t.key t.change t.version h, tt), (tt, tt))
one_end_pairs (s ∷ t ∷ u ∷ ts) h = absurd h

-- a cut and then a set at one end, or two records of which the second lies at the other end of the first
abbrev Ends : EdgeUpdate → EdgeUpdate → Type 0
Ends u v = CutBefore u v ⊎ ((v.0 ≡ u.2) × (v.2 ≡ u.0))

of_opposite : (o p : Option EdgeUpdate) → IsSomeAnd o (λ u. IsSomeAnd p (λ v. (v.0 ≡ u.2) × (v.2 ≡ u.0))) → IfSome o (λ u. IfSome p (Ends u))
of_opposite None p h = tt
of_opposite (Some u) None h = tt
of_opposite (Some u) (Some v) h = inr h

of_cut : (o p : Option EdgeUpdate) → IfSome o (λ u. IfSome p (CutBefore u)) → IfSome o (λ u. IfSome p (Ends u))
of_cut None p h = tt
of_cut (Some u) None h = tt
of_cut (Some u) (Some v) h = inl h

touch_pairs : (ts : List Touch) → AreInOrder ts → PairsByRecursion (OfRecords Ends) ts
touch_pairs ts o =
    let at_one : (part : List Touch) → IsOneEnd part → PairsByRecursion (OfRecords Ends) part = λ part h.
    pairs_weaker (OfRecords CutBefore) (OfRecords Ends) part (λ s t k. of_cut (update_of s) (update_of t) k) (one_end_pairs part h) in
    subst (PairsByRecursion (OfRecords Ends)) (sym o.joined)
    (pairs_append (OfRecords Ends) o.first o.second (at_one o.first o.first_end) (at_one o.second o.second_end)
    (λ s t h k. of_opposite (update_of s) (update_of t)
    (All-in (AreOpposite s) o.second t (All-in (λ x. All (AreOpposite x) o.second) o.first s o.opposite h) k)))

-- two records, a cut and then a set at one end where the first one's other end is far
abbrev FarPair : EdgeUpdate → EdgeUpdate → Type 0
FarPair u v = (is_near u ≡ false → CutBefore u v) × AreApart u v

states_prop : (x y : EdgeState) → IsProp (IsCutThenLive x y)
states_prop (Cut stamp) (Live time payload later) = hlevel
states_prop (Cut stamp) (Cut later) = hlevel
states_prop (Live time payload stamp) y = hlevel

cut_prop : (u v : EdgeUpdate) → IsProp (CutBefore u v)
cut_prop u v = hlevel (ℕ_set, states_prop)

far_prop : (u v : EdgeUpdate) → IsProp (FarPair u v)
far_prop u v = hlevel (cut_prop)

abbrev pub JobPair : EdgeUpdate → EdgeUpdate → Type 0
JobPair u v = CutBefore u v × AreApart u v

ids_same : (us : List EdgeUpdate) → PairsByRecursion (λ x y. x.0 ≡ y.0) us → (u v : EdgeUpdate) → IsIn u us → IsIn v us → u.0 ≡ v.0
ids_same [] p u v h k = absurd h
ids_same (x ∷ xs) p u v (inl h) (inl k) = ap (λ y. y.0) (sym h ∙ k)
ids_same (x ∷ xs) p u v (inl h) (inr k) = ap (λ y. y.0) (sym h) ∙ all_in (λ y. x.0 ≡ y.0) xs v p.0 k
ids_same (x ∷ xs) p u v (inr h) (inl k) = sym (all_in (λ y. x.0 ≡ y.0) xs u p.0 h) ∙ ap (λ y. y.0) k
ids_same (x ∷ xs) p u v (inr h) (inr k) = ids_same xs p.1 u v h k

key_of_record : (from : ℕ) (t : Touch) (u : EdgeUpdate) → key_shard t.key ≡ from → update_of t ≡ Some u → shard_of u.0 ≡ from
key_of_record from t u h e = ap key_shard (sym (written t.key t.change u e).0) ∙ h

module _ (types : EdgeTypes) (from : ℕ) (e : Entry) (far : IsEntryOf from e) where
  abbrev TouchPair : Touch → Touch → Type 0
  TouchPair s t = (OfRecords Ends s t × (s.key ≢ t.key)) × ((key_shard s.key ≡ from) × (key_shard t.key ≡ from))

  far_pair : (s t : Touch) (u v : EdgeUpdate) → TouchPair s t → update_of s ≡ Some u → update_of t ≡ Some v → FarPair u v
  far_pair s t u v p h k =
      let apart : AreApart u v = λ same. p.0.1 ((written s.key s.change u h).0 ∙ same ∙ sym (written t.key t.change v k).0) in
      elim (of_records Ends s t u v p.0.0 h k) [
        | inl cut ↦ (λ away. cut, apart)
        | inr o ↦ (
            let near : is_near u ≡ true = eq-eqb (shard_of u.2) (shard_of u.0)
            (ap shard_of (sym o.0) ∙ key_of_record from t v p.1.1 k ∙ sym (key_of_record from s u p.1.0 h)) in
            (λ away. absurd (both_ways (is_near u) away near), apart))
      ]

  record_pairs : PairsByRecursion FarPair (updates_of e)
  record_pairs = ∥∥₁_elim far.ordered (pairs_prop FarPair far_prop (updates_of e)) (λ ordered.
      pairs_filter_map TouchPair FarPair update_of e.touches far_pair
      (pairs_both (λ s t. OfRecords Ends s t × (s.key ≢ t.key)) (λ s t. (key_shard s.key ≡ from) × (key_shard t.key ≡ from)) e.touches
      (pairs_both (OfRecords Ends) (λ s t. s.key ≢ t.key) e.touches (touch_pairs e.touches ordered)
      (recursion_from_AllPairs (λ s t. s.key ≢ t.key) e.touches far.once))
      (pairs_from_in (λ s t. (key_shard s.key ≡ from) × (key_shard t.key ≡ from)) e.touches
      (λ s t h k. (All-in (λ x. key_shard x.key ≡ from) e.touches s far.here h, All-in (λ x. key_shard x.key ≡ from) e.touches t far.here k)))))

  job_cut : (u v x y : EdgeUpdate) → FarPair u v → when (not (is_near u)) (other_end types u) ≡ Some x → when (not (is_near v)) (other_end types v) ≡ Some y
      → CutBefore x y
  job_cut u v x y p h k =
      let found = when_some (not (is_near u)) (other_end types u) x h in
      let also = when_some (not (is_near v)) (other_end types v) y k in
      other_mates types u v x y (other_end_is types u x found.1) (other_end_is types v y also.1) (p.0 (not-true (is_near u) found.0))

  job_apart : InversesMatch types → (u v x y : EdgeUpdate) → FarPair u v → when (not (is_near u)) (other_end types u) ≡ Some x
      → when (not (is_near v)) (other_end types v) ≡ Some y → AreApart x y
  job_apart match u v x y p h k same =
      let found = when_some (not (is_near u)) (other_end types u) x h in
      let also = when_some (not (is_near v)) (other_end types v) y k in
      let type_is : x.1 ≡ y.1 = cc in
      let one : u.1 ≡ v.1 = one_inverse types u.1 v.1 x.1 y.1 match (other_end_is types u x found.1).inverse (other_end_is types v y also.1).inverse type_is in
      p.1 (λ i. Assocs ((p.0 (not-true (is_near u) found.0)).id1 i) (one i))

  -- of a job's records none is of the edge of another, and two are a cut and then a set
  pub job_pairs : InversesMatch types → PairsByRecursion JobPair (job_of types e)
  job_pairs match = pairs_filter_map FarPair JobPair (λ u. when (not (is_near u)) (other_end types u)) (updates_of e)
      (λ u v x y p h k. (job_cut u v x y p h k, job_apart match u v x y p h k)) record_pairs

  -- the other end of a job's record lies where the job is from
  pub from_there : (x : EdgeUpdate) → IsIn x (job_of types e) → shard_of x.2 ≡ from
  from_there x h =
      let made = in_filter_map_parts (λ u. when (not (is_near u)) (other_end types u)) (updates_of e) x h in
      let u : EdgeUpdate = made.0 in
      let touch = in_filter_map_parts update_of e.touches u made.1 in
      let other = other_end_is types u x (when_some (not (is_near u)) (other_end types u) x made.2).1 in
      ap shard_of other.id2 ∙ key_of_record from touch.0 u (All-in (λ t. key_shard t.key ≡ from) e.touches touch.0 far.here touch.1) touch.2

  same_id : (x y : EdgeUpdate) → IsIn x (job_of types e) → IsIn y (job_of types e) → x.0 ≡ y.0
  same_id = ids_same (job_of types e)
      (pairs_filter_map FarPair (λ x y. x.0 ≡ y.0) (λ u. when (not (is_near u)) (other_end types u)) (updates_of e)
      (λ u v x y p h k. (job_cut u v x y p h k).id1) record_pairs)

  not_from : (x : EdgeUpdate) → IsIn x (job_of types e) → from ≢ shard_of x.0
  not_from x h same =
      let made = in_filter_map_parts (λ u. when (not (is_near u)) (other_end types u)) (updates_of e) x h in
      let u : EdgeUpdate = made.0 in
      let found = when_some (not (is_near u)) (other_end types u) x made.2 in
      let other = other_end_is types u x found.1 in
      let near : is_near u ≡ true = eq-eqb (shard_of u.2) (shard_of u.0)
      (ap shard_of (sym other.id1) ∙ sym same ∙ sym (from_there x h) ∙ ap shard_of other.id2) in
      both_ways (is_near u) (not-true (is_near u) found.0) near

  far_from : (u : EdgeUpdate) → IsIn u (job_of types e) → IsFarEntry types from (shard_of u.0) e
  far_from u h = record {
    entry = far;
    away = not_from u h;
    there = All-from_in (λ x. shard_of x.0 ≡ shard_of u.0) (job_of types e) (λ x k. ap shard_of (same_id x u k h));
  }

pub entry_of_sound : (types : EdgeTypes) (from : ℕ) (source : List Entry) (place : ℕ) (e : Entry) → IsSoundOf types from source
    → slice_get source place ≡ Some e → IsEntryOf from e
entry_of_sound types from source place e sound h =
    let follows = sound.sound place e h in
    let within = slice_get_within source place e h in
    let ends : KeepsEnds types from e = subst (KeepsEnds types from) (get_or_from_slice_get source place e e h) (sound.ends place e within) in
    record { ordered = follows.ordered; once = follows.once; here = ends.here }

pub jobs_are_far : (from : ℕ) (source : List Entry) → JobsAreFar from source
jobs_are_far from source = record {
  far = λ types sound place e u h k. far_from types from e (entry_of_sound types from source place e sound h) u (in_from_contains (job_of types e) u k);
}
