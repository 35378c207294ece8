-- What sound logs say of the records of one edge, and of its two ends.
use Rattle.std.proofs.Common.{◌≡◌, ◌≢◌, ◌⊎◌, ℕ, zero, suc, true, List, inl, inr, refl, sym, ap, ◌∙◌, subst, take, arith}
use Rattle.std.proofs.Math.Logic.{∥∥₁_elim, ∥∥₁_map}
use Rattle.std.proofs.Props.{props}
use Rattle.std.proofs.lemmas.Bool.{cases_eq, cases_lt, false≢true}
use Rattle.std.proofs.lemmas.List.Elements.{All-contains}
use Rattle.std.proofs.lemmas.Option.{get_or_from_slice_get, same_Some, slice_get_within}
use Rattle.std.specs.Prelude.{Contains, Some, IsTrue, slice_get}
use Rattle.tao_base.specs.EdgeTypes.{EdgeTypes, InversesMatch}
use Rattle.tao_base.specs.Ids.{shard_of}
use Rattle.tao_base.specs.Stamps.{is_earlier, stamp_of}
use Rattle.tao_base.specs.declared.edge.Stamp.{Stamp}
use Rattle.tao_base.specs.declared.entry.Entry.{Entry}
use Rattle.tao_base.specs.declared.entry.Origin.{Origin}
use Rattle.tao_base.specs.declared.entry.Origin.TheVariants.{Client, Merge}
use Rattle.write_model.proofs.BothEnds.{IsOtherEnd, other_end_is, update_same}
use Rattle.write_model.proofs.Covered.{at_place}
use Rattle.graph_model.proofs.Members.{contains_filter_map_parts, if_some_at}
use Rattle.graph_model.proofs.NearEnds.{other_end_written}
use Rattle.graph_model.proofs.Rising.{never_before_itself, stamps_rise}
use Rattle.graph_model.proofs.Updates.{record_of_update, written}
use Rattle.write_model.proofs.Written.{update_of}
use Rattle.write_model.proofs.WrittenRecords.{written_stamp}
use Rattle.tao_base.specs.Keys.{key_shard}
use Rattle.graph_model.specs.Records.{HasStamp}
use Rattle.write_model.specs.Merges.{AreOfOneEnd, HasOneRecord, IsWritten}
use Rattle.graph_model.specs.Log.{entry_at}
use Rattle.graph_model.specs.Soundness.{EdgeUpdate, IsSound, IsSoundOf, KeepsEnds, TouchFollows, is_client, other_end, updates_of}

-- In one sound log records of one edge with one stamp are one record.
different_places : (log : List Entry) → IsSound log → (m n : ℕ) (x y : Entry) (u v : EdgeUpdate) → entry_at log (suc m) ≡ Some x → entry_at log (suc n) ≡ Some y
    → Contains (updates_of x) u → Contains (updates_of y) (u.0, u.1, u.2, v.3) → stamp_of u.3 ≡ stamp_of v.3 → m ≢ n → ⊥
different_places log sound m n x y u v at_m at_n h k same apart = elim (cases_lt m n) [
  | inl lt ↦ no_rise (stamp_of u.3) (stamp_of v.3) same ((stamps_rise log).rise sound m n x y lt at_m at_n u.0 u.1 u.2 u.3 v.3 h k)
  | inr le ↦ no_rise (stamp_of v.3) (stamp_of u.3) (sym same)
      ((stamps_rise log).rise sound n m y x (omega (arith, le, apart)) at_n at_m u.0 u.1 u.2 v.3 u.3 k h)
]
  where
    no_rise : (s t : Stamp) → s ≡ t → is_earlier s t ≡ true → ⊥
    no_rise s t e r = false≢true (sym (never_before_itself s) ∙ ap (is_earlier s) e ∙ r)

one_log : (log : List Entry) → IsSound log → (p q : ℕ) (x y : Entry) (u v : EdgeUpdate) → entry_at log p ≡ Some x → entry_at log q ≡ Some y
    → Contains (updates_of x) u → Contains (updates_of y) v → AreOfOneEnd u v → stamp_of u.3 ≡ stamp_of v.3 → u.3 ≡ v.3
one_log log sound zero q x y u v at_p at_q h k one same = absurd (cc)
one_log log sound (suc m) zero x y u v at_p at_q h k one same = absurd (cc)
one_log log sound (suc m) (suc n) x y u v at_p at_q h k one same =
    let w : EdgeUpdate = (u.0, u.1, u.2, v.3) in
    let there : Contains (updates_of y) w = subst (Contains (updates_of y)) (update_same v w (sym one.id1) (sym one.atype) (sym one.id2) refl) k in
    elim (cases_eq m n) [
      | inl place ↦ (
          let entry : y ≡ x = same_Some y x (sym at_q ∙ ap (λ i. entry_at log (suc i)) (sym place) ∙ at_p) in
          let once = (sound m x at_p).once in
          same_Some u.3 v.3 (sym (record_of_update x u.0 u.1 u.2 u.3 once h)
          ∙ record_of_update x u.0 u.1 u.2 v.3 once (subst (λ z. Contains (updates_of z) w) entry there)))
      | inr apart ↦ absurd (different_places log sound m n x y u v at_p at_q h there same apart)
    ]

-- The stamps of a client's records have the shard of their key.
pub own_shard : (log : List Entry) → IsSound log → (p : ℕ) (e : Entry) (u : EdgeUpdate) → entry_at log p ≡ Some e → IsTrue (is_client e.origin)
    → Contains (updates_of e) u
    → (stamp_of u.3).shard ≡ shard_of u.0
own_shard log sound zero e u at client h = absurd (cc)
own_shard log sound (suc n) e u at client h =
    let found = contains_filter_map_parts update_of e.touches u h in
    let follows = All-contains (TouchFollows (take n log) e.origin) e.touches found.0 (sound n e at).touches found.1 in
    if_some_at (λ w. (stamp_of w.3).shard ≡ key_shard found.0.key) (update_of found.0) u (follows.own_stamp client) found.2
    ∙ ap key_shard (written found.0.key found.0.change u found.2).0

pub cases_origin : (o : Origin) → IsTrue (is_client o) ⊎ ((from : ℕ) × (source : ℕ) × (o ≡ Merge from source))
cases_origin (Client session seq) = inl refl
cases_origin (Merge shard position) = inr (shard, position, refl)

ends_at : (types : EdgeTypes) (shard : ℕ) (log : List Entry) → IsSoundOf types shard log → (place : ℕ) (e : Entry) → slice_get log place ≡ Some e
    → KeepsEnds types shard e
ends_at types shard log sound place e h =
    subst (KeepsEnds types shard) (get_or_from_slice_get log place e e h) (sound.ends place e (slice_get_within log place e h))

-- a record that an entry of a sound log wrote lies on the log's shard
pub written_here : (types : EdgeTypes) (shard : ℕ) (log : List Entry) → IsSoundOf types shard log → (position : ℕ) (e : Entry) (u : EdgeUpdate)
    → entry_at log position ≡ Some e → Contains (updates_of e) u → shard_of u.0 ≡ shard
written_here types shard log sound position e u at h =
    let place = at_place types shard log position e sound at in
    let keeps = ends_at types shard log sound place.0 e place.1 in
    let found = contains_filter_map_parts update_of e.touches u h in
    ap key_shard (sym (written found.0.key found.0.change u found.2).0) ∙ All-contains (λ t. key_shard t.key ≡ shard) e.touches found.0 keeps.here found.1

-- the other end of the other end
pub back : (types : EdgeTypes) → InversesMatch types → (u w v : EdgeUpdate) → IsOtherEnd types w u → IsOtherEnd types u v → w ≡ v
back types match u w v a b =
    let type_is : w.1 ≡ v.1 = same_Some w.1 v.1 (sym (match w.1 u.1 a.inverse) ∙ b.inverse) in
    update_same w v (sym a.id2 ∙ sym b.id1) type_is (sym a.id1 ∙ sym b.id2) (sym a.state ∙ sym b.state)

-- two records at the two ends, the other way round
pub turned : (types : EdgeTypes) → InversesMatch types → (u v : EdgeUpdate) → IsOtherEnd types u (v.0, v.1, v.2, u.3) → IsOtherEnd types v (u.0, u.1, u.2, v.3)
turned types match u v o = record { inverse = match u.1 v.1 o.inverse; id1 = sym o.id2; id2 = sym o.id1; state = refl }

-- records of one edge with one stamp are one record, where they were written at two ends that lie on two shards
abbrev pub AgreesFar : EdgeTypes → (ℕ → List Entry) → Type 0
AgreesFar types log = (u v : EdgeUpdate) → IsWritten log u → IsWritten log v → IsOtherEnd types u (v.0, v.1, v.2, u.3) → stamp_of u.3 ≡ stamp_of v.3
    → shard_of u.0 ≢ shard_of u.2 → u.3 ≡ v.3

module _ (types : EdgeTypes) (log : ℕ → List Entry) (sound : (shard : ℕ) → IsSoundOf types shard (log shard)) where
  pub reached_there : (v : EdgeUpdate) → IsWritten log v → HasStamp (log (shard_of v.0)) v
  reached_there v w = written_stamp (log (shard_of v.0)) (sound (shard_of v.0)).sound w.position w.entry v w.stands w.writes

  -- records written at one end
  pub agree_here : (u v : EdgeUpdate) → IsWritten log u → IsWritten log v → AreOfOneEnd u v → stamp_of u.3 ≡ stamp_of v.3 → u.3 ≡ v.3
  agree_here u v w x one same =
      one_log (log (shard_of u.0)) (sound (shard_of u.0)).sound w.position x.position w.entry x.entry u v w.stands
      (subst (λ s. entry_at (log s) x.position ≡ Some x.entry) (ap shard_of (sym one.id1)) x.stands) w.writes x.writes one same

  -- near ends are written by one entry
  pub near_end : (u v : EdgeUpdate) → IsWritten log u → other_end types u ≡ Some v → shard_of u.0 ≡ shard_of u.2 → ∥ IsWritten log v ∥₁
  near_end u v w other near =
      let s : ℕ = shard_of u.0 in
      let place = at_place types s (log s) w.position w.entry (sound s) w.stands in
      let keeps = ends_at types s (log s) (sound s) place.0 w.entry place.1 in
      let o = other_end_is types u v other in
      ∥∥₁_map (other_end_written types s w.entry keeps u v w.writes (sym near) other) (λ writes. record {
        position = w.position;
        entry = w.entry;
        stands = subst (λ i. entry_at (log i) w.position ≡ Some w.entry) (near ∙ ap shard_of (sym o.id1)) w.stands;
        writes = writes;
      })

  -- a stamp that a client gave at the other end's shard is there: both ends are near
  pub near_reached : (u v : EdgeUpdate) → IsWritten log u → other_end types u ≡ Some v → shard_of u.0 ≡ shard_of v.0 → HasStamp (log (shard_of v.0)) v
  near_reached u v w other near =
      ∥∥₁_elim (near_end u v w other (near ∙ ap shard_of (other_end_is types u v other).id1)) (hlevel props) (reached_there v)

  -- two records at the two ends of one edge, where both ends are near
  pub agree_near : (u v : EdgeUpdate) → IsWritten log u → IsWritten log v → other_end types u ≡ Some (v.0, v.1, v.2, u.3) → shard_of u.0 ≡ shard_of u.2
      → stamp_of u.3 ≡ stamp_of v.3 → u.3 ≡ v.3
  agree_near u v w x other near same =
      ∥∥₁_elim (near_end u (v.0, v.1, v.2, u.3) w other near) (hlevel props)
      (λ there. agree_here (v.0, v.1, v.2, u.3) v there x (record { id1 = refl; atype = refl; id2 = refl }) same)

  pub agree_all : AgreesFar types log → (shard : ℕ) → HasOneRecord types log shard
  agree_all far shard u v here w x (inl one) same = agree_here u v w x one same
  agree_all far shard u v here w x (inr other) same = elim (cases_eq (shard_of u.0) (shard_of u.2)) [
    | inl near ↦ agree_near u v w x other near same
    | inr apart ↦ far u v w x (other_end_is types u (v.0, v.1, v.2, u.3) other) same apart
  ]
