-- The records of a write at id1, with those of their near ends, are the records of an entry that follows.
use Rattle.std.proofs.Common.{◌≡◌, ℕ, ◌<◌, ◌≢◌, Bool, true, false, List, ◌++◌, length, inl, inr, refl, sym, ap, ◌∙◌, subst}
use Rattle.std.proofs.lemmas.Bool.{cases_Bool, true≢false, not-true, not_from_false, eq-eqb, eqb-true, and_from, and_parts}
use Rattle.std.proofs.lemmas.Option.{same_Some}
use Rattle.std.specs.List.{list_any}
use Rattle.std.specs.Prelude.{Option, Some, None, IfSome, filter, filter_map, not, ◌==◌, ◌&&◌}
use Rattle.tao_base.specs.EdgeTypes.{EdgeTypes, InversesMatch}
use Rattle.tao_base.specs.Ids.{shard_of}
use Rattle.tao_base.specs.Stamps.{stamp_of}
use Rattle.tao_base.specs.declared.id.AType.{AType}
use Rattle.tao_base.specs.declared.entry.Entry.{Entry}
use Rattle.tao_base.specs.declared.entry.Origin.{Origin}
use Rattle.graph_model.proofs.Members.{IsIn, PairsByRecursion, if_some, in_any, in_append_cases, in_append_left, in_append_right, in_filter}
use Rattle.graph_model.proofs.Members.{in_filter_map, in_filter_map_parts, in_filter_parts, none_in, pairs_append, pairs_filter, pairs_filter_map}
use Rattle.graph_model.proofs.Members.{pairs_weaker}
use Rattle.graph_model.proofs.NearEnds.{near_ends_are_paired, other_end-is}
use Rattle.write_model.proofs.Written.{AreApart, AreWritten, CutBefore}
use Rattle.graph_model.specs.Edges.{edge_record}
use Rattle.write_model.specs.MergeLaws.{IsCutThenLive}
use Rattle.graph_model.specs.Records.{is_later, is_news}
use Rattle.graph_model.specs.Soundness.{EdgeUpdate, IsSoundOf, other_end}
use Rattle.write_model.specs.Writes.{is_near, same_edge, when}

pub update_same : (u v : EdgeUpdate) → u.0 ≡ v.0 → u.1 ≡ v.1 → u.2 ≡ v.2 → u.3 ≡ v.3 → u ≡ v
update_same u v a b c d = λ i. (a i, b i, c i, d i)

-- the second record is the first one at its other end
pub record IsOtherEnd (types : EdgeTypes) (u v : EdgeUpdate) : Type 0 where
  pub inverse : types.inverse u.1 ≡ Some v.1
  pub id1 : v.0 ≡ u.2
  pub id2 : v.2 ≡ u.0
  pub state : v.3 ≡ u.3

found_other : (types : EdgeTypes) (u v : EdgeUpdate) (found : Option AType) → types.inverse u.1 ≡ found → other_end types u ≡ Some v → IsOtherEnd types u v
found_other types u v None e h = let k : None ≡ Some v = rw e at h in absurd (cc)
found_other types u v (Some inverse) e h =
    let there : EdgeUpdate = (u.2, inverse, u.0, u.3) in
    let k : Some there ≡ Some v = rw e at h in
    subst (IsOtherEnd types u) (same_Some there v k) (record { inverse = e; id1 = refl; id2 = refl; state = refl })

pub other_end_is : (types : EdgeTypes) (u v : EdgeUpdate) → other_end types u ≡ Some v → IsOtherEnd types u v
other_end_is types u v h = found_other types u v (types.inverse u.1) refl h

pub other_end_from : (types : EdgeTypes) (u v : EdgeUpdate) → IsOtherEnd types u v → other_end types u ≡ Some v
other_end_from types u v o =
    other_end-is types v.1 u o.inverse ∙ ap Some (update_same (u.2, v.1, u.0, u.3) v (sym o.id1) refl (sym o.id2) (sym o.state))

-- the other ends of a cut and a set
pub other_mates : (types : EdgeTypes) (x y u v : EdgeUpdate) → IsOtherEnd types x u → IsOtherEnd types y v → CutBefore x y → CutBefore u v
other_mates types x y u v a b cut = record {
  states = subst (λ s. IsCutThenLive s v.3) (sym a.state) (subst (λ s. IsCutThenLive x.3 s) (sym b.state) cut.states);
  id1 = a.id1 ∙ cut.id2 ∙ sym b.id1;
  id2 = a.id2 ∙ cut.id1 ∙ sym b.id2;
}

-- one type has one inverse
pub one_inverse : (types : EdgeTypes) (a b c d : AType) → InversesMatch types → types.inverse a ≡ Some c → types.inverse b ≡ Some d → c ≡ d → a ≡ b
one_inverse types a b c d match h k e = same_Some a b (sym (match a c h) ∙ ap types.inverse e ∙ match b d k)

pub when_some : {X : Type 0} (b : Bool) (o : Option X) (x : X) → when b o ≡ Some x → (b ≡ true) × (o ≡ Some x)
when_some true o x h = (refl, h)
when_some false o x h = absurd (cc)

-- a later write to the same edge of another type
pub record IsMate (u v : EdgeUpdate) : Type 0 where
  pub cut : CutBefore u v
  pub types : u.1 ≢ v.1

-- the records of a write at id1
pub record IsOneWrite (types : EdgeTypes) (log : List Entry) (id1 id2 : ℕ) (us : List EdgeUpdate) : Type 0 where
  pub ids : (u : EdgeUpdate) → IsIn u us → (u.0 ≡ id1) × (u.2 ≡ id2)
  pub news : (u : EdgeUpdate) → IsIn u us → is_news log u ≡ true
  pub own : (u : EdgeUpdate) → IsIn u us → (stamp_of u.3).shard ≡ shard_of u.0
  pub mates : PairsByRecursion IsMate us
  -- none is the other end of another
  pub single : (u w : EdgeUpdate) → IsIn u us → IsIn w us → id1 ≡ id2 → types.inverse u.1 ≡ Some w.1 → u ≡ w

abbrev pub near_ends : EdgeTypes → List EdgeUpdate → List EdgeUpdate
near_ends types us = filter (λ v. not (list_any (same_edge v) us)) (filter_map (λ u. when (is_near u) (other_end types u)) us)

-- the record whose near end it is
record IsNearEnd (types : EdgeTypes) (us : List EdgeUpdate) (v : EdgeUpdate) : Type 0 where
  of : EdgeUpdate
  is_in : IsIn of us
  other : IsOtherEnd types of v
  near : shard_of of.2 ≡ shard_of of.0
  alone : list_any (same_edge v) us ≡ false

near_end_of : (types : EdgeTypes) (us : List EdgeUpdate) (v : EdgeUpdate) → IsIn v (near_ends types us) → IsNearEnd types us v
near_end_of types us v h =
    let kept = in_filter_parts (λ x. not (list_any (same_edge x) us)) (filter_map (λ u. when (is_near u) (other_end types u)) us) v h in
    let made = in_filter_map_parts (λ u. when (is_near u) (other_end types u)) us v kept.0 in
    let some = when_some (is_near made.0) (other_end types made.0) v made.2 in
    record {
      of = made.0;
      is_in = made.1;
      other = other_end_is types made.0 v some.1;
      near = eqb-true (shard_of made.0.2) (shard_of made.0.0) some.0;
      alone = not-true (list_any (same_edge v) us) kept.1;
    }

-- where two edges have one record, it is as much later than one as than the other
same_news : (log : List Entry) (u v : EdgeUpdate) → v.3 ≡ u.3 → edge_record log v.0 v.1 v.2 ≡ edge_record log u.0 u.1 u.2 → is_news log v ≡ is_news log u
same_news log u v s e = λ i. is_later (s i) (e i)

pub same_edge-true : (u v : EdgeUpdate) → u.0 ≡ v.0 → u.1 ≡ v.1 → u.2 ≡ v.2 → same_edge u v ≡ true
same_edge-true u v a b c = and_from (u.0 == v.0 && u.1.0 == v.1.0) (u.2 == v.2)
    (and_from (u.0 == v.0) (u.1.0 == v.1.0) (eq-eqb u.0 v.0 a) (eq-eqb u.1.0 v.1.0 (ap (λ x. x.0) b))) (eq-eqb u.2 v.2 c)

pub same_edge-parts : (u v : EdgeUpdate) → same_edge u v ≡ true → (u.0 ≡ v.0) × (u.1 ≡ v.1) × (u.2 ≡ v.2)
same_edge-parts u v h =
    let outer = and_parts (u.0 == v.0 && u.1.0 == v.1.0) (u.2 == v.2) h in
    let inner = and_parts (u.0 == v.0) (u.1.0 == v.1.0) outer.0 in
    let number : u.1.0 ≡ v.1.0 = eqb-true u.1.0 v.1.0 inner.1 in
    (eqb-true u.0 v.0 inner.0, (λ i. record { 0 = number i }), eqb-true u.2 v.2 outer.1)

module _ (types : EdgeTypes) (shard : ℕ) (log : List Entry) (id1 id2 : ℕ) (us : List EdgeUpdate)
    (match : InversesMatch types) (sound : IsSoundOf types shard log) (here : shard_of id1 ≡ shard) (w : IsOneWrite types log id1 id2 us) where
  own_here : (u : EdgeUpdate) → IsIn u us → shard_of u.0 ≡ shard
  own_here u h = ap shard_of (w.ids u h).0 ∙ here

  near_here : (v : EdgeUpdate) → IsNearEnd types us v → shard_of v.0 ≡ shard
  near_here v n = ap shard_of n.other.id1 ∙ n.near ∙ own_here n.of n.is_in

  near_news : (v : EdgeUpdate) → IsNearEnd types us v → is_news log v ≡ true
  near_news v n =
      let u : EdgeUpdate = n.of in
      let there : edge_record log u.0 u.1 u.2 ≡ edge_record log u.2 v.1 u.0 = near_ends_are_paired shard log types match sound u.0 u.1 v.1 u.2 n.other.inverse
      (own_here u n.is_in) (n.near ∙ own_here u n.is_in) in
      let at : edge_record log v.0 v.1 v.2 ≡ edge_record log u.2 v.1 u.0 = λ i. edge_record log (n.other.id1 i) v.1 (n.other.id2 i) in
      same_news log u v n.other.state (at ∙ sym there) ∙ w.news u n.is_in

  near_own : (v : EdgeUpdate) → IsNearEnd types us v → (stamp_of v.3).shard ≡ shard_of v.0
  near_own v n = ap (λ s. (stamp_of s).shard) n.other.state ∙ w.own n.of n.is_in ∙ sym n.near ∙ ap shard_of (sym n.other.id1)

  own_apart : (u v : EdgeUpdate) → IsMate u v → AreApart u v
  own_apart u v m e = m.types (cc)

  near_apart : (x y : EdgeUpdate) (u v : EdgeUpdate) → IsMate x y → when (is_near x) (other_end types x) ≡ Some u
      → when (is_near y) (other_end types y) ≡ Some v → AreApart u v
  near_apart x y u v m h k e =
      let a = other_end_is types x u (when_some (is_near x) (other_end types x) u h).1 in
      let b = other_end_is types y v (when_some (is_near y) (other_end types y) v k).1 in
      let same : u.1 ≡ v.1 = cc in
      m.types (one_inverse types x.1 y.1 u.1 v.1 match a.inverse b.inverse same)

  near_mates : (x y : EdgeUpdate) (u v : EdgeUpdate) → IsMate x y → when (is_near x) (other_end types x) ≡ Some u
      → when (is_near y) (other_end types y) ≡ Some v → CutBefore u v
  near_mates x y u v m h k =
      other_mates types x y u v (other_end_is types x u (when_some (is_near x) (other_end types x) u h).1)
      (other_end_is types y v (when_some (is_near y) (other_end types y) v k).1) m.cut

  cross_apart : (u v : EdgeUpdate) → IsIn u us → IsNearEnd types us v → AreApart u v
  cross_apart u v h n e =
      let id1_is : u.0 ≡ v.0 = cc in
      let type_is : u.1 ≡ v.1 = cc in
      let id2_is : v.2 ≡ u.2 = n.other.id2 ∙ (w.ids n.of n.is_in).0 ∙ sym (w.ids u h).0 ∙ id1_is ∙ n.other.id1 ∙ (w.ids n.of n.is_in).1 ∙ sym (w.ids u h).1 in
      true≢false (sym (same_edge-true v u (sym id1_is) (sym type_is) id2_is) ∙ none_in (same_edge v) us u n.alone h)

  opposite_ids : (u v : EdgeUpdate) → IsIn u us → IsNearEnd types us v → (v.0 ≡ u.2) × (v.2 ≡ u.0)
  opposite_ids u v h n = (n.other.id1 ∙ (w.ids n.of n.is_in).1 ∙ sym (w.ids u h).1, n.other.id2 ∙ (w.ids n.of n.is_in).0 ∙ sym (w.ids u h).0)

  -- the other end of a record whose other end is near
  in_near : (u v : EdgeUpdate) → IsIn u us → shard_of u.2 ≡ shard → other_end types u ≡ Some v → list_any (same_edge v) us ≡ false → IsIn v (near_ends types us)
  in_near u v h near e alone =
      let test : is_near u ≡ true = eq-eqb (shard_of u.2) (shard_of u.0) (near ∙ sym (own_here u h)) in
      in_filter (λ x. not (list_any (same_edge x) us)) (filter_map (λ x. when (is_near x) (other_end types x)) us) v
      (in_filter_map (λ x. when (is_near x) (other_end types x)) us u v h (rw test e))
      (not_from_false (list_any (same_edge v) us) alone)

  -- a record that is written at the other end's edge is its own other end
  its_own : (u v : EdgeUpdate) → IsIn u us → other_end types u ≡ Some v → list_any (same_edge v) us ≡ true → IsIn v us
  its_own u v h e found =
      let x = in_any (same_edge v) us found in
      let same = same_edge-parts v x.0 x.2 in
      let other = other_end_is types u v e in
      let loop : id1 ≡ id2 = sym (w.ids x.0 x.1).0 ∙ sym same.0 ∙ other.id1 ∙ (w.ids u h).1 in
      let one : u ≡ x.0 = w.single u x.0 h x.1 loop (other.inverse ∙ ap Some same.1) in
      let state : x.0.3 ≡ v.3 = ap (λ y. y.3) (sym one) ∙ sym other.state in
      subst (λ y. IsIn y us) (update_same x.0 v (sym same.0) (sym same.1) (sym same.2) state) x.1

  own_both : (u : EdgeUpdate) → IsIn u us → shard_of u.2 ≡ shard → IfSome (other_end types u) (λ v. IsIn v (us ++ near_ends types us))
  own_both u h near = if_some (λ v. IsIn v (us ++ near_ends types us)) (other_end types u) (λ v e. elim (cases_Bool (list_any (same_edge v) us)) [
    | inl k ↦ in_append_left us (near_ends types us) v (its_own u v h e k)
    | inr k ↦ in_append_right us (near_ends types us) v (in_near u v h near e k)
  ])

  near_both : (v : EdgeUpdate) → IsNearEnd types us v → IfSome (other_end types v) (λ x. IsIn x (us ++ near_ends types us))
  near_both v n = if_some (λ x. IsIn x (us ++ near_ends types us)) (other_end types v) (λ x e.
      let there = other_end_is types v x e in
      let u : EdgeUpdate = n.of in
      let back : types.inverse v.1 ≡ Some u.1 = match u.1 v.1 n.other.inverse in
      let type_is : x.1 ≡ u.1 = same_Some x.1 u.1 (sym there.inverse ∙ back) in
      let same : u ≡ x = sym (update_same x u (there.id1 ∙ n.other.id2) type_is (there.id2 ∙ n.other.id1) (there.state ∙ n.other.state)) in
      subst (λ y. IsIn y (us ++ near_ends types us)) same (in_append_left us (near_ends types us) u n.is_in))

  -- a fact of the records of both ends
  of_both : (P : EdgeUpdate → Type 0) → ((u : EdgeUpdate) → IsIn u us → P u) → ((v : EdgeUpdate) → IsNearEnd types us v → P v) → (u : EdgeUpdate)
      → IsIn u (us ++ near_ends types us) → P u
  of_both P f g u h = elim (in_append_cases us (near_ends types us) u h) [ inl k ↦ f u k | inr k ↦ g u (near_end_of types us u k) ]

  pub both_written : (origin : Origin) → 0 < length us → AreWritten types shard log origin (us ++ near_ends types us)
  both_written origin some = record {
    first = us;
    second = near_ends types us;
    joined = refl;
    some = some;
    first_end = pairs_weaker IsMate CutBefore us (λ u v m. m.cut) w.mates;
    second_end = pairs_filter CutBefore (λ v. not (list_any (same_edge v) us)) (filter_map (λ u. when (is_near u) (other_end types u)) us)
        (pairs_filter_map IsMate CutBefore (λ u. when (is_near u) (other_end types u)) us near_mates w.mates);
    opposite = λ u v h k. opposite_ids u v h (near_end_of types us v k);
    apart = pairs_append AreApart us (near_ends types us) (pairs_weaker IsMate AreApart us own_apart w.mates)
        (pairs_filter AreApart (λ v. not (list_any (same_edge v) us)) (filter_map (λ u. when (is_near u) (other_end types u)) us)
        (pairs_filter_map IsMate AreApart (λ u. when (is_near u) (other_end types u)) us near_apart w.mates))
        (λ u v h k. cross_apart u v h (near_end_of types us v k));
    news = of_both (λ u. is_news log u ≡ true) w.news near_news;
    own = λ c. of_both (λ u. (stamp_of u.3).shard ≡ shard_of u.0) w.own near_own;
    here = of_both (λ u. shard_of u.0 ≡ shard) own_here near_here;
    both = of_both (λ u. shard_of u.2 ≡ shard → IfSome (other_end types u) (λ v. IsIn v (us ++ near_ends types us))) own_both (λ v n near. near_both v n);
  }
