-- The join of records is the latest of them, in whatever order they are joined.
use Rattle.std.proofs.Common.{◌≡◌, ◌⊎◌, Bool, true, false, cond, List, [], ◌∷◌, ◌++◌, inl, inr, refl, sym, ap, ◌∙◌, subst, arith}
use Rattle.std.proofs.lemmas.Bool.Decides.{nat_tests}
use Rattle.std.proofs.lemmas.Option.{same_Some}
use Rattle.std.specs.Prelude.{Option, Some, None, option_to_list}
use Rattle.tao_base.specs.Stamps.{stamp_of, is_earlier}
use Rattle.tao_base.specs.declared.edge.EdgeState.{EdgeState}
use Rattle.tao_base.specs.declared.edge.Stamp.{Stamp}
use Rattle.graph_model.proofs.Joins.{same_stamp, not_earlier_trans}
use Rattle.graph_model.proofs.Members.{IsIn, in_append_cases, in_append_left, in_append_right}
use Rattle.write_model.specs.MergeLaws.{join_all}
use Rattle.graph_model.specs.Records.{Agree, later_of}
use Rattle.graph_model.proofs.Rising.{never_before_itself}

-- one of the records, and none is later
record IsLatest (states : List EdgeState) (s : EdgeState) : Type 0 where
  one : IsIn s states
  latest : (x : EdgeState) → IsIn x states → is_earlier (stamp_of s) (stamp_of x) ≡ false

-- two records and their join
later_is : (old new : EdgeState) → ((later_of old new ≡ old) ⊎ (later_of old new ≡ new))
    × (is_earlier (stamp_of (later_of old new)) (stamp_of old) ≡ false) × (is_earlier (stamp_of (later_of old new)) (stamp_of new) ≡ false)
later_is old new = by_test (is_earlier (stamp_of old) (stamp_of new)) refl
  where
    by_test : (b : Bool) → is_earlier (stamp_of old) (stamp_of new) ≡ b → ((cond b new old ≡ old) ⊎ (cond b new old ≡ new))
        × (is_earlier (stamp_of (cond b new old)) (stamp_of old) ≡ false) × (is_earlier (stamp_of (cond b new old)) (stamp_of new) ≡ false)
    by_test true e = (inr refl, turned (stamp_of old) (stamp_of new) e, never_before_itself (stamp_of new))
      where
        turned : (x y : Stamp) → is_earlier x y ≡ true → is_earlier y x ≡ false
        turned x y h = grind (arith, nat_tests)
    by_test false e = (inl refl, never_before_itself (stamp_of old), e)

-- the latest of the join of two and of more is that of all
latest_more : (old new s : EdgeState) (states : List EdgeState) → IsLatest (later_of old new ∷ states) s → IsLatest (old ∷ new ∷ states) s
latest_more old new s states l =
    let joined = later_is old new in
    let over : is_earlier (stamp_of s) (stamp_of (later_of old new)) ≡ false = l.latest (later_of old new) (inl refl) in
    record {
      one = elim l.one [ inl e ↦ elim joined.0 [ inl k ↦ inl (sym k ∙ e) | inr k ↦ inr (inl (sym k ∙ e)) ] | inr h ↦ inr (inr h) ];
      latest = λ x h. elim h [
        | inl e ↦ subst (λ y. is_earlier (stamp_of s) (stamp_of y) ≡ false) e
            (not_earlier_trans (stamp_of s) (stamp_of (later_of old new)) (stamp_of old) over joined.1)
        | inr more ↦ elim more [
          | inl e ↦ subst (λ y. is_earlier (stamp_of s) (stamp_of y) ≡ false) e
              (not_earlier_trans (stamp_of s) (stamp_of (later_of old new)) (stamp_of new) over joined.2)
          | inr k ↦ l.latest x (inr k)
        ]
      ];
    }

joined_latest : (old : EdgeState) (states : List EdgeState) → (s : EdgeState) × (join_all (Some old) states ≡ Some s) × IsLatest (old ∷ states) s
joined_latest old [] = (
  old,
  refl,
  record {
    one = inl refl;
    latest = λ x h. elim h [ inl e ↦ subst (λ y. is_earlier (stamp_of old) (stamp_of y) ≡ false) e (never_before_itself (stamp_of old)) | inr k ↦ absurd k ];
  },
)
joined_latest old (new ∷ states) = let r = joined_latest (later_of old new) states in (r.0, r.1, latest_more old new r.0 states r.2)

-- the join of a record with others is the latest of all, or nothing where there are none
pub record IsJoin (states : List EdgeState) (found : Option EdgeState) : Type 0 where
  none : found ≡ None → states ≡ []
  some : (s : EdgeState) → found ≡ Some s → IsLatest states s

join_is_latest : (found : Option EdgeState) (states : List EdgeState) → IsJoin (option_to_list found ++ states) (join_all found states)
join_is_latest None [] = record { none = λ h. refl; some = λ s h. absurd (cc) }
join_is_latest None (new ∷ states) = let r = joined_latest new states in
    record {
      none = λ h. absurd (let e : None ≡ Some r.0 = sym h ∙ r.1 in cc);
      some = λ s h. subst (IsLatest (new ∷ states)) (same_Some r.0 s (sym r.1 ∙ h)) r.2;
    }
join_is_latest (Some old) states = let r = joined_latest old states in
    record {
      none = λ h. absurd (let e : None ≡ Some r.0 = sym h ∙ r.1 in cc);
      some = λ s h. subst (IsLatest (old ∷ states)) (same_Some r.0 s (sym r.1 ∙ h)) r.2;
    }

-- two joins of the same records are one
same_join : (xs ys : List EdgeState) (o p : Option EdgeState) → IsJoin xs o → IsJoin ys p → ((s : EdgeState) → IsIn s xs → IsIn s ys)
    → ((s : EdgeState) → IsIn s ys → IsIn s xs)
    → ((x y : EdgeState) → IsIn x xs → IsIn y xs → Agree x y) → o ≡ p
same_join xs ys None None a b f g agree = refl
same_join xs ys None (Some t) a b f g agree = absurd (subst (IsIn t) (a.none refl) (g t (b.some t refl).one))
same_join xs ys (Some s) None a b f g agree = absurd (subst (IsIn s) (b.none refl) (f s (a.some s refl).one))
same_join xs ys (Some s) (Some t) a b f g agree =
    let first = a.some s refl in
    let second = b.some t refl in
    ap Some (agree s t first.one (g t second.one) (same_stamp (stamp_of s) (stamp_of t) (first.latest t (g t second.one)) (second.latest s (f s first.one))))

-- joining the same records in another order gives the same record
pub any_order : (found : Option EdgeState) (xs ys : List EdgeState) → ((s : EdgeState) → IsIn s xs → IsIn s ys) → ((s : EdgeState) → IsIn s ys → IsIn s xs)
    → ((x y : EdgeState) → IsIn x (option_to_list found ++ xs) → IsIn y (option_to_list found ++ xs) → Agree x y) → join_all found xs ≡ join_all found ys
any_order found xs ys f g agree =
    same_join (option_to_list found ++ xs) (option_to_list found ++ ys) (join_all found xs) (join_all found ys) (join_is_latest found xs)
    (join_is_latest found ys)
    (λ s h. among found xs ys f s h) (λ s h. among found ys xs g s h) agree
  where
    among : (o : Option EdgeState) (states others : List EdgeState) → ((s : EdgeState) → IsIn s states → IsIn s others) → (s : EdgeState)
        → IsIn s (option_to_list o ++ states) → IsIn s (option_to_list o ++ others)
    among o states others k s h = elim (in_append_cases (option_to_list o) states s h)
        [ inl j ↦ in_append_left (option_to_list o) others s j | inr j ↦ in_append_right (option_to_list o) others s (k s j) ]
