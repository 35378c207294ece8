-- A member at its place among members that are in order, and found there.
use Rattle.std.proofs.Common.{◌≡◌, ◌∙◌, ℕ, zero, suc, ◌+◌, ◌<◌, ◌≤◌, List, [], ◌∷◌, ◌++◌, length, take, drop, set, get_or, Option, Some, Bor, Bool, true, false, cond}
use Rattle.std.proofs.Common.{Ordering, Less, Equal, Greater, nat_cmp, is_eq, bytes_eq, true≢false, refl, sym, subst, ap, arith}
use Rattle.std.proofs.lemmas.Map.Text.{is_eq-slice_cmp}
use Rattle.std.proofs.lemmas.Map.Lookups.{exact_bytes}
use Rattle.std.specs.Cmp.Lexicographic.{slice_cmp}
use Rattle.std.specs.Ordering.{match_ordering}
use Rattle.serde_json.specs.Data.{Data, member, put}
use Rattle.serde_json.specs.Find.{get_member}
use Rattle.json_fields.specs.Members.{members_before}
use Rattle.json_fields.specs.View.{view, members_view}
use Rattle.json_fields.specs.declared.value.Json.{Json}

abbrev pub Named : Type 0
Named = Bor (List ℕ) × Json

-- ---- putting

module _ (name : List ℕ) (d : Data) where
  -- a member is passed by where the name is above its own
  passed : (ms : List Named) (place : ℕ) (m : Named) → place < length ms → m ≡ get_or ms place m → slice_cmp nat_cmp name m.0.now ≡ Greater
      → members_before (take place ms) (put name d (members_view (drop place ms)))
      ≡ members_before (take (suc place) ms) (put name d (members_view (drop (suc place) ms)))
  passed [] place m within is above = absurd (omega arith)
  passed (x ∷ ms) zero m within is above = rw (ap (λ (n : Named). slice_cmp nat_cmp name n.0.now) (sym is) ∙ above) refl
  passed (x ∷ ms) (suc place) m within is above = ap (member x.0.now (view x.1)) (passed ms place m (omega arith) is above)

  pub passes : (ms : List Named) (place : ℕ) (m : Named) → place < length ms → m ≡ get_or ms place m → slice_cmp nat_cmp name m.0.now ≡ Greater
      → members_before (take place ms) (put name d (members_view (drop place ms)))
      ≡ members_before (take (place + 1) ms) (put name d (members_view (drop (place + 1) ms)))
  passes ms place m within is above =
      let next : suc place ≡ place + 1 = omega arith in
      passed ms place m within is above ∙ ap (λ n. members_before (take n ms) (put name d (members_view (drop n ms)))) next

  -- a member of that name gets the data
  pub meets : (ms : List Named) (place : ℕ) (m : Named) → place < length ms → m ≡ get_or ms place m → slice_cmp nat_cmp name m.0.now ≡ Equal
      → members_before (take place ms) (put name d (members_view (drop place ms)))
      ≡ members_before (take place ms) (member name d (members_view (drop (suc place) ms)))
  meets [] place m within is same = absurd (omega arith)
  meets (x ∷ ms) zero m within is same =
      let order : slice_cmp nat_cmp name x.0.now ≡ Equal = ap (λ (n : Named). slice_cmp nat_cmp name n.0.now) (sym is) ∙ same in
      rw order (ap (λ l. member l d (members_view ms)) (sym (exact_bytes name x.0.now order)))
  meets (x ∷ ms) (suc place) m within is same = ap (member x.0.now (view x.1)) (meets ms place m (omega arith) is same)

  -- before a member of a greater name there is a new one
  pub goes_before : (ms : List Named) (place : ℕ) (m : Named) → place < length ms → m ≡ get_or ms place m → slice_cmp nat_cmp name m.0.now ≡ Less
      → members_before (take place ms) (put name d (members_view (drop place ms)))
      ≡ members_before (take place ms) (member name d (members_view (drop place ms)))
  goes_before [] place m within is below = absurd (omega arith)
  goes_before (x ∷ ms) zero m within is below = rw (ap (λ (n : Named). slice_cmp nat_cmp name n.0.now) (sym is) ∙ below) refl
  goes_before (x ∷ ms) (suc place) m within is below = ap (member x.0.now (view x.1)) (goes_before ms place m (omega arith) is below)

  -- at the end there is a new one
  pub goes_last : (ms : List Named) (place : ℕ) → length ms ≤ place
      → members_before (take place ms) (put name d (members_view (drop place ms)))
      ≡ members_before (take place ms) (member name d (members_view (drop place ms)))
  goes_last [] zero within = refl
  goes_last [] (suc place) within = refl
  goes_last (x ∷ ms) zero within = absurd (omega arith)
  goes_last (x ∷ ms) (suc place) within = ap (member x.0.now (view x.1)) (goes_last ms place (omega arith))

view-set : (ms : List Named) (place : ℕ) (m : Named) → place < length ms
    → members_view (set ms place m) ≡ members_before (take place ms) (member m.0.now (view m.1) (members_view (drop (suc place) ms)))
view-set [] place m within = absurd (omega arith)
view-set (x ∷ ms) zero m within = refl
view-set (x ∷ ms) (suc place) m within = ap (member x.0.now (view x.1)) (view-set ms place m (omega arith))

view-append : (ms ns : List Named) → members_view (ms ++ ns) ≡ members_before ms (members_view ns)
view-append [] ns = refl
view-append (m ∷ ms) ns = ap (member m.0.now (view m.1)) (view-append ms ns)

pub set_is : (ms lent : List Named) (place : ℕ) (m : Named) → lent ≡ ms → place < length lent
    → put m.0.now (view m.1) (members_view lent) ≡ members_before (take place lent) (member m.0.now (view m.1) (members_view (drop (suc place) lent)))
    → members_view (set ms place m) ≡ put m.0.now (view m.1) (members_view ms)
set_is ms lent place m same within found =
    subst (λ (all : List Named). members_view (set all place m) ≡ put m.0.now (view m.1) (members_view all)) same
    (view-set lent place m within ∙ sym found)

pub insert_is : (ms lent after : List Named) (place : ℕ) (m : Named) → lent ≡ ms → after ≡ take place ms ++ m ∷ drop place ms
    → put m.0.now (view m.1) (members_view lent) ≡ members_before (take place lent) (member m.0.now (view m.1) (members_view (drop place lent)))
    → members_view after ≡ put m.0.now (view m.1) (members_view ms)
insert_is ms lent after place m same inserted found =
    ap members_view inserted ∙ view-append (take place ms) (m ∷ drop place ms)
    ∙ subst (λ (all : List Named). members_before (take place all) (member m.0.now (view m.1) (members_view (drop place all)))
    ≡ put m.0.now (view m.1) (members_view all)) same (sym found)

-- ---- finding

by_order : (order : Ordering) (same : Bool) (e : Data) (later : Option Data) → same ≡ is_eq order
    → cond same (Some e) later ≡ match_ordering order later (Some e) later
by_order Less true e later tells = absurd (true≢false tells)
by_order Less false e later tells = refl
by_order Equal true e later tells = refl
by_order Equal false e later tells = absurd (true≢false (sym tells))
by_order Greater true e later tells = absurd (true≢false tells)
by_order Greater false e later tells = refl

-- the member is found where the name is its own, and else among those after it
pub found_at : (name : List ℕ) (same : Bool) (m : Named) (rest entries : List Named) → entries ≡ m ∷ rest → same ≡ bytes_eq name m.0.now
    → cond same (Some (view m.1)) (get_member name (members_view rest)) ≡ get_member name (members_view entries)
found_at name same m rest entries is tells =
    by_order (slice_cmp nat_cmp name m.0.now) same (view m.1) (get_member name (members_view rest)) (tells ∙ sym (is_eq-slice_cmp name m.0.now))
    ∙ ap (λ ms. get_member name (members_view ms)) (sym is)
