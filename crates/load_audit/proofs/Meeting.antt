-- Records that are met, from the last to the first.
use Rattle.std.proofs.Common.{◌≡◌, ◌∙◌, ℕ, ◌+◌, ◌<◌, ◌≤◌, ◌==◌, Bool, true, false, List, [], ◌∷◌, ◌++◌, append_assoc, append-nil, ap, subst, sym, refl, arith, get_or, length, take, ◌-◌}
use Rattle.std.proofs.lemmas.Bool.Decides.{nat_tests}
use Rattle.std.proofs.lemmas.List.{take_all, take_more}
use Rattle.std.proofs.lemmas.List.Sums.{sum_by-cons}
use Rattle.std.specs.HashSet.{contains}
use Rattle.std.specs.List.{cons_option, list_any}
use Rattle.std.specs.Prelude.{◌&&◌, ◌||◌, cond, not, count_by, filter_map, if◌then◌else◌, Option, Some, None, option_map}
use Rattle.graph_model.specs.Soundness.{EdgeUpdate, update_at}
use Rattle.tao_base.specs.declared.entry.Touch.{Touch}
use Rattle.write_model.specs.Writes.{same_edge}
use Rattle.load_audit.specs.Counting.{HasMet, MeetsMore}
use Rattle.load_audit.specs.LiveEdges.{is_live, last_records, live_among}
use Rattle.load_audit.specs.Logged.{logged_edge, record_at, same_logged}
use Rattle.load_audit.specs.declared.live.LiveCount.{LiveCount}
use Rattle.load_audit.specs.declared.logged.LoggedEdge.{LoggedEdge}

-- ---- edges

eqb_swap : (x y : ℕ) → (x == y) ≡ (y == x)
eqb_swap x y = grind (arith, nat_tests)

and_assoc : (a b c : Bool) → (a && (b && c)) ≡ ((a && b) && c)
and_assoc true b c = refl
and_assoc false b c = refl

-- edges of records are one where the records are of one edge
same_in_log : (u v : EdgeUpdate) → same_logged (logged_edge u) (logged_edge v) ≡ same_edge v u
same_in_log u v =
    and_assoc (u.0 == v.0) (u.1.0 == v.1.0) (u.2 == v.2)
    ∙ ap (λ b. b && u.1.0 == v.1.0 && u.2 == v.2) (eqb_swap u.0 v.0)
    ∙ ap (λ b. v.0 == u.0 && b && u.2 == v.2) (eqb_swap u.1.0 v.1.0)
    ∙ ap (λ b. v.0 == u.0 && v.1.0 == u.1.0 && b) (eqb_swap u.2 v.2)

-- ---- records

-- an edge was taken among those that were met: whether that was the first time, and how many live ones there are then
pub record Meets (edge : LoggedEdge) (is_live is_first : Bool) (old new : LiveCount) : Type 0 where
  pub first : is_first ≡ not (contains same_logged old.met edge)
  pub after : (other : LoggedEdge) → contains same_logged new.met other ≡ (if same_logged edge other then true else contains same_logged old.met other)
  pub live : new.live ≡ old.live + (if is_first && is_live then 1 else 0)

-- one more record comes before the last ones: it is itself a last one, unless there is a later one of its edge
adds_one : (known : Bool) (u : EdgeUpdate) (rest : List EdgeUpdate) (first : Bool) → first ≡ not known
    → count_by (λ (v : EdgeUpdate). is_live v.3) (if known then rest else (u ∷ rest))
    ≡ count_by (λ (v : EdgeUpdate). is_live v.3) rest + (if first && is_live u.3 then 1 else 0)
adds_one true u rest first is = rw is (omega arith)
adds_one false u rest first is = rw is (sum_by-cons (λ (v : EdgeUpdate). cond (is_live v.3) 1 0) u rest ∙ omega arith)

or_is : (a b : Bool) → (if a then true else b) ≡ (a || b)
or_is true b = refl
or_is false b = refl

module _ (u : EdgeUpdate) (is_first : Bool) (old new : LiveCount) (m : Meets (logged_edge u) (is_live u.3) is_first old new) (later : List EdgeUpdate)
    (h : HasMet later old) where
  counted : new.live ≡ live_among (u ∷ later)
  counted =
      let one = adds_one (list_any (same_edge u) later) u (last_records later) is_first (m.first ∙ ap not (h.met_are u)) in
      omega (arith, one, m.live, h.live_is)

  met : (v : EdgeUpdate) → contains same_logged new.met (logged_edge v) ≡ list_any (same_edge v) (u ∷ later)
  met v =
      m.after (logged_edge v)
      ∙ ap (λ b. if b then true else contains same_logged old.met (logged_edge v)) (same_in_log u v)
      ∙ ap (λ b. if same_edge v u then true else b) (h.met_are v)
      ∙ or_is (same_edge v u) (list_any (same_edge v) later)

  met_one : HasMet (u ∷ later) new
  met_one = record { live_is = counted; met_are = met }

same_some : {X : Type 0} (x y : X) → Some x ≡ Some y → x ≡ y
same_some x y is = cc

-- a touch that writes a record, and one that writes none
pub touch_met : (touch : Touch) (edge : LoggedEdge) (live is_first : Bool) (old new : LiveCount) → record_at touch ≡ Some (edge, live)
    → Meets edge live is_first old new → MeetsMore (filter_map (λ (t : Touch). update_at t.key t.change) (touch ∷ [])) old new
touch_met touch edge live is_first old new is m = by (update_at touch.key touch.change) is
  where
    by : (found : Option EdgeUpdate) → option_map (λ (u : EdgeUpdate). let met : LoggedEdge × Bool = (logged_edge u, is_live u.3) in met) found ≡ Some (edge, live)
        → MeetsMore (cons_option found []) old new
    by None none = absurd (cc)
    by (Some u) same = λ later h.
        let first : LoggedEdge × Bool = (logged_edge u, is_live u.3) in
        let second : LoggedEdge × Bool = (edge, live) in
        let pair : first ≡ second = same_some first second same in
        let same_edge_is : logged_edge u ≡ edge = ap (λ (p : LoggedEdge × Bool). p.0) pair in
        let same_live : is_live u.3 ≡ live = ap (λ (p : LoggedEdge × Bool). p.1) pair in
        met_one u is_first old new
        (subst (λ e. Meets e (is_live u.3) is_first old new) (sym same_edge_is) (subst (λ b. Meets edge b is_first old new) (sym same_live) m)) later h

pub none_met : (touch : Touch) (count : LiveCount) → record_at touch ≡ None
    → MeetsMore (filter_map (λ (t : Touch). update_at t.key t.change) (touch ∷ [])) count count
none_met touch count is = by (update_at touch.key touch.change) is
  where
    by : (found : Option EdgeUpdate) → option_map (λ (u : EdgeUpdate). let met : LoggedEdge × Bool = (logged_edge u, is_live u.3) in met) found ≡ None
        → MeetsMore (cons_option found []) count count
    by None none = λ later h. h
    by (Some u) same = absurd (cc)

-- records that are met before those that were
pub meets_then : (earlier later : List EdgeUpdate) (old mid new : LiveCount) → MeetsMore later old mid → MeetsMore earlier mid new
    → MeetsMore (earlier ++ later) old new
meets_then earlier later old mid new first second rest h =
    subst (λ records. HasMet records new) (sym (append_assoc earlier later rest)) (second (later ++ rest) (first rest h))

-- all records were met
pub met_all : (records : List EdgeUpdate) (old new : LiveCount) → HasMet [] old → MeetsMore records old new → HasMet records new
met_all records old new none meets = subst (λ (rs : List EdgeUpdate). HasMet rs new) (append-nil records) (meets [] none)

-- a record comes before those of later touches
pub one_before : (touch : Touch) (later : List Touch) → filter_map (λ (t : Touch). update_at t.key t.change) (touch ∷ [])
    ++ filter_map (λ (t : Touch). update_at t.key t.change) later ≡ filter_map (λ (t : Touch). update_at t.key t.change) (touch ∷ later)
one_before touch later = by (update_at touch.key touch.change)
  where
    by : (found : Option EdgeUpdate) → cons_option found [] ++ filter_map (λ (t : Touch). update_at t.key t.change) later
        ≡ cons_option found (filter_map (λ (t : Touch). update_at t.key t.change) later)
    by None = refl
    by (Some u) = refl

-- ---- the records of a list, from its end

-- some last elements of a list were gone past, and the records that they write were met
pub record MetFrom {X : Type 0} (written : List X → List EdgeUpdate) (all left : List X) (start now : LiveCount) : Type 0 where
  pub rest : List X
  pub split : all ≡ left ++ rest
  pub met : MeetsMore (written rest) start now

pub none_yet : {X : Type 0} (written : List X → List EdgeUpdate) (all : List X) (count : LiveCount) → written [] ≡ []
    → MetFrom written all all count count
none_yet written all count none = record {
  rest = [];
  split = sym (append-nil all);
  met = λ later h. subst (λ (us : List EdgeUpdate). HasMet (us ++ later) count) (sym none) h;
}

pub one_more : {X : Type 0} (one : X → List EdgeUpdate) (written : List X → List EdgeUpdate) → ((x : X) (xs : List X) → one x ++ written xs ≡ written (x ∷ xs))
    → (all left before : List X) (x : X) (start mid new : LiveCount) → left ≡ before ++ x ∷ [] → MetFrom written all left start mid → MeetsMore (one x) mid new
    → MetFrom written all before start new
one_more one written step all left before x start mid new is so_far meets = record {
  rest = x ∷ so_far.rest;
  split = so_far.split ∙ ap (λ xs. xs ++ so_far.rest) is ∙ append_assoc before (x ∷ []) so_far.rest;
  met = subst (λ us. MeetsMore us start new) (step x so_far.rest) (meets_then (one x) (written so_far.rest) start mid new so_far.met meets);
}

pub all_of : {X : Type 0} (written : List X → List EdgeUpdate) (all left : List X) (start now : LiveCount) → left ≡ []
    → MetFrom written all left start now → MeetsMore (written all) start now
all_of written all left start now none so_far =
    subst (λ xs. MeetsMore (written xs) start now) (sym (so_far.split ∙ ap (λ xs. xs ++ so_far.rest) none)) so_far.met

-- ---- a list's last element

-- what stands before the last element, and that one
pub last_split : {X : Type 0} (xs : List X) (x : X) → 1 ≤ length xs → x ≡ get_or xs (length xs - 1) x → xs ≡ take (length xs - 1) xs ++ x ∷ []
last_split xs x some is =
    let whole : length xs ≡ (length xs - 1) + 1 = omega arith in
    sym (take_all (length xs) xs (omega arith)) ∙ ap (λ n. take n xs) whole ∙ take_more xs (length xs - 1) x (omega arith)
    ∙ ap (λ y. take (length xs - 1) xs ++ y ∷ []) (sym is)

pub none_left : {X : Type 0} (xs : List X) → length xs < 1 → xs ≡ []
none_left [] few = refl
none_left (x ∷ xs) few = absurd (omega arith)
