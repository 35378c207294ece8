-- Edges by their places, with one more or one less.
use Rattle.std.proofs.Common.{◌≡◌, ◌≢◌, ◌∙◌, ℕ, true, false, List, [], ◌∷◌, refl, sym, ap, inl, inr, arith, Option}
use Rattle.std.proofs.lemmas.Bool.{cases_Bool}
use Rattle.std.proofs.lemmas.Bool.Decides.{nat_tests}
use Rattle.std.specs.Prelude.{◌==◌, option_to_list}
use Rattle.std.specs.BTreeMap.{BTreeMap, insert_entry, is_at, values}
use Rattle.std.specs.Map.{lookup, remove_entry, values_of}
use Rattle.std.specs.Ordering.{is_eq}
use Rattle.std.specs.declared.cmp.Ordering.TheVariants.{Less, Greater}
use Rattle.tao_base.specs.declared.edge.Edge.{Edge}
use Rattle.graph_model.proofs.Lists.{apart-eqb, eqb-apart, eqb-same, without_same}
use Rattle.graph_model.specs.Edges.{Without, edges_to, insert_edge, is_newer, without_edge}
use Rattle.list_index.specs.OrderKeys.{order_key_of, order_cmp}
use Rattle.list_index.specs.AtKeys.{AreAtKeys, at_keys, times_to}
use Rattle.list_index.specs.declared.order_key.OrderKey.{OrderKey}

pub values_at_keys : (xs : List Edge) → values_of (at_keys xs) ≡ xs
values_at_keys [] = refl
values_at_keys (x ∷ xs) = ap (λ ys. x ∷ ys) (values_at_keys xs)

-- what stands at the places of edges holds them at their places
pub at_keys_again : (m : BTreeMap OrderKey Edge) (xs : List Edge) → m.entries ≡ at_keys xs → AreAtKeys m
at_keys_again m xs is = is ∙ ap at_keys (sym (ap values_of is ∙ values_at_keys xs))

pub at_keys_values : (m : BTreeMap OrderKey Edge) (xs : List Edge) → m.entries ≡ at_keys xs → values m ≡ xs
at_keys_values m xs is = ap values_of is ∙ values_at_keys xs

-- the order of places is that of edges
newer_first : (e x : Edge) → is_newer e x ≡ true → order_cmp (order_key_of e) (order_key_of x) ≡ Less
newer_first e x h = grind (arith, nat_tests)

older_last : (e x : Edge) → x.id2 ≢ e.id2 → is_newer e x ≡ false → order_cmp (order_key_of e) (order_key_of x) ≡ Greater
older_last e x apart h = grind (arith, nat_tests)

-- one more
pub insert_at_keys : (e : Edge) (xs : List Edge) → Without e.id2 xs → insert_entry order_cmp (at_keys xs) (order_key_of e) e ≡ at_keys (insert_edge e xs)
insert_at_keys e [] away = refl
insert_at_keys e (x ∷ xs) away = elim (cases_Bool (is_newer e x)) [
  | inl h ↦ rw (h, newer_first e x h) refl
  | inr h ↦ rw (h, older_last e x away.0 h) (ap (λ ys. (order_key_of x, x) ∷ ys) (insert_at_keys e xs away.1))
]

-- no times, no edges
pub no_times : (id2 : ℕ) (xs : List Edge) → times_to id2 xs ≡ [] → Without id2 xs
no_times id2 [] h = tt
no_times id2 (x ∷ xs) h = elim (cases_Bool (x.id2 == id2)) [
  | inl k ↦ (let e : x.time ∷ times_to id2 xs ≡ [] = rw k at h in absurd (cc))
  | inr k ↦ (eqb-apart x.id2 id2 k, no_times id2 xs (rw k at h))
]

at_place : (time id2 : ℕ) (x : Edge) → x.id2 ≡ id2 → x.time ≡ time
    → is_eq (order_cmp (record { time = record { 0 = time }; id2 = record { 0 = id2 } }) (order_key_of x)) ≡ true
at_place time id2 x is at = grind (arith, nat_tests)

not_at : (time id2 : ℕ) (x : Edge) → (x.id2 == id2) ≡ false
    → is_eq (order_cmp (record { time = record { 0 = time }; id2 = record { 0 = id2 } }) (order_key_of x)) ≡ false
not_at time id2 x apart = grind (arith, nat_tests)

-- one less
pub remove_at_keys : (time id2 : ℕ) (xs : List Edge) → times_to id2 xs ≡ time ∷ []
    → remove_entry (is_at (order_cmp (record { time = record { 0 = time }; id2 = record { 0 = id2 } }))) (at_keys xs) ≡ at_keys (without_edge id2 xs)
remove_at_keys time id2 [] h = absurd (cc)
remove_at_keys time id2 (x ∷ xs) h = elim (cases_Bool (x.id2 == id2)) [
  | inl k ↦ (
      let e : x.time ∷ times_to id2 xs ≡ time ∷ [] = rw k at h in
      let at : x.time ≡ time = cc in
      let rest : times_to id2 xs ≡ [] = cc in
      rw (at_place time id2 x (eqb-same x.id2 id2 k) at, k) (ap at_keys (sym (without_same id2 xs (no_times id2 xs rest)))))
  | inr k ↦ rw (not_at time id2 x k, k) (ap (λ ys. (order_key_of x, x) ∷ ys) (remove_at_keys time id2 xs (rw k at h)))
]

-- where nothing goes to the id, none is among the edges to it
pub none_to : (id2 : ℕ) (xs : List Edge) → Without id2 xs → edges_to id2 xs ≡ []
none_to id2 [] h = refl
none_to id2 (x ∷ xs) h = rw (apart-eqb x.id2 id2 h.0) (none_to id2 xs h.1)

pub found_at_keys : (time id2 : ℕ) (xs : List Edge) → times_to id2 xs ≡ time ∷ []
    → option_to_list (lookup (is_at (order_cmp (record { time = record { 0 = time }; id2 = record { 0 = id2 } }))) (at_keys xs)) ≡ edges_to id2 xs
found_at_keys time id2 [] h = absurd (cc)
found_at_keys time id2 (x ∷ xs) h = elim (cases_Bool (x.id2 == id2)) [
  | inl k ↦ (
      let e : x.time ∷ times_to id2 xs ≡ time ∷ [] = rw k at h in
      let at : x.time ≡ time = cc in
      let rest : times_to id2 xs ≡ [] = cc in
      rw (at_place time id2 x (eqb-same x.id2 id2 k) at, k) (ap (λ ys. x ∷ ys) (sym (none_to id2 xs (no_times id2 xs rest)))))
  | inr k ↦ rw (not_at time id2 x k, k) (found_at_keys time id2 xs (rw k at h))
]

-- the map after a change
pub put_at_keys : (m n : BTreeMap OrderKey Edge) (e : Edge) (k : OrderKey) → AreAtKeys m → k ≡ order_key_of e → Without e.id2 (values m)
    → n.entries ≡ insert_entry order_cmp m.entries k e → n.entries ≡ at_keys (insert_edge e (values m))
put_at_keys m n e k held is away step =
    step ∙ ap (λ at. insert_entry order_cmp m.entries at e) is ∙ ap (λ es. insert_entry order_cmp es (order_key_of e) e) held ∙ insert_at_keys e (values m) away

pub taken_at_keys : (m n : BTreeMap OrderKey Edge) (time id2 : ℕ) (k : OrderKey) → AreAtKeys m → k.time.0 ≡ time → k.id2.0 ≡ id2
    → times_to id2 (values m) ≡ time ∷ []
    → n.entries ≡ remove_entry (is_at (order_cmp k)) m.entries → n.entries ≡ at_keys (without_edge id2 (values m))
taken_at_keys m n time id2 k held at to h step =
    step ∙ (λ i. remove_entry (is_at (order_cmp (record { time = record { 0 = at i }; id2 = record { 0 = to i } }))) (held i))
    ∙ remove_at_keys time id2 (values m) h

pub got_at_keys : (m : BTreeMap OrderKey Edge) (time id2 : ℕ) (k : OrderKey) (found : Option Edge) → AreAtKeys m → k.time.0 ≡ time → k.id2.0 ≡ id2
    → times_to id2 (values m) ≡ time ∷ []
    → found ≡ lookup (is_at (order_cmp k)) m.entries → option_to_list found ≡ edges_to id2 (values m)
got_at_keys m time id2 k found held at to h is =
    ap option_to_list is
    ∙ (λ i. option_to_list (lookup (is_at (order_cmp (record { time = record { 0 = at i }; id2 = record { 0 = to i } }))) (held i)))
    ∙ found_at_keys time id2 (values m) h
