-- Pairs put in the order of their keys.
use Rattle.std.proofs.Common.{◌≡◌, ℕ, ◌≤◌, List, [], ◌∷◌, ◌++◌, length, false, cond, Option, Some, None, map, filter, fold, String, string_bytes}
use Rattle.std.proofs.Common.{refl, sym, ◌∙◌, ap, subst, inl, inr, arith}
use Rattle.std.specs.List.{last_or}
use Rattle.std.specs.Str.{bytes_eq}
use Rattle.std.specs.Cmp.Lexicographic.{slice_cmp}
use Rattle.std.specs.FinMap.{nat_cmp-IsAntisymmetric, slice_cmp-IsAntisymmetric}
use Rattle.std.specs.Ordering.{nat_cmp, match_ordering, ordering_reverse}
use Rattle.std.specs.String.{string_cmp}
use Rattle.std.specs.BTreeMap.{insert_entry}
use Rattle.std.specs.declared.alloc.Global.{Global}
use Rattle.std.specs.declared.cmp.Ordering.{Ordering}
use Rattle.std.specs.declared.cmp.Ordering.TheVariants.{Less, Equal, Greater}
use Rattle.std.proofs.lemmas.Bool.{cases_Bool}
use Rattle.std.proofs.lemmas.Grind.{fold-append}
use Rattle.std.proofs.lemmas.List.{map-append}
use Rattle.std.proofs.lemmas.Cmp.{nat_list_cmp_total}
use Rattle.std.proofs.lemmas.Slice.Eq.{bytes_eq-Decides}
use Rattle.tao_base.specs.Data.{KeysAscend, IsData, IsInKeyOrder, data_bytes, in_order, last_value, pair_of, put_pair}
use Rattle.tao_base.specs.declared.data.Pair.{Pair}

abbrev key_cmp : List ℕ → List ℕ → Ordering
key_cmp x y = slice_cmp nat_cmp x y

equal_keys : (x y : List ℕ) → key_cmp x y ≡ Equal → x ≡ y
equal_keys x y e = slice_cmp-IsAntisymmetric nat_cmp-IsAntisymmetric x y e

greater_keys : (x y : List ℕ) → key_cmp x y ≡ Greater → key_cmp y x ≡ Less
greater_keys x y e = nat_list_cmp_total.antisymm y x ∙ ap ordering_reverse e

-- an entry of a map goes where its pair goes
inserted_by : (o : Ordering) (k v : String Global) (e : String Global × String Global) (es : List (String Global × String Global))
    → key_cmp (string_bytes k) (string_bytes e.0) ≡ o
    → map pair_of (insert_entry string_cmp es k v) ≡ put_pair (pair_of (k, v)) (map pair_of es)
    → map pair_of (match_ordering o ((k, v) ∷ e ∷ es) ((e.0, v) ∷ es) (e ∷ insert_entry string_cmp es k v))
    ≡ match_ordering o (pair_of (k, v) ∷ pair_of e ∷ map pair_of es) (pair_of (k, v) ∷ map pair_of es) (pair_of e ∷ put_pair (pair_of (k, v)) (map pair_of es))
inserted_by Less k v e es is more = refl
inserted_by Equal k v e es is more = rw (equal_keys (string_bytes k) (string_bytes e.0) is) refl
inserted_by Greater k v e es is more = ap (λ ps. pair_of e ∷ ps) more

inserted : (es : List (String Global × String Global)) (k v : String Global) → map pair_of (insert_entry string_cmp es k v) ≡ put_pair (pair_of (k, v))
    (map pair_of es)
inserted [] k v = refl
inserted (e ∷ es) k v = inserted_by (key_cmp (string_bytes k) (string_bytes e.0)) k v e es refl (inserted es k v)

-- the map after one more pair
pub map_has_more : (old new : List (String Global × String Global)) (done : List (String Global × String Global)) (k v : String Global)
    → map pair_of old ≡ in_order (map pair_of done) → new ≡ insert_entry string_cmp old k v → map pair_of new ≡ in_order (map pair_of (done ++ (k, v) ∷ []))
map_has_more old new done k v has step =
    rw (step, inserted old k v, has, map-append pair_of done ((k, v) ∷ []), fold-append (λ made p. put_pair p made) [] (map pair_of done) (pair_of (k, v) ∷ []))
    refl

-- each key is above the given one
abbrev AreAbove : List ℕ → List Pair → Type 0
AreAbove key [] = Unit {0}
AreAbove key (q ∷ qs) = key_cmp key q.key ≡ Less

ascending_from : (p : Pair) (qs : List Pair) → AreAbove p.key qs → KeysAscend qs → KeysAscend (p ∷ qs)
ascending_from p [] above up = tt
ascending_from p (q ∷ qs) above up = (above, up)

rest_ascends : (q : Pair) (qs : List Pair) → KeysAscend (q ∷ qs) → KeysAscend qs
rest_ascends q [] up = tt
rest_ascends q (r ∷ qs) up = up.1

rest_above : (q : Pair) (qs : List Pair) → KeysAscend (q ∷ qs) → AreAbove q.key qs
rest_above q [] up = tt
rest_above q (r ∷ qs) up = up.0

above_by : (key : List ℕ) (o : Ordering) (p q : Pair) (qs : List Pair) → key_cmp p.key q.key ≡ o → key_cmp key p.key ≡ Less → key_cmp key q.key ≡ Less
    → AreAbove key (match_ordering o (p ∷ q ∷ qs) (p ∷ qs) (q ∷ put_pair p qs))
above_by key Less p q qs is lt above = lt
above_by key Equal p q qs is lt above = lt
above_by key Greater p q qs is lt above = above

put_above : (key : List ℕ) (p : Pair) (qs : List Pair) → key_cmp key p.key ≡ Less → AreAbove key qs → AreAbove key (put_pair p qs)
put_above key p [] lt above = lt
put_above key p (q ∷ qs) lt above = above_by key (key_cmp p.key q.key) p q qs refl lt above

put_ascends_by : (o : Ordering) (p q : Pair) (qs : List Pair) → key_cmp p.key q.key ≡ o → KeysAscend (q ∷ qs) → KeysAscend (put_pair p qs)
    → KeysAscend (match_ordering o (p ∷ q ∷ qs) (p ∷ qs) (q ∷ put_pair p qs))
put_ascends_by Less p q qs is up more = (is, up)
put_ascends_by Equal p q qs is up more =
    let same : q.key ≡ p.key = sym (equal_keys p.key q.key is) in
    let above : AreAbove p.key qs = subst (λ k. AreAbove k qs) same (rest_above q qs up) in ascending_from p qs above (rest_ascends q qs up)
put_ascends_by Greater p q qs is up more = ascending_from q (put_pair p qs) (put_above q.key p qs (greater_keys p.key q.key is) (rest_above q qs up)) more

put_ascends : (p : Pair) (qs : List Pair) → KeysAscend qs → KeysAscend (put_pair p qs)
put_ascends p [] up = tt
put_ascends p (q ∷ qs) up = put_ascends_by (key_cmp p.key q.key) p q qs refl up (put_ascends p qs (rest_ascends q qs up))

-- the value of a key after the pairs, where it had one before
abbrev value_after : Option (List ℕ) → List ℕ → List Pair → Option (List ℕ)
value_after before key pairs = last_or before (map (λ p. p.value) (filter (λ p. bytes_eq key p.key) pairs))

-- one pair first
value_after-cons : (before : Option (List ℕ)) (key : List ℕ) (p : Pair) (qs : List Pair)
    → value_after before key (p ∷ qs) ≡ value_after (cond (bytes_eq key p.key) (Some p.value) before) key qs
value_after-cons before key p qs = elim (cases_Bool (bytes_eq key p.key)) [ inl e ↦ rw e refl | inr e ↦ rw e refl ]

less_differs : (x y : List ℕ) → key_cmp x y ≡ Less → bytes_eq x y ≡ false
less_differs x y lt = elim (cases_Bool (bytes_eq x y))
    [ inl e ↦ absurd (self_is_not_less (subst (λ z. key_cmp x z ≡ Less) (sym ((bytes_eq-Decides x y).0 e)) lt)) | inr e ↦ e ]
  where
    self_is_not_less : key_cmp x x ≡ Less → ⊥
    self_is_not_less lt = let e : Less ≡ Greater = sym lt ∙ nat_list_cmp_total.antisymm x x ∙ ap ordering_reverse lt in cc

-- keys above one don't give it a value
value_above : (before : Option (List ℕ)) (key : List ℕ) (qs : List Pair) → AreAbove key qs → KeysAscend qs → value_after before key qs ≡ before
value_above before key [] above up = refl
value_above before key (q ∷ []) above up = rw (less_differs key q.key above) refl
value_above before key (q ∷ r ∷ qs) above up = rw (less_differs key q.key above)
    (value_above before key (r ∷ qs) (nat_list_cmp_total.trans key q.key r.key above up.0) up.1)

put_value_by : (o : Ordering) (before : Option (List ℕ)) (key : List ℕ) (p q : Pair) (qs : List Pair) → key_cmp p.key q.key ≡ o → KeysAscend (q ∷ qs)
    → ((b : Option (List ℕ)) → value_after b key (put_pair p qs) ≡ cond (bytes_eq key p.key) (Some p.value) (value_after b key qs))
    → value_after before key (match_ordering o (p ∷ q ∷ qs) (p ∷ qs) (q ∷ put_pair p qs)) ≡ cond (bytes_eq key p.key) (Some p.value)
    (value_after before key (q ∷ qs))
put_value_by Less before key p q qs is up more = value_after-cons before key p (q ∷ qs) ∙ elim (cases_Bool (bytes_eq key p.key)) [
  | inl e ↦ let same : key ≡ p.key = (bytes_eq-Decides key p.key).0 e in
      rw e (value_above (Some p.value) key (q ∷ qs) (rw same is) up)
  | inr e ↦ rw e refl
]
put_value_by Equal before key p q qs is up more = value_after-cons before key p qs ∙ elim (cases_Bool (bytes_eq key p.key)) [
  | inl e ↦ let same : key ≡ q.key = (bytes_eq-Decides key p.key).0 e ∙ equal_keys p.key q.key is in
      rw e (value_above (Some p.value) key qs (rw same (rest_above q qs up)) (rest_ascends q qs up))
  | inr e ↦ let other : bytes_eq key q.key ≡ false = rw (← (equal_keys p.key q.key is)) e in
      rw e (sym (value_after-cons before key q qs ∙ rw other refl))
]
put_value_by Greater before key p q qs is up more =
    value_after-cons before key q (put_pair p qs) ∙ more (cond (bytes_eq key q.key) (Some q.value) before)
    ∙ ap (λ v. cond (bytes_eq key p.key) (Some p.value) v) (sym (value_after-cons before key q qs))

-- what a key has after a pair is put among others
put_value : (before : Option (List ℕ)) (key : List ℕ) (p : Pair) (qs : List Pair) → KeysAscend qs
    → value_after before key (put_pair p qs) ≡ cond (bytes_eq key p.key) (Some p.value) (value_after before key qs)
put_value before key p [] up = value_after-cons before key p []
put_value before key p (q ∷ qs) up = put_value_by (key_cmp p.key q.key) before key p q qs refl up (λ b. put_value b key p qs (rest_ascends q qs up))

put_all : (pairs made : List Pair) → KeysAscend made
    → KeysAscend (fold (λ made p. put_pair p made) made pairs)
    × ((key : List ℕ) → last_value key (fold (λ made p. put_pair p made) made pairs) ≡ value_after (last_value key made) key pairs)
put_all [] made up = (up, λ key. refl)
put_all (p ∷ ps) made up =
    let more = put_all ps (put_pair p made) (put_ascends p made up) in
    (more.0, λ key. more.1 key ∙ ap (λ v. value_after v key ps) (put_value None key p made up) ∙ sym (value_after-cons (last_value key made) key p ps))

-- the pairs in order have each key once, with its last value
pub put_in_order : (pairs : List Pair) → IsInKeyOrder pairs (in_order pairs)
put_in_order pairs = let all = put_all pairs [] tt in record { ascending = all.0; last_counts = all.1 }

pub data_in_order : (pairs made : List Pair) (bytes : ℕ) → made ≡ in_order pairs → length made ≤ 32 → bytes ≡ length (data_bytes made) → bytes ≤ 4096
    → IsData made
data_in_order pairs made bytes is few size small = record { ascending = rw is (put_in_order pairs).ascending; few = few; small = omega arith }
