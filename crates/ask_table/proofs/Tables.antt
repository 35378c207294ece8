-- Lemmas on the list of asks.
use Rattle.std.proofs.Common.{◌≡◌, ℕ, zero, suc, ◌+◌, ◌<◌, ◌≤◌, Bool, true, false, not, cond, List, [], ◌∷◌, ◌++◌, length, take, drop, set, get_or}
use Rattle.std.proofs.Common.{None, refl, ◌∙◌, ap, arith, inl, inr, add-one, length-append}
use Rattle.std.specs.Prelude.{◌-◌, ◌^◌, ◌==◌, nat_le, map, filter, find, max}
use Rattle.std.proofs.lemmas.Bool.{cases_Bool, leb-false, or_parts}
use Rattle.std.proofs.lemmas.List.Sums.{length-filter, count_by-le-length}
use Rattle.std.proofs.Math.Seq.{take-append_seam}
use Rattle.tao_base.specs.Ids.{IsRising}
use Rattle.tao_base.specs.declared.id.Key.{Key}
use Rattle.tao_base.specs.Keys.{same_key}
use Rattle.ask_table.specs.declared.ask.Ask.{Ask}
use Rattle.ask_table.specs.Asks.{Asks, asks_of, is_full, IsTable, fresh, with_ask}
use Rattle.ask_table.specs.Open.{raised_ask}
use Rattle.tao_base.proofs.RisingNumbers.{rising_below, rising_tail}

abbrev pub numbers : List Ask → List ℕ
numbers asks = map (λ (a : Ask). a.number) asks

-- an ask begins
rising-more : (ns : List ℕ) (n : ℕ) → IsRising (ns ++ n ∷ []) → IsRising (ns ++ n ∷ (n + 1) ∷ [])
rising-more [] n r = (omega arith, tt)
rising-more (m ∷ []) n r = (r.0, (omega arith, tt))
rising-more (m ∷ k ∷ ns) n r = (r.0, rising-more (k ∷ ns) n r.1)

numbers-push : (asks : List Ask) (a : Ask) (ns : List ℕ) → numbers (asks ++ a ∷ []) ++ ns ≡ numbers asks ++ a.number ∷ ns
numbers-push [] a ns = refl
numbers-push (b ∷ asks) a ns = ap (λ l. b.number ∷ l) (numbers-push asks a ns)

pub table_push : (t : Asks) (key : Key) (mark : ℕ) → length t.asks < 256 → IsTable t → IsTable (with_ask key mark t)
table_push t key mark room table = record {
  rising = rw (numbers-push t.asks (fresh t key mark) ((t.given + 1 + 1) ∷ [])) (rising-more (numbers t.asks) (t.given + 1) table.rising);
  few = omega (arith, length-append t.asks (fresh t key mark ∷ []));
}

rising-kept : (p : Ask → Bool) (n : ℕ) (asks : List Ask) (ns : List ℕ) → IsRising (n ∷ numbers asks ++ ns) → IsRising (n ∷ numbers (filter p asks) ++ ns)
rising-kept p n [] ns r = r
rising-kept p n (a ∷ asks) ns r = elim (cases_Bool (p a)) [
  | inl t ↦ rw t (r.0, rising-kept p a.number asks ns r.1)
  | inr t ↦ let up : n < a.number = r.0 in rw t (rising-kept p n asks ns (rising_below n a.number (numbers asks ++ ns) (omega arith) r.1))
]

rising-filter : (p : Ask → Bool) (asks : List Ask) (n : ℕ) → IsRising (numbers asks ++ n ∷ []) → IsRising (numbers (filter p asks) ++ n ∷ [])
rising-filter p [] n r = r
rising-filter p (a ∷ asks) n r = elim (cases_Bool (p a)) [
  | inl t ↦ rw t (rising-kept p a.number asks (n ∷ []) r)
  | inr t ↦ rw t (rising-filter p asks n (rising_tail a.number (numbers asks ++ n ∷ []) r))
]

pub table_filter : (p : Ask → Bool) (asks : List Ask) (given : ℕ) → IsTable (asks_of asks given) → IsTable (asks_of (filter p asks) given)
table_filter p asks given table = record {
  rising = rising-filter p asks (given + 1) table.rising;
  few = omega (arith, table.few, length-filter p asks, count_by-le-length p asks);
}

-- where none is found, all stay
pub filter_none : (p : Ask → Bool) (asks : List Ask) → find p asks ≡ None → asks ≡ filter (λ a. not (p a)) asks
filter_none p [] none = refl
filter_none p (a ∷ asks) none = elim (cases_Bool (p a)) [
  | inl t ↦ let some = rw t at none in cc
  | inr f ↦ let rest = rw f at none in rw f (ap (λ l. a ∷ l) (filter_none p asks rest))
]

-- floors rise
pub raised_number : (key : Key) (version : ℕ) (a : Ask) → (raised_ask key version a).number ≡ a.number
raised_number key version a = elim (same_key a.key key) as (λ b. (cond b (record a { floor = max a.floor version }) a).number ≡ a.number)
    [ true ↦ refl | false ↦ refl ]

pub numbers-raised : (key : Key) (version : ℕ) (asks : List Ask) → numbers (map (raised_ask key version) asks) ≡ numbers asks
numbers-raised key version [] = refl
numbers-raised key version (a ∷ asks) = rw (raised_number key version a, numbers-raised key version asks) refl

length_raised : (f : Ask → Ask) (asks : List Ask) → length (map f asks) ≡ length asks
length_raised f [] = refl
length_raised f (a ∷ asks) = ap suc (length_raised f asks)

pub table_raised : (key : Key) (version : ℕ) (asks : List Ask) (given : ℕ) → IsTable (asks_of asks given)
    → IsTable (asks_of (map (raised_ask key version) asks) given)
table_raised key version asks given table = record {
  rising = rw (numbers-raised key version asks) table.rising;
  few = omega (arith, table.few, length_raised (raised_ask key version) asks);
}

-- a loop that writes f of each element
map_read : (f : Ask → Ask) (xs : List Ask) (i : ℕ) (d : Ask) → i < length xs → get_or (map f (take i xs) ++ drop i xs) i d ≡ get_or xs i d
map_read f [] i d h = absurd (omega arith)
map_read f (x ∷ xs) zero d h = refl
map_read f (x ∷ xs) (suc i) d h = map_read f xs i d (omega arith)

map_write : (f : Ask → Ask) (xs : List Ask) (i : ℕ) (d : Ask) → i < length xs → set (map f (take i xs) ++ drop i xs) i (f (get_or xs i d)) ≡ map f
    (take (suc i) xs) ++ drop (suc i) xs
map_write f [] i d h = absurd (omega arith)
map_write f (x ∷ xs) zero d h = refl
map_write f (x ∷ xs) (suc i) d h = ap (λ l. f x ∷ l) (map_write f xs i d (omega arith))

-- what a loop over the vector leaves
pub rest_of : (n : ℕ) (xs ys : List Ask) → length xs ≡ n → take n (xs ++ drop (length xs) ys) ≡ xs
rest_of n xs ys e = rw (← e) (take-append_seam xs (drop (length xs) ys))

pub loop_done : (f : Ask → Ask) (xs : List Ask) (i : ℕ) → length xs ≤ i → map f (take i xs) ++ drop i xs ≡ map f xs
loop_done f [] zero h = refl
loop_done f [] (suc i) h = refl
loop_done f (x ∷ xs) zero h = absurd (omega arith)
loop_done f (x ∷ xs) (suc i) h = ap (λ l. f x ∷ l) (loop_done f xs i (omega arith))

pub loop_more : (f : Ask → Ask) (xs items : List Ask) (i : ℕ) (y d : Ask) → items ≡ map f (take i xs) ++ drop i xs → i < length xs → y ≡ f (get_or items i d)
    → set items i y ≡ map f (take (i + 1) xs) ++ drop (i + 1) xs
loop_more f xs items i y d e h is =
    let read : y ≡ f (get_or xs i d) = is ∙ ap f (ap (λ l. get_or l i d) e ∙ map_read f xs i d h) in
    rw (e, read, add-one) (map_write f xs i d h)

pub not_full : (t : Asks) → is_full t ≡ false → length t.asks < 256
not_full t room = leb-false 256 (length t.asks) (or_parts (nat_le 256 (length t.asks)) (t.given == 2 ^ 64 - 1) room).0
