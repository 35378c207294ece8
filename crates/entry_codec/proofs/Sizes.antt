-- Each text of a data is short, and what a loop over a list has written.
use Rattle.std.proofs.Common.{◌≡◌, ℕ, zero, suc, ◌+◌, ◌^◌, ◌<◌, ◌≤◌, List, [], ◌∷◌, ◌++◌, append-nil, append_assoc, length, length-append, get_or}
use Rattle.std.proofs.Common.{take, All, flat_map, sym, ap, subst, ◌∙◌, arith}
use Rattle.std.proofs.lemmas.Grind.{flat_map-append}
use Rattle.std.proofs.lemmas.List.{take_all, take_more}
use Rattle.std.proofs.lemmas.List.Elements.{All-more}
use Rattle.tao_base.specs.Data.{IsData, pair_bytes}
use Rattle.tao_base.specs.declared.data.Pair.{Pair}

pair_size : (p : Pair) → length p.key + length p.value ≤ length (pair_bytes p)
pair_size p = simp length-append (omega arith)

part_size : (ps : List Pair) (i : ℕ) (p : Pair) → i < length ps → p ≡ get_or ps i p → length p.key + length p.value ≤ length (flat_map pair_bytes ps)
part_size [] i p lt is = absurd (omega arith)
part_size (x ∷ xs) zero p lt is = rw (is, length-append (pair_bytes x) (flat_map pair_bytes xs)) (let k = pair_size x in omega arith)
part_size (x ∷ xs) (suc i) p lt is =
    let k = part_size xs i p (omega arith) is in rw (length-append (pair_bytes x) (flat_map pair_bytes xs)) (omega arith)

pub texts_fit : (ps : List Pair) (i : ℕ) (p : Pair) → IsData ps → i < length ps → p ≡ get_or ps i p → length p.key + length p.value < 2 ^ 16
texts_fit ps i p limits lt is = let k = part_size ps i p lt is in let s = limits.small in omega arith

-- one more element of a list is spelled, and fits
pub one_more : {X : Type 0} (f : X → List ℕ) (P : X → Type 0) (xs : List X) (i : ℕ) (x : X) (start old new : List ℕ) → i < length xs → x ≡ get_or xs i x
    → (old ≡ start ++ flat_map f (take i xs)) × All P (take i xs) → new ≡ old ++ f x → P x → (new ≡ start ++ flat_map f (take (i + 1) xs))
    × All P (take (i + 1) xs)
one_more f P xs i x start old new lt is so_far step fits =
    let cut : take (i + 1) xs ≡ take i xs ++ x ∷ [] = take_more xs i x lt ∙ ap (λ y. take i xs ++ y ∷ []) (sym is) in (
      rw (cut, flat_map-append f (take i xs) (x ∷ []), append-nil (f x), ← append_assoc start (flat_map f (take i xs)) (f x), ← so_far.0) step,
      All-more P xs i x lt so_far.1 (subst P is fits),
    )

-- what holds of the elements so far holds of all in the end
pub all_fit : {X : Type 0} (P : X → Type 0) (xs : List X) (i : ℕ) → length xs ≤ i → All P (take i xs) → All P xs
all_fit P xs i done fits = subst (All P) (take_all i xs done) fits
