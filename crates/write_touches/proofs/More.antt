-- What a function gives of the elements of a list, one more element at a time.
use Rattle.std.proofs.Common.{◌≡◌, ℕ, ◌+◌, ◌<◌, List, [], ◌∷◌, ◌++◌, length, take, get_or, refl, sym, ap, ◌∙◌}
use Rattle.std.proofs.lemmas.List.{take_more}
use Rattle.std.proofs.lemmas.List.Elements.{filter_map-append}
use Rattle.std.specs.List.{cons_option}
use Rattle.std.specs.Option.{option_to_list}
use Rattle.std.specs.Prelude.{Option, Some, None, filter_map}

one : {Y : Type 0} (o : Option Y) → cons_option o [] ≡ option_to_list o
one None = refl
one (Some y) = refl

-- what one more element gives stands at the end
pub more : {X Y : Type 0} (h : X → Option Y) (xs : List X) (i : ℕ) (x : X) (ys zs : List Y) → i < length xs → x ≡ get_or xs i x
    → ys ≡ filter_map h (take i xs) → zs ≡ ys ++ option_to_list (h x) → zs ≡ filter_map h (take (i + 1) xs)
more h xs i x ys zs lt is so_far put =
    put ∙ ap (λ v. v ++ option_to_list (h x)) so_far
    ∙ sym (ap (λ v. filter_map h v) (take_more xs i x lt ∙ ap (λ y. take i xs ++ y ∷ []) (sym is)) ∙ filter_map-append h (take i xs) (x ∷ [])
    ∙ ap (λ v. filter_map h (take i xs) ++ v) (one (h x)))
