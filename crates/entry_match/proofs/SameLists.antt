-- Lists that were compared place by place.
use Rattle.std.proofs.Common.{◌≡◌, ℕ, ◌<◌, List, length, get_or, arith}
use Rattle.std.proofs.lemmas.List.{same_lists}
use Rattle.std.specs.Prelude.{min}

-- lists of one length that agree at each place are the same
pub same_at_all : {X : Type 0} (xs ys : List X) (n : ℕ) → length xs ≡ length ys → n ≡ min (length xs) (length ys)
    → ((k : ℕ) (d : X) → k < n → get_or xs k d ≡ get_or ys k d) → xs ≡ ys
same_at_all xs ys n long is agree = same_lists xs ys long (λ k d lt. agree k d (omega arith))
