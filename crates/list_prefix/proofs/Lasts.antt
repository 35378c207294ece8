-- The last edge of a list.
use denote.Ref.{Bor}
use Rattle.std.proofs.Common.{◌≡◌, ◌-◌, Bool, false, List, [], ◌∷◌, length, Option, Some, None, MatchOption, option_copied, refl, arith, suc}
use Rattle.std.specs.Option.{option_map_or}
use Rattle.std.specs.Prelude.{slice_get}
use Rattle.graph_model.specs.Log.{last}

-- it stands one place before the length
pub last_is : {X : Type 0} (xs : List X) → slice_get xs (length xs - 1) ≡ last xs
last_is [] = refl
last_is (x ∷ []) = refl
last_is (x ∷ y ∷ ys) = let e : length (x ∷ y ∷ ys) - 1 ≡ suc (length (y ∷ ys) - 1) = omega arith in rw e (last_is (y ∷ ys))

-- a test of what may stand behind a reference
pub some_and : {X : Type 0} (o : Option (Bor X)) (Post : Bor X → Type 0) (test : X → Bool) (r : Bool) → MatchOption o (r ≡ false) Post
    → ((x : Bor X) → Post x → r ≡ test x.now) → r ≡ option_map_or test (option_copied o) false
some_and None Post test r m h = m
some_and (Some x) Post test r m h = h x m
