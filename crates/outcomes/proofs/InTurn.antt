-- What steps came to that were not refused.
use Rattle.std.proofs.Common.{◌≡◌, Result, Ok, Err, refl}
use Rattle.outcomes.specs.Results.{◌>>=◌}

-- each step was taken
pub then_ok : {A B E : Type 0} (step : Result A E) (next : A → Result B E) (b : B) → (step >>= next) ≡ Ok b → (a : A) × (step ≡ Ok a) × (next a ≡ Ok b)
then_ok (Ok a) next b is = (a, refl, is)
then_ok (Err refused) next b is = absurd (cc is)
