-- Lists of rising numbers.
use Rattle.std.proofs.Common.{ℕ, ◌<◌, ◌≤◌, List, [], ◌∷◌, arith}
use Rattle.tao_base.specs.Ids.{IsRising}

pub rising_tail : (n : ℕ) (ns : List ℕ) → IsRising (n ∷ ns) → IsRising ns
rising_tail n [] rises = tt
rising_tail n (m ∷ ns) rises = rises.1

pub rising_below : (n m : ℕ) (ns : List ℕ) → n ≤ m → IsRising (m ∷ ns) → IsRising (n ∷ ns)
rising_below n m [] below rises = tt
rising_below n m (k ∷ ns) below rises = let up : m < k = rises.0 in (omega arith, rises.1)
