-- Tests of numbers and Booleans.
use Rattle.std.proofs.Common.{◌≡◌, ◌≢◌, ℕ, ◌<◌, Bool, true, false, refl, arith}
use Rattle.std.proofs.lemmas.Bool.Decides.{nat_tests}
use Rattle.std.specs.Prelude.{◌==◌, nat_lt, not}
use Rattle.std.specs.Ordering.{is_eq, nat_cmp}

pub eqb-self : (m : ℕ) → (m == m) ≡ true
eqb-self m = grind (arith, nat_tests)

pub eqb-same : (m n : ℕ) → (m == n) ≡ true → m ≡ n
eqb-same m n h = grind (arith, nat_tests)

pub eqb-apart : (m n : ℕ) → (m == n) ≡ false → m ≢ n
eqb-apart m n h e = grind (arith, nat_tests)

pub apart-eqb : (m n : ℕ) → m ≢ n → (m == n) ≡ false
apart-eqb m n h = grind (arith, nat_tests)

pub is_lower : (m n : ℕ) → m < n → nat_lt m n ≡ true
is_lower m n h = grind (arith, nat_tests)

pub same_order : (x y : ℕ) → is_eq (nat_cmp x y) ≡ (y == x)
same_order x y = grind (arith, nat_tests)

pub not_true : (b : Bool) → not b ≡ true → b ≡ false
not_true true h = absurd (cc)
not_true false h = refl
