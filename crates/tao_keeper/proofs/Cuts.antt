-- A log in two parts.
use Rattle.std.proofs.Common.{◌≡◌, ℕ, ◌≤◌, ◌<◌, Bool, true, false, refl, take, drop, arith}
use Rattle.std.proofs.lemmas.Bool.Decides.{nat_tests}
use Rattle.std.proofs.lemmas.List.{take-append-drop}
use Rattle.std.specs.Prelude.{nat_le}
use Rattle.tao_keeper.proofs.Growing.{growing_laws}
use Rattle.tao_keeper.specs.Cuts.{CutLaws}
use Rattle.tao_keeper.specs.Table.{after_cut}

past : (n m : ℕ) → m < n → nat_le n m ≡ false
past n m h = grind (arith, nat_tests)

within : (n m : ℕ) → n ≤ m → nat_le n m ≡ true
within n m h = grind (arith, nat_tests)

pub cut_laws : CutLaws
cut_laws = record {
  whole = λ table. take-append-drop table.cut table.log;
  live = λ table position lt. (rw (past position table.cut lt) refl, rw (past position table.cut lt) refl);
  old = λ table position le. (rw (within position table.cut le) refl, rw (within position table.cut le) refl);
  keeps = λ tells before after at upto becomes. growing_laws.same_log tells before after at (after_cut (before at) upto) refl becomes;
}
