-- Data that has a number.
use Rattle.std.proofs.Common.{ℕ, ◌<◌, ◌≤◌, ◌^◌, [], length, arith}
use Rattle.std.specs.Prelude.{decimal}
use Rattle.std.proofs.lemmas.Fmt.{length-decimal-le}
use Rattle.std.proofs.lemmas.List.{length-append}
use Rattle.tao_base.specs.Data.{IsData}
use Rattle.load_gen.specs.Calls.{numbered}

-- a number of 64 bits has at most 20 digits
pub numbered_data : (number : ℕ) → number < 2 ^ 64 → IsData (numbered number)
numbered_data number small =
    let digits : length (decimal number) ≤ 20 = length-decimal-le 20 number (omega arith) (omega arith) small in
    record { ascending = tt; few = omega arith; small = omega (arith, length-append (decimal number) []) }
