-- The number that an option's text is.
use Rattle.std.proofs.Common.{◌≡◌, ◌≢◌, ℕ, ◌<◌, ◌^◌, true, List, Some, None, Result, Ok, Err, ap, sym, ◌∙◌, arith, inl, inr}
use Rattle.std.specs.Prelude.{bytes_eq, decimal, nat_lt, option_and_then, ◌&&◌}
use Rattle.std.specs.Bool.{then_some}
use Rattle.std.specs.Str.Parse.{ParsesUnsigned, digits_value}
use Rattle.std.proofs.lemmas.Bool.{cases_Bool, cases_lt}
use Rattle.std.proofs.lemmas.Bool.Decides.{nat_tests}
use Rattle.std.proofs.lemmas.Fmt.{decimal_is_IsNumeral, parse-decimal}
use Rattle.std.proofs.lemmas.Slice.Eq.{bytes_eq-Decides}
use Rattle.clap.specs.Words.{Row, first_of}
use Rattle.command_words.specs.Read.{number_in}
use Rattle.topology.specs.Lookup.{number_below}

some_number : (value : ℕ) (text : List ℕ) → value < 2 ^ 64 → decimal value ≡ text
    → then_some (nat_lt value (2 ^ 64) && bytes_eq (decimal value) text) value ≡ Some value
some_number value text small is =
    let same : bytes_eq (decimal value) text ≡ true = (bytes_eq-Decides (decimal value) text).1 is in
    grind (arith, nat_tests)

no_number : (value : ℕ) (text : List ℕ) → (value < 2 ^ 64 → decimal value ≢ text)
    → then_some (nat_lt value (2 ^ 64) && bytes_eq (decimal value) text) value ≡ None
no_number value text other = elim (cases_Bool (bytes_eq (decimal value) text)) [
  | inl same ↦ elim (cases_lt value (2 ^ 64)) [
    | inl small ↦ absurd (other small ((bytes_eq-Decides (decimal value) text).0 same))
    | inr large ↦ grind (arith, nat_tests)
  ]
  | inr differs ↦ grind (arith, nat_tests)
]

-- a text in decimal is read as its number
is_read : (E : Type 0) (text : List ℕ) (r : Result ℕ E) → ParsesUnsigned 64 10 text r → digits_value 10 text < 2 ^ 64
    → decimal (digits_value 10 text) ≡ text → r ≡ Ok (digits_value 10 text)
is_read E text r parses small is = parse-decimal 64 (digits_value 10 text) text r (omega arith) small (sym is) parses

same_ok : (E : Type 0) (m n : ℕ) (r : Result ℕ E) → r ≡ Ok m → r ≡ Ok n → m ≡ n
same_ok E m n r one other = cc

no_ok : (E : Type 0) (n : ℕ) (e : E) (r : Result ℕ E) → r ≡ Err e → r ≡ Ok n → ⊥
no_ok E n e r err ok = cc

-- a number whose decimal is the text
pub found_number : (n : ℕ) (text : List ℕ) → n < 2 ^ 64 → decimal n ≡ text → number_below (2 ^ 64) text ≡ Some n
found_number n text small is =
    let value : digits_value 10 text ≡ n = ap (digits_value 10) (sym is) ∙ (decimal_is_IsNumeral n small).1 in
    some_number (digits_value 10 text) text (omega (arith, value)) (ap decimal value ∙ is) ∙ ap Some value

-- a text that is read as a number whose decimal is another
pub other_number : (E : Type 0) (n : ℕ) (text : List ℕ) (r : Result ℕ E) → ParsesUnsigned 64 10 text r → r ≡ Ok n → decimal n ≢ text
    → number_below (2 ^ 64) text ≡ None
other_number E n text r parses ok differs = no_number (digits_value 10 text) text
    (λ small is. differs (ap decimal (same_ok E n (digits_value 10 text) r ok (is_read E text r parses small is)) ∙ is))

-- a text that isn't read as a number
pub not_read : (E : Type 0) (text : List ℕ) (e : E) (r : Result ℕ E) → ParsesUnsigned 64 10 text r → r ≡ Err e → number_below (2 ^ 64) text ≡ None
not_read E text e r parses err = no_number (digits_value 10 text) text
    (λ small is. no_ok E (digits_value 10 text) e r err (is_read E text r parses small is))

-- ---- the number of an option

-- its text is known
pub number_is_in : (rows : List Row) (name text : List ℕ) → first_of name rows ≡ Some text → number_below (2 ^ 64) text ≡ number_in rows name
number_is_in rows name text is = ap (option_and_then (λ found. number_below (2 ^ 64) found)) (sym is)

-- it has none
pub lacking_in : (rows : List Row) (name : List ℕ) → first_of name rows ≡ None → None ≡ number_in rows name
lacking_in rows name is = ap (option_and_then (λ found. number_below (2 ^ 64) found)) (sym is)
