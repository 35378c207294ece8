-- The number that a text is: `number_below`.
use Rattle.std.proofs.Common.{◌≡◌, ◌≢◌, ℕ, ◌<◌, ◌≤◌, ◌^◌, true, false, List, [], ◌∷◌, length, get_or, Some, None, Result, Ok, Err, sym, ap, ◌∙◌}
use Rattle.std.proofs.Common.{arith, inl, inr}
use Rattle.std.specs.Prelude.{bytes_eq, decimal, nat_lt, ◌&&◌, ◌||◌, ◌==◌}
use Rattle.std.specs.Bool.{then_some}
use Rattle.std.specs.Result.{OkIff}
use Rattle.std.specs.Str.Parse.{AllDigits, ParsesUnsigned, digits_value}
use Rattle.std.proofs.lemmas.Bool.{cases_Bool, false≢true, cases_lt}
use Rattle.std.proofs.lemmas.Bool.Decides.{nat_tests}
use Rattle.std.proofs.lemmas.Fmt.{decimal_digit, decimal-digits_value, first_decimal, parse-decimal}
use Rattle.std.proofs.lemmas.Slice.Eq.{bytes_eq-Decides}
use Rattle.std.proofs.lemmas.Str.Parse.{IsNumeralModel, numerals_by_value, parse_plain, tells_digits}
use Rattle.topology.specs.Lookup.{is_padded, number_below}

own : IsNumeralModel (AllDigits 10) (digits_value 10)
own = numerals_by_value (AllDigits 10) tells_digits

some_number : (count value : ℕ) (text : List ℕ) → value < count → decimal value ≡ text
    → then_some (nat_lt value count && bytes_eq (decimal value) text) value ≡ Some value
some_number count value text below is =
    let same : bytes_eq (decimal value) text ≡ true = (bytes_eq-Decides (decimal value) text).1 is in
    grind (arith, nat_tests)

no_number : (count value : ℕ) (text : List ℕ) → (value < count → decimal value ≢ text)
    → then_some (nat_lt value count && bytes_eq (decimal value) text) value ≡ None
no_number count value text other = elim (cases_Bool (bytes_eq (decimal value) text)) [
  | inl same ↦ elim (cases_lt value count) [
    | inl below ↦ absurd (other below ((bytes_eq-Decides (decimal value) text).0 same))
    | inr above ↦ grind (arith, nat_tests)
  ]
  | inr differs ↦ grind (arith, nat_tests)
]

-- no decimal is padded
zero_plain : (value : ℕ) (text : List ℕ) → value ≡ 0 → decimal value ≡ text → text ≡ 48 ∷ []
zero_plain value text zero is = sym is ∙ ap decimal zero ∙ decimal_digit 0 (omega arith)

plain_zero : (text : List ℕ) → text ≡ 48 ∷ [] → is_padded text ≡ true → ⊥
plain_zero text is padded = false≢true (rw is at padded)

first_padded : (first more : ℕ) → 48 < first → ((first == 43) || ((first == 48) && nat_lt 1 more)) ≡ true → ⊥
first_padded first more low padded = grind (arith, nat_tests)

plain_decimal : (value : ℕ) (text : List ℕ) → value < 2 ^ 64 → is_padded text ≡ true → decimal value ≢ text
plain_decimal value text small padded is = elim (cases_lt 0 value) [
  | inl positive ↦
      let first : 48 < get_or (decimal value) 0 0 = first_decimal value positive small in
      first_padded (get_or text 0 0) (length text) (rw is at first) padded
  | inr zero ↦ plain_zero text (zero_plain value text (omega arith) is) padded
]

pub padded_number : (count : ℕ) (text : List ℕ) → count < 2 ^ 16 → is_padded text ≡ true → number_below count text ≡ None
padded_number count text small padded = no_number count (digits_value 10 text) text (λ below. plain_decimal (digits_value 10 text) text (omega arith) padded)

no_ok : (E : Type 0) (n : ℕ) (e : E) (r : Result ℕ E) → r ≡ Err e → r ≡ Ok n → ⊥
no_ok E n e r err ok = cc

pub other_number : (E : Type 0) (count : ℕ) (text : List ℕ) (e : E) (r : Result ℕ E) → ParsesUnsigned 16 10 text r → r ≡ Err e → count < 2 ^ 16
    → number_below count text ≡ None
other_number E count text e r parses err small = no_number count (digits_value 10 text) text
    (λ below is. no_ok E (digits_value 10 text) e r err (parse-decimal 16 (digits_value 10 text) text r (omega arith) (omega arith) (sym is) parses))

-- a text that isn't padded, of digits, is the decimal of its value
plain_first : (first len : ℕ) → ((first == 43) || ((first == 48) && nat_lt 1 len)) ≡ false → (first ≢ 43) × (first ≡ 48 → len ≤ 1)
plain_first first len plain = (λ is. grind (arith, nat_tests), λ is. grind (arith, nat_tests))

value_of : (E : Type 0) (n : ℕ) (r : Result ℕ E) (P : Type 0) (v : ℕ) → OkIff r P v → r ≡ Ok n → P × (n ≡ v)
value_of E n (Ok m) P v is ok = (is.0, grind arith)
value_of E n (Err e) P v is ok = cc

pub found_number : (E : Type 0) (count n : ℕ) (text : List ℕ) (r : Result ℕ E) → ParsesUnsigned 16 10 text r → r ≡ Ok n → is_padded text ≡ false → n < count
    → number_below count text ≡ Some n
found_number E count n text r parses ok plain below =
    let first = plain_first (get_or text 0 0) (length text) plain in
    let value = value_of E n r _ (digits_value 10 text) (parse_plain own 16 text r parses first.0) ok in
    let written : decimal (digits_value 10 text) ≡ text = decimal-digits_value own text value.0.0 value.0.1 (λ zero. omega (arith, first.1 zero, value.0.1))
    (omega (arith, value.0.2)) in
    some_number count (digits_value 10 text) text (omega (arith, value.1)) written ∙ ap Some (sym value.1)
