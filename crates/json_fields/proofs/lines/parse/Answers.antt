use Rattle.std.proofs.Common.{◌≡◌, ℕ, ◌≤◌, nat_le, true, List, length, Some, None, IsUtf8, sym, ap, ◌∙◌, inl, inr, arith}
use Rattle.std.proofs.lemmas.Bool.{cases_Bool}
use Rattle.std.proofs.lemmas.Bool.Decides.{nat_tests}
use Rattle.std.proofs.lemmas.Str.{IsUtf8-from_is_utf8, is_utf8-from_IsUtf8}
use Rattle.std.specs.Str.{is_utf8}
use Rattle.serde_json.specs.Data.{Data}
use Rattle.serde_json.specs.Read.{read}
use Rattle.json_fields.specs.Json.{json_of}
use Rattle.json_fields.proofs.lines.parse.Goals as goal

short : (line : List ℕ) → length line ≤ 1048576 → nat_le (length line) 1048576 ≡ true
short line h = grind (arith, nat_tests)

some_read : (line : List ℕ) (d : Data) → length line ≤ 1048576 → IsUtf8 line → read line ≡ Some d → Some d ≡ json_of line
some_read line d fits text is = rw (short line fits, is_utf8-from_IsUtf8 line text) (sym is)

none_read : (line : List ℕ) → length line ≤ 1048576 → (IsUtf8 line → read line ≡ None) → None ≡ json_of line
none_read line fits refused = elim (cases_Bool (is_utf8 line)) [
  | inl valid ↦ rw (short line fits, valid) (sym (refused (IsUtf8-from_is_utf8 line valid)))
  | inr other ↦ rw (short line fits, other)
]

pub returns-in_default : goal.returns-in_default
returns-in_default c = none_read _ (omega arith) (λ valid. absurd (c.in_default.ensures.cases.0 valid))

pub returns-in-Ok-text_value : goal.returns-in-Ok-text_value
returns-in-Ok-text_value c =
    some_read _ _ (omega arith) c.in-Ok.ensures.cases.1 (ap read (sym c.in-Ok.ensures.cases.0) ∙ c.in-Ok-text_value.ensures.ok)
