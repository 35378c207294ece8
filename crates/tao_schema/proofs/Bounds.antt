-- Bounds are 1 to 6,000.
use Rattle.std.proofs.Common.{◌≡◌, ℕ, ◌≤◌, true, List, Option, Some, None, Ok, arith, refl}
use Rattle.std.specs.Prelude.{slice_get}
use Rattle.std.proofs.lemmas.Bool.Decides.{nat_tests}
use Rattle.tao_schema.proofs.Kept.{kept_at}
use Rattle.tao_schema.specs.AssocTypes.{assocs_of, bound_in, bound_at, keeps_assoc_rules}
use Rattle.tao_schema.specs.declared.lines.AssocLine.{AssocLine}
use Rattle.tao_schema.specs.declared.refusal.SchemaField.TheVariants.{Assocs}

within_rule : (lines : List AssocLine) (place : ℕ) (line : AssocLine) → keeps_assoc_rules lines place line ≡ true → (1 ≤ line.bound) × (line.bound ≤ 6000)
within_rule lines place line kept = grind (arith, nat_tests)

within_at : (lines : List AssocLine) (place : ℕ) (line : Option AssocLine) → assocs_of lines ≡ Ok lines → slice_get lines place ≡ line → (1 ≤ bound_in line)
    × (bound_in line ≤ 6000)
within_at lines place None taken at = (omega arith, omega arith)
within_at lines place (Some line) taken at = within_rule lines place line (kept_at Assocs (keeps_assoc_rules lines) lines lines place line taken at)

pub within : (lines : List AssocLine) (place : ℕ) → assocs_of lines ≡ Ok lines → (1 ≤ bound_at lines place) × (bound_at lines place ≤ 6000)
within lines place taken = within_at lines place (slice_get lines place) taken refl
