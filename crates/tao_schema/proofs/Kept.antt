-- Where no entry breaks a rule, each keeps them.
use Rattle.std.proofs.Common.{◌≡◌, ◌≤◌, ℕ, ◌+◌, Bool, true, suc, zero, nat_le, List, [], ◌∷◌, length, nat_eq, Option, Some, None, Ok, refl, ap, inl, inr, arith}
use Rattle.std.specs.Prelude.{slice_get, ◌&&◌}
use Rattle.std.specs.Option.{option_eq}
use Rattle.std.proofs.lemmas.Bool.{cases_Bool, eqb-true}
use Rattle.std.proofs.lemmas.Bool.Decides.{nat_tests}
use Rattle.std.proofs.lemmas.Option.{none-some}
use Rattle.tao_schema.specs.AssocTypes.{assocs_of, keeps_assoc_rules}
use Rattle.tao_schema.specs.ObjectTypes.{keeps_object_rules, objects_of}
use Rattle.tao_schema.specs.Rules.{broken_from, broken, unless_broken}
use Rattle.tao_schema.specs.declared.lines.AssocLine.{AssocLine}
use Rattle.tao_schema.specs.declared.refusal.SchemaField.{SchemaField}
use Rattle.tao_schema.specs.declared.refusal.SchemaField.TheVariants.{Objects, Assocs}

kept_from : {A : Type 0} (keeps : ℕ → A → Bool) (start : ℕ) (entries : List A) (place : ℕ) (entry : A) → broken_from keeps start entries ≡ None
    → slice_get entries place ≡ Some entry → keeps (start + place) entry ≡ true
kept_from keeps start [] place entry none at = absurd (none-some entry at)
kept_from keeps start (e ∷ es) zero entry none at = elim (cases_Bool (keeps start e)) [
  | inl kept ↦ grind arith
  | inr breaks ↦ grind arith
]
kept_from keeps start (e ∷ es) (suc place) entry none at = elim (cases_Bool (keeps start e)) [
  | inl kept ↦
      let rest : broken_from keeps (start + 1) es ≡ None = grind arith in
      let next : keeps (start + 1 + place) entry ≡ true = kept_from keeps (start + 1) es place entry rest at in
      let moved : start + 1 + place ≡ start + suc place = omega arith in
      rw (← moved) next
  | inr breaks ↦ grind arith
]

none_broken : {A : Type 0} (field : SchemaField) (entries taken : List A) (place : Option ℕ) → unless_broken field entries place ≡ Ok taken → place ≡ None
none_broken field entries taken None is = refl
none_broken field entries taken (Some place) is = cc

-- a list that is taken keeps the rules at each place
pub kept_at : {A : Type 0} (field : SchemaField) (keeps : ℕ → A → Bool) (entries taken : List A) (place : ℕ) (entry : A)
    → unless_broken field entries (broken keeps entries) ≡ Ok taken → slice_get entries place ≡ Some entry → keeps place entry ≡ true
kept_at field keeps entries taken place entry is at =
    let none : broken keeps entries ≡ None = none_broken field entries taken (broken keeps entries) is in
    let from_start : broken_from keeps 0 entries ≡ None = elim (cases_Bool (nat_le 1 (length entries) && nat_le (length entries) 64)) [
      | inl fits ↦ grind arith
      | inr other ↦ grind arith
    ] in
    let kept : keeps (0 + place) entry ≡ true = kept_from keeps 0 entries place entry from_start at in
    let same : 0 + place ≡ place = omega arith in
    rw (← same) kept

pub same_place : (o : Option ℕ) (place : ℕ) → option_eq nat_eq o (Some place) ≡ true → o ≡ Some place
same_place None place is = cc
same_place (Some p) place is = ap Some (eqb-true p place is)

-- a list that is taken has 1 to 64 entries
few_taken : {A : Type 0} (field : SchemaField) (keeps : ℕ → A → Bool) (entries taken : List A) → unless_broken field entries (broken keeps entries) ≡ Ok taken
    → (1 ≤ length entries) × (length entries ≤ 64)
few_taken field keeps entries taken is =
    let none : broken keeps entries ≡ None = none_broken field entries taken (broken keeps entries) is in
    elim (cases_Bool (nat_le 1 (length entries) && nat_le (length entries) 64)) [
      | inl fits ↦ grind (arith, nat_tests)
      | inr other ↦ grind arith
    ]

pub few_objects : (names : List (List ℕ)) → objects_of names ≡ Ok names → (1 ≤ length names) × (length names ≤ 64)
few_objects names taken = few_taken Objects (keeps_object_rules names) names names taken

pub few_assocs : (lines : List AssocLine) → assocs_of lines ≡ Ok lines → (1 ≤ length lines) × (length lines ≤ 64)
few_assocs lines taken = few_taken Assocs (keeps_assoc_rules lines) lines lines taken
