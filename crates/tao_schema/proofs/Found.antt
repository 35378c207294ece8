-- Names are found where they stand.
use Rattle.std.proofs.Common.{◌≡◌, ℕ, true, nat_eq, List, Option, Some, None, Ok, refl, arith}
use Rattle.std.specs.Prelude.{slice_get, option_map}
use Rattle.std.specs.Option.{option_eq}
use Rattle.std.proofs.lemmas.Bool.{and_parts}
use Rattle.std.proofs.lemmas.Option.{none-some, same_Some, slice_get-map}
use Rattle.tao_schema.proofs.Kept.{kept_at, same_place}
use Rattle.tao_schema.specs.AssocTypes.{assocs_of, keeps_assoc_rules, names_of}
use Rattle.tao_base.specs.Names.{is_name}
use Rattle.tao_schema.specs.Names.{AreFound, place_of}
use Rattle.tao_schema.specs.ObjectTypes.{keeps_object_rules, objects_of}
use Rattle.tao_schema.specs.declared.lines.AssocLine.{AssocLine}
use Rattle.tao_schema.specs.declared.refusal.SchemaField.TheVariants.{Objects, Assocs}

pub objects_found : (names : List (List ℕ)) → objects_of names ≡ Ok names → AreFound names
objects_found names taken = λ place name at.
    let kept : keeps_object_rules names place name ≡ true = kept_at Objects (keeps_object_rules names) names names place name taken at in
    same_place (place_of names name) place (and_parts (is_name name) (option_eq nat_eq (place_of names name) (Some place)) kept).1

line_found : (lines : List AssocLine) (place : ℕ) (line : AssocLine) → assocs_of lines ≡ Ok lines → slice_get lines place ≡ Some line
    → place_of (names_of lines) line.name ≡ Some place
line_found lines place line taken at =
    let kept : keeps_assoc_rules lines place line ≡ true = kept_at Assocs (keeps_assoc_rules lines) lines lines place line taken at in
    let rule : option_eq nat_eq (place_of (names_of lines) line.name) (Some place) ≡ true = grind arith in
    same_place (place_of (names_of lines) line.name) place rule

name_found : (lines : List AssocLine) (place : ℕ) (name : List ℕ) (line : Option AssocLine) → assocs_of lines ≡ Ok lines → slice_get lines place ≡ line
    → option_map (λ l. l.name) line ≡ Some name → place_of (names_of lines) name ≡ Some place
name_found lines place name None taken at is = absurd (none-some name is)
name_found lines place name (Some line) taken at is = rw (← same_Some line.name name is) (line_found lines place line taken at)

pub assocs_found : (lines : List AssocLine) → assocs_of lines ≡ Ok lines → AreFound (names_of lines)
assocs_found lines taken = λ place name at. name_found lines place name (slice_get lines place) taken refl (rw slice_get-map at at)
