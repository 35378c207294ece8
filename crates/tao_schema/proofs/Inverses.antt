-- Inverses are matched.
use Rattle.std.proofs.Common.{◌≡◌, ℕ, true, List, Option, Some, None, Ok, get_or, refl, sym, ap, ◌∙◌, arith}
use Rattle.std.specs.Prelude.{slice_get, unwrap_or, option_and_then, option_map}
use Rattle.std.specs.Option.{option_flatten}
use Rattle.std.proofs.lemmas.Bool.{and_parts}
use Rattle.std.proofs.lemmas.Option.{none-some, slice_get-map, unwrap_or-slice_get}
use Rattle.tao_base.specs.EdgeTypes.{InversesMatch}
use Rattle.tao_schema.proofs.Kept.{kept_at, same_place}
use Rattle.tao_base.specs.Names.{is_name}
use Rattle.tao_schema.specs.Names.{place_of}
use Rattle.tao_schema.specs.declared.refusal.SchemaField.TheVariants.{Assocs}
use Rattle.tao_base.specs.declared.id.AType.{AType}
use Rattle.tao_schema.specs.AssocTypes.{assocs_of, atype_at, edge_types, inverse_of, inverse_at, inverses_of, keeps_assoc_rules, keeps_inverse_rule}
use Rattle.tao_schema.specs.AssocTypes.{names_back, names_of}
use Rattle.tao_schema.specs.declared.lines.AssocLine.{AssocLine}

pub option_flatten_is : {A : Type 0} (o : Option (Option A)) → option_flatten o ≡ unwrap_or o None
option_flatten_is None = refl
option_flatten_is (Some o) = refl

inverse_in : (lines : List AssocLine) (line : Option AssocLine)
    → unwrap_or (option_map (λ l. option_map atype_at (inverse_of lines l)) line) None ≡ option_map atype_at (option_and_then (inverse_of lines) line)
inverse_in lines None = refl
inverse_in lines (Some line) = refl

-- the inverses that are kept are those that the lines say
pub inverse_is : (lines : List AssocLine) (place : ℕ) → get_or (inverses_of lines) place None ≡ option_map atype_at (inverse_at lines place)
inverse_is lines place = sym (unwrap_or-slice_get (inverses_of lines) place None)
    ∙ rw (slice_get-map (λ l. option_map atype_at (inverse_of lines l)) lines place) (inverse_in lines (slice_get lines place))

-- a name that keeps the rule, and means the type at a place, is the inverse of that type's inverse
back_of : (lines : List AssocLine) (place other : ℕ) (inverse : Option (List ℕ)) → keeps_inverse_rule lines place inverse ≡ true
    → option_and_then (place_of (names_of lines)) inverse ≡ Some other → inverse_at lines other ≡ Some place
back_of lines place other None kept is = absurd (none-some other is)
back_of lines place other (Some name) kept is =
    let back : names_back lines place name ≡ true = (and_parts (is_name name) (names_back lines place name) kept).1 in
    same_place (inverse_at lines other) place (rw is at back)

matched_at : (lines : List AssocLine) (place other : ℕ) (line : Option AssocLine) → assocs_of lines ≡ Ok lines → slice_get lines place ≡ line
    → option_and_then (inverse_of lines) line ≡ Some other → inverse_at lines other ≡ Some place
matched_at lines place other None taken at is = absurd (none-some other is)
matched_at lines place other (Some line) taken at is =
    let kept : keeps_assoc_rules lines place line ≡ true = kept_at Assocs (keeps_assoc_rules lines) lines lines place line taken at in
    let rule : keeps_inverse_rule lines place line.inverse ≡ true = grind arith in
    back_of lines place other line.inverse rule is

place_in : (place : Option ℕ) (atype : AType) → option_map atype_at place ≡ Some atype → place ≡ Some atype.0
place_in None atype is = cc
place_in (Some place) atype is = ap (option_map (λ a. a.0)) is

-- the inverse of the inverse is the type itself
pub matched : (lines : List AssocLine) → assocs_of lines ≡ Ok lines → InversesMatch (edge_types lines)
matched lines taken = λ atype other is.
    let at : inverse_at lines atype.0 ≡ Some other.0 = place_in (inverse_at lines atype.0) other is in
    ap (option_map atype_at) (matched_at lines atype.0 other.0 (slice_get lines atype.0) taken refl at)
