-- Members that have a name other than these.
use Rattle.std.proofs.Common.{◌≡◌, ◌∙◌, ◌&&◌, ℕ, Bool, true, false, not, cond, List, ◌∷◌, Option, Some, None, is_some, option_map, Bor, bytes_eq, refl, sym, ap}
use Rattle.std.specs.List.{list_any}
use Rattle.serde_json.specs.Data.{Members, no_members, member}
use Rattle.json_fields.specs.Fields.{are_named, first_strange}
use Rattle.json_fields.specs.View.{members_view}
use Rattle.json_fields.specs.declared.value.Json.{Json}

-- a member is passed by where its name is among these, and is the one that is meant where it isn't
pub at_member : (names : List (List ℕ)) (known : Bool) (m : Bor (List ℕ) × Json) (rest entries : List (Bor (List ℕ) × Json))
    → entries ≡ m ∷ rest → known ≡ list_any (λ name. bytes_eq name m.0.now) names
    → cond known (first_strange names (members_view rest)) (Some m.0.now) ≡ first_strange names (members_view entries)
at_member names known m rest entries is tells = rw (is, tells) refl

known_or : (known : Bool) (key : List ℕ) (rest : Option (List ℕ)) → not (is_some (cond known rest (Some key))) ≡ known && not (is_some rest)
known_or true key rest = refl
known_or false key rest = refl

-- the members have these names alone where none is strange
none_strange : (names : List (List ℕ)) (ms : Members) → not (is_some (first_strange names ms)) ≡ are_named names ms
none_strange names no_members = refl
none_strange names (member key d ms) =
    known_or (list_any (λ name. bytes_eq name key) names) key (first_strange names ms)
    ∙ ap (λ rest. list_any (λ name. bytes_eq name key) names && rest) (none_strange names ms)

there : (text : Option (Bor (List ℕ))) → is_some text ≡ is_some (option_map (λ t. t.now) text)
there None = refl
there (Some t) = refl

turned : (none some : Bool) → some ≡ not none → none ≡ not some
turned true some tells = ap not (sym tells)
turned false some tells = ap not (sym tells)

-- that none is strange, by the one that was lent
pub none_lent : (names : List (List ℕ)) (ms : Members) (text : Option (Bor (List ℕ))) (none : Bool)
    → option_map (λ t. t.now) text ≡ first_strange names ms → is_some text ≡ not none → none ≡ are_named names ms
none_lent names ms text none found tells = turned none (is_some text) tells ∙ ap not (there text ∙ ap is_some found) ∙ none_strange names ms
