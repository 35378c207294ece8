-- The texts of an object, taken one after another.
use Rattle.std.proofs.Common.{◌≡◌, ◌∙◌, ℕ, List, [], ◌∷◌, ◌++◌, Option, Some, None, map, option_map, option_and_then, Bor, String, Global}
use Rattle.std.proofs.Common.{refl, ap, append_assoc}
use Rattle.std.proofs.lemmas.List.{map-append}
use Rattle.serde_json.specs.Find.{as_str}
use Rattle.json_fields.specs.View.{view, members_view}
use Rattle.json_fields.specs.declared.value.Json.{Json}
use Rattle.tao_base.specs.Data.{pair_of}
use Rattle.tao_base.specs.declared.data.Pair.{Pair}
use Rattle.request_json.specs.Data.{pairs_of}

added : (taken : List (String Global × String Global)) (p : String Global × String Global) (others : Option (List Pair))
    → option_map (λ more. map pair_of (taken ++ p ∷ []) ++ more) others ≡ option_map (λ more. map pair_of taken ++ more)
    (option_and_then (λ more. Some (pair_of p ∷ more)) others)
added taken p None = refl
added taken p (Some more) = ap Some (rw (map-append pair_of taken (p ∷ [])) (append_assoc (map pair_of taken) (pair_of p ∷ []) more))

-- one more text
pub pair_more : (taken : List (String Global × String Global)) (p : String Global × String Global) (m : Bor (List ℕ) × Json) (text : List ℕ)
    (entries rest : List (Bor (List ℕ) × Json)) (all : Option (List Pair))
    → entries ≡ m ∷ rest → Some text ≡ as_str (view m.1) → pair_of p ≡ record { key = m.0.now; value = text }
    → option_map (λ others. map pair_of taken ++ others) (pairs_of (members_view entries)) ≡ all
    → option_map (λ others. map pair_of (taken ++ p ∷ []) ++ others) (pairs_of (members_view rest)) ≡ all
pair_more taken p m text entries rest all is has same before =
    added taken p (pairs_of (members_view rest)) ∙ (rw same (rw (is, ← has) at before))
