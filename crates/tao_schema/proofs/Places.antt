-- Where names stand.
use Rattle.std.proofs.Common.{◌≡◌, ℕ, ◌<◌, ◌+◌, cond, List, [], ◌∷◌, ◌++◌, length, take, get_or, Some, None, String, arith, sym, ap, ◌∙◌}
use Rattle.std.specs.Prelude.{bytes_eq}
use Rattle.std.specs.Option.{option_or}
use Rattle.std.specs.HashMap.{HashMap, get_by_text}
use Rattle.std.proofs.lemmas.Bool.Decides.{nat_tests}
use Rattle.std.proofs.lemmas.Grind.{common_steps}
use Rattle.std.proofs.lemmas.List.Folds.{position_or_len_push}
use Rattle.std.proofs.lemmas.List.Sums.{prefix_len-le-length}
use Rattle.tao_schema.specs.Index.{IsIndex, AddsName}
use Rattle.tao_schema.specs.Names.{place_of}

-- one more name at the end is found there, unless it stands before
pub place_of-push : (names : List (List ℕ)) (new name : List ℕ) → place_of (names ++ new ∷ []) name ≡ option_or (place_of names name)
    (cond (bytes_eq name new) (Some (length names)) None)
place_of-push names new name = grind (arith, common_steps, nat_tests, position_or_len_push, prefix_len-le-length)

pub IsIndex-push : {Y S : Type 0} (names : List (List ℕ)) (new : List ℕ) (old index : HashMap (String Y) ℕ S) → IsIndex names old
    → AddsName old index new (length names) → IsIndex (names ++ new ∷ []) index
IsIndex-push names new old index is adds = λ name. adds name ∙ ap (λ o. option_or o (cond (bytes_eq name new) (Some (length names)) None)) (is name)
    ∙ sym (place_of-push names new name)

-- a turn of a loop that makes an index
pub IsIndex_more : {Y S : Type 0} (names : List (List ℕ)) (place : ℕ) (new : List ℕ) (old index : HashMap (String Y) ℕ S) → place < length names
    → new ≡ get_or names place new → IsIndex (take place names) old → AddsName old index new place → IsIndex (take (place + 1) names) index
IsIndex_more names place new old index within stands is adds =
    let count : place ≡ length (take place names) = grind (arith, common_steps) in
    let more : take (place + 1) names ≡ take place names ++ new ∷ [] = grind (arith, common_steps) in
    rw more (IsIndex-push (take place names) new old index is
    (λ name. adds name ∙ ap (λ n. option_or (get_by_text old name) (cond (bytes_eq name new) (Some n) None)) count))
