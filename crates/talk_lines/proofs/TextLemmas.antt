-- Texts, joined.
use Rattle.std.proofs.Common.{◌≡◌, ℕ, List, [], ◌∷◌, ◌++◌, codes, ap, append_assoc, arith, ◌∙◌}
use Rattle.reply_json.specs.OneLine.{IsOneLine}

pub one_line_then : (xs ys : List ℕ) → IsOneLine xs → IsOneLine ys → IsOneLine (xs ++ ys)
one_line_then [] ys hx hy = hy
one_line_then (x ∷ xs) ys hx hy = (hx.0, one_line_then xs ys hx.1 hy)

pub one_line_comma : (xs : List ℕ) → IsOneLine xs → IsOneLine (xs ++ 44 ∷ [])
one_line_comma xs hx = one_line_then xs (44 ∷ []) hx ((λ e. omega (arith, e)), tt)

-- a comma, and then a text
pub comma_then : (old mid new text : List ℕ) → mid ≡ old ++ 44 ∷ [] → new ≡ mid ++ text → new ≡ old ++ (codes "," ++ text)
comma_then old mid new text comma is = is ∙ ap (λ t. t ++ text) comma ∙ append_assoc old (44 ∷ []) text

-- a text, and then what is left
pub others_then : (old new text rest whole : List ℕ) → new ≡ old ++ text → old ++ (text ++ rest) ≡ whole → new ++ rest ≡ whole
others_then old new text rest whole is all = ap (λ t. t ++ rest) is ∙ append_assoc old text rest ∙ all
