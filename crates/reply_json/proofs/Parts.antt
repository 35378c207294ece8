-- Texts that are written part by part.
use Rattle.std.proofs.Common.{◌≡◌, ℕ, List, [], ◌∷◌, ◌++◌, refl, ap, ◌∙◌, codes, append_assoc}
use Rattle.json.specs.Print.{escape_byte, quoted}
use Rattle.serde_json.specs.Written.{compact_text}
use Rattle.tao_base.specs.declared.data.Pair.{Pair}
use Rattle.tao_base.specs.declared.edge.Edge.{Edge}
use Rattle.reply_json.specs.Json.{fields, text}
use Rattle.reply_json.specs.Reads.{numbered}
use Rattle.reply_json.specs.Values.{edge_data, pairs_data}

-- parts that were added one after another
pub added3 : (o l1 l2 l3 a b c : List ℕ) → l1 ≡ o ++ a → l2 ≡ l1 ++ b → l3 ≡ l2 ++ c → l3 ≡ o ++ (a ++ (b ++ c))
added3 o l1 l2 l3 a b c first second third =
    third ∙ ap (λ l. l ++ c) (second ∙ ap (λ l. l ++ b) first) ∙ append_assoc (o ++ a) b c ∙ append_assoc o a (b ++ c)

pub added4 : (o l1 l2 l3 l4 a b c d : List ℕ) → l1 ≡ o ++ a → l2 ≡ l1 ++ b → l3 ≡ l2 ++ c → l4 ≡ l3 ++ d → l4 ≡ o ++ (a ++ (b ++ (c ++ d)))
added4 o l1 l2 l3 l4 a b c d first second third fourth =
    added3 o l1 l2 l4 a b (c ++ d) first second (fourth ∙ ap (λ l. l ++ d) third ∙ append_assoc l2 c d)

pub added5 : (o l1 l2 l3 l4 l5 a b c d e : List ℕ)
    → l1 ≡ o ++ a → l2 ≡ l1 ++ b → l3 ≡ l2 ++ c → l4 ≡ l3 ++ d → l5 ≡ l4 ++ e → l5 ≡ o ++ (a ++ (b ++ (c ++ (d ++ e))))
added5 o l1 l2 l3 l4 l5 a b c d e first second third fourth fifth =
    added4 o l1 l2 l3 l5 a b c (d ++ e) first second third (fifth ∙ ap (λ l. l ++ e) fourth ∙ append_assoc l3 d e)

-- an edge
pub edge_spelled : (e : Edge)
    → codes "{\"data\":" ++ (compact_text (pairs_data e.payload) ++ (numbered (codes ",\"id2\":") e.id2 ++ (numbered (codes ",\"time\":") e.time ++ 125 ∷ [])))
    ≡ compact_text (edge_data e)
unfolding escape_byte
edge_spelled e = refl

-- an object, with the name of its type
pub object_spelled : (pairs : List Pair) (name : List ℕ)
    → codes "{\"data\":" ++ (compact_text (pairs_data pairs) ++ (codes ",\"otype\":" ++ (quoted name ++ 125 ∷ [])))
    ≡ compact_text (fields ((codes "data", pairs_data pairs) ∷ (codes "otype", text name) ∷ []))
unfolding escape_byte
object_spelled pairs name = refl
