-- The text of a reply to a read whose answer is kept is what its parts come to.
use Rattle.std.proofs.Common.{◌≡◌, ℕ, List, [], ◌∷◌, ◌++◌, Bool, true, false, None, refl, ap, ◌∙◌, sym, codes, append_assoc}
use Rattle.json.specs.Print.{escape_byte}
use Rattle.replies.specs.declared.calls.ReadReply.{ReadReply}
use Rattle.replies.specs.declared.nodes.KeptOrNot.{KeptOrNot}
use Rattle.replies.specs.declared.nodes.KeptOrNot.TheVariants.{Kept}
use Rattle.serde_json.specs.Data.{boolean}
use Rattle.serde_json.specs.Written.{compact_text, members_text}
use Rattle.tao_base.specs.declared.query.Answer.{Answer}
use Rattle.tao_base.specs.declared.query.Answer.TheVariants.{Object as ObjectIs, Edges as EdgesAre, Count}
use Rattle.topology.specs.Config.{Settings}
use Rattle.words.specs.Words.{word_text}
use Rattle.words.specs.declared.ReadWord.{ReadWord}
use Rattle.words.specs.declared.ReadWord.TheVariants.{AssocCount, AssocGet, AssocRange, AssocTimeRange, ObjGet}
use Rattle.words.specs.declared.Word.TheVariants as word
use Rattle.reply_json.specs.Calls.{read_data}
use Rattle.reply_json.specs.Json.{members, text, whole}
use Rattle.reply_json.specs.Reads.{ending_text, front_text, kept_text, numbered}
use Rattle.reply_json.specs.Values.{edges_data, object_data}

-- the members from the word on
abbrev ends : ReadWord → Bool → ℕ → List ℕ
ends w store version =
    members_text true (members ((codes "ok", text (word_text (word.Read w))) ∷ (codes "store", boolean store) ∷ (codes "version", whole version) ∷ []))

ends_spelled : (w : ReadWord) (store : Bool) (version : ℕ) → ends w store version ≡ numbered (ending_text w store) version ++ 125 ∷ []
unfolding escape_byte
ends_spelled ObjGet true version = refl
ends_spelled ObjGet false version = refl
ends_spelled AssocGet true version = refl
ends_spelled AssocGet false version = refl
ends_spelled AssocCount true version = refl
ends_spelled AssocCount false version = refl
ends_spelled AssocRange true version = refl
ends_spelled AssocRange false version = refl
ends_spelled AssocTimeRange true version = refl
ends_spelled AssocTimeRange false version = refl

-- a reply whose answer is kept
abbrev kept_reply : Answer → ℕ → ReadWord → Bool → ℕ → ReadReply
kept_reply answer hops w store version = record { word = w; answer = answer; version = version; hops = hops; store = store; kept = Kept }

-- what stands before the word, and the members from the word on
front_spelled : (s : Settings) (answer : Answer) (hops : ℕ) (w : ReadWord) (store : Bool) (version : ℕ)
    → front_text s hops answer ++ ends w store version ≡ compact_text (read_data s None (kept_reply answer hops w store version))
unfolding escape_byte
front_spelled s (Count n) hops w store version =
    append_assoc (numbered (codes "{\"count\":") n) (numbered (codes ",\"hops\":") hops ++ codes ",\"kept\":true") (ends w store version)
    ∙ ap (λ l. numbered (codes "{\"count\":") n ++ l) (append_assoc (numbered (codes ",\"hops\":") hops) (codes ",\"kept\":true") (ends w store version))
front_spelled s (EdgesAre edges) hops w store version =
    let between = compact_text (edges_data edges) in
    let behind = numbered (codes ",\"hops\":") hops in
    ap (λ l. codes "{\"edges\":" ++ l) (append_assoc between (behind ++ codes ",\"kept\":true") (ends w store version)
    ∙ ap (λ l. between ++ l) (append_assoc behind (codes ",\"kept\":true") (ends w store version)))
front_spelled s (ObjectIs o) hops w store version =
    append_assoc (numbered (codes "{\"hops\":") hops) (codes ",\"kept\":true,\"object\":" ++ compact_text (object_data s o)) (ends w store version)

kept_spelled : (s : Settings) (answer : Answer) (hops : ℕ) (w : ReadWord) (store : Bool) (version : ℕ)
    → kept_text s (kept_reply answer hops w store version) ≡ compact_text (read_data s None (kept_reply answer hops w store version))
kept_spelled s answer hops w store version =
    ap (λ l. front_text s hops answer ++ l) (sym (ends_spelled w store version)) ∙ front_spelled s answer hops w store version

pub read_spelled : (s : Settings) (r : ReadReply) → r.kept ≡ Kept → kept_text s r ≡ compact_text (read_data s None r)
read_spelled s r kept =
    kept_spelled s r.answer r.hops r.word r.store r.version
    ∙ ap (λ (k : KeptOrNot). compact_text (read_data s None (record r { kept = k }))) (sym kept)
