-- The text of a reply to a read whose answer is kept, in the parts that it is written in.
use Rattle.std.specs.Prelude.{◌≡◌, ℕ, List, [], ◌∷◌, ◌++◌, Bool, codes, decimal}
use Rattle.replies.specs.declared.calls.CallReply.TheVariants.{Read}
use Rattle.replies.specs.declared.calls.ReadReply.{ReadReply}
use Rattle.replies.specs.declared.nodes.KeptOrNot.TheVariants.{Kept}
use Rattle.replies.specs.declared.reply.Reply.{Reply}
use Rattle.replies.specs.declared.reply.Reply.TheVariants.{Called}
use Rattle.serde_json.specs.Data.{boolean}
use Rattle.serde_json.specs.Written.{compact_text}
use Rattle.tao_base.specs.declared.query.Answer.{Answer}
use Rattle.tao_base.specs.declared.query.Answer.TheVariants.{Object as ObjectIs, Edges as EdgesAre, Count}
use Rattle.topology.specs.Config.{Settings}
use Rattle.words.specs.Words.{word_text}
use Rattle.words.specs.declared.ReadWord.{ReadWord}
use Rattle.words.specs.declared.Word.TheVariants as word
use Rattle.reply_json.specs.Values.{edges_data, object_data}

-- a reply is that to a read, whose answer is kept
abbrev pub IsKeptRead : Reply → ReadReply → Type 0
IsKeptRead reply read = (reply ≡ Called (Read read)) × (read.kept ≡ Kept)

-- a text, and a number behind it
abbrev pub numbered : List ℕ → ℕ → List ℕ
numbered text number = text ++ decimal number

-- what stands before the word: the answer, the carries, and that the answer is kept
abbrev pub front_text : Settings → ℕ → Answer → List ℕ
front_text s hops (Count n) = numbered (codes "{\"count\":") n ++ (numbered (codes ",\"hops\":") hops ++ codes ",\"kept\":true")
front_text s hops (EdgesAre edges) =
    codes "{\"edges\":" ++ (compact_text (edges_data edges) ++ (numbered (codes ",\"hops\":") hops ++ codes ",\"kept\":true"))
front_text s hops (ObjectIs o) = numbered (codes "{\"hops\":") hops ++ (codes ",\"kept\":true,\"object\":" ++ compact_text (object_data s o))

-- the word, whether a store was called, and the name that the version stands under
abbrev pub ending_text : ReadWord → Bool → List ℕ
ending_text w store =
    codes ",\"ok\":\"" ++ (word_text (word.Read w) ++ (codes "\",\"store\":" ++ (compact_text (boolean store) ++ codes ",\"version\":")))

-- the whole text
abbrev pub kept_text : Settings → ReadReply → List ℕ
kept_text s r = front_text s r.hops r.answer ++ (numbered (ending_text r.word r.store) r.version ++ 125 ∷ [])
