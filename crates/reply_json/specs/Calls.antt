-- The replies to writes and reads.
use Rattle.std.specs.Prelude.{ℕ, [], ◌∷◌, Option, None as Nothing, Some, option_map, codes}
use Rattle.serde_json.specs.Data.{Data, boolean}
use Rattle.words.specs.Words.{word_text}
use Rattle.words.specs.declared.Word.TheVariants as word
use Rattle.replies.specs.Kinds.{kind_word}
use Rattle.replies.specs.declared.calls.CallReply.{CallReply}
use Rattle.replies.specs.declared.calls.CallReply.TheVariants.{Write, Read}
use Rattle.replies.specs.declared.calls.InverseEnd.{InverseEnd}
use Rattle.replies.specs.declared.calls.InverseEnd.TheVariants.{None, Written, Scheduled}
use Rattle.replies.specs.declared.calls.ReadReply.{ReadReply}
use Rattle.replies.specs.declared.calls.WriteKind.{WriteKind}
use Rattle.replies.specs.declared.calls.WriteKind.TheVariants.{ObjAdd, ObjUpdate, ObjDelete, AssocAdd, AssocDelete, AssocChangeType}
use Rattle.replies.specs.declared.calls.WriteReply.{WriteReply}
use Rattle.reply_json.specs.Json.{fields, given, text, whole}
use Rattle.reply_json.specs.Texts.{inverse_text, scheduled_text}
use Rattle.reply_json.specs.Nodes.{had, is_kept, needs, not_kept_why}
use Rattle.reply_json.specs.Values.{count_said, edges_said, object_said}
use Rattle.topology.specs.Config.{Settings}

-- the id of an object that was added
abbrev pub added_id : WriteKind → Option Data
added_id (ObjAdd id) = Some (whole id)
added_id ObjUpdate = Nothing
added_id ObjDelete = Nothing
added_id AssocAdd = Nothing
added_id AssocDelete = Nothing
added_id AssocChangeType = Nothing

-- why an inverse is not yet written
abbrev pub scheduled_why : InverseEnd → Option Data
scheduled_why None = Nothing
scheduled_why Written = Nothing
scheduled_why (Scheduled why) = Some (text (scheduled_text why))

-- the number of a plan that came to its end
abbrev pub plan_number : Option ℕ → Option Data
plan_number plan = option_map whole plan

-- a write is told by whether it changed anything, its hops, an added object's id, its inverse, its word, a plan's number, its entry's
-- position, whether it stood there before, and why an inverse is not yet written
abbrev pub write_data : Option ℕ → WriteReply → Data
write_data plan w =
    fields (given ((codes "changed", Some (boolean w.written.changed)) ∷ (codes "hops", Some (whole w.hops)) ∷ (codes "id", added_id w.kind)
    ∷ (codes "inverse", Some (text (inverse_text w.written.inverse))) ∷ (codes "ok", Some (text (word_text (word.Write (kind_word w.kind)))))
    ∷ (codes "plan", plan_number plan) ∷ (codes "position", Some (whole w.written.position)) ∷ (codes "retry", Some (boolean w.written.retry))
    ∷ (codes "why", scheduled_why w.written.inverse) ∷ []))

-- a read is told by its answer, its hops, whether a store was called, its word, a plan's number, its version, and whether the answer is kept
-- or why not
abbrev pub read_data : Settings → Option ℕ → ReadReply → Data
read_data s plan r =
    fields (given ((codes "count", count_said r.answer) ∷ (codes "edges", edges_said r.answer) ∷ (codes "have", had r.kept)
    ∷ (codes "hops", Some (whole r.hops)) ∷ (codes "kept", Some (boolean (is_kept r.kept))) ∷ (codes "need", needs r.kept)
    ∷ (codes "object", object_said s r.answer) ∷ (codes "ok", Some (text (word_text (word.Read r.word)))) ∷ (codes "plan", plan_number plan)
    ∷ (codes "store", Some (boolean r.store)) ∷ (codes "version", Some (whole r.version)) ∷ (codes "why", not_kept_why r.kept) ∷ []))

-- a call is told with the number of its plan, where it was carried out by one
abbrev pub call_data : Settings → Option ℕ → CallReply → Data
call_data s plan (Write w) = write_data plan w
call_data s plan (Read r) = read_data s plan r
