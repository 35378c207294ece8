-- The replies about nodes.
use Rattle.std.specs.Prelude.{ℕ, Bool, true, false, [], ◌∷◌, Option, None, Some, codes}
use Rattle.serde_json.specs.Data.{Data, boolean}
use Rattle.words.specs.Words.{word_text}
use Rattle.words.specs.declared.Word.TheVariants as word
use Rattle.replies.specs.declared.nodes.CacheReply.{CacheReply}
use Rattle.replies.specs.declared.nodes.CacheReply.TheVariants as cache
use Rattle.replies.specs.declared.nodes.DeliveredReply.{DeliveredReply}
use Rattle.replies.specs.declared.nodes.KeptOrNot.{KeptOrNot}
use Rattle.replies.specs.declared.nodes.KeptOrNot.TheVariants.{Kept, Not}
use Rattle.replies.specs.declared.nodes.NodeReply.{NodeReply}
use Rattle.replies.specs.declared.nodes.NodeReply.TheVariants as node
use Rattle.replies.specs.declared.nodes.Refilled.{Refilled}
use Rattle.replies.specs.declared.nodes.Repaired.{Repaired}
use Rattle.replies.specs.declared.nodes.Shown.{Shown}
use Rattle.replies.specs.declared.nodes.Shown.TheVariants.{Nothing, Held}
use Rattle.replies.specs.declared.nodes.ShownItem.{ShownItem}
use Rattle.replies.specs.declared.nodes.ShownItem.TheVariants.{Object as ObjectItem, List as ListItem}
use Rattle.replies.specs.declared.nodes.Streamed.{Streamed}
use Rattle.replies.specs.declared.nodes.Trimmed.{Trimmed}
use Rattle.reply_json.specs.Json.{fields, given, text, whole}
use Rattle.reply_json.specs.Texts.{not_kept_text, verdict_text}
use Rattle.reply_json.specs.Values.{object_data, edges_data, messages_data}
use Rattle.topology.specs.Config.{Settings}

-- ---- whether a fill was kept, and else why not

-- whether the cache kept the fill
abbrev pub is_kept : KeptOrNot → Bool
is_kept Kept = true
is_kept (Not n) = false

-- what a fill had that was not kept
abbrev pub had : KeptOrNot → Option Data
had Kept = None
had (Not n) = Some (whole n.have)

-- what a fill that was not kept would have needed
abbrev pub needs : KeptOrNot → Option Data
needs Kept = None
needs (Not n) = Some (whole n.need)

-- why a fill was not kept; None where it was
abbrev pub not_kept_why : KeptOrNot → Option Data
not_kept_why Kept = None
not_kept_why (Not n) = Some (text (not_kept_text n.why))

-- ---- cache nodes

-- a delivery is told by the items that it dropped, the node's mark, its word, and its message
abbrev pub delivered_data : DeliveredReply → Data
delivered_data d =
    fields ((codes "dropped", whole d.dropped) ∷ (codes "mark", whole d.mark) ∷ (codes "ok", text (word_text (word.Delivery d.word)))
    ∷ (codes "position", whole d.message.position) ∷ (codes "shard", whole d.message.shard) ∷ [])

-- a refill is told by its hops, whether a store was asked, the version, and why the list was not kept
abbrev pub refilled_data : Refilled → Data
refilled_data r =
    fields (given ((codes "have", had r.kept) ∷ (codes "hops", Some (whole r.hops)) ∷ (codes "kept", Some (boolean (is_kept r.kept)))
    ∷ (codes "need", needs r.kept) ∷ (codes "ok", Some (text (word_text word.Refill))) ∷ (codes "store", Some (boolean r.store))
    ∷ (codes "version", Some (whole r.version)) ∷ (codes "why", not_kept_why r.kept) ∷ []))

-- an item is told with its version and the node's mark
abbrev pub item_data : Settings → ℕ → ℕ → ShownItem → Data
item_data s mark version (ObjectItem o) =
    fields ((codes "held", boolean true) ∷ (codes "mark", whole mark) ∷ (codes "object", object_data s o) ∷ (codes "ok", text (word_text word.Show))
    ∷ (codes "version", whole version) ∷ [])
item_data s mark version (ListItem edges total) =
    fields ((codes "edges", edges_data edges) ∷ (codes "held", boolean true) ∷ (codes "mark", whole mark) ∷ (codes "ok", text (word_text word.Show))
    ∷ (codes "total", whole total) ∷ (codes "version", whole version) ∷ [])

-- what a node holds of a key is told with the node's mark
abbrev pub shown_data : Settings → ℕ → Shown → Data
shown_data s mark Nothing = fields ((codes "held", boolean false) ∷ (codes "mark", whole mark) ∷ (codes "ok", text (word_text word.Show)) ∷ [])
shown_data s mark (Held version item) = item_data s mark version item

-- what is told of a cache node
abbrev pub cache_data : Settings → CacheReply → Data
cache_data s (cache.Delivered d) = delivered_data d
cache_data s (cache.Lost m) = fields ((codes "ok", text (word_text word.Drop)) ∷ (codes "position", whole m.position) ∷ (codes "shard", whole m.shard) ∷ [])
cache_data s (cache.Refilled r) = refilled_data r
cache_data s (cache.Evicted evicted) = fields ((codes "evicted", boolean evicted) ∷ (codes "ok", text (word_text word.Evict)) ∷ [])
cache_data s (cache.Shown mark item) = shown_data s mark item
cache_data s (cache.Inbox messages) = fields ((codes "messages", messages_data messages) ∷ (codes "ok", text (word_text word.Inbox)) ∷ [])

-- ---- all nodes

-- a stream is told by its hops, the position that the store takes next, and what it did with the entry
abbrev pub streamed_data : Streamed → Data
streamed_data r =
    fields ((codes "hops", whole r.hops) ∷ (codes "next", whole r.next) ∷ (codes "ok", text (word_text word.Stream))
    ∷ (codes "verdict", text (verdict_text r.verdict)) ∷ [])

-- a trim is told by the store's cut, and how many nodes were reset for it
abbrev pub trimmed_data : Trimmed → Data
trimmed_data r = fields ((codes "cut", whole r.cut) ∷ (codes "ok", text (word_text word.Trim)) ∷ (codes "reset", whole r.reset) ∷ [])

-- a repair is told by its hops, its job, and whether it wrote an entry
abbrev pub repaired_data : Repaired → Data
repaired_data r =
    fields ((codes "hops", whole r.hops) ∷ (codes "job", whole r.job) ∷ (codes "ok", text (word_text word.Repair)) ∷ (codes "wrote", boolean r.wrote) ∷ [])

-- what is told of a node
abbrev pub node_data : Settings → NodeReply → Data
node_data s (node.Cache reply) = cache_data s reply
node_data s (node.Streamed r) = streamed_data r
node_data s (node.Trimmed r) = trimmed_data r
node_data s (node.Repaired r) = repaired_data r
node_data s (node.Health which changed) = fields ((codes "changed", boolean changed) ∷ (codes "ok", text (word_text (word.Health which))) ∷ [])
node_data s (node.Link which) = fields ((codes "ok", text (word_text (word.Link which))) ∷ [])
