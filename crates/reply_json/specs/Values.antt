-- Objects, edges, answers, lengths and messages.
use Rattle.std.specs.Prelude.{ℕ, List, [], ◌∷◌, map, Option, Some, None, unwrap_or, slice_get, codes}
use Rattle.serde_json.specs.Data.{Data, null, array}
use Rattle.serde_json.specs.View.{items_of}
use Rattle.reply_json.specs.Json.{fields, text, whole}
use Rattle.replies.specs.declared.lists.Message.{Message}
use Rattle.tao_base.specs.declared.data.Pair.{Pair}
use Rattle.tao_base.specs.declared.edge.Edge.{Edge}
use Rattle.tao_base.specs.declared.edge.Object.{Object}
use Rattle.tao_base.specs.declared.id.OType.{OType}
use Rattle.tao_base.specs.declared.query.Answer.{Answer}
use Rattle.tao_base.specs.declared.query.Answer.TheVariants.{Object as ObjectIs, Edges as EdgesAre, Count}
use Rattle.topology.specs.Config.{Settings}

-- the data of an object or an edge: each key with its value
abbrev pub pairs_data : List Pair → Data
pairs_data pairs = fields (map (λ p. (p.key, text p.value)) pairs)

-- the name of an object type; the empty text where there is no such type
abbrev pub otype_name : Settings → OType → List ℕ
otype_name s otype = unwrap_or (slice_get s.schema.objects otype.0) []

-- an object is told by its data and the name of its type; none by `null`
abbrev pub object_data : Settings → Option Object → Data
object_data s None = null
object_data s (Some o) = fields ((codes "data", pairs_data o.payload) ∷ (codes "otype", text (otype_name s o.otype)) ∷ [])

-- an edge is told by its data, its other end and its time
abbrev pub edge_data : Edge → Data
edge_data e = fields ((codes "data", pairs_data e.payload) ∷ (codes "id2", whole e.id2) ∷ (codes "time", whole e.time) ∷ [])

-- edges, in their order
abbrev pub edges_data : List Edge → Data
edges_data edges = array (items_of (map edge_data edges))

-- what an answer stands under
abbrev pub answer_name : Answer → List ℕ
answer_name (ObjectIs o) = codes "object"
answer_name (EdgesAre edges) = codes "edges"
answer_name (Count n) = codes "count"

-- an answer
abbrev pub answer_data : Settings → Answer → Data
answer_data s (ObjectIs o) = object_data s o
answer_data s (EdgesAre edges) = edges_data edges
answer_data s (Count n) = whole n

-- what is told of an answer under each of the three names: it stands under its own alone
abbrev pub count_said : Answer → Option Data
count_said (Count n) = Some (whole n)
count_said (EdgesAre edges) = None
count_said (ObjectIs o) = None

-- what stands under `edges`: None where the answer is a count or an object
abbrev pub edges_said : Answer → Option Data
edges_said (Count n) = None
edges_said (EdgesAre edges) = Some (edges_data edges)
edges_said (ObjectIs o) = None

-- what stands under `object`, `null` of one that isn't there; None where the answer is a count or edges
abbrev pub object_said : Settings → Answer → Option Data
object_said s (Count n) = None
object_said s (EdgesAre edges) = None
object_said s (ObjectIs o) = Some (object_data s o)

-- lengths, in their order
abbrev pub lengths_data : List ℕ → Data
lengths_data lengths = array (items_of (map whole lengths))

-- a message is told by its entry's position and shard
abbrev pub message_data : Message → Data
message_data m = fields ((codes "position", whole m.position) ∷ (codes "shard", whole m.shard) ∷ [])

-- messages, in their order
abbrev pub messages_data : List Message → Data
messages_data messages = array (items_of (map message_data messages))
