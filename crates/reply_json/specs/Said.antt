-- What the members of a reply say, as values.
use Rattle.std.specs.Prelude.{[], ◌∷◌, Option, Some, None, codes}
use Rattle.serde_json.specs.Data.{Data, null, boolean}
use Rattle.reply_json.specs.Json.{fields, text, whole}
use Rattle.reply_json.specs.Values.{pairs_data, edges_data, lengths_data, messages_data}
use Rattle.reply_json.specs.declared.said.ObjectSaid.{ObjectSaid}
use Rattle.reply_json.specs.declared.said.Said.{Said}
use Rattle.reply_json.specs.declared.said.Said.TheVariants.{Flag, Whole, Text, Object, Edges, Lengths, Messages}
use Rattle.reply_json.specs.declared.values.Part.{Part}
use Rattle.reply_json.specs.declared.values.Part.TheVariants as part

-- a part of an object or an edge
abbrev pub part_value : Part → Data
part_value (part.Whole n) = whole n
part_value (part.Text t) = text t.now
part_value (part.Pairs pairs) = pairs_data pairs.now

-- an object with the name of its type
abbrev pub object_value : ObjectSaid → Data
object_value o = fields ((codes "data", pairs_data o.payload.now) ∷ (codes "otype", text o.otype.now) ∷ [])

-- an object, or none
abbrev pub maybe_object_value : Option ObjectSaid → Data
maybe_object_value None = null
maybe_object_value (Some o) = object_value o

-- what a member says
abbrev pub said_value : Said → Data
said_value (Flag b) = boolean b
said_value (Whole n) = whole n
said_value (Text t) = text t.now
said_value (Object o) = maybe_object_value o
said_value (Edges edges) = edges_data edges.now
said_value (Lengths lengths) = lengths_data lengths.now
said_value (Messages messages) = messages_data messages.now
