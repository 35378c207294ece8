-- The text of a reply.
use Rattle.std.specs.Prelude.{ℕ, List, [], ◌∷◌, None, codes}
use Rattle.serde_json.specs.Data.{Data}
use Rattle.serde_json.specs.Written.{compact_text}
use Rattle.words.specs.Words.{word_text}
use Rattle.words.specs.declared.Word.TheVariants as word
use Rattle.tao_base.specs.declared.query.Answer.{Answer}
use Rattle.tao_base.specs.declared.id.StoreName.{StoreName}
use Rattle.node_name.specs.declared.NodeName.TheVariants.{Store}
use Rattle.topology.specs.Config.{Settings}
use Rattle.topology.specs.Nodes.{node_text}
use Rattle.replies.specs.declared.reply.Reply.{Reply}
use Rattle.replies.specs.declared.reply.Reply.TheVariants.{Configured, BadConfiguration, BadStores, Opened, Called, Plan, Node, Settled, Audited, Refused}
use Rattle.reply_json.specs.Calls.{call_data}
use Rattle.reply_json.specs.Json.{fields, text, whole}
use Rattle.reply_json.specs.Nodes.{node_data}
use Rattle.reply_json.specs.Plans.{plan_data}
use Rattle.reply_json.specs.Refusals.{refusal_data}
use Rattle.reply_json.specs.Values.{answer_name, answer_data, lengths_data}

-- a bad configuration is told by its first bad field
abbrev pub bad_configuration_data : List ℕ → Data
bad_configuration_data field = fields ((codes "bad", text (codes "configuration")) ∷ (codes "field", text field) ∷ [])

-- stores that disagree are told by the first position at which they do
abbrev pub bad_stores_data : Settings → StoreName → ℕ → Data
bad_stores_data s store position =
    fields ((codes "bad", text (codes "stores")) ∷ (codes "position", whole position) ∷ (codes "store", text (node_text s (Store store))) ∷ [])

-- an audit is told by its answer and the length of the log
abbrev pub audit_data : Settings → Answer → ℕ → Data
audit_data s answer position =
    fields ((answer_name answer, answer_data s answer) ∷ (codes "ok", text (word_text word.Audit)) ∷ (codes "position", whole position) ∷ [])

-- the value that a reply is
abbrev pub data_of : Settings → Reply → Data
data_of s Configured = fields ((codes "ok", text (codes "configured")) ∷ [])
data_of s (BadConfiguration field) = bad_configuration_data field
data_of s (BadStores store position) = bad_stores_data s store position
data_of s (Opened session) = fields ((codes "ok", text (word_text word.Open)) ∷ (codes "session", whole session) ∷ [])
data_of s (Called reply) = call_data s None reply
data_of s (Plan reply) = plan_data s reply
data_of s (Node reply) = node_data s reply
data_of s (Settled logs) = fields ((codes "logs", lengths_data logs) ∷ (codes "ok", text (word_text word.Settle)) ∷ [])
data_of s (Audited answer position) = audit_data s answer position
data_of s (Refused refusal) = refusal_data s refusal

-- the text of a reply: JSON without spaces
abbrev pub reply_text : Settings → Reply → List ℕ
reply_text s reply = compact_text (data_of s reply)
