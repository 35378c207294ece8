-- Refusals: each is told by its name, and by what it is about.
use Rattle.std.specs.Prelude.{ℕ, List, [], ◌∷◌, codes}
use Rattle.serde_json.specs.Data.{Data}
use Rattle.replies.specs.declared.refusals.LineRefused.{LineRefused}
use Rattle.replies.specs.declared.refusals.LineRefused.TheVariants.{BadLine, TooLarge, NotHere}
use Rattle.replies.specs.declared.refusals.NameRefused.{NameRefused}
use Rattle.replies.specs.declared.refusals.NameRefused.TheVariants.{NoTier, NoNode, UnknownType, NoShard, SameType, Limit}
use Rattle.replies.specs.declared.refusals.NodeRefused.{NodeRefused}
use Rattle.replies.specs.declared.refusals.NodeRefused.TheVariants.{NoMessage, NoRefill, IsMaster, NoEntry, NoServer, NodeDown}
use Rattle.replies.specs.declared.refusals.PlanRefused.{PlanRefused}
use Rattle.replies.specs.declared.refusals.PlanRefused.TheVariants.{NoPlan, PlanThere, PlanFull}
use Rattle.replies.specs.declared.refusals.Refusal.{Refusal}
use Rattle.replies.specs.declared.refusals.Refusal.TheVariants.{Line, Plan, Session, Name, Node, Store, Memory}
use Rattle.replies.specs.declared.refusals.SessionRefused.{SessionRefused}
use Rattle.replies.specs.declared.refusals.SessionRefused.TheVariants.{NoSession, SessionThere, SessionFull}
use Rattle.replies.specs.declared.refusals.StoreRefused.{StoreRefused}
use Rattle.replies.specs.declared.refusals.StoreRefused.TheVariants.{TooOld, SeqReused, ShardFull, StampFull, LogFull, KeeperFault, LinkFault, Unsettled}
use Rattle.replies.specs.declared.refusals.When.{When}
use Rattle.replies.specs.declared.refusals.When.TheVariants.{Before, After}
use Rattle.words.specs.Words.{word_text}
use Rattle.topology.specs.Config.{Settings}
use Rattle.topology.specs.Nodes.{node_text, region_name}
use Rattle.reply_json.specs.Json.{fields, text, whole}
use Rattle.reply_json.specs.Texts.{unsettled_text, when_text}

-- a refusal about a name
abbrev pub about_name : List ℕ → List ℕ → Data
about_name word name = fields ((codes "name", text name) ∷ (codes "no", text word) ∷ [])

-- a refusal about a number whose name comes behind `no` in the order of names
abbrev pub about_number : List ℕ → List ℕ → ℕ → Data
about_number word name n = fields ((codes "no", text word) ∷ (name, whole n) ∷ [])

-- a refusal about a number whose name comes before `no`
abbrev pub number_about : List ℕ → ℕ → List ℕ → Data
number_about name n word = fields ((name, whole n) ∷ (codes "no", text word) ∷ [])

-- a line that is refused is told by what is wrong with it
abbrev pub line_refused : LineRefused → Data
line_refused (BadLine field) = fields ((codes "field", text field) ∷ (codes "no", text (codes "bad_line")) ∷ [])
line_refused (TooLarge bytes pairs) = fields ((codes "bytes", whole bytes) ∷ (codes "no", text (codes "too_large")) ∷ (codes "pairs", whole pairs) ∷ [])
line_refused (NotHere word) = fields ((codes "do", text (word_text word)) ∷ (codes "no", text (codes "not_here")) ∷ [])

-- a plan that isn't taken further is told by its number, or by how many are held
abbrev pub plan_refused : PlanRefused → Data
plan_refused (NoPlan plan) = about_number (codes "no_plan") (codes "plan") plan
plan_refused (PlanThere plan) = about_number (codes "plan_there") (codes "plan") plan
plan_refused (PlanFull plans) = about_number (codes "plan_full") (codes "plans") plans

-- a session that is refused is told by its number, or by how many are open
abbrev pub session_refused : SessionRefused → Data
session_refused (NoSession session) = about_number (codes "no_session") (codes "session") session
session_refused (SessionThere session) = about_number (codes "session_there") (codes "session") session
session_refused (SessionFull sessions) = about_number (codes "session_full") (codes "sessions") sessions

-- a name that is refused is told as it was given, or by what of it is too much
abbrev pub name_refused : NameRefused → Data
name_refused (NoTier name) = about_name (codes "no_tier") name
name_refused (NoNode name) = about_name (codes "no_node") name
name_refused (UnknownType name) = about_name (codes "unknown_type") name
name_refused (NoShard shard) = about_number (codes "no_shard") (codes "shard") shard
name_refused (SameType name) = about_name (codes "same_type") name
name_refused (Limit bound count) = fields ((codes "bound", whole bound) ∷ (codes "count", whole count) ∷ (codes "no", text (codes "limit")) ∷ [])

-- the position of the committed entry, 0 before
abbrev pub when_position : When → ℕ
when_position Before = 0
when_position (After position) = position

-- a node was down
abbrev pub node_down : List ℕ → When → Data
node_down name when =
    fields ((codes "name", text name) ∷ (codes "no", text (codes "node_down")) ∷ (codes "position", whole (when_position when))
    ∷ (codes "when", text (when_text when)) ∷ [])

-- a carry failed
abbrev pub link_fault : ℕ → When → Data
link_fault count when =
    fields ((codes "count", whole count) ∷ (codes "no", text (codes "link_fault")) ∷ (codes "position", whole (when_position when))
    ∷ (codes "when", text (when_text when)) ∷ [])

-- the region is the master of the shard
abbrev pub is_master : List ℕ → ℕ → Data
is_master region shard = fields ((codes "no", text (codes "is_master")) ∷ (codes "region", text region) ∷ (codes "shard", whole shard) ∷ [])

-- a log of that length has no entry at the position
abbrev pub no_such_entry : ℕ → ℕ → Data
no_such_entry length position =
    fields ((codes "length", whole length) ∷ (codes "no", text (codes "no_entry")) ∷ (codes "position", whole position) ∷ [])

-- what a node could not do is told by the node, or by what was asked of it
abbrev pub node_refused : Settings → NodeRefused → Data
node_refused s (NoMessage message) = number_about (codes "message") message (codes "no_message")
node_refused s (NoRefill node) = fields ((codes "no", text (codes "no_refill")) ∷ (codes "node", text (node_text s node)) ∷ [])
node_refused s (IsMaster store) = is_master (region_name s.regions store.region) store.shard
node_refused s (NoEntry length position) = no_such_entry length position
node_refused s (NoServer region) = about_name (codes "no_server") (region_name s.regions region)
node_refused s (NodeDown node when) = node_down (node_text s node) when

-- an entry at the position, at or below the cut, is old
abbrev pub too_old : ℕ → ℕ → Data
too_old cut position = fields ((codes "cut", whole cut) ∷ (codes "no", text (codes "too_old")) ∷ (codes "position", whole position) ∷ [])

-- what a store could not do is told by the number that stood against it
abbrev pub store_refused : StoreRefused → Data
store_refused (TooOld cut position) = too_old cut position
store_refused (SeqReused position) = about_number (codes "seq_reused") (codes "position") position
store_refused (ShardFull serial) = about_number (codes "shard_full") (codes "serial") serial
store_refused (StampFull number) = about_number (codes "stamp_full") (codes "number") number
store_refused (LogFull length) = number_about (codes "length") length (codes "log_full")
store_refused (KeeperFault count) = number_about (codes "count") count (codes "keeper_fault")
store_refused (LinkFault count when) = link_fault count when
store_refused (Unsettled shard why) =
    fields ((codes "no", text (codes "unsettled")) ∷ (codes "shard", whole shard) ∷ (codes "why", text (unsettled_text why)) ∷ [])

-- a refusal, as it is told
abbrev pub refusal_data : Settings → Refusal → Data
refusal_data s (Line refused) = line_refused refused
refusal_data s (Plan refused) = plan_refused refused
refusal_data s (Session refused) = session_refused refused
refusal_data s (Name refused) = name_refused refused
refusal_data s (Node refused) = node_refused s refused
refusal_data s (Store refused) = store_refused refused
refusal_data s (Memory position) = about_number (codes "memory") (codes "position") position
