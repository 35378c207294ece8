-- What a leader answers to a read, and what becomes of its node.
use Rattle.std.specs.Prelude.{ℕ, ◌≡◌, ◌≤◌, ◌<◌, ◌⊎◌, ⊤, true, nat_lt, if◌then◌else◌, Some, None}
use Rattle.tao_base.specs.EdgeTypes.{EdgeTypes}
use Rattle.tao_base.specs.Keys.{key_shard}
use Rattle.tao_base.specs.Queries.{query_key}
use Rattle.tao_base.specs.declared.query.Query.{Query}
use Rattle.counts.specs.Count.{Rose}
use Rattle.graph_model.specs.Told.{WhereTold}
use Rattle.cache_node.specs.sealed_item.Decided.{IsWithinBound, content_answer, content_decides}
use Rattle.cache_node.specs.sealed_item.Fills.{SealedItem}
use Rattle.cache_node.specs.served_shards.Served.{top_at}
use Rattle.cache_node.specs.cache_items.HandedOn.{HandsOn, handed_on, with_copy}
use Rattle.cache_node.specs.cache_items.Kept.{GivesKept, own_kept_of}
use Rattle.cache_node.specs.cache_items.Node.{Node}
use Rattle.cache_node.specs.cache_items.declared.look.Kept.{Kept}
use Rattle.cache_node.specs.Answered.{ViewAnswers}
use Rattle.tao_keeper.specs.KeeperState.{KeeperState}
use Rattle.shard_tables.specs.ReadOuts.{IsReadOutOf, read_note}
use Rattle.shard_tables.specs.StoreView.{Store}
use Rattle.shard_tables.specs.Stores.{note_of}
use Rattle.shard_tables.specs.declared.leader_answer.LeaderAnswer.{LeaderAnswer}
use Rattle.shard_tables.specs.declared.leader_answer.LeaderAnswer.TheVariants.{Filled, Past, Behind}
use Rattle.shard_tables.specs.declared.read_out.ReadOut.{ReadOut}
use Rattle.shard_tables.specs.declared.read_out.ReadOut.TheVariants as out

-- a read that is asked of a leader: by these types, of this node, at a floor
pub record AskedRead : Type 0 where
  pub types : EdgeTypes
  pub node : Node
  pub query : Query
  pub floor : ℕ

-- the read that is asked of a leader: of this query, by these types, of this node, at a floor
abbrev pub asked_read : EdgeTypes → Node → Query → ℕ → AskedRead
asked_read types node query floor = record { types = types; node = node; query = query; floor = floor }

-- what a store read, where it has come to the floor, and else the version that it has
abbrev pub at_floor : ℕ → ReadOut → LeaderAnswer
at_floor floor (out.Filled fill) = if nat_lt fill.version floor then Behind fill.version else Filled fill
at_floor floor (out.Past answer version total note) = if nat_lt version floor then Behind version else Past answer version total note

-- an item of the leader's own serves: it is handed on and then stands first, and the keeper was not called
pub record HandsOnOwn (asked : AskedRead) (given : LeaderAnswer) (new : Node) (before after : KeeperState) : Type 0 where
  pub fill : SealedItem
  pub given_is : given ≡ Filled fill
  pub serves : HandsOn asked.types asked.node asked.query asked.floor (Some fill)
  pub node_is : new ≡ handed_on (query_key asked.query) (Some fill) asked.node
  pub uncalled : after ≡ before

-- the node after its store's answer: a copy of a fill is kept or not, by the rule of a leader's own. It stays where nothing was filled
abbrev pub KeepsGiven : Node → LeaderAnswer → Node → Type 0
KeepsGiven old (Filled fill) new =
    (kept : Kept) × GivesKept (own_kept_of (top_at (key_shard fill.key) old.served) fill.as_of) kept × (new ≡ with_copy fill kept old)
KeepsGiven old (Past answer version total note) new = new ≡ old
KeepsGiven old (Behind version) new = new ≡ old

-- no item of the leader's own serves: the store is read, with calls of the keeper, and what it read of its log is answered, at the floor
pub record ReadsStore (asked : AskedRead) (store : Store) (given : LeaderAnswer) (new : Node) (before after : KeeperState) : Type 0 where
  pub none : HandsOn asked.types asked.node asked.query asked.floor None
  pub out : ReadOut
  pub reads : WhereTold store.view.log.told (IsReadOutOf asked.types (before.told store.name).log asked.query out)
  pub note_is : read_note out ≡ note_of store
  pub given_is : given ≡ at_floor asked.floor out
  pub keeps : KeepsGiven asked.node given new
  pub called : Rose before.calls after.calls

-- a leader answers of an item of its own, or of its store
abbrev pub GivesAnswer : AskedRead → Store → LeaderAnswer → Node → KeeperState → KeeperState → Type 0
GivesAnswer asked store given new before after = HandsOnOwn asked given new before after ⊎ ReadsStore asked store given new before after

-- the fill is of the query's key, decides the query by no more edges than the bound, and has the floor; what is read off it is true of what its note has seen
pub record IsFillAt (types : EdgeTypes) (query : Query) (floor : ℕ) (fill : SealedItem) : Type 0 where
  pub key_is : fill.key ≡ query_key query
  pub decides : content_decides types fill.content query ≡ true
  pub within : IsWithinBound types (query_key query) fill.content
  pub reaches : floor ≤ fill.version
  pub legal : ViewAnswers types fill.note query (content_answer types fill.content query) fill.version

-- what is handed out has the floor and is true of what its note has seen; a version that is behind is below the floor
abbrev pub IsLegalAt : EdgeTypes → Query → ℕ → LeaderAnswer → Type 0
IsLegalAt types query floor (Filled fill) = IsFillAt types query floor fill
IsLegalAt types query floor (Past answer version total note) = (floor ≤ version) × ViewAnswers types note query answer version
IsLegalAt types query floor (Behind version) = version < floor

-- an answer that a store read past the bound is exact in what its note has seen
abbrev pub AreAnswersSeen : EdgeTypes → Query → ReadOut → Type 0
AreAnswersSeen types query (out.Filled fill) = ⊤
AreAnswersSeen types query (out.Past answer version total note) = ViewAnswers types note query answer version
