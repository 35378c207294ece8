-- What each stage of a read does to the node that acts.
use Rattle.std.specs.Prelude.{ℕ, ◌≡◌, ◌≤◌, ◌<◌, ◌+◌, ⊤, true, false, List, Option, Some, None}
use Rattle.ask_table.specs.Asks.{is_full}
use Rattle.counts.specs.Count.{Rose}
use Rattle.graph_model.specs.Told.{WhereTold}
use Rattle.cache_items.specs.Kept.{GivesKept, kept_of, took}
use Rattle.cache_items.specs.Look.{look_of, looked_at}
use Rattle.cache_items.specs.Node.{Node, item_at, with_ended_ask, with_opened_ask}
use Rattle.cache_items.specs.declared.look.Kept.{Kept}
use Rattle.cache_items.specs.declared.look.Look.{Look}
use Rattle.cache_items.specs.declared.look.Look.TheVariants.{Hit, Miss}
use Rattle.follower_cache.specs.Seen.{FollowerState}
use Rattle.leader_tier.specs.LeaderReads.{GivesAnswer, asked_read, at_floor}
use Rattle.cache_items.specs.sealed_item.Decided.{IsWithinBound, content_answer, content_decides}
use Rattle.cache_items.specs.sealed_item.Fills.{SealedItem}
use Rattle.shard_log.specs.GrowthLaws.{IsLegalIn}
use Rattle.leader_tier.specs.shard_tables.ReadOuts.{IsReadOutOf, read_note}
use Rattle.leader_tier.specs.shard_tables.StoreView.{Store}
use Rattle.leader_tier.specs.shard_tables.Stores.{note_of}
use Rattle.leader_tier.specs.shard_tables.declared.leader_answer.LeaderAnswer.{LeaderAnswer}
use Rattle.leader_tier.specs.shard_tables.declared.leader_answer.LeaderAnswer.TheVariants as leader
use Rattle.leader_tier.specs.shard_tables.declared.read_out.ReadOut.{ReadOut}
use Rattle.leader_tier.specs.shard_tables.declared.read_out.ReadOut.TheVariants as out
use Rattle.tao_base.specs.EdgeTypes.{EdgeTypes}
use Rattle.tao_base.specs.Queries.{query_key, query_shard}
use Rattle.tao_base.specs.declared.id.Key.{Key}
use Rattle.tao_base.specs.declared.query.Answer.{Answer}
use Rattle.tao_base.specs.declared.query.Query.{Query}
use Rattle.tao_keeper.specs.KeeperState.{KeeperState}
use Rattle.core_model.specs.Pens.{IsSeen, Pens, SeenRule, store_in}
use Rattle.core_model.specs.Stores.{region_store}

-- a follower with another node
abbrev pub with_node : Node → FollowerState → FollowerState
with_node node f = record f { node = node }

-- a read's query, and the version that its answer must have at least
pub record Wanted : Type 0 where
  pub query : Query
  pub floor : ℕ

-- a read of the query whose answer must have at least that version
abbrev pub wanted : Query → ℕ → Wanted
wanted query floor = record { query = query; floor = floor }

-- ---- look

-- what comes of a look at a key: a hit brings the key's item to the front; a miss opens an ask on the key, unless as many are open as may be
abbrev pub AfterLook : Key → Look → Option ℕ → Node → Node → Type 0
AfterLook key (Hit answer version) ask old new = (ask ≡ None) × (new ≡ looked_at key (Hit answer version) old)
AfterLook key Miss None old new = (is_full old.asks ≡ true) × (new ≡ old)
AfterLook key Miss (Some number) old new = (is_full old.asks ≡ false) × (number ≡ old.asks.given + 1) × (new ≡ with_opened_ask key old)

-- the follower answers exactly where it holds an item of the key at the floor or above that decides the query, and else opens an ask
pub record LooksFirst (types : EdgeTypes) (read : Wanted) (look : Look) (ask : Option ℕ) (old new : FollowerState) : Type 0 where
  pub look_is : look ≡ look_of types (item_at old.node.items (query_key read.query)) read.query read.floor
  pub node : AfterLook (query_key read.query) look ask old.node new.node
  pub refills : new.refills ≡ old.refills

-- a follower that isn't to answer opens an ask on the key at once, unless as many are open as may be
pub record AsksAtOnce (key : Key) (ask : Option ℕ) (old new : FollowerState) : Type 0 where
  pub node : AfterLook key Miss ask old.node new.node
  pub refills : new.refills ≡ old.refills

-- an answer of the follower's own item is legal in the shard's log
abbrev pub IsLegalLook : EdgeTypes → Pens → Wanted → Look → Type 0
IsLegalLook types pens read (Hit answer version) = IsLegalIn types (pens (query_shard read.query)) read.query read.floor answer version
IsLegalLook types pens read Miss = ⊤

-- ---- ask

-- the stores, the region whose store is asked, and the keeper before and after its calls
pub record StoreCalls : Type 0 where
  pub region : ℕ
  pub stores : List Store
  pub before : KeeperState
  pub after : KeeperState

-- the calls of a region's store, among these stores, from one state of the keeper to the other
abbrev pub store_calls : ℕ → List Store → KeeperState → KeeperState → StoreCalls
store_calls region stores before after = record { region = region; stores = stores; before = before; after = after }

-- the store of that region and the shard
abbrev pub asked_store : StoreCalls → ℕ → Option Store
asked_store calls shard = store_in calls.stores (region_store calls.region shard)

-- a leader answers of an item of its own, or of its region's store of the shard
pub record LeaderAnswers (types : EdgeTypes) (read : Wanted) (given : LeaderAnswer) (calls : StoreCalls) (old new : Node) : Type 0 where
  pub store : Store
  pub stands : asked_store calls (query_shard read.query) ≡ Some store
  pub answers : GivesAnswer (asked_read types old read.query read.floor) store given new calls.before calls.after

-- what was given is for the read, its note is right, and it is at the read's floor
pub record IsRightFill (types : EdgeTypes) (Seen : SeenRule) (read : Wanted) (fill : SealedItem) : Type 0 where
  pub key_is : fill.key ≡ query_key read.query
  pub decides : content_decides types fill.content read.query ≡ true
  pub within : IsWithinBound types (query_key read.query) fill.content
  pub reaches : WhereTold fill.note.log.told (read.floor ≤ fill.version)
  pub seen : Seen (query_shard read.query) fill.note

-- what a leader answers is right for the read: a fill for it, an answer that is legal in a right note, or a version below its floor
abbrev pub IsRightAnswer : EdgeTypes → SeenRule → Wanted → LeaderAnswer → Type 0
IsRightAnswer types Seen read (leader.Filled fill) = IsRightFill types Seen read fill
IsRightAnswer types Seen read (leader.Past answer version total note) =
    IsLegalIn types note read.query read.floor answer version × Seen (query_shard read.query) note
IsRightAnswer types Seen read (leader.Behind version) = version < read.floor

-- what was given was seen of the shard's log
abbrev pub IsGivenFill : EdgeTypes → Pens → Wanted → SealedItem → Type 0
IsGivenFill types pens read fill = IsRightFill types (IsSeen pens) read fill

-- what a leader answers is right for the read, and was seen of the log of its shard
abbrev pub IsGivenAnswer : EdgeTypes → Pens → Wanted → LeaderAnswer → Type 0
IsGivenAnswer types pens read given = IsRightAnswer types (IsSeen pens) read given

-- ---- master

-- what a store read, as it is given to the follower
abbrev pub given_of : ReadOut → LeaderAnswer
given_of (out.Filled fill) = leader.Filled fill
given_of (out.Past answer version total note) = leader.Past answer version total note

-- the store reads all that it has, with calls of the keeper
pub record StoreReads (types : EdgeTypes) (query : Query) (read : ReadOut) (calls : StoreCalls) : Type 0 where
  pub store : Store
  pub stands : asked_store calls (query_shard query) ≡ Some store
  pub reads : WhereTold store.view.log.told (IsReadOutOf types (calls.before.told store.name).log query read)
  pub note_is : read_note read ≡ note_of store
  pub called : Rose calls.before.calls calls.after.calls

-- where no leader may be asked, the region's store answers at the floor itself, and nothing is kept
pub record StoreAnswers (types : EdgeTypes) (read : Wanted) (given : LeaderAnswer) (calls : StoreCalls) : Type 0 where
  pub out : ReadOut
  pub reads : StoreReads types read.query out calls
  pub given_is : given ≡ at_floor read.floor out

-- ---- keep

-- a fill that came for an ask: what it answers, and whether it is kept
pub record TakenFill : Type 0 where
  pub ask : Option ℕ
  pub fill : SealedItem
  pub answer : Answer
  pub kept : Kept

-- a fill that came for the ask, or for none, with the answer that it gives and whether it is kept
abbrev pub taken_fill : Option ℕ → SealedItem → Answer → Kept → TakenFill
taken_fill ask fill answer kept = record { ask = ask; fill = fill; answer = answer; kept = kept }

-- the follower answers from the fill, and keeps it or not by the rule of its ask, which ends
pub record KeepsFill (types : EdgeTypes) (query : Query) (taken : TakenFill) (old new : FollowerState) : Type 0 where
  pub answer_is : taken.answer ≡ content_answer types taken.fill.content query
  pub kept_is : GivesKept (kept_of taken.ask old.node.asks taken.fill.version taken.fill.as_of) taken.kept
  pub node_is : new ≡ with_node (took taken.fill taken.kept (with_ended_ask taken.ask old.node)) old

-- the follower's ask has ended
abbrev pub EndsAsk : Option ℕ → FollowerState → FollowerState → Type 0
EndsAsk ask old new = new ≡ with_node (with_ended_ask ask old.node) old
