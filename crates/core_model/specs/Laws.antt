-- What stays so of the nodes of a core, whatever its stages do.
use Rattle.std.specs.Prelude.{ℕ, ◌≡◌, ◌≤◌, ◌<◌, Bool, IfSome, IsSome, IsTrue, List, Option, Some, true}
use Rattle.std.specs.List.{AllByRecursion, IsDistinct}
use Rattle.std.specs.Map.{keys_of as keys_held}
use Rattle.cache_items.specs.Node.{Node, without, without_last}
use Rattle.cache_items.specs.declared.look.Kept.{Kept}
use Rattle.cache_items.specs.declared.look.Look.{Look}
use Rattle.cache_items.specs.declared.look.Look.TheVariants.{Hit}
use Rattle.follower_cache.specs.cache_node.Answered.{LookAnswers, ViewAnswers}
use Rattle.follower_cache.specs.cache_node.True.{AreTold, IsTrueNode}
use Rattle.follower_cache.specs.Seen.{FollowerState}
use Rattle.follower_cache.specs.declared.queue.Refill.{Refill}
use Rattle.graph_model.specs.Told.{WhereTold}
use Rattle.leader_tier.specs.TakenWrites.{TakesWritten}
use Rattle.maint_msg.specs.Maints.{SeenMaint}
use Rattle.node_name.specs.declared.NodeName.{NodeName}
use Rattle.cache_items.specs.sealed_item.Fills.{SealedItem}
use Rattle.served_shards.specs.Served.{ServedShard, changed_at, forgetting, marking, seeing, served_at}
use Rattle.shard_log.specs.GrowthLaws.{IsLegalIn}
use Rattle.shard_log.specs.View.{View}
use Rattle.leader_tier.specs.shard_tables.StoreView.{Store}
use Rattle.leader_tier.specs.shard_tables.declared.leader_answer.LeaderAnswer.{LeaderAnswer}
use Rattle.tao_base.specs.EdgeTypes.{EdgeTypes}
use Rattle.tao_base.specs.Keys.{same_key}
use Rattle.tao_base.specs.Queries.{query_shard}
use Rattle.tao_base.specs.declared.entry.Entry.{Entry}
use Rattle.tao_base.specs.declared.id.Key.{Key}
use Rattle.tao_base.specs.declared.query.Answer.{Answer}
use Rattle.tao_keeper.specs.Growing.{LogsGrow}
use Rattle.tao_keeper.specs.Table.{Tables}
use Rattle.tao_schema.specs.Schema.{types_of}
use Rattle.topology.specs.Choices.{chosen_follower, chosen_leader, preferred_leader}
use Rattle.topology.specs.Config.{Settings}
use Rattle.topology.specs.States.{NodeStates, is_cache, is_up}
use Rattle.core_model.specs.Asks.{AsksGoOn}
use Rattle.core_model.specs.Consistent.{AreSeen, AreToldAs, HasReached, IsFollowerOf, IsNodeOf, IsRightNode, MarksGoOn}
use Rattle.core_model.specs.Emptied.{Anew, BeginsAnew, FollowerBeginsAnew, IsAtStore, MayBeginAnew, Restarts, at_marks, at_stores, region_tables}
use Rattle.core_model.specs.Evictions.{Evicts}
use Rattle.core_model.specs.Fleet.{regions_of, serves}
use Rattle.core_model.specs.Jobs.{IsMergedJob, IsOwedJob, ShardJob}
use Rattle.core_model.specs.Messages.{Delivers, DeliversThere, IsMessageFor, IsRefillFor, IsRightMessage, Processes, TakesRefill}
use Rattle.core_model.specs.Pens.{IsSeen, Pens, Rise, SeenRule, pens_of}
use Rattle.core_model.specs.Reads.{EndsAsk, IsLegalLook, IsRightAnswer, IsRightFill, KeepsFill, LeaderAnswers, LooksFirst, StoreCalls, Wanted, taken_fill}
use Rattle.core_model.specs.Serving.{IsFollowerFor, IsLeaderFor, IsLeaderIn}
use Rattle.core_model.specs.Stores.{AreKeptIn, AreStoresOf, store_length}
use Rattle.core_model.specs.Writes.{AppliesTo}

-- ---- what was seen stays seen

-- what a node has seen of its shards' logs still begins them after each of these steps
pub record NodesStaySeen : Type 0 where
  -- an append, or any steps of the logs
  pub rises : (old new : Pens) (served : List ServedShard) → Rise old new → AreSeen old served → AreSeen new served
  -- a meet with a note of the shard's log
  pub meets : (pens : Pens) (shard : ℕ) (note : View) (served : List ServedShard) → IsSeen pens shard note → AreSeen pens served
      → AreSeen pens (changed_at shard (seeing note) served)
  -- a mark, and marks forgotten
  pub marks : (pens : Pens) (shard position : ℕ) (served : List ServedShard) → AreSeen pens served → AreSeen pens (changed_at shard (marking position) served)
  pub forgets : (pens : Pens) (shard : ℕ) (served : List ServedShard) → AreSeen pens served → AreSeen pens (changed_at shard forgetting served)
  -- what a node has seen of a shard that it serves
  pub at : (pens : Pens) (shard : ℕ) (served : List ServedShard) (s : ServedShard) → AreSeen pens served → served_at shard served ≡ Some s
      → IsSeen pens shard s.view
  -- so a node stays one of its core as the logs grow
  pub node_rises : (s : Settings) (old new : Pens) (name : NodeName) (node : Node) → Rise old new → IsNodeOf s old name node → IsNodeOf s new name node

-- ---- a node stays one of its core

-- whatever a node's stages do, what it has seen stays right, and it is still the node of its name
pub record RightNodesStay (s : Settings) (Seen : SeenRule) (name : NodeName) : Type 0 where
  -- a look
  pub looks : (read : Wanted) (look : Look) (ask : Option ℕ) (old new : FollowerState) → LooksFirst (types_of s.schema) read look ask old new
      → IsDistinct same_key (keys_held old.node.items) → IsTrueNode new.node → IsRightNode s Seen name old.node → IsRightNode s Seen name new.node
  -- a leader's answer, which is for the read
  pub answers : (read : Wanted) (given : LeaderAnswer) (calls : StoreCalls) (old new : Node)
      → LeaderAnswers (types_of s.schema) read given calls old new → IsRightAnswer (types_of s.schema) Seen read given
      → IsDistinct same_key (keys_held old.items) → IsTrueNode new → IsRightNode s Seen name old → IsRightNode s Seen name new
  -- a fill that is kept, or not
  pub keeps : (read : Wanted) (ask : Option ℕ) (fill : SealedItem) (answer : Answer) (kept : Kept) (old new : FollowerState)
      → KeepsFill (types_of s.schema) read.query (taken_fill ask fill answer kept) old new → IsRightFill (types_of s.schema) Seen read fill
      → IsDistinct same_key (keys_held old.node.items) → IsTrueNode new.node → IsRightNode s Seen name old.node → IsRightNode s Seen name new.node
  -- an ask that ends
  pub ends : (ask : Option ℕ) (old new : FollowerState) → EndsAsk ask old new → IsTrueNode new.node → IsRightNode s Seen name old.node
      → IsRightNode s Seen name new.node
  -- what was written, at the leader that wrote it
  pub writes : (shard : ℕ) (entry : Option Entry) (note : View) (old new : Node) → TakesWritten (types_of s.schema) shard entry note old new
      → Seen shard note → IsDistinct same_key (keys_held old.items) → IsTrueNode new → IsRightNode s Seen name old → IsRightNode s Seen name new
  -- and at the follower that asked for it
  pub applies : (shard : ℕ) (entry : Entry) (note : View) (old new : FollowerState) → AppliesTo (types_of s.schema) shard entry note old new
      → Seen shard note → IsDistinct same_key (keys_held old.node.items) → IsTrueNode new.node → IsRightNode s Seen name old.node
      → IsRightNode s Seen name new.node
  -- an item that is dropped
  pub evicts : (key : Key) (old new : Node) → new ≡ record old { items = without key old.items } → IsDistinct same_key (keys_held old.items)
      → IsTrueNode new → IsRightNode s Seen name old → IsRightNode s Seen name new
  -- and the last one
  pub evicts_last : (old new : Node) → new ≡ record old { items = without_last old.items } → IsTrueNode new → IsRightNode s Seen name old
      → IsRightNode s Seen name new
  -- a message
  pub delivers : (m : SeenMaint) (dropped : ℕ) (old new : Node) → Delivers m dropped old new → IsRightMessage s Seen name m
      → IsDistinct same_key (keys_held old.items) → IsTrueNode new → IsRightNode s Seen name old → IsRightNode s Seen name new
  -- entries of a log
  pub processes : (shard : ℕ) (entries : List Entry) (note : View) (old new : Node) → Processes shard entries note old new → Seen shard note
      → IsDistinct same_key (keys_held old.items) → IsTrueNode new → IsRightNode s Seen name old → IsRightNode s Seen name new
  -- all that it holds is lost, and it begins anew
  pub begins : (at : Anew) (old new : Node) → Restarts Seen at old new → IsTrueNode new → IsRightNode s Seen name old → IsRightNode s Seen name new

-- a node that has seen beginnings of its shards' logs stays one of the core, whatever its stages do
abbrev pub NodesStay : Settings → Pens → NodeName → Type 0
NodesStay s pens name = RightNodesStay s (IsSeen pens) name

-- ---- a follower stays one, with its refills

-- a follower of the core stays one whose refills can be asked for, whatever its stages do
pub record FollowersStay (s : Settings) (pens : Pens) (name : NodeName) : Type 0 where
  -- the logs grow
  pub rises : (later : Pens) (f : FollowerState) → Rise pens later → IsFollowerOf s pens name f → IsFollowerOf s later name f
  -- its refills stay
  pub same : (old new : FollowerState) → IsNodeOf s pens name new.node → new.refills ≡ old.refills → IsFollowerOf s pens name old
      → IsFollowerOf s pens name new
  -- it loses them with all that it holds
  pub begins : (at : Anew) (old new : FollowerState) → FollowerBeginsAnew pens at old new → IsTrueNode new.node → IsFollowerOf s pens name old
      → IsFollowerOf s pens name new
  -- a message queues refills
  pub delivers : (m : SeenMaint) (dropped : ℕ) (old new : FollowerState) → DeliversThere (types_of s.schema) m dropped old new
      → IsMessageFor s pens name m → IsDistinct same_key (keys_held old.node.items) → IsTrueNode new.node → IsFollowerOf s pens name old
      → IsFollowerOf s pens name new
  -- a refill is taken out, and is one that can be asked for
  pub takes : (refill : Option Refill) (old new : FollowerState) → TakesRefill refill old new → IsFollowerOf s pens name old
      → IsFollowerOf s pens name new × IfSome refill (IsRefillFor s pens name)

-- ---- a message stays one

-- a message for a node stays one as the logs grow: what was seen of the log of its shard stays seen
pub record MessagesStay : Type 0 where
  pub rises : (s : Settings) (pens later : Pens) (name : NodeName) (m : SeenMaint) → Rise pens later → IsMessageFor s pens name m
      → IsMessageFor s later name m

-- ---- asks go on

-- through each stage of a node its asks go on: no number is given again, and an ask that is still open is on its key
pub record NodesAskOn : Type 0 where
  pub looks : (types : EdgeTypes) (read : Wanted) (look : Look) (ask : Option ℕ) (old new : FollowerState) → LooksFirst types read look ask old new
      → AsksGoOn old.node.asks new.node.asks
  pub keeps : (types : EdgeTypes) (read : Wanted) (ask : Option ℕ) (fill : SealedItem) (answer : Answer) (kept : Kept) (old new : FollowerState)
      → KeepsFill types read.query (taken_fill ask fill answer kept) old new → AsksGoOn old.node.asks new.node.asks
  pub ends : (ask : Option ℕ) (old new : FollowerState) → EndsAsk ask old new → AsksGoOn old.node.asks new.node.asks
  pub applies : (types : EdgeTypes) (shard : ℕ) (entry : Entry) (note : View) (old new : FollowerState) → AppliesTo types shard entry note old new
      → AsksGoOn old.node.asks new.node.asks
  pub delivers : (m : SeenMaint) (dropped : ℕ) (old new : Node) → Delivers m dropped old new → AsksGoOn old.asks new.asks
  pub processes : (shard : ℕ) (entries : List Entry) (note : View) (old new : Node) → Processes shard entries note old new
      → AsksGoOn old.asks new.asks
  pub begins : (pens : Pens) (at : Anew) (old new : Node) → BeginsAnew pens at old new → AsksGoOn old.asks new.asks

-- ---- no mark falls

-- no stage of a node lowers one of its low-water marks
pub record NodesMarkOn : Type 0 where
  pub looks : (types : EdgeTypes) (read : Wanted) (look : Look) (ask : Option ℕ) (old new : FollowerState) → LooksFirst types read look ask old new
      → MarksGoOn old.node new.node
  pub answers : (types : EdgeTypes) (read : Wanted) (given : LeaderAnswer) (calls : StoreCalls) (old new : Node)
      → LeaderAnswers types read given calls old new → MarksGoOn old new
  pub keeps : (types : EdgeTypes) (read : Wanted) (ask : Option ℕ) (fill : SealedItem) (answer : Answer) (kept : Kept) (old new : FollowerState)
      → KeepsFill types read.query (taken_fill ask fill answer kept) old new → MarksGoOn old.node new.node
  pub ends : (ask : Option ℕ) (old new : FollowerState) → EndsAsk ask old new → MarksGoOn old.node new.node
  pub writes : (types : EdgeTypes) (shard : ℕ) (entry : Option Entry) (note : View) (old new : Node) → TakesWritten types shard entry note old new
      → MarksGoOn old new
  pub applies : (types : EdgeTypes) (shard : ℕ) (entry : Entry) (note : View) (old new : FollowerState) → AppliesTo types shard entry note old new
      → MarksGoOn old.node new.node
  pub evicts : (key : Option Key) (held : Bool) (old new : Node) → Evicts key held old new → MarksGoOn old new
  pub delivers : (m : SeenMaint) (dropped : ℕ) (old new : Node) → Delivers m dropped old new → MarksGoOn old new
  pub processes : (shard : ℕ) (entries : List Entry) (note : View) (old new : Node) → Processes shard entries note old new → MarksGoOn old new
  pub begins : (pens : Pens) (at : Anew) (old new : Node) → BeginsAnew pens at old new → MayBeginAnew at old → MarksGoOn old new
  -- and one thing after another
  pub in_turn : (old mid new : Node) → MarksGoOn old mid → MarksGoOn mid new → MarksGoOn old new

-- ---- no node marks what its region's store hasn't

-- tables are the same, or those after a store's log grew
pub record NodesReachNoFurther (tables : Tables) (region : ℕ) : Type 0 where
  pub grows : (later : Tables) (node : Node) → LogsGrow true tables later → HasReached tables region node → HasReached later region node
  pub looks : (types : EdgeTypes) (read : Wanted) (look : Look) (ask : Option ℕ) (old new : FollowerState) → LooksFirst types read look ask old new
      → HasReached tables region old.node → HasReached tables region new.node
  pub answers : (types : EdgeTypes) (read : Wanted) (given : LeaderAnswer) (calls : StoreCalls) (old new : Node)
      → LeaderAnswers types read given calls old new → HasReached tables region old → HasReached tables region new
  pub keeps : (types : EdgeTypes) (read : Wanted) (ask : Option ℕ) (fill : SealedItem) (answer : Answer) (kept : Kept) (old new : FollowerState)
      → KeepsFill types read.query (taken_fill ask fill answer kept) old new → HasReached tables region old.node → HasReached tables region new.node
  pub ends : (ask : Option ℕ) (old new : FollowerState) → EndsAsk ask old new → HasReached tables region old.node → HasReached tables region new.node
  pub applies : (types : EdgeTypes) (shard : ℕ) (entry : Entry) (note : View) (old new : FollowerState) → AppliesTo types shard entry note old new
      → HasReached tables region old.node → HasReached tables region new.node
  pub evicts : (key : Option Key) (held : Bool) (old new : Node) → Evicts key held old new → HasReached tables region old → HasReached tables region new
  pub begins_at_marks : (pens : Pens) (old new : Node) → BeginsAnew pens at_marks old new → HasReached tables region old → HasReached tables region new
  -- what is marked is an entry that the store has
  pub writes : (types : EdgeTypes) (shard : ℕ) (entry : Option Entry) (note : View) (old new : Node) → TakesWritten types shard entry note old new
      → IfSome entry (λ e. e.position ≤ store_length tables region shard) → HasReached tables region old → HasReached tables region new
  pub delivers : (m : SeenMaint) (dropped : ℕ) (old new : Node) → Delivers m dropped old new → m.position ≤ store_length tables region m.shard
      → HasReached tables region old → HasReached tables region new
  pub processes : (shard : ℕ) (entries : List Entry) (note : View) (old new : Node) → Processes shard entries note old new
      → AllByRecursion (λ e. e.position ≤ store_length tables region shard) entries → HasReached tables region old → HasReached tables region new
  pub begins_at_stores : (pens : Pens) (old new : Node) → BeginsAnew pens (at_stores (region_tables true tables region)) old new
      → HasReached tables region new
  -- a node that comes up has processed all that the store has
  pub comes_up : (pens : Pens) (old new : Node) → BeginsAnew pens (at_stores (region_tables true tables region)) old new → IsAtStore tables region new

-- a node that has processed all that its region's store has, and nothing ahead, stays so until that store grows
pub record NodesStayAtStores (region : ℕ) : Type 0 where
  pub stays : (before after : Tables) (old new : Node) → MarksGoOn old new → AreTold old.served → HasReached after region new
      → ((shard : ℕ) → store_length after region shard ≡ store_length before region shard) → IsAtStore before region old → IsAtStore after region new

-- what is served is told only where the tables are
pub record NodesAreToldAs (tells : Bool) (s : Settings) (tables : Tables) (stores : List Store) : Type 0 where
  pub told : (name : NodeName) (node : Node) → AreStoresOf tells s tables stores → IsNodeOf s (pens_of stores) name node → AreToldAs tells node.served

-- ---- reads are legal

-- what a node or a note answers to the read is legal in the log of its shard, and stays so as the log grows
pub record ReadsAreLegal (types : EdgeTypes) (pens : Pens) (read : Wanted) : Type 0 where
  -- a hit of a node whose logs are told where the shard's is
  pub hit : (served : List ServedShard) (look : Look) → AreSeen pens served → WhereTold (pens (query_shard read.query)).log.told (AreTold served)
      → LookAnswers types served read.query look → ((answer : Answer) (version : ℕ) → look ≡ Hit answer version → read.floor ≤ version)
      → IsLegalLook types pens read look
  -- what a note answers, at the floor
  pub given : (note : View) (answer : Answer) (version : ℕ) → ViewAnswers types note read.query answer version
      → WhereTold note.log.told (read.floor ≤ version)
      → IsSeen pens (query_shard read.query) note → IsLegalIn types (pens (query_shard read.query)) read.query read.floor answer version
  -- what was legal stays so
  pub stays : (later : Pens) (answer : Answer) (version : ℕ) → Rise pens later
      → IsLegalIn types (pens (query_shard read.query)) read.query read.floor answer version
      → IsLegalIn types (later (query_shard read.query)) read.query read.floor answer version

-- ---- who serves

-- a node serves each configured shard of its turn, whatever of them it may have seen
pub record RightServesTurn (s : Settings) (Seen : SeenRule) (name : NodeName) (node : Node) (shard : ℕ) : Type 0 where
  pub serves : IsRightNode s Seen name node → shard < s.shards → IsTrue (serves s name shard) → IsSome (served_at shard node.served)

-- a node of the core serves the shard, where that is configured and the node's turn
abbrev pub ServesItsTurn : Settings → Pens → NodeName → Node → ℕ → Type 0
ServesItsTurn s pens name node shard = RightServesTurn s (IsSeen pens) name node shard

-- who is chosen is one of the configuration, and serves the shard
pub record ChoicesServe (s : Settings) (states : NodeStates) : Type 0 where
  pub follower : (region tier shard : ℕ) (name : NodeName) → states.regions ≡ regions_of s → shard < s.shards
      → chosen_follower states region tier shard ≡ Some name → IsFollowerFor s shard name
  pub leader : (region shard : ℕ) → states.regions ≡ regions_of s → shard < s.shards
      → IsTrue (is_cache states.regions (preferred_leader states region shard)) → IsLeaderFor s shard (preferred_leader states region shard)
  -- a leader that may stand in is one of its region, and up
  pub stand_in : (by : ℕ × ℕ) (region shard : ℕ) (name : NodeName) → states.regions ≡ regions_of s
      → chosen_leader states by region shard ≡ Some name → IsLeaderIn s region name × (is_up states name ≡ true)
  -- whoever is chosen is up
  pub follower_up : (region tier shard : ℕ) (name : NodeName) → chosen_follower states region tier shard ≡ Some name → is_up states name ≡ true
  -- a leader of the region serves the shard only where it is the preferred one
  pub prefers : (region shard : ℕ) (name : NodeName) → states.regions ≡ regions_of s → IsLeaderIn s region name → IsTrue (serves s name shard)
      → name ≡ preferred_leader states region shard

-- ---- jobs

-- as long as logs only grow, a job is owed, and one that was merged is merged
pub record JobsStayOwed (s : Settings) : Type 0 where
  pub owed : (old new : Tables) (j : ShardJob) → LogsGrow true old new → IsOwedJob s old j → IsOwedJob s new j
  pub merged : (old new : Tables) (j : ShardJob) → AreKeptIn s new → LogsGrow true old new → IsMergedJob s old j → IsMergedJob s new j
