-- What a read asks of a leader, of its region's store or of the master's, and what its answer says of the log.
use Rattle.std.specs.Prelude.{ℕ, ◌≡◌, ◌≤◌, Bool, List, Some, slice_get}
use Rattle.cache_items.specs.Look.{look_of}
use Rattle.cache_items.specs.Node.{item_at}
use Rattle.cache_items.specs.declared.look.Look.TheVariants.{Hit}
use Rattle.core_model.specs.Fleet.{ChangesNode, IsFirstAt, named, region_of}
use Rattle.core_model.specs.Reads.{LeaderAnswers, StoreAnswers, StoreCalls, Wanted, store_calls}
use Rattle.core_model.specs.Serving.{IsLeaderFor}
use Rattle.core_model.specs.Stores.{IsConfiguredStore, master_log, master_of}
use Rattle.core_model.specs.declared.named.Named.{Named}
use Rattle.core_model.specs.follower_cache.Seen.{FollowerState}
use Rattle.graph_model.specs.Legal.{IsLegal}
use Rattle.graph_model.specs.Told.{WhereTold}
use Rattle.node_name.specs.declared.NodeName.{NodeName}
use Rattle.node_name.specs.declared.NodeName.TheVariants.{Store as StoreName_, Leader, Follower}
use Rattle.replies.specs.declared.calls.ReadReply.{ReadReply}
use Rattle.shard_tables.specs.StoreView.{Store as StoreSeen}
use Rattle.shard_tables.specs.declared.leader_answer.LeaderAnswer.{LeaderAnswer}
use Rattle.tao_base.specs.EdgeTypes.{EdgeTypes}
use Rattle.tao_base.specs.Queries.{query_key, query_shard}
use Rattle.tao_base.specs.declared.query.Query.{Query}
use Rattle.tao_keeper.specs.KeeperState.{KeeperState}
use Rattle.tao_schema.specs.Schema.{types_of}
use Rattle.topology.specs.Config.{Settings}
use Rattle.core_steps.specs.Routes.{there_and_back}
use Rattle.core_steps.specs.World.{World}
use Rattle.core_steps.specs.declared.routes.Route.{Route}

-- the calls that a leader makes of its region's store of a shard
abbrev pub leader_calls : NodeName → List StoreSeen → KeeperState → KeeperState → StoreCalls
leader_calls leader stores before after = store_calls (region_of leader) stores before after

-- the calls that a reader makes of the master's store of a query's shard
abbrev pub master_calls : Settings → Query → List StoreSeen → KeeperState → KeeperState → StoreCalls
master_calls s query stores before after = store_calls (master_of s (query_shard query)) stores before after

-- the node may be asked about the shard: a leader of the configuration that serves it, or a region's store of it
abbrev pub MayBeAsked : Settings → ℕ → NodeName → Type 0
MayBeAsked s shard (Leader region index) = IsLeaderFor s shard (Leader region index)
MayBeAsked s shard (StoreName_ at) = IsConfiguredStore s at × (at.shard ≡ shard)
MayBeAsked s shard (Follower region tier index) = ⊥

-- who was asked answered: a leader of an item of its own or of its region's store; and where no leader may be asked that store itself, at the read's floor,
-- and then no leader changes
abbrev pub AnswersThere : EdgeTypes → NodeName → Wanted → LeaderAnswer → World → World → Type 0
AnswersThere types (Leader region index) read given old new = ChangesNode (Leader region index)
    (LeaderAnswers types read given (leader_calls (Leader region index) old.fleet.stores old.keepers new.keepers)) old.fleet.leaders new.fleet.leaders
AnswersThere types (StoreName_ at) read given old new =
    StoreAnswers types read given (store_calls at.region old.fleet.stores old.keepers new.keepers) × (new.fleet.leaders ≡ old.fleet.leaders)
AnswersThere types (Follower region tier index) read given old new = ⊥

-- who was asked gave it, by one carry there and one back
pub record GivesOver (types : EdgeTypes) (route : Route) (read : Wanted) (given : LeaderAnswer) (old new : World) : Type 0 where
  pub asks : AnswersThere types route.leader read given old new
  pub link : new.link ≡ there_and_back old.link

-- the first follower of that name holds an item that answers the query so, with each floor that its version has
abbrev pub AnswersAgain : EdgeTypes → NodeName → Query → ReadReply → List (Named FollowerState) → Type 0
AnswersAgain types name query reply followers = (place : ℕ) (f : FollowerState) (floor : ℕ) → IsFirstAt name followers place
    → slice_get followers place ≡ Some (named name f) → floor ≤ reply.version
    → look_of types (item_at f.node.items (query_key query)) query floor ≡ Hit reply.answer reply.version

-- where the tables are told, some beginning of the log of the shard answers so, at the floor
abbrev pub IsLegalNow : Bool → Settings → Wanted → ReadReply → KeeperState → Type 0
IsLegalNow tells s read reply keepers = WhereTold tells
    (IsLegal (types_of s.schema) (master_log s keepers.told (query_shard read.query)) read.query read.floor reply.answer reply.version)
