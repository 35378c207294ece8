-- What stays so of the inboxes of a core.
use Rattle.std.specs.Prelude.{ℕ, ◌≤◌, true, IfSome, List, Option}
use Rattle.std.specs.List.{AllByRecursion}
use Rattle.maint_msg.specs.Maints.{SeenMaint}
use Rattle.node_name.specs.declared.NodeName.{NodeName}
use Rattle.tao_keeper.specs.Growing.{LogsGrow}
use Rattle.tao_keeper.specs.Table.{Tables}
use Rattle.topology.specs.Choices.{master_region}
use Rattle.topology.specs.Config.{Settings}
use Rattle.topology.specs.States.{NodeStates}
use Rattle.core_model.specs.Evictions.{IsCacheOf}
use Rattle.core_model.specs.Fleet.{ChangesNode, HasNode}
use Rattle.core_model.specs.Messages.{IsOfStore, notified_besides, notified_by, notified_of}
use Rattle.core_model.specs.Pens.{Pens, Rise}
use Rattle.core_model.specs.Stores.{store_length}
use Rattle.core_mail.specs.Inboxes.{AreEmpty, AreInboxesOf, HaveArrived, Inboxes, LosesAll, Sends, TakesOut, WaitsAt}

-- the inboxes stay those of the core as logs grow, and each leader and follower of the configuration has one
pub record InboxesStay (s : Settings) (pens : Pens) (inboxes : Inboxes) : Type 0 where
  -- the logs grow
  pub rises : (later : Pens) → Rise pens later → AreInboxesOf s pens inboxes → AreInboxesOf s later inboxes
  -- each leader and follower of the configuration has one
  pub cache_has : (name : NodeName) → IsCacheOf s name → AreInboxesOf s pens inboxes → HasNode name inboxes

-- the stores of the nodes' regions have come to what waits for them, whatever becomes of the inboxes
pub record ArrivedStay (tables : Tables) : Type 0 where
  -- the logs grow
  pub grows : (later : Tables) (inboxes : Inboxes) → LogsGrow true tables later → HaveArrived tables inboxes → HaveArrived later inboxes
  -- nodes are sent a message to which these stores have come
  pub sends : (names : List NodeName) (message : SeenMaint) (old new : Inboxes) → Sends names message old new
      → AllByRecursion (λ name. IsOfStore tables name message) names → HaveArrived tables old → HaveArrived tables new
  -- a message is taken out, to which its node's store has come
  pub takes : (name : NodeName) (place : ℕ) (message : Option SeenMaint) (old new : Inboxes) → ChangesNode name (TakesOut place message) old new
      → HaveArrived tables old → HaveArrived tables new
  pub taken : (name : NodeName) (place : ℕ) (message : Option SeenMaint) (old new : Inboxes) → ChangesNode name (TakesOut place message) old new
      → HaveArrived tables old → IfSome message (IsOfStore tables name)
  -- or copied
  pub copied : (name : NodeName) (place : ℕ) (message : Option SeenMaint) (inboxes : Inboxes) → WaitsAt name place message inboxes
      → HaveArrived tables inboxes → IfSome message (IsOfStore tables name)
  -- all messages of a node are taken out
  pub loses : (name : NodeName) (old new : Inboxes) → ChangesNode name LosesAll old new → HaveArrived tables old → HaveArrived tables new
  -- or those of every node
  pub empty : (inboxes : Inboxes) → AreEmpty inboxes → HaveArrived tables inboxes

-- where a store has come to a message, so have those of the nodes that are notified of it there
pub record NotifiedOfStore (tables : Tables) (states : NodeStates) (shard : ℕ) (message : SeenMaint) : Type 0 where
  pub of : (region : ℕ) → message.position ≤ store_length tables region message.shard
      → AllByRecursion (λ name. IsOfStore tables name message) (notified_of states region shard)
  -- besides them the leader that the master's region prefers
  pub besides : message.position ≤ store_length tables (master_region states shard) message.shard
      → AllByRecursion (λ name. IsOfStore tables name message) (notified_besides states shard)
  -- and all that are notified of what a leader wrote
  pub by : (leader : NodeName) → message.position ≤ store_length tables (master_region states shard) message.shard
      → AllByRecursion (λ name. IsOfStore tables name message) (notified_by states leader shard)
