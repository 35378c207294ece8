-- Which nodes are up, and what is so of one that comes up.
use Rattle.std.specs.Prelude.{ℕ, ◌≡◌, ◌<◌, true, false}
use Rattle.node_name.specs.declared.NodeName.{NodeName}
use Rattle.tao_keeper.specs.Table.{Tables}
use Rattle.topology.specs.Config.{Settings}
use Rattle.topology.specs.States.{NodeStates, is_up}
use Rattle.core_model.specs.Consistent.{GoesOn, IsConsistent}
use Rattle.core_model.specs.Emptied.{IsAtStore}
use Rattle.core_model.specs.Fleet.{EachIs, Fleet, region_of, regions_of}
use Rattle.core_model.specs.Growing.{TablesGoOn}
use Rattle.core_model.specs.Stores.{AreWhole, HaveMasterRegions, master_log}

-- the states are of the configuration's nodes, whichever of them are up or trusted
pub record AreStatesOf (s : Settings) (states : NodeStates) : Type 0 where
  pub regions : states.regions ≡ regions_of s
  pub masters : states.masters ≡ s.masters

-- the nodes of a core, and which of them are up
pub record NodesNow : Type 0 where
  pub fleet : Fleet
  pub states : NodeStates

-- the nodes of a core together with their states, which tell which of them are up
abbrev pub nodes_now : Fleet → NodeStates → NodesNow
nodes_now fleet states = record { fleet = fleet; states = states }

-- the node was down, and is up
pub record ComesUp (name : NodeName) (old new : NodeStates) : Type 0 where
  pub down : is_up old name ≡ false
  pub up : is_up new name ≡ true

-- each node that comes up has processed just what its region's store has
pub record ComeUpAtStores (tables : Tables) (old new : NodesNow) : Type 0 where
  pub leaders : EachIs (λ name node. ComesUp name old.states new.states → IsAtStore tables (region_of name) node) new.fleet.leaders
  pub followers : EachIs (λ name follower. ComesUp name old.states new.states → IsAtStore tables (region_of name) follower.node) new.fleet.followers

-- each node that is up has processed all that its region's store has, and nothing ahead
pub record AreUpAtStores (tables : Tables) (now : NodesNow) : Type 0 where
  pub leaders : EachIs (λ name node. is_up now.states name ≡ true → IsAtStore tables (region_of name) node) now.fleet.leaders
  pub followers : EachIs (λ name follower. is_up now.states name ≡ true → IsAtStore tables (region_of name) follower.node) now.fleet.followers

-- each store has all of its shard's log, and each node that is up has processed it: as a settle leaves them, and until a log grows
pub record AreSettled (s : Settings) (tables : Tables) (now : NodesNow) : Type 0 where
  pub whole : AreWhole s tables
  pub ends : AreUpAtStores tables now

-- the log of each shard of the configuration is the same
abbrev pub HaveSameLogs : Settings → Tables → Tables → Type 0
HaveSameLogs s old new = (shard : ℕ) → shard < s.shards → master_log s new shard ≡ master_log s old shard

-- what is settled stays so, whichever nodes are emptied, go down and come up, until a log grows
pub record SettledStays (s : Settings) (before after : Tables) (old new : NodesNow) : Type 0 where
  pub stay : HaveMasterRegions s → IsConsistent true s before old.fleet → IsConsistent true s after new.fleet → GoesOn old.fleet new.fleet
      → ComeUpAtStores after old new → TablesGoOn true s before after → HaveSameLogs s before after → AreSettled s before old → AreSettled s after new
