-- What is known of nodes and stores that came out of their locks: what these kept, and once all of that has met, what is known of a core.
use Rattle.std.specs.Prelude.{ℕ, ◌≡◌, ◌<◌, Bool, false, true, List, [], Some, Vec, length, map, slice_get}
use Rattle.cache_items.specs.Node.{Node}
use Rattle.core_model.specs.Consistent.{IsFleetOf}
use Rattle.core_model.specs.Cuts.{ArePastCuts}
use Rattle.core_model.specs.Fleet.{EachIs, Fleet}
use Rattle.core_model.specs.Pens.{pens_of}
use Rattle.core_model.specs.Stores.{AreStoresOf, store_count, store_place}
use Rattle.core_model.specs.declared.named.Named.{Named}
use Rattle.core_nodes.specs.declared.fleet.FleetParts.{FleetParts}
use Rattle.follower_cache.specs.Seen.{FollowerState}
use Rattle.graph_model.specs.Told.{WhereTold}
use Rattle.log_names.specs.Names.{IsOfLog, LogNames}
use Rattle.node_name.specs.declared.NodeName.{NodeName}
use Rattle.shard_log.specs.View.{View}
use Rattle.shard_tables.specs.StoreView.{Store}
use Rattle.shared_nodes.specs.Nodes.{IsSharedNode}
use Rattle.shared_stores.specs.Locked.{IsSharedStore, locked}
use Rattle.shared_stores.specs.Making.{Making}
use Rattle.tao_keeper.specs.Table.{Tables}
use Rattle.unlocked_nodes.specs.declared.unlocked.Unlocked.{Unlocked}

-- the nodes of a core, of their lists
abbrev pub fleet_with : List (Named Node) → List (Named FollowerState) → List Store → Fleet
fleet_with leaders followers stores = record { leaders = leaders; followers = followers; stores = stores }

-- the nodes of a core, each of their lists on its own
abbrev pub fleet_of : FleetParts → Fleet
fleet_of parts = fleet_with parts.leaders.items parts.followers.items parts.stores.items

-- what the notes of each store have seen
abbrev pub notes_of : {A : Type 0} → List (Vec View A) → List (List View)
notes_of noted = map (λ notes. notes.items) noted

-- the follower is such as its lock kept, and no refill waits
pub record IsFreedFollower (m : Making) (log : LogNames) (name : NodeName) (f : FollowerState) : Type 0 where
  pub shared : IsSharedNode m log name f.node
  pub none : f.refills ≡ []

-- each store that stands at the place of its name is such as its lock kept, over what the keepers tell together
abbrev pub AreFreedStores : Bool → Making → LogNames → Tables → List Store → List (List View) → Type 0
AreFreedStores tells m log tables stores noted = (place : ℕ) (store : Store) (notes : List View) → slice_get stores place ≡ Some store
    → slice_get noted place ≡ Some notes → place ≡ store_place m.settings store.name → IsSharedStore tells m log (locked store tables notes)

-- nodes, stores and notes are such as their locks kept, each under the name that it has; no refill waits
pub record IsUnlocked (tells : Bool) (m : Making) (log : LogNames) (tables : Tables) (f : Fleet) (noted : List (List View)) : Type 0 where
  pub many : length f.stores ≡ store_count m.settings
  pub noted_long : length noted ≡ length f.stores
  pub stores : AreFreedStores tells m log tables f.stores noted
  pub leaders : EachIs (IsSharedNode m log) f.leaders
  pub followers : EachIs (IsFreedFollower m log) f.followers

-- the stores are a core's, of the cluster's logs, and so are the nodes before them: all that they have seen begins these logs, and none lies behind a
-- cut. Which stores have come to what the nodes have marked isn't said
pub record IsMet (tells : Bool) (m : Making) (log : LogNames) (tables : Tables) (f : Fleet) : Type 0 where
  pub stores : AreStoresOf tells m.settings tables f.stores
  pub logs : (shard : ℕ) → shard < m.settings.shards → IsOfLog log shard (pens_of f.stores shard)
  pub fleet : IsFleetOf m.settings f
  pub past : WhereTold tells (ArePastCuts tables f)

-- what lay behind locks may be settled
pub record MaySettle (tells : Bool) (m : Making) (log : LogNames) (tables : Tables) (u : Unlocked) : Type 0 where
  pub unmet : u.met ≡ false → IsUnlocked tells m log tables u.fleet (notes_of u.noted.items)
  pub met : u.met ≡ true → IsMet tells m log tables u.fleet
