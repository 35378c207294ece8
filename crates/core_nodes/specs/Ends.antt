-- What holds of nodes that have caught up with their regions' stores.
use Rattle.std.specs.Prelude.{◌≡◌, Some, length, true}
use Rattle.cache_items.specs.Node.{Node, item_at}
use Rattle.cache_items.specs.declared.item.Item.{Item}
use Rattle.graph_model.specs.Log.{version}
use Rattle.tao_base.specs.Keys.{key_shard}
use Rattle.tao_base.specs.declared.id.Key.{Key}
use Rattle.tao_keeper.specs.Table.{Tables}
use Rattle.topology.specs.Config.{Settings}
use Rattle.topology.specs.States.{NodeStates, is_up}
use Rattle.core_model.specs.Consistent.{IsConsistent}
use Rattle.core_model.specs.Fleet.{EachIs, Fleet}
use Rattle.core_model.specs.States.{AreSettled, AreUpAtStores, NodesNow, nodes_now}
use Rattle.core_model.specs.Stores.{AreWhole, HaveMasterRegions, master_log}
use Rattle.core_nodes.specs.Settling.{AllCatchUp}

-- each item of the node has the version that the log of its key's shard gives the key
abbrev pub HoldsLast : Settings → Tables → Node → Type 0
HoldsLast s tables node =
    (key : Key) (item : Item) → item_at node.items key ≡ Some item → item.version ≡ version (master_log s tables (key_shard key)) key

-- each item of every leader and follower that is up has the version that the log of its key's shard gives the key
pub record AllHoldLast (s : Settings) (tables : Tables) (now : NodesNow) : Type 0 where
  pub leaders : EachIs (λ name node. is_up now.states name ≡ true → HoldsLast s tables node) now.fleet.leaders
  pub followers : EachIs (λ name follower. is_up now.states name ≡ true → HoldsLast s tables follower.node) now.fleet.followers

-- nodes before stores over these tables, which are told
pub record NodesCatchUp (s : Settings) (tables : Tables) : Type 0 where
  -- those that have caught up have processed all that their regions' stores have
  pub caught : (states : NodeStates) (old new : Fleet) → AllCatchUp s states tables old new → AreUpAtStores tables (nodes_now new states)
  -- what is settled holds last versions alone
  pub last : (now : NodesNow) → IsConsistent true s tables now.fleet → AreSettled s tables now → AllHoldLast s tables now
  -- the one store of each shard has all of its log, where there is one region
  pub one_region : HaveMasterRegions s → length s.regions ≡ 1 → AreWhole s tables
