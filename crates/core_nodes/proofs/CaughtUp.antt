-- What holds of nodes that have caught up with their regions' stores.
use Rattle.std.proofs.Common.{◌≡◌, ◌<◌, true, length, refl, ap, arith}
use Rattle.cache_items.specs.Node.{Node}
use Rattle.node_name.specs.declared.NodeName.{NodeName}
use Rattle.tao_keeper.specs.Table.{Tables}
use Rattle.topology.specs.Config.{Settings}
use Rattle.topology.specs.States.{NodeStates}
use Rattle.core_model.specs.Consistent.{IsConsistent, IsNodeOf}
use Rattle.core_model.specs.Emptied.{IsAtStore}
use Rattle.core_model.specs.Fleet.{Fleet, named, region_of}
use Rattle.core_model.specs.Pens.{pens_of}
use Rattle.core_model.specs.States.{AreSettled, AreUpAtStores, NodesNow, nodes_now}
use Rattle.core_model.specs.Stores.{AreWhole, HaveMasterRegions, master_of, region_store}
use Rattle.core_nodes.specs.Ends.{AllHoldLast, HoldsLast, NodesCatchUp}
use Rattle.core_nodes.specs.Settling.{AllCatchUp}
use Rattle.core_nodes.proofs.CatchLemmas.{last_held}
use Rattle.core_nodes.proofs.FleetSettles.{follower_named, leader_named}
use Rattle.core_nodes.proofs.RegionNames.{configured_region}

module _ (s : Settings) (tables : Tables) where
  all_caught : (states : NodeStates) (old new : Fleet) → AllCatchUp s states tables old new → AreUpAtStores tables (nodes_now new states)
  all_caught states old new caught = record {
    leaders = λ place name node at up. ((caught.leaders place name node at).2.up up).ends;
    followers = λ place name follower at up. ((caught.followers place name follower at).2.up up).0.ends;
  }

  node_last : (f : Fleet) (name : NodeName) (node : Node) → IsConsistent true s tables f → AreWhole s tables → region_of name < length s.regions
      → IsNodeOf s (pens_of f.stores) name node → IsAtStore tables (region_of name) node → HoldsLast s tables node
  node_last f name node is whole there own ends key item at =
      last_held true s tables f.stores name is.stores there node key item refl own (record { ends = λ shard t lt found. ends shard t found }) whole at

  all_last : (now : NodesNow) → IsConsistent true s tables now.fleet → AreSettled s tables now → AllHoldLast s tables now
  all_last now is settled = record {
    leaders = λ place name node at up. (
        let there = leader_named s now.fleet place (named name node) is.fleet at in
        node_last now.fleet name node is settled.whole (configured_region s name there) (is.fleet.leaders place name node at)
        (settled.ends.leaders place name node at up));
    followers = λ place name follower at up. (
        let there = follower_named s now.fleet place (named name follower) is.fleet at in
        node_last now.fleet name follower.node is settled.whole (configured_region s name there) (is.fleet.followers place name follower at).node
        (settled.ends.followers place name follower at up));
  }

  one_region : HaveMasterRegions s → length s.regions ≡ 1 → AreWhole s tables
  one_region regions one at here =
      let first = here.region in
      let master = regions at.shard in
      let same : at.region ≡ master_of s at.shard = omega arith in
      ap (λ region. (tables (region_store region at.shard)).log) same

pub nodes_catch_up : (s : Settings) (tables : Tables) → NodesCatchUp s tables
nodes_catch_up s tables = record { caught = all_caught s tables; last = all_last s tables; one_region = one_region s tables }
