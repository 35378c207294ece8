-- What the carries of a call over links do.
use Rattle.std.specs.Prelude.{ℕ, ◌-◌, Bool, nat_lt}
use Rattle.core_nodes.specs.edge_repair.Carries.{FailsAt}
use Rattle.node_name.specs.declared.NodeName.{NodeName}
use Rattle.node_name.specs.declared.NodeName.TheVariants.{Store as StoreName_}
use Rattle.tao_keeper.specs.KeeperState.{KeeperState}
use Rattle.tao_link.specs.Cuts.{between}
use Rattle.tao_link.specs.Shown.{LinkShown, after_carry}
use Rattle.topology.specs.Config.{Settings}
use Rattle.core_model.specs.Stores.{master_store}

-- one carry there and one back
abbrev pub there_and_back : LinkShown → LinkShown
there_and_back link = after_carry (after_carry link)

-- a carry from one node to another failed, and was counted
abbrev pub FailsCarry : NodeName → NodeName → LinkShown → LinkShown → Type 0
FailsCarry from to old new = FailsAt (between from to) old new

-- the store of a shard's master, as a node
abbrev pub master_node : Settings → ℕ → NodeName
master_node s shard = StoreName_ (master_store s shard)

-- how many carries there were
abbrev pub hops_between : LinkShown → LinkShown → ℕ
hops_between old new = new.carries - old.carries

-- a keeper was called
abbrev pub was_called : KeeperState → KeeperState → Bool
was_called old new = nat_lt old.calls new.calls
