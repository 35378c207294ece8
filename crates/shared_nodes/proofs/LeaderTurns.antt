-- A leader under its lock as contracts see it.
use Rattle.std.proofs.Common.{◌≡◌, ℕ, ◌<◌, [], Some, subst, sym}
use Rattle.std.specs.Prelude.{IsTrue}
use Rattle.cache_items.specs.Node.{Node}
use Rattle.core_model.specs.Fleet.{named, serves}
use Rattle.core_model.specs.declared.named.Named.{Named}
use Rattle.follower_cache.specs.Seen.{FollowerState}
use Rattle.log_names.specs.Names.{IsOfLog, LogNames}
use Rattle.node_name.specs.declared.NodeName.{NodeName}
use Rattle.served_shards.specs.Served.{log_at}
use Rattle.shard_log.specs.View.{View}
use Rattle.shared_nodes.specs.Nodes.{IsSharedNode}
use Rattle.shared_nodes.proofs.Turns.{log_of_turn}
use Rattle.shared_stores.specs.Making.{Making}

-- it has the log of each view of a shard that is the turn of its name
pub leader_log : (m : Making) (log : LogNames) (name : NodeName) (node : Node) (seen_as : Named Node) (shard : ℕ) (view : View)
    → named name node ≡ seen_as → IsSharedNode m log name node → shard < m.settings.shards → IsTrue (serves m.settings seen_as.name shard)
    → IsOfLog log shard view → log_at shard node.served ≡ Some view.log
leader_log m log name node seen_as shard view named_so is here turn of_log =
    log_of_turn m log name node shard view is here
    (subst (λ (n : Named Node). IsTrue (serves m.settings n.name shard)) (sym named_so) turn) of_log

-- a leader as a follower for which no refill waits
abbrev pub without_refills : Node → FollowerState
without_refills node = record { node = node; refills = [] }
