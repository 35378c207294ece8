-- What a leader answered, beside what every node keeps.
use Rattle.std.proofs.Common.{IfOk, Result, Ok, Err}
use Rattle.std.specs.List.{IsDistinct}
use Rattle.std.specs.Map.{keys_of as keys_held}
use Rattle.ask_table.specs.Asks.{IsTable}
use Rattle.cache_items.specs.Node.{Node}
use Rattle.core_model.specs.cache_node.True.{IsTrueNode}
use Rattle.core_model.specs.leader_tier.LeaderReads.{GivesAnswer, asked_read}
use Rattle.shard_tables.specs.StoreView.{Store}
use Rattle.shard_tables.specs.declared.leader_answer.LeaderAnswer.{LeaderAnswer}
use Rattle.shard_tables.specs.declared.refusal.StoreRefusal.{StoreRefusal}
use Rattle.tao_base.specs.EdgeTypes.{EdgeTypes}
use Rattle.tao_base.specs.Keys.{same_key}
use Rattle.tao_keeper.specs.KeeperState.{KeeperState}
use Rattle.core_model.specs.Reads.{Wanted}
use Rattle.node_stages.specs.Stages.{LeaderDoes}

-- a leader that gave an answer did just that
pub leader_gave : (types : EdgeTypes) (read : Wanted) (store : Store) (before after : KeeperState) (old new : Node) (r : Result LeaderAnswer StoreRefusal)
    → IfOk r (λ given. GivesAnswer (asked_read types old read.query read.floor) store given new before after)
    → IsDistinct same_key (keys_held old.items) → IsTable old.asks → IsTrueNode new
    → IfOk r (λ given. LeaderDoes (λ from to. GivesAnswer (asked_read types from read.query read.floor) store given to before after) old new)
leader_gave types read store before after old new (Ok given) gives apart asks truth =
    record { does = gives; apart = apart; asks = asks; truth = truth }
leader_gave types read store before after old new (Err e) gives apart asks truth = tt
