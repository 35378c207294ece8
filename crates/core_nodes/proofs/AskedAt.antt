-- A leader that answers, where it stands among the leaders.
use Rattle.std.proofs.Common.{◌≡◌, ℕ, List, Some, IfOk, Result, Ok, Err}
use Rattle.std.specs.Prelude.{slice_index_or, slice_set}
use Rattle.cache_items.specs.Node.{Node}
use Rattle.core_model.specs.leader_tier.LeaderReads.{GivesAnswer, asked_read}
use Rattle.node_name.specs.declared.NodeName.{NodeName}
use Rattle.shard_tables.specs.StoreView.{Store}
use Rattle.shard_tables.specs.declared.leader_answer.LeaderAnswer.{LeaderAnswer}
use Rattle.shard_tables.specs.declared.refusal.StoreRefusal.{StoreRefusal}
use Rattle.tao_base.specs.EdgeTypes.{EdgeTypes}
use Rattle.tao_base.specs.Queries.{query_shard}
use Rattle.core_model.specs.Fleet.{ChangesNode, IsFirstAt}
use Rattle.core_model.specs.Reads.{LeaderAnswers, StoreCalls, Wanted, asked_store}
use Rattle.core_model.specs.declared.named.Named.{Named}
use Rattle.node_stages.specs.Stages.{LeaderDoes}
use Rattle.core_model.proofs.NamedNodes.{changes_at}

pub answers_at : (types : EdgeTypes) (read : Wanted) (calls : StoreCalls) (leaders : List (Named Node)) (name : NodeName) (place : ℕ) (d : Named Node)
    (to : Node) (store : Store) (r : Result LeaderAnswer StoreRefusal) → IsFirstAt name leaders place
    → asked_store calls (query_shard read.query) ≡ Some store
    → IfOk r (λ given. LeaderDoes (λ from new. GivesAnswer (asked_read types from read.query read.floor) store given new calls.before calls.after)
    (slice_index_or leaders place d).node to)
    → IfOk r (λ given. ChangesNode name (LeaderDoes (LeaderAnswers types read given calls)) leaders
    (slice_set leaders place (record (slice_index_or leaders place d) { node = to })))
answers_at types read calls leaders name place d to store (Ok given) first stands by =
    changes_at (LeaderDoes (LeaderAnswers types read given calls)) leaders name place d to first (record {
      does = record { store = store; stands = stands; answers = by.does };
      apart = by.apart;
      asks = by.asks;
      truth = by.truth;
    })
answers_at types read calls leaders name place d to store (Err e) first stands by = tt
