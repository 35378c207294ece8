-- Whose answer it is that a node gives.
use Rattle.std.specs.Prelude.{ℕ, ⊤, List, IsSomeAnd}
use Rattle.tao_base.specs.EdgeTypes.{EdgeTypes}
use Rattle.tao_base.specs.declared.query.Answer.{Answer}
use Rattle.tao_base.specs.declared.query.Query.{Query}
use Rattle.tao_base.specs.Queries.{query_key}
use Rattle.tao_base.specs.Keys.{key_shard}
use Rattle.graph_model.specs.Told.{WhereTold}
use Rattle.shard_log.specs.View.{View}
use Rattle.cache_items.specs.sealed_item.Decided.{IsExactAnswer}
use Rattle.served_shards.specs.Served.{ServedShard, served_at}
use Rattle.cache_node.specs.True.{AreTold}
use Rattle.cache_items.specs.declared.look.Look.{Look}
use Rattle.cache_items.specs.declared.look.Look.TheVariants.{Hit, Miss}

-- where the log is told, what was seen of it answers so
abbrev pub ViewAnswers : EdgeTypes → View → Query → Answer → ℕ → Type 0
ViewAnswers types view query given version = WhereTold view.log.told (IsExactAnswer types view.entries query given version)

-- a hit is of a served shard, and where the logs are told, it answers as what was seen of the shard's log
abbrev pub LookAnswers : EdgeTypes → List ServedShard → Query → Look → Type 0
LookAnswers types served query Miss = ⊤
LookAnswers types served query (Hit given version) =
    IsSomeAnd (served_at (key_shard (query_key query)) served) (λ s. AreTold served → IsExactAnswer types s.view.entries query given version)
