-- An answer past the bound of its list's type.
use Rattle.std.specs.Prelude.{ℕ, ◌≡◌, ⊤, List, take}
use Rattle.graph_model.specs.Log.{version as version_of}
use Rattle.graph_model.specs.Told.{WhereTold}
use Rattle.shard_log.specs.View.{View}
use Rattle.shard_tables.specs.ReadOuts.{IsOpenList}
use Rattle.shard_tables.specs.declared.leader_answer.LeaderAnswer.{LeaderAnswer}
use Rattle.shard_tables.specs.declared.leader_answer.LeaderAnswer.TheVariants.{Behind, Filled, Past}
use Rattle.tao_base.specs.EdgeTypes.{EdgeTypes}
use Rattle.tao_base.specs.Queries.{query_key}
use Rattle.tao_base.specs.declared.entry.Entry.{Entry}
use Rattle.tao_base.specs.declared.query.Query.{Query}

-- at a beginning of the log at which the query's key has that version, its list has that length, and none of the list's fronts within the bound decides the
-- query
pub record IsUndecidedAt (types : EdgeTypes) (log : List Entry) (query : Query) (version total : ℕ) : Type 0 where
  pub n : ℕ
  pub version_is : version ≡ version_of (take n log) (query_key query)
  pub list_is : IsOpenList types (take n log) query total

-- so it is in what was seen of the key's shard, where that log is told
abbrev pub IsUndecidedIn : EdgeTypes → View → Query → ℕ → ℕ → Type 0
IsUndecidedIn types view query version total = WhereTold view.log.told (IsUndecidedAt types view.entries query version total)

-- where the answer to a query is one past the bound, that is so in its note
abbrev pub IsUndecidedGiven : EdgeTypes → Query → LeaderAnswer → Type 0
IsUndecidedGiven types query (Past answer version total note) = IsUndecidedIn types note query version total
IsUndecidedGiven types query (Filled fill) = ⊤
IsUndecidedGiven types query (Behind version) = ⊤
