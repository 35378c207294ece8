-- What a log answers depends on the version of the key alone.
use Rattle.std.specs.Prelude.{ℕ, List, take, ◌≡◌}
use Rattle.tao_base.specs.EdgeTypes.{EdgeTypes}
use Rattle.tao_base.specs.declared.entry.Entry.{Entry}
use Rattle.tao_base.specs.declared.query.Query.{Query}
use Rattle.graph_model.specs.Answers.{answer}
use Rattle.tao_base.specs.Queries.{query_key}
use Rattle.graph_model.specs.Log.{version}

-- beginnings of a log in which the key has one version answer alike
abbrev pub VersionFixesAnswer : List Entry → Query → Type 0
VersionFixesAnswer log query = (types : EdgeTypes) (m n : ℕ) → version (take m log) (query_key query) ≡ version (take n log) (query_key query)
    → answer types (take m log) query ≡ answer types (take n log) query
