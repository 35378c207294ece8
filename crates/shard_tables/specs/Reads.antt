-- What a read of a store finds.
use Rattle.std.specs.Prelude.{ℕ, ◌≡◌, List, length}
use Rattle.tao_base.specs.EdgeTypes.{EdgeTypes}
use Rattle.tao_base.specs.declared.edge.Edge.{Edge}
use Rattle.tao_base.specs.declared.entry.Entry.{Entry}
use Rattle.tao_base.specs.declared.query.Answer.{Answer}
use Rattle.tao_base.specs.declared.query.Query.{Query}
use Rattle.graph_model.specs.Answers.{answer as log_answer, list_answer}
use Rattle.tao_base.specs.Queries.{query_key}
use Rattle.graph_model.specs.Log.{version as version_of}

-- the log answers so, and the query's key has that version in it
pub record AnswersAtVersion (types : EdgeTypes) (log : List Entry) (query : Query) (answer : Answer) (version : ℕ) : Type 0 where
  pub answer_is : answer ≡ log_answer types log query
  pub version_is : version ≡ version_of log (query_key query)

-- what a list answers to a query, all of it
abbrev pub whole_answer : ℕ → List Edge → Query → Answer
whole_answer bound list query = list_answer bound list (length list) query
