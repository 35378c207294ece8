-- What a cached list answers.
use Rattle.std.specs.Prelude.{ℕ, ◌≡◌, ⊤, if◌then◌else◌, List, length, take}
use Rattle.tao_base.specs.EdgeTypes.{EdgeTypes}
use Rattle.tao_base.specs.declared.edge.Edge.{Edge}
use Rattle.tao_base.specs.declared.entry.Entry.{Entry}
use Rattle.tao_base.specs.declared.id.AType.{AType}
use Rattle.tao_base.specs.declared.id.Id.{Id}
use Rattle.tao_base.specs.declared.id.Key.TheVariants.{List as Assocs}
use Rattle.tao_base.specs.declared.query.Query.{Query}
use Rattle.tao_base.specs.declared.query.Query.TheVariants.{ObjGet, AssocGet, AssocCount, AssocRange, AssocTimeRange}
use Rattle.graph_model.specs.Answers.{answer as log_answer, list_answer}
use Rattle.tao_base.specs.Queries.{query_key}
use Rattle.graph_model.specs.Edges.{IsInListOrder}
use Rattle.graph_model.specs.Log.{version}
use Rattle.graph_model.specs.Prefixes.{IsExactList, IsPrefixOf, decides}
use Rattle.list_prefix.specs.ListPrefix.{ListPrefix}
use Rattle.list_prefix.specs.declared.prefix.Verdict.{Verdict}
use Rattle.list_prefix.specs.declared.prefix.Verdict.TheVariants.{Decided, Undecided}

-- the query is one of a list
abbrev pub IsOfList : Query → Type 0
IsOfList (ObjGet id) = ⊥
IsOfList (AssocGet id1 atype ids high low) = ⊤
IsOfList (AssocCount id1 atype) = ⊤
IsOfList (AssocRange id1 atype pos limit) = ⊤
IsOfList (AssocTimeRange id1 atype high low limit) = ⊤

-- the query is answered with edges
abbrev pub AsksForEdges : Query → Type 0
AsksForEdges (ObjGet id) = ⊥
AsksForEdges (AssocGet id1 atype ids high low) = ⊤
AsksForEdges (AssocCount id1 atype) = ⊥
AsksForEdges (AssocRange id1 atype pos limit) = ⊤
AsksForEdges (AssocTimeRange id1 atype high low limit) = ⊤

-- decided exactly where the table of deciding prefixes says so, and then what the first edges and the length answer
abbrev pub verdict_of : ListPrefix → Query → ℕ → Verdict
verdict_of p query bound = if decides bound p.edges p.total query then Decided (list_answer bound p.edges p.total query) else Undecided

-- an answer that is decided is that of every list that begins with the edges and has that length
abbrev pub AnswersEachList : ListPrefix → Query → ℕ → Verdict → Type 0
AnswersEachList p query bound (Decided answer) = (whole : List Edge) → IsPrefixOf p.edges p.total whole → IsInListOrder whole
    → answer ≡ list_answer bound whole (length whole) query
AnswersEachList p query bound Undecided = ⊤

-- where the prefix is exact at a version, an answer that is decided is what the log answered at that version
abbrev pub AnswersLog : ListPrefix → Query → ℕ → Verdict → Type 0
AnswersLog p query bound (Decided answer) = (types : EdgeTypes) (log : List Entry) (id1 : Id) (atype : AType) (v n : ℕ) → query_key query ≡ Assocs id1 atype
    → types.bound atype ≡ bound → IsExactList log id1 atype v p.edges p.total → version (take n log) (Assocs id1 atype) ≡ v
    → answer ≡ log_answer types (take n log) query
AnswersLog p query bound Undecided = ⊤
