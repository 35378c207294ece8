-- Which queries a content decides, and what is then read off it. The words of stores and caches alike.
use Rattle.std.specs.Prelude.{ℕ, ◌≡◌, ◌≤◌, ⊤, Bool, true, false, nat_lt, if◌then◌else◌, List, length, Option, Some, None}
use Rattle.tao_base.specs.EdgeTypes.{EdgeTypes}
use Rattle.tao_base.specs.Queries.{query_key}
use Rattle.tao_base.specs.declared.entry.Entry.{Entry}
use Rattle.tao_base.specs.declared.id.Key.{Key}
use Rattle.tao_base.specs.declared.id.Key.TheVariants.{Obj, List as Assocs}
use Rattle.tao_base.specs.declared.query.Answer.{Answer}
use Rattle.tao_base.specs.declared.query.Answer.TheVariants.{Object as ObjectAnswer}
use Rattle.tao_base.specs.declared.query.Query.{Query}
use Rattle.tao_base.specs.declared.query.Query.TheVariants.{ObjGet, AssocGet, AssocCount, AssocRange, AssocTimeRange}
use Rattle.graph_model.specs.Answers.{answer as log_answer, list_answer}
use Rattle.graph_model.specs.Prefixes.{IsExact, decides}
use Rattle.tao_schema.specs.Schema.{key_bound}
use Rattle.list_prefix.specs.Fronts.{IsLeftOpen, IsShortestFront}
use Rattle.sealed_item.specs.declared.content.Content.{Content}
use Rattle.sealed_item.specs.declared.content.Content.TheVariants.{Object as ObjectIs, List as ListIs}

-- how many edges an answer to the query gives at most: as many as the list that it reads is kept with
abbrev pub query_bound : EdgeTypes → Query → ℕ
query_bound types query = key_bound types (query_key query)

-- whether the query is one of an object
abbrev pub is_of_object : Query → Bool
is_of_object (ObjGet id) = true
is_of_object (AssocGet id1 atype ids high low) = false
is_of_object (AssocCount id1 atype) = false
is_of_object (AssocRange id1 atype pos limit) = false
is_of_object (AssocTimeRange id1 atype high low limit) = false

-- whether the content decides the query: an object one of an object, and first edges as the table of deciding prefixes says
abbrev pub content_decides : EdgeTypes → Content → Query → Bool
content_decides types (ObjectIs found) query = is_of_object query
content_decides types (ListIs prefix) query = decides (query_bound types query) prefix.edges prefix.total query

-- the answer to a query that is read off a content which decides it
abbrev pub content_answer : EdgeTypes → Content → Query → Answer
content_answer types (ObjectIs found) query = ObjectAnswer found
content_answer types (ListIs prefix) query = list_answer (query_bound types query) prefix.edges prefix.total query

-- the answer, where the content decides the query
abbrev pub content_read : EdgeTypes → Content → Query → Option Answer
content_read types content query = if content_decides types content query then Some (content_answer types content query) else None

-- the log has reached the version, and each beginning of that version answers so
abbrev pub IsExactAnswer : EdgeTypes → List Entry → Query → Answer → ℕ → Type 0
IsExactAnswer types log query given version = IsExact log (query_key query) version (λ part. given ≡ log_answer types part query)

-- a list has no more edges than the bound of its type
abbrev pub IsWithinBound : EdgeTypes → Key → Content → Type 0
IsWithinBound types (Assocs id1 atype) (ListIs prefix) = length prefix.edges ≤ types.bound atype
IsWithinBound types (Assocs id1 atype) (ObjectIs found) = ⊤
IsWithinBound types (Obj id) content = ⊤

-- the first content is a list with more edges than the other
abbrev pub is_longer_content : Content → Content → Bool
is_longer_content (ObjectIs found) other = false
is_longer_content (ListIs prefix) (ObjectIs found) = false
is_longer_content (ListIs prefix) (ListIs other) = nat_lt (length other.edges) (length prefix.edges)

-- the shortest front of the content that decides the query, no longer than the bound, where there is one. Of an object that is the object
abbrev pub IsContentFront : EdgeTypes → Content → Query → Option Content → Type 0
IsContentFront types (ObjectIs found) query None = is_of_object query ≡ false
IsContentFront types (ObjectIs found) query (Some (ObjectIs front)) = (is_of_object query ≡ true) × (front ≡ found)
IsContentFront types (ObjectIs found) query (Some (ListIs front)) = ⊥
IsContentFront types (ListIs prefix) query None = IsLeftOpen (query_bound types query) prefix.edges prefix.total query
IsContentFront types (ListIs prefix) query (Some (ObjectIs front)) = ⊥
IsContentFront types (ListIs prefix) query (Some (ListIs front)) = IsShortestFront prefix query (query_bound types query) front
