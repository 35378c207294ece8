-- What exact contents decide.
use Rattle.std.specs.Prelude.{ℕ, ◌≡◌, true, false, List, Some, None}
use Rattle.tao_base.specs.EdgeTypes.{EdgeTypes}
use Rattle.tao_base.specs.Queries.{query_key}
use Rattle.tao_base.specs.declared.entry.Entry.{Entry}
use Rattle.tao_base.specs.declared.query.Query.{Query}
use Rattle.sealed_item.specs.Decided.{IsContentFront, IsExactAnswer, IsWithinBound, content_answer, content_decides, is_longer_content}
use Rattle.sealed_item.specs.Fills.{IsExactContent}
use Rattle.sealed_item.specs.declared.content.Content.{Content}

-- what is read off an exact content that decides the query is what its log answers
pub record ContentsAnswer : Type 0 where
  pub answers : (types : EdgeTypes) (log : List Entry) (query : Query) (at : ℕ) (content : Content) → IsExactContent log (query_key query) at content
      → content_decides types content query ≡ true → IsExactAnswer types log query (content_answer types content query) at

-- of two contents that are exact at one version, the longer decides what the shorter does, and answers the same
pub record LongerContentsAnswer : Type 0 where
  pub decides : (types : EdgeTypes) (log : List Entry) (query : Query) (at : ℕ) (short long : Content) → IsExactContent log (query_key query) at short
      → IsExactContent log (query_key query) at long → is_longer_content long short ≡ true → content_decides types short query ≡ true
      → content_decides types long query ≡ true
  pub answers : (types : EdgeTypes) (log : List Entry) (query : Query) (at : ℕ) (one other : Content) → IsExactContent log (query_key query) at one
      → IsExactContent log (query_key query) at other → content_decides types one query ≡ true → content_decides types other query ≡ true
      → content_answer types one query ≡ content_answer types other query

-- the shortest front of an exact content that decides a query is exact, decides it and is within the bound, and the whole content decides it.
-- A content within the bound that has none leaves the query open
pub record FrontsDecide (types : EdgeTypes) (query : Query) (content : Content) : Type 0 where
  pub exact : (log : List Entry) (at : ℕ) (front : Content) → IsContentFront types content query (Some front)
      → IsExactContent log (query_key query) at content → IsExactContent log (query_key query) at front
  pub whole : (log : List Entry) (at : ℕ) (front : Content) → IsContentFront types content query (Some front)
      → IsExactContent log (query_key query) at content → content_decides types content query ≡ true
  pub decided : (front : Content) → IsContentFront types content query (Some front) → content_decides types front query ≡ true
  pub within : (front : Content) → IsContentFront types content query (Some front) → IsWithinBound types (query_key query) front
  pub none : IsContentFront types content query None → IsWithinBound types (query_key query) content → content_decides types content query ≡ false
