-- What a read of a store hands out: a fill, or the answer to a query that no front within the bound decides.
use Rattle.std.specs.Prelude.{ℕ, ◌+◌, ◌≡◌, ⊤, true, List, length, min, take, Some, None}
use Rattle.tao_base.specs.EdgeTypes.{EdgeTypes}
use Rattle.tao_base.specs.declared.edge.Edge.{Edge}
use Rattle.tao_base.specs.declared.entry.Entry.{Entry}
use Rattle.tao_base.specs.declared.id.AType.{AType}
use Rattle.tao_base.specs.declared.id.Id.{Id}
use Rattle.tao_base.specs.declared.id.Key.{Key}
use Rattle.tao_base.specs.declared.id.Key.TheVariants.{Obj, List as Assocs}
use Rattle.tao_base.specs.declared.query.Query.{Query}
use Rattle.tao_base.specs.declared.query.Query.TheVariants.{ObjGet, AssocGet, AssocCount, AssocRange, AssocTimeRange}
use Rattle.tao_base.specs.Queries.{query_key}
use Rattle.graph_model.specs.Edges.{edge_list}
use Rattle.graph_model.specs.Log.{object, version as version_of}
use Rattle.sealed_item.specs.list_prefix.ListPrefix.{ListPrefix, list_prefix}
use Rattle.shard_log.specs.View.{View}
use Rattle.sealed_item.specs.Decided.{IsContentFront, IsWithinBound, content_decides}
use Rattle.sealed_item.specs.Fills.{SealedItem}
use Rattle.sealed_item.specs.declared.content.Content.{Content}
use Rattle.sealed_item.specs.declared.content.Content.TheVariants.{Object as ObjectIs, List as ListIs}
use Rattle.shard_tables.specs.Reads.{AnswersAtVersion}
use Rattle.shard_tables.specs.declared.read_out.ReadOut.{ReadOut}
use Rattle.shard_tables.specs.declared.read_out.ReadOut.TheVariants.{Filled, Past}

-- all edges of a list, with their number
abbrev pub whole_list : List Entry → Id → AType → ListPrefix
whole_list log id1 atype = list_prefix (edge_list log id1 atype) (length (edge_list log id1 atype))

-- what the log has at the key: the object, or all of the list
abbrev pub whole_content : List Entry → Key → Content
whole_content log (Obj id) = ObjectIs (object log id)
whole_content log (Assocs id1 atype) = ListIs (whole_list log id1 atype)

-- the fill is what the whole log has for the query: the object, or the shortest front of the list that decides the query
pub record IsFilled (types : EdgeTypes) (log : List Entry) (query : Query) (fill : SealedItem) : Type 0 where
  pub version_is : fill.version ≡ version_of log (query_key query)
  pub as_of_is : fill.as_of ≡ length log
  pub content_is : IsContentFront types (whole_content log (query_key query)) query (Some fill.content)

-- the content is a list of that length
abbrev pub HasTotal : Content → ℕ → Type 0
HasTotal (ObjectIs found) total = ⊥
HasTotal (ListIs prefix) total = total ≡ prefix.total

-- the log has a list of that length for the query, and none of its fronts within the bound decides the query
pub record IsOpenList (types : EdgeTypes) (log : List Entry) (query : Query) (total : ℕ) : Type 0 where
  pub total_is : HasTotal (whole_content log (query_key query)) total
  pub left_open : IsContentFront types (whole_content log (query_key query)) query None

-- what is read of the log: a fill where a front within the bound decides the query, and else the answer
abbrev pub IsReadOutOf : EdgeTypes → List Entry → Query → ReadOut → Type 0
IsReadOutOf types log query (Filled fill) = IsFilled types log query fill
IsReadOutOf types log query (Past answer version total note) = AnswersAtVersion types log query answer version × IsOpenList types log query total

-- told or not, the fill is of the query's key, and decides the query with no more edges than the bound
pub record IsFillFor (types : EdgeTypes) (query : Query) (fill : SealedItem) : Type 0 where
  pub key_is : fill.key ≡ query_key query
  pub decided : content_decides types fill.content query ≡ true
  pub within : IsWithinBound types (query_key query) fill.content

-- told or not, what is read is for the query
abbrev pub IsFor : EdgeTypes → Query → ReadOut → Type 0
IsFor types query (Filled fill) = IsFillFor types query fill
IsFor types query (Past answer version total note) = ⊤

-- the note of the log that was read
abbrev pub read_note : ReadOut → View
read_note (Filled fill) = fill.note
read_note (Past answer version total note) = note

-- how many of a list's first edges show whether a front within the bound decides the query
abbrev pub needed_count : ℕ → Query → ℕ
needed_count bound (AssocCount id1 atype) = 0
needed_count bound (AssocRange id1 atype pos limit) = min (pos + min limit bound) bound
needed_count bound (AssocTimeRange id1 atype high low limit) = bound
needed_count bound (AssocGet id1 atype ids high low) = bound
needed_count bound (ObjGet id) = 0

-- the edges are the first of the list, as many as a read of the query needs, and the total is the list's length
pub record AreNeeded (bound : ℕ) (query : Query) (list : List Edge) (edges : List Edge) (total : ℕ) : Type 0 where
  pub edges_are : edges ≡ take (needed_count bound query) list
  pub total_is : total ≡ length list
