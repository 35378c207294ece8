-- The calls on objects and associations: the types first, in the row's order, then the shards of the ids, then what their own rules refuse.
use Rattle.std.specs.Prelude.{ℕ, ◌==◌, ◌&&◌, ◌||◌, Bool, false, List, Option, None, Some, Result, Ok, ⊤, length, nat_le, not}
use Rattle.tao_base.specs.EdgeTypes.{EdgeTypes}
use Rattle.tao_base.specs.declared.id.AType.{AType}
use Rattle.tao_base.specs.declared.query.Query.{Query}
use Rattle.tao_base.specs.declared.query.Query.TheVariants as to_read
use Rattle.tao_base.specs.declared.write.Write.{Write}
use Rattle.tao_base.specs.declared.write.Write.TheVariants as to_write
use Rattle.tao_base.specs.declared.data.Pair.{Pair}
use Rattle.tao_schema.specs.Schema.{types_of}
use Rattle.topology.specs.Config.{Settings}
use Rattle.replies.specs.declared.refusals.NameRefused.{NameRefused}
use Rattle.replies.specs.declared.refusals.NameRefused.TheVariants.{SameType, Limit}
use Rattle.requests.specs.declared.calls.Call.{Call}
use Rattle.requests.specs.declared.calls.Call.TheVariants.{Write as Writes, Read as Reads}
use Rattle.requests.specs.declared.calls.EdgeName.{EdgeName}
use Rattle.requests.specs.declared.calls.ListName.{ListName}
use Rattle.requests.specs.declared.calls.QueryText.{QueryText}
use Rattle.requests.specs.declared.calls.QueryText.TheVariants.{ObjGet, AssocGet, AssocCount, AssocRange, AssocTimeRange}
use Rattle.requests.specs.declared.calls.WriteText.{WriteText}
use Rattle.requests.specs.declared.calls.WriteText.TheVariants.{ObjAdd, ObjUpdate, ObjDelete, AssocAdd, AssocDelete, AssocChangeType}
use Rattle.requests.specs.declared.calls.ReadCall.{ReadCall}
use Rattle.requests.specs.declared.calls.WriteCall.{WriteCall}
use Rattle.request_check.specs.declared.checked.CheckedCall.{CheckedCall}
use Rattle.request_check.specs.declared.checked.CheckedCall.TheVariants as of_call
use Rattle.request_check.specs.declared.checked.CheckedRead.{CheckedRead}
use Rattle.request_check.specs.declared.checked.CheckedWrite.{CheckedWrite}
use Rattle.request_check.specs.Names.{atype_named, otype_named, configured_shard, configured_id}
use Rattle.outcomes.specs.Results.{◌>>=◌, refused_unless}

-- the ends of an edge, id1 first
abbrev pub configured_ends : Settings → EdgeName → Result ⊤ NameRefused
configured_ends s edge = do
  first ← configured_id s edge.list.id1
  configured_id s edge.id2

-- the type of a list
abbrev pub list_type : Settings → ListName → Result AType NameRefused
list_type s list = do
  atype ← atype_named s list.atype
  there ← configured_id s list.id1
  Ok atype

-- the type of an edge
abbrev pub edge_type : Settings → EdgeName → Result AType NameRefused
edge_type s edge = do
  atype ← atype_named s edge.list.atype
  there ← configured_ends s edge
  Ok atype

-- ---- writes

-- `obj_add` with its object type looked up by name: an unknown type is refused first, then a shard that the configuration lacks
abbrev pub checked_obj_add : Settings → ℕ → List ℕ → List Pair → Result Write NameRefused
checked_obj_add s shard name payload = do
  otype ← otype_named s name
  there ← configured_shard s shard
  Ok (to_write.ObjAdd shard otype payload)

-- `obj_update` with the id's shard checked; whether the object is there isn't looked at
abbrev pub checked_obj_update : Settings → ℕ → List Pair → Result Write NameRefused
checked_obj_update s id payload = do
  there ← configured_id s id
  Ok (to_write.ObjUpdate id payload)

-- `obj_delete` with the id's shard checked; whether the object is there isn't looked at
abbrev pub checked_obj_delete : Settings → ℕ → Result Write NameRefused
checked_obj_delete s id = do
  there ← configured_id s id
  Ok (to_write.ObjDelete id)

-- `assoc_add` with its type looked up by name: an unknown type is refused first, then the shard of id1, then that of id2
abbrev pub checked_assoc_add : Settings → EdgeName → ℕ → List Pair → Result Write NameRefused
checked_assoc_add s edge time payload = do
  atype ← edge_type s edge
  Ok (to_write.AssocAdd edge.list.id1 atype edge.id2 time payload)

-- `assoc_delete` with its type looked up by name: an unknown type is refused first, then the shard of id1, then that of id2
abbrev pub checked_assoc_delete : Settings → EdgeName → Result Write NameRefused
checked_assoc_delete s edge = do
  atype ← edge_type s edge
  Ok (to_write.AssocDelete edge.list.id1 atype edge.id2)

-- whether the second type, which may be missing, is the first one
abbrev pub is_type : AType → Option AType → Bool
is_type atype None = false
is_type atype (Some other) = other.0 == atype.0

-- whether an edge of the type has the new one already: its own, or between an object and itself that of its other end, since these are one edge
abbrev pub has_type : EdgeTypes → EdgeName → AType → AType → Bool
has_type types edge atype newtype = atype.0 == newtype.0 || (edge.list.id1 == edge.id2 && is_type newtype (types.inverse atype))

-- `assoc_change_type` with both types looked up by name, the old one first; a new type that the edge has already is refused last
abbrev pub checked_assoc_change_type : Settings → EdgeName → List ℕ → Result Write NameRefused
checked_assoc_change_type s edge name = do
  atype ← atype_named s edge.list.atype
  newtype ← atype_named s name
  there ← configured_ends s edge
  changes ← refused_unless (SameType name) (not (has_type (types_of s.schema) edge atype newtype))
  Ok (to_write.AssocChangeType edge.list.id1 atype edge.id2 newtype)

-- a client's write with its types looked up by name, or the first thing in it that is refused
abbrev pub checked_write : Settings → WriteText → Result Write NameRefused
checked_write s (ObjAdd shard otype payload) = checked_obj_add s shard otype payload
checked_write s (ObjUpdate id payload) = checked_obj_update s id payload
checked_write s (ObjDelete id) = checked_obj_delete s id
checked_write s (AssocAdd edge time payload) = checked_assoc_add s edge time payload
checked_write s (AssocDelete edge) = checked_assoc_delete s edge
checked_write s (AssocChangeType edge newtype) = checked_assoc_change_type s edge newtype

-- ---- reads

-- no more different ids than edges of the type are kept
abbrev pub bounded_ids : Settings → AType → List ℕ → Result ⊤ NameRefused
bounded_ids s atype ids = refused_unless (Limit ((types_of s.schema).bound atype) (length ids)) (nat_le (length ids) ((types_of s.schema).bound atype))

-- `obj_get` with the id's shard checked; whether the object is there isn't looked at
abbrev pub checked_obj_get : Settings → ℕ → Result Query NameRefused
checked_obj_get s id = do
  there ← configured_id s id
  Ok (to_read.ObjGet id)

-- `assoc_get` with its type looked up by name; more ids than the type's bound are refused last; a missing high or low is no limit of the times
abbrev pub checked_assoc_get : Settings → ListName → List ℕ → Option ℕ → Option ℕ → Result Query NameRefused
checked_assoc_get s list ids high low = do
  atype ← list_type s list
  fits ← bounded_ids s atype ids
  Ok (to_read.AssocGet list.id1 atype ids high low)

-- `assoc_count` with its type looked up by name: an unknown type is refused first, then the shard of id1
abbrev pub checked_assoc_count : Settings → ListName → Result Query NameRefused
checked_assoc_count s list = do
  atype ← list_type s list
  Ok (to_read.AssocCount list.id1 atype)

-- `assoc_range` with its type looked up by name: at most limit edges from the place pos on, where 0 is the newest edge
abbrev pub checked_assoc_range : Settings → ListName → ℕ → ℕ → Result Query NameRefused
checked_assoc_range s list pos limit = do
  atype ← list_type s list
  Ok (to_read.AssocRange list.id1 atype pos limit)

-- `assoc_time_range` with its type looked up by name: at most limit edges of the times from low to high, both included
abbrev pub checked_assoc_time_range : Settings → ListName → ℕ → ℕ → ℕ → Result Query NameRefused
checked_assoc_time_range s list high low limit = do
  atype ← list_type s list
  Ok (to_read.AssocTimeRange list.id1 atype high low limit)

-- a client's query with its types looked up by name, or the first thing in it that is refused
abbrev pub checked_query : Settings → QueryText → Result Query NameRefused
checked_query s (ObjGet id) = checked_obj_get s id
checked_query s (AssocGet list ids high low) = checked_assoc_get s list ids high low
checked_query s (AssocCount list) = checked_assoc_count s list
checked_query s (AssocRange list pos limit) = checked_assoc_range s list pos limit
checked_query s (AssocTimeRange list high low limit) = checked_assoc_time_range s list high low limit

-- ---- calls

-- a session's write with its types looked up by name; whether the session is open isn't looked at
abbrev pub checked_write_call : Settings → WriteCall → Result CheckedWrite NameRefused
checked_write_call s call = do
  write ← checked_write s call.write
  Ok (record { session = call.session; seq = call.seq; write = write })

-- a session's read with its types looked up by name; whether the session is open isn't looked at
abbrev pub checked_read_call : Settings → ReadCall → Result CheckedRead NameRefused
checked_read_call s call = do
  query ← checked_query s call.query
  Ok (record { session = call.session; query = query; critical = call.critical })

-- a session's write or read with its types looked up by name, or the first thing in it that is refused
abbrev pub checked_call : Settings → Call → Result CheckedCall NameRefused
checked_call s (Writes call) = do
  write ← checked_write_call s call
  Ok (of_call.Write write)
checked_call s (Reads call) = do
  read ← checked_read_call s call
  Ok (of_call.Read read)
