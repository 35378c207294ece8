-- The calls on objects and associations: the fields of each, in their order.
use Rattle.std.specs.Prelude.{ℕ, ◌^◌, ◌-◌, [], ◌∷◌, codes, Result, Ok}
use Rattle.serde_json.specs.Data.{Data}
use Rattle.request_json.specs.declared.refusal.LineRefusal.{LineRefusal}
use Rattle.requests.specs.declared.calls.WriteText.TheVariants as write
use Rattle.requests.specs.declared.calls.QueryText.TheVariants as query
use Rattle.requests.specs.declared.calls.WriteCall.{WriteCall}
use Rattle.requests.specs.declared.calls.ReadCall.{ReadCall}
use Rattle.words.specs.declared.WriteWord.{WriteWord}
use Rattle.words.specs.declared.WriteWord.TheVariants.{ObjAdd, ObjUpdate, ObjDelete, AssocAdd, AssocDelete, AssocChangeType}
use Rattle.words.specs.declared.ReadWord.{ReadWord}
use Rattle.words.specs.declared.ReadWord.TheVariants.{ObjGet, AssocGet, AssocCount, AssocRange, AssocTimeRange}
use Rattle.request_json.specs.Fields.{number_field, maybe_number_field, id_field, ids_field, text_field, flag_field, only_fields, data_last}
use Rattle.request_json.specs.Fields.{list_fields, edge_fields}
use Rattle.outcomes.specs.Results.{◌>>=◌}

-- a session has a number from 1, and so has each of its writes
abbrev pub session_field : Data → Result ℕ LineRefusal
session_field d = number_field (codes "session") 1 (2 ^ 32 - 1) d

-- the number of a write within its session, from 1 to 2^64 - 1
abbrev pub seq_field : Data → Result ℕ LineRefusal
seq_field d = number_field (codes "seq") 1 (2 ^ 64 - 1) d

-- the most edges that a query asks for, from 1 to 2^32 - 1
abbrev pub limit_field : Data → Result ℕ LineRefusal
limit_field d = number_field (codes "limit") 1 (2 ^ 32 - 1) d

-- ---- writes

-- the fields of `obj_add`: a write of a new object of a named type on a shard, whose store gives the id
abbrev pub obj_add_of : Data → Result WriteCall LineRefusal
obj_add_of d = do
  session ← session_field d
  seq ← seq_field d
  shard ← number_field (codes "shard") 0 (2 ^ 16 - 1) d
  otype ← text_field (codes "otype") d
  payload ← data_last (codes "do" ∷ codes "session" ∷ codes "seq" ∷ codes "shard" ∷ codes "otype" ∷ codes "data" ∷ []) d
  Ok (record { session = session; seq = seq; write = write.ObjAdd shard otype payload })

-- the fields of `obj_update`: a write of whole new data for an object
abbrev pub obj_update_of : Data → Result WriteCall LineRefusal
obj_update_of d = do
  session ← session_field d
  seq ← seq_field d
  id ← id_field (codes "id") d
  payload ← data_last (codes "do" ∷ codes "session" ∷ codes "seq" ∷ codes "id" ∷ codes "data" ∷ []) d
  Ok (record { session = session; seq = seq; write = write.ObjUpdate id payload })

-- the fields of `obj_delete`: a write that drops an object
abbrev pub obj_delete_of : Data → Result WriteCall LineRefusal
obj_delete_of d = do
  session ← session_field d
  seq ← seq_field d
  id ← id_field (codes "id") d
  known ← only_fields (codes "do" ∷ codes "session" ∷ codes "seq" ∷ codes "id" ∷ []) d
  Ok (record { session = session; seq = seq; write = write.ObjDelete id })

-- the fields of `assoc_add`: a write of an edge of a named type, with its time and data
abbrev pub assoc_add_of : Data → Result WriteCall LineRefusal
assoc_add_of d = do
  session ← session_field d
  seq ← seq_field d
  edge ← edge_fields d
  time ← number_field (codes "time") 0 (2 ^ 32 - 1) d
  payload ← data_last (codes "do" ∷ codes "session" ∷ codes "seq" ∷ codes "id1" ∷ codes "atype" ∷ codes "id2" ∷ codes "time" ∷ codes "data" ∷ []) d
  Ok (record { session = session; seq = seq; write = write.AssocAdd edge time payload })

-- the fields of `assoc_delete`: a write that cuts an edge of a named type
abbrev pub assoc_delete_of : Data → Result WriteCall LineRefusal
assoc_delete_of d = do
  session ← session_field d
  seq ← seq_field d
  edge ← edge_fields d
  known ← only_fields (codes "do" ∷ codes "session" ∷ codes "seq" ∷ codes "id1" ∷ codes "atype" ∷ codes "id2" ∷ []) d
  Ok (record { session = session; seq = seq; write = write.AssocDelete edge })

-- the fields of `assoc_change_type`: a write that moves an edge from one named type to another
abbrev pub assoc_change_type_of : Data → Result WriteCall LineRefusal
assoc_change_type_of d = do
  session ← session_field d
  seq ← seq_field d
  edge ← edge_fields d
  newtype ← text_field (codes "newtype") d
  known ← only_fields (codes "do" ∷ codes "session" ∷ codes "seq" ∷ codes "id1" ∷ codes "atype" ∷ codes "id2" ∷ codes "newtype" ∷ []) d
  Ok (record { session = session; seq = seq; write = write.AssocChangeType edge newtype })

-- the write that the fields of the word's row say, or the first refusal; the word itself is in the field `do`
abbrev pub write_of : WriteWord → Data → Result WriteCall LineRefusal
write_of ObjAdd d = obj_add_of d
write_of ObjUpdate d = obj_update_of d
write_of ObjDelete d = obj_delete_of d
write_of AssocAdd d = assoc_add_of d
write_of AssocDelete d = assoc_delete_of d
write_of AssocChangeType d = assoc_change_type_of d

-- ---- reads

-- the fields of `obj_get`: a read of one object
abbrev pub obj_get_of : Data → Result ReadCall LineRefusal
obj_get_of d = do
  session ← session_field d
  id ← id_field (codes "id") d
  critical ← flag_field (codes "critical") d
  known ← only_fields (codes "do" ∷ codes "session" ∷ codes "id" ∷ codes "critical" ∷ []) d
  Ok (record { session = session; query = query.ObjGet id; critical = critical })

-- the fields of `assoc_get`: a read of a list's edges to the ids; None for high or low is no limit of the times on that side
abbrev pub assoc_get_of : Data → Result ReadCall LineRefusal
assoc_get_of d = do
  session ← session_field d
  list ← list_fields d
  ids ← ids_field (codes "ids") d
  high ← maybe_number_field (codes "high") 0 (2 ^ 32 - 1) d
  low ← maybe_number_field (codes "low") 0 (2 ^ 32 - 1) d
  critical ← flag_field (codes "critical") d
  known ← only_fields (codes "do" ∷ codes "session" ∷ codes "id1" ∷ codes "atype" ∷ codes "ids" ∷ codes "high" ∷ codes "low" ∷ codes "critical" ∷ []) d
  Ok (record { session = session; query = query.AssocGet list ids high low; critical = critical })

-- the fields of `assoc_count`: a read of the number of a list's edges
abbrev pub assoc_count_of : Data → Result ReadCall LineRefusal
assoc_count_of d = do
  session ← session_field d
  list ← list_fields d
  critical ← flag_field (codes "critical") d
  known ← only_fields (codes "do" ∷ codes "session" ∷ codes "id1" ∷ codes "atype" ∷ codes "critical" ∷ []) d
  Ok (record { session = session; query = query.AssocCount list; critical = critical })

-- the fields of `assoc_range`: a read of at most limit edges of a list from the place pos on, where 0 is the newest edge
abbrev pub assoc_range_of : Data → Result ReadCall LineRefusal
assoc_range_of d = do
  session ← session_field d
  list ← list_fields d
  pos ← number_field (codes "pos") 0 (2 ^ 32 - 1) d
  limit ← limit_field d
  critical ← flag_field (codes "critical") d
  known ← only_fields (codes "do" ∷ codes "session" ∷ codes "id1" ∷ codes "atype" ∷ codes "pos" ∷ codes "limit" ∷ codes "critical" ∷ []) d
  Ok (record { session = session; query = query.AssocRange list pos limit; critical = critical })

-- the fields of `assoc_time_range`: a read of at most limit edges of a list, of the times from low to high
abbrev pub assoc_time_range_of : Data → Result ReadCall LineRefusal
assoc_time_range_of d = do
  session ← session_field d
  list ← list_fields d
  high ← number_field (codes "high") 0 (2 ^ 32 - 1) d
  low ← number_field (codes "low") 0 (2 ^ 32 - 1) d
  limit ← limit_field d
  critical ← flag_field (codes "critical") d
  known ← only_fields (codes "do" ∷ codes "session" ∷ codes "id1" ∷ codes "atype" ∷ codes "high" ∷ codes "low" ∷ codes "limit" ∷ codes "critical" ∷ []) d
  Ok (record { session = session; query = query.AssocTimeRange list high low limit; critical = critical })

-- the read that the fields of the word's row say, or the first refusal; the word itself is in the field `do`
abbrev pub read_of : ReadWord → Data → Result ReadCall LineRefusal
read_of ObjGet d = obj_get_of d
read_of AssocGet d = assoc_get_of d
read_of AssocCount d = assoc_count_of d
read_of AssocRange d = assoc_range_of d
read_of AssocTimeRange d = assoc_time_range_of d
