-- The calls of the workload, as they are drawn: what is drawn, in its order, and the request that it makes.
use Rattle.std.specs.Prelude.{ℕ, ◌+◌, ◌*◌, ◌^◌, false, List, [], ◌∷◌, length, None, slice_get, unwrap_or, codes, decimal}
use Rattle.requests.specs.declared.caches.CacheRequest.TheVariants as cache
use Rattle.requests.specs.declared.calls.Call.TheVariants.{Write, Read}
use Rattle.requests.specs.declared.calls.EdgeName.{EdgeName}
use Rattle.requests.specs.declared.calls.ListName.{ListName}
use Rattle.requests.specs.declared.calls.QueryText.{QueryText}
use Rattle.requests.specs.declared.calls.QueryText.TheVariants as query
use Rattle.requests.specs.declared.calls.WriteText.{WriteText}
use Rattle.requests.specs.declared.calls.WriteText.TheVariants as write
use Rattle.requests.specs.declared.request.Request.{Request}
use Rattle.requests.specs.declared.request.Request.TheVariants as request
use Rattle.requests.specs.declared.stores.StoreRequest.TheVariants as store
use Rattle.tao_base.specs.declared.data.Pair.{Pair}
use Rattle.load_gen.specs.Draws.{Draw, ◌>>=◌, below, give}
use Rattle.load_gen.specs.Kinds.{kind_of}
use Rattle.load_gen.specs.Names.{NameLists}
use Rattle.load_gen.specs.declared.kind.Kind.{Kind}
use Rattle.load_gen.specs.declared.kind.Kind.TheVariants.{ObjAdd, AssocAdd, AssocDelete, AssocRange, AssocCount, Deliver, Stream}

-- ---- what is drawn

-- one of these texts
abbrev pub one_of : List (List ℕ) → Draw (List ℕ)
one_of texts = do
  place ← below (length texts)
  give (unwrap_or (slice_get texts place) [])

-- a session: there is one for each tier, by numbers from 1
abbrev pub session_in : NameLists → Draw ℕ
session_in names = do
  place ← below (length names.tiers)
  give (place + 1)

-- a shard
abbrev pub shard_in : NameLists → Draw ℕ
shard_in names = below names.shards

-- an id: a shard, then one of its first 50 serials
abbrev pub id_in : NameLists → Draw ℕ
id_in names = do
  shard ← shard_in names
  serial ← below 50
  give (shard * 2 ^ 48 + (serial + 1))

-- a list: an id, then a type
abbrev pub list_in : NameLists → Draw ListName
list_in names = do
  id1 ← id_in names
  atype ← one_of names.assocs
  give (record { id1 = id1; atype = atype })

-- an edge: its list, then the id at its other end
abbrev pub edge_in : NameLists → Draw EdgeName
edge_in names = do
  list ← list_in names
  id2 ← id_in names
  give (record { list = list; id2 = id2 })

-- ---- the request that it makes

-- data that has a number, in decimal, under the key `n`
abbrev pub numbered : ℕ → List Pair
numbered number = record { key = codes "n"; value = decimal number } ∷ []

-- a write of a session, under a number
abbrev pub write_of : ℕ → ℕ → WriteText → Request
write_of session seq asked = request.Call (Write (record { session = session; seq = seq; write = asked }))

-- a read of a session, which isn't critical
abbrev pub read_of : ℕ → QueryText → Request
read_of session asked = request.Call (Read (record { session = session; query = asked; critical = false }))

-- a session adds an object of some type to a shard; its data is the call's number
abbrev pub obj_add_in : NameLists → ℕ → Draw Request
obj_add_in names number = do
  session ← session_in names
  shard ← shard_in names
  otype ← one_of names.objects
  give (write_of session number (write.ObjAdd shard otype (numbered number)))

-- a session adds an edge with a time below 1,000 and no data
abbrev pub assoc_add_in : NameLists → ℕ → Draw Request
assoc_add_in names number = do
  session ← session_in names
  edge ← edge_in names
  time ← below 1000
  give (write_of session number (write.AssocAdd edge time []))

-- a session deletes an edge
abbrev pub assoc_delete_in : NameLists → ℕ → Draw Request
assoc_delete_in names number = do
  session ← session_in names
  edge ← edge_in names
  give (write_of session number (write.AssocDelete edge))

-- a session asks for the first ten edges of a list
abbrev pub assoc_range_in : NameLists → Draw Request
assoc_range_in names = do
  session ← session_in names
  list ← list_in names
  give (read_of session (query.AssocRange list 0 10))

-- a session asks how many edges a list has
abbrev pub assoc_count_in : NameLists → Draw Request
assoc_count_in names = do
  session ← session_in names
  list ← list_in names
  give (read_of session (query.AssocCount list))

-- a cache node takes the first message of its inbox
abbrev pub deliver_in : NameLists → Draw Request
deliver_in names = do
  node ← one_of names.nodes
  give (request.Cache (cache.Deliver (record { node = node; message = 0 })))

-- a region's store of a shard takes the entry that comes next
abbrev pub stream_in : NameLists → Draw Request
stream_in names = do
  region ← one_of names.regions
  shard ← shard_in names
  give (request.Store (store.Stream region shard None))

-- the call of a number, by its kind
abbrev pub call_of : NameLists → ℕ → Kind → Draw Request
call_of names number ObjAdd = obj_add_in names number
call_of names number AssocAdd = assoc_add_in names number
call_of names number AssocDelete = assoc_delete_in names number
call_of names number AssocRange = assoc_range_in names
call_of names number AssocCount = assoc_count_in names
call_of names number Deliver = deliver_in names
call_of names number Stream = stream_in names

-- the call of a number: its kind is drawn first
abbrev pub call_in : NameLists → ℕ → Draw Request
call_in names number = do
  kind ← below 10
  call_of names number (kind_of kind)
