-- The entry of a client's write.
use Rattle.std.specs.Prelude.{ℕ, Bool, if◌then◌else◌, List, [], ◌∷◌, ◌++◌, length, map, filter, filter_map, Option, Some, None, IsSomeAnd, slice_get}
use Rattle.std.specs.Prelude.{◌≡◌, ◌+◌, ◌*◌, ◌^◌, max, nat_eq, ◌==◌, ◌&&◌, not}
use Rattle.std.specs.List.{list_any}
use Rattle.tao_base.specs.EdgeTypes.{EdgeTypes}
use Rattle.tao_base.specs.Ids.{shard_of}
use Rattle.tao_base.specs.declared.data.Pair.{Pair}
use Rattle.tao_base.specs.declared.id.Id.{Id}
use Rattle.tao_base.specs.declared.id.AType.{AType}
use Rattle.tao_base.specs.declared.id.OType.{OType}
use Rattle.tao_base.specs.declared.id.Key.{Key}
use Rattle.tao_base.specs.declared.id.Key.TheVariants.{Obj, List as Assocs}
use Rattle.tao_base.specs.declared.edge.Object.{Object}
use Rattle.tao_base.specs.declared.edge.EdgeState.{EdgeState}
use Rattle.tao_base.specs.declared.edge.EdgeState.TheVariants.{Live, Cut}
use Rattle.tao_base.specs.declared.edge.Stamp.{Stamp}
use Rattle.tao_base.specs.declared.entry.Change.{Change}
use Rattle.tao_base.specs.declared.entry.Change.TheVariants.{PutObject, DropObject, SetEdge, CutEdge}
use Rattle.tao_base.specs.declared.entry.Entry.{Entry}
use Rattle.tao_base.specs.declared.entry.Kind.{Kind}
use Rattle.tao_base.specs.declared.entry.Origin.{Origin}
use Rattle.tao_base.specs.declared.entry.Touch.{Touch}
use Rattle.tao_base.specs.declared.write.Write.{Write}
use Rattle.tao_base.specs.declared.write.Write.TheVariants.{ObjAdd, ObjUpdate, ObjDelete, AssocAdd, AssocDelete, AssocChangeType}
use Rattle.graph_model.specs.Edges.{edge_record, live_time, number_of}
use Rattle.graph_model.specs.Log.{version, object, additions}
use Rattle.graph_model.specs.Soundness.{EdgeUpdate, other_end}
use Rattle.tao_base.specs.Writes.{write_kind}

-- the touch that follows the log
abbrev pub touch_of : List Entry → Key → Change → Touch
touch_of log key change = record { key = key; change = change; version = version log key + 1 }

-- the change that writes the record
abbrev pub change_to : Id → EdgeState → Option ℕ → Change
change_to id2 (Live time payload stamp) was = SetEdge (record { id2 = id2; time = time; payload = payload; stamp = stamp }) was
change_to id2 (Cut stamp) was = CutEdge id2 stamp was

-- the touch that writes the record
abbrev pub edge_touch : List Entry → EdgeUpdate → Touch
edge_touch log u = touch_of log (Assocs u.0 u.1) (change_to u.2 u.3 (live_time (edge_record log u.0 u.1 u.2)))

-- the numbers of an epoch are those above this one
abbrev pub epoch_base : ℕ → ℕ
epoch_base epoch = epoch * 2 ^ 32

-- the stamp of the next write to the edge, in the epoch of its shard
abbrev pub next_stamp : ℕ → List Entry → Id → AType → Id → Stamp
next_stamp epoch log id1 atype id2 = record {
  number = max (number_of (edge_record log id1 atype id2)) (epoch_base epoch) + 1;
  shard = shard_of id1;
}

-- whether two records are of one edge at one end
abbrev pub same_edge : EdgeUpdate → EdgeUpdate → Bool
same_edge u v = u.0 == v.0 && u.1.0 == v.1.0 && u.2 == v.2

-- whether the record's id2 lies on the shard of its id1
abbrev pub is_near : EdgeUpdate → Bool
is_near u = nat_eq (shard_of u.2) (shard_of u.0)

-- what is found, where the test holds
abbrev pub when : {X : Type 0} → Bool → Option X → Option X
when test found = if test then found else None

-- the records, and then those of the other ends on the same shard, each once
abbrev pub with_near_ends : EdgeTypes → List EdgeUpdate → List EdgeUpdate
with_near_ends types us =
    us ++ filter (λ v. not (list_any (same_edge v) us)) (filter_map (λ u. when (is_near u) (other_end types u)) us)

-- the records that a write gives at id1
abbrev pub own_updates : ℕ → List Entry → Write → List EdgeUpdate
own_updates epoch log (AssocAdd id1 atype id2 time payload) = (id1, atype, id2, Live time payload (next_stamp epoch log id1 atype id2)) ∷ []
own_updates epoch log (AssocDelete id1 atype id2) = cut_if_live (edge_record log id1 atype id2)
  where
    cut_if_live : Option EdgeState → List EdgeUpdate
    cut_if_live (Some (Live time payload stamp)) = (id1, atype, id2, Cut (next_stamp epoch log id1 atype id2)) ∷ []
    cut_if_live (Some (Cut stamp)) = []
    cut_if_live None = []
own_updates epoch log (AssocChangeType id1 atype id2 newtype) = move_if_live (edge_record log id1 atype id2)
  where
    move_if_live : Option EdgeState → List EdgeUpdate
    move_if_live (Some (Live time payload stamp)) =
        (id1, atype, id2, Cut (next_stamp epoch log id1 atype id2)) ∷ (id1, newtype, id2, Live time payload (next_stamp epoch log id1 newtype id2)) ∷ []
    move_if_live (Some (Cut stamp)) = []
    move_if_live None = []
own_updates epoch log (ObjAdd shard otype payload) = []
own_updates epoch log (ObjUpdate id payload) = []
own_updates epoch log (ObjDelete id) = []

-- the id of the next object: its serial is one more than the number of objects that were added
abbrev pub next_id : ℕ → List Entry → ℕ
next_id shard log = shard * 2 ^ 48 + (additions log + 1)

-- the touch of a write to an object
abbrev pub object_touches : List Entry → Write → List Touch
object_touches log (ObjAdd shard otype payload) =
    touch_of log (Obj (next_id shard log)) (PutObject (record { otype = otype; payload = payload })) ∷ []
object_touches log (ObjUpdate id payload) = update_if_there (object log id)
  where
    update_if_there : Option Object → List Touch
    update_if_there (Some old) = touch_of log (Obj id) (PutObject (record old { payload = payload })) ∷ []
    update_if_there None = []
object_touches log (ObjDelete id) = drop_if_there (object log id)
  where
    drop_if_there : Option Object → List Touch
    drop_if_there (Some old) = touch_of log (Obj id) DropObject ∷ []
    drop_if_there None = []
object_touches log (AssocAdd id1 atype id2 time payload) = []
object_touches log (AssocDelete id1 atype id2) = []
object_touches log (AssocChangeType id1 atype id2 newtype) = []

-- the touches of a write: of its object, or of its edges at both near ends
abbrev pub touches_of : EdgeTypes → ℕ → List Entry → Write → List Touch
touches_of types epoch log write = object_touches log write ++ map (edge_touch log) (with_near_ends types (own_updates epoch log write))

-- the next entry of a log, where it touches anything
abbrev pub next_entry : List Entry → Kind → Origin → List Touch → Option Entry
next_entry log kind origin [] = None
next_entry log kind origin (t ∷ ts) = Some (record { position = length log + 1; kind = kind; origin = origin; touches = t ∷ ts })

-- the entry of the write on the log of its shard, in the shard's epoch, or nothing
abbrev pub forward_entry : EdgeTypes → ℕ → List Entry → Origin → Write → Option Entry
forward_entry types epoch log origin write = next_entry log (write_kind write) origin (touches_of types epoch log write)

-- the touches say what the write names; versions, stamps, `was`, a new id, and the time and data of a type change are left open
abbrev pub Names : Write → List Touch → Type 0
Names (ObjAdd shard otype payload) ts =
    IsSomeAnd (slice_get ts 0) (λ t. (id : ℕ) × (shard_of id ≡ shard) × (t.key ≡ Obj id) × (t.change ≡ PutObject (record { otype = otype; payload = payload })))
Names (ObjUpdate id payload) ts =
    IsSomeAnd (slice_get ts 0) (λ t. (otype : OType) × (t.key ≡ Obj id) × (t.change ≡ PutObject (record { otype = otype; payload = payload })))
Names (ObjDelete id) ts = IsSomeAnd (slice_get ts 0) (λ t. (t.key ≡ Obj id) × (t.change ≡ DropObject))
Names (AssocAdd id1 atype id2 time payload) ts =
    IsSomeAnd (slice_get ts 0) (λ t. (stamp : Stamp) × (was : Option ℕ) × (t.key ≡ Assocs id1 atype)
    × (t.change ≡ SetEdge (record { id2 = id2; time = time; payload = payload; stamp = stamp }) was))
Names (AssocDelete id1 atype id2) ts =
    IsSomeAnd (slice_get ts 0) (λ t. (stamp : Stamp) × (was : Option ℕ) × (t.key ≡ Assocs id1 atype) × (t.change ≡ CutEdge id2 stamp was))
Names (AssocChangeType id1 atype id2 newtype) ts =
    IsSomeAnd (slice_get ts 0) (λ t. (stamp : Stamp) × (was : Option ℕ) × (t.key ≡ Assocs id1 atype) × (t.change ≡ CutEdge id2 stamp was))
    × IsSomeAnd (slice_get ts 1) (λ t. (time : ℕ) × (payload : List Pair) × (stamp : Stamp) × (was : Option ℕ) × (t.key ≡ Assocs id1 newtype)
    × (t.change ≡ SetEdge (record { id2 = id2; time = time; payload = payload; stamp = stamp }) was))

-- the entry is one that the write could have made
pub record FitsWrite (e : Entry) (write : Write) : Type 0 where
  pub kind_is : e.kind ≡ write_kind write
  pub named : Names write e.touches
