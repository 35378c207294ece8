-- Laws of writes: the entry of a write follows the log that it is made on.
use Rattle.std.specs.Prelude.{ℕ, true, IsTrue, List, [], ◌∷◌, ◌++◌, length, Some, None, ◌≡◌, ◌+◌, ◌^◌, ◌<◌}
use Rattle.tao_base.specs.EdgeTypes.{EdgeTypes, InversesMatch}
use Rattle.tao_base.specs.Ids.{shard_of}
use Rattle.tao_base.specs.Stamps.{stamp_of}
use Rattle.tao_base.specs.declared.edge.Edge.{Edge}
use Rattle.tao_base.specs.declared.id.Id.{Id}
use Rattle.tao_base.specs.declared.id.AType.{AType}
use Rattle.tao_base.specs.declared.id.Key.TheVariants.{List as Assocs}
use Rattle.tao_base.specs.declared.entry.Change.TheVariants.{SetEdge}
use Rattle.tao_base.specs.declared.entry.Entry.{Entry}
use Rattle.tao_base.specs.declared.entry.Kind.TheVariants.{AssocAdd as AssocAdded}
use Rattle.tao_base.specs.declared.entry.Origin.{Origin}
use Rattle.tao_base.specs.declared.write.Write.{Write}
use Rattle.tao_base.specs.declared.write.Write.TheVariants.{ObjAdd, ObjUpdate, ObjDelete, AssocAdd, AssocDelete, AssocChangeType}
use Rattle.graph_model.specs.Edges.{edge_record, live_time}
use Rattle.graph_model.specs.Log.{version, additions}
use Rattle.graph_model.specs.Soundness.{CanFollow, IsNewOrigin, IsSoundOf, KeepsEnds, TouchFollows, is_client}
use Rattle.write_model.specs.Writes.{forward_entry, edge_touch, next_stamp}
use Rattle.graph_model.specs.Records.{is_news}
use Rattle.tao_base.specs.declared.edge.EdgeState.{EdgeState}
use Rattle.tao_base.specs.Writes.{ChangesType}

-- the entry of an add with one touch: the edge is set at id1, with the next stamp there, whatever stamp it has
abbrev pub plain_add : ℕ → List Entry → Origin → Id → AType → Edge → Entry
plain_add epoch log origin id1 atype edge = record {
  position = length log + 1;
  kind = AssocAdded;
  origin = origin;
  touches = record {
    key = Assocs id1 atype;
    change = SetEdge (record edge { stamp = next_stamp epoch log id1 atype edge.id2 }) (live_time (edge_record log id1 atype edge.id2));
    version = version log (Assocs id1 atype) + 1;
  } ∷ [];
}

-- an edge of a type without an inverse is added by the entry `plain_add`, which follows the log where its origin is new
pub record PlainAddFollows (log : List Entry) (origin : Origin) (id1 : Id) (atype : AType) (edge : Edge) : Type 0 where
  pub entry_is : (types : EdgeTypes) (epoch : ℕ) → types.inverse atype ≡ None
      → forward_entry types epoch log origin (AssocAdd id1 atype edge.id2 edge.time edge.payload) ≡ Some (plain_add epoch log origin id1 atype edge)
  pub follows : (epoch : ℕ) → IsNewOrigin log origin → CanFollow log (plain_add epoch log origin id1 atype edge)

-- the write is of the shard; an object that is added has room for its serial
abbrev pub IsOfShard : ℕ → List Entry → Write → Type 0
IsOfShard shard log (ObjAdd on otype payload) = (on ≡ shard) × (additions log + 1 < 2 ^ 48)
IsOfShard shard log (ObjUpdate id payload) = shard_of id ≡ shard
IsOfShard shard log (ObjDelete id) = shard_of id ≡ shard
IsOfShard shard log (AssocAdd id1 atype id2 time payload) = shard_of id1 ≡ shard
IsOfShard shard log (AssocDelete id1 atype id2) = shard_of id1 ≡ shard
IsOfShard shard log (AssocChangeType id1 atype id2 newtype) = shard_of id1 ≡ shard

-- the entry follows the shard's log and keeps both ends, so the log stays sound of its shard
pub record StaysSound (types : EdgeTypes) (shard : ℕ) (log : List Entry) (e : Entry) : Type 0 where
  pub follows : CanFollow log e
  pub ends : KeepsEnds types shard e
  pub sound : IsSoundOf types shard (log ++ e ∷ [])

-- a write that may be made on the log of its shard: its origin is new there
pub record IsAdmitted (types : EdgeTypes) (shard : ℕ) (log : List Entry) (origin : Origin) (write : Write) : Type 0 where
  pub inverses : InversesMatch types
  pub sound : IsSoundOf types shard log
  pub new : IsNewOrigin log origin
  pub here : IsOfShard shard log write
  pub changes : ChangesType types write

-- the entry of a write that may be made keeps the log sound, in whatever epoch
pub record ForwardFollows (shard : ℕ) (log : List Entry) (origin : Origin) (write : Write) (e : Entry) : Type 0 where
  pub stays : (types : EdgeTypes) (epoch : ℕ) → IsAdmitted types shard log origin write
      → forward_entry types epoch log origin write ≡ Some e → StaysSound types shard log e

-- a record with a later stamp than the log's makes a touch that follows the log, and the next stamp is later
pub record LaterTouches (log : List Entry) (origin : Origin) (id1 : Id) (atype : AType) (id2 : Id) (state : EdgeState) : Type 0 where
  pub follows : is_news log (id1, atype, id2, state) ≡ true → (IsTrue (is_client origin) → (stamp_of state).shard ≡ shard_of id1)
      → TouchFollows log origin (edge_touch log (id1, atype, id2, state))
  pub next : (epoch : ℕ) → stamp_of state ≡ next_stamp epoch log id1 atype id2 → is_news log (id1, atype, id2, state) ≡ true
