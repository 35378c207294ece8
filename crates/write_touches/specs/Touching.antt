-- What is said of the touches of a write.
use Rattle.std.specs.Prelude.{ℕ, ◌+◌, ◌≡◌, Bool, true, false, List, [], ◌∷◌, ◌==◌, nat_le, ⊤}
use Rattle.std.specs.List.{list_any}
use Rattle.tao_base.specs.EdgeTypes.{EdgeTypes}
use Rattle.tao_base.specs.declared.entry.Change.{Change}
use Rattle.tao_base.specs.declared.entry.Entry.{Entry}
use Rattle.tao_base.specs.declared.entry.Touch.{Touch}
use Rattle.tao_base.specs.declared.id.Key.{Key}
use Rattle.tao_base.specs.declared.write.Write.{Write}
use Rattle.tao_base.specs.declared.write.Write.TheVariants.{ObjAdd, ObjUpdate, ObjDelete, AssocAdd, AssocDelete, AssocChangeType}
use Rattle.graph_model.specs.Edges.{edge_record, number_of}
use Rattle.graph_model.specs.Log.{additions}
use Rattle.write_model.specs.Writes.{Names, own_updates, touches_of}
use Rattle.write_touches.specs.declared.refusal.TouchRefusal.{TouchRefusal}
use Rattle.write_touches.specs.declared.refusal.TouchRefusal.TheVariants.{KeeperFault, ShardFull, StampFull, OutOfMemory}

-- whether the write adds an object whose serial would be 2^48 - 1, or greater
abbrev pub lacks_serial : List Entry → Write → Bool
lacks_serial log (ObjAdd shard otype payload) = nat_le 281474976710655 (additions log + 1)
lacks_serial log (ObjUpdate id payload) = false
lacks_serial log (ObjDelete id) = false
lacks_serial log (AssocAdd id1 atype id2 time payload) = false
lacks_serial log (AssocDelete id1 atype id2) = false
lacks_serial log (AssocChangeType id1 atype id2 newtype) = false

-- whether a record at id1 that the write would stamp has the number 2^62 - 1, in whatever epoch
abbrev pub lacks_stamp : List Entry → Write → Bool
lacks_stamp log write = list_any (λ u. number_of (edge_record log u.0 u.1 u.2) == 4611686018427387903) (own_updates 0 log write)

-- the write is one to an edge
abbrev pub IsEdgeWrite : Write → Type 0
IsEdgeWrite (AssocAdd id1 atype id2 time payload) = ⊤
IsEdgeWrite (AssocDelete id1 atype id2) = ⊤
IsEdgeWrite (AssocChangeType id1 atype id2 newtype) = ⊤
IsEdgeWrite (ObjAdd shard otype payload) = ⊥
IsEdgeWrite (ObjUpdate id payload) = ⊥
IsEdgeWrite (ObjDelete id) = ⊥

-- the touches say what the write names, where there are any
abbrev pub NameWrite : Write → List Touch → Type 0
NameWrite write [] = ⊤
NameWrite write (t ∷ ts) = Names write (t ∷ ts)

-- the touches are a single one, which makes this change of the key, at whatever version
pub record IsOneChange (key : Key) (change : Change) (ts : List Touch) : Type 0 where
  pub version : ℕ
  pub touches_are : ts ≡ (record { key = key; change = change; version = version }) ∷ []

-- an object's addition has a touch
abbrev pub HasTouch : Write → List Touch → Type 0
HasTouch (ObjAdd shard otype payload) [] = ⊥
HasTouch (ObjAdd shard otype payload) (t ∷ ts) = ⊤
HasTouch (ObjUpdate id payload) ts = ⊤
HasTouch (ObjDelete id) ts = ⊤
HasTouch (AssocAdd id1 atype id2 time payload) ts = ⊤
HasTouch (AssocDelete id1 atype id2) ts = ⊤
HasTouch (AssocChangeType id1 atype id2 newtype) ts = ⊤

-- the touches are those of the write in the epoch, which has its serial and its stamps
pub record AreTouches (types : EdgeTypes) (epoch : ℕ) (log : List Entry) (write : Write) (touches : List Touch) : Type 0 where
  pub touches_are : touches ≡ touches_of types epoch log write
  pub serial : lacks_serial log write ≡ false
  pub stamps : lacks_stamp log write ≡ false

-- the write has no touches for this reason
abbrev pub HasNone : List Entry → Write → TouchRefusal → Type 0
HasNone log write (ShardFull serial) = (lacks_serial log write ≡ true) × (serial ≡ 281474976710655)
HasNone log write (StampFull number) = (lacks_stamp log write ≡ true) × (number ≡ 4611686018427387903)
HasNone log write KeeperFault = ⊤
HasNone log write OutOfMemory = ⊤
