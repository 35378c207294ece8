-- Writes: the shard that each is made on, the kind of its entry, and when a change of type is one.
use Rattle.std.specs.Prelude.{ℕ, ◌≡◌, ◌≢◌, Some, ⊤}
use Rattle.tao_base.specs.EdgeTypes.{EdgeTypes}
use Rattle.tao_base.specs.Ids.{shard_of}
use Rattle.tao_base.specs.declared.entry.Kind.{Kind}
use Rattle.tao_base.specs.declared.entry.Kind.TheVariants.{ObjAdd as ObjAdded, ObjUpdate as ObjUpdated, ObjDelete as ObjDeleted}
use Rattle.tao_base.specs.declared.entry.Kind.TheVariants.{AssocAdd as AssocAdded, AssocDelete as AssocDeleted, AssocChangeType as TypeChanged}
use Rattle.tao_base.specs.declared.write.Write.{Write}
use Rattle.tao_base.specs.declared.write.Write.TheVariants.{ObjAdd, ObjUpdate, ObjDelete, AssocAdd, AssocDelete, AssocChangeType}

-- the shard of a write: the one that it names, or that of its object or of the edge's id1
abbrev pub write_shard : Write → ℕ
write_shard (ObjAdd shard otype payload) = shard
write_shard (ObjUpdate id payload) = shard_of id
write_shard (ObjDelete id) = shard_of id
write_shard (AssocAdd id1 atype id2 time payload) = shard_of id1
write_shard (AssocDelete id1 atype id2) = shard_of id1
write_shard (AssocChangeType id1 atype id2 newtype) = shard_of id1

-- the kind of the entry of a write
abbrev pub write_kind : Write → Kind
write_kind (ObjAdd shard otype payload) = ObjAdded
write_kind (ObjUpdate id payload) = ObjUpdated
write_kind (ObjDelete id) = ObjDeleted
write_kind (AssocAdd id1 atype id2 time payload) = AssocAdded
write_kind (AssocDelete id1 atype id2) = AssocDeleted
write_kind (AssocChangeType id1 atype id2 newtype) = TypeChanged

-- a change of type is to another type, and where the edge goes to its own id, not to the other end's type
abbrev pub ChangesType : EdgeTypes → Write → Type 0
ChangesType types (AssocChangeType id1 atype id2 newtype) = (atype ≢ newtype) × (id1 ≡ id2 → types.inverse atype ≢ Some newtype)
ChangesType types (ObjAdd on otype payload) = ⊤
ChangesType types (ObjUpdate id payload) = ⊤
ChangesType types (ObjDelete id) = ⊤
ChangesType types (AssocAdd id1 atype id2 time payload) = ⊤
ChangesType types (AssocDelete id1 atype id2) = ⊤
