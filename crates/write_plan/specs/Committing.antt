-- What the answer of a commit says of its write.
use Rattle.std.specs.Prelude.{Bool, false, ◌||◌, Option, Some, None, is_some, option_map, ⊤}
use Rattle.replies.specs.declared.calls.WriteKind.{WriteKind}
use Rattle.replies.specs.declared.calls.WriteKind.TheVariants as kind
use Rattle.shard_tables.specs.Added.{first_put}
use Rattle.tao_base.specs.EdgeTypes.{EdgeTypes}
use Rattle.tao_base.specs.declared.entry.Entry.{Entry}
use Rattle.tao_base.specs.declared.write.Write.{Write}
use Rattle.tao_base.specs.declared.write.Write.TheVariants.{ObjAdd, ObjUpdate, ObjDelete, AssocAdd, AssocDelete, AssocChangeType}

-- the write adds an object
abbrev pub IsAdding : Write → Type 0
IsAdding (ObjAdd shard otype payload) = ⊤
IsAdding (ObjUpdate id payload) = ⊥
IsAdding (ObjDelete id) = ⊥
IsAdding (AssocAdd id1 atype id2 time payload) = ⊥
IsAdding (AssocDelete id1 atype id2) = ⊥
IsAdding (AssocChangeType id1 atype id2 newtype) = ⊥

-- which write it was, as a reply says it: an object's addition by the id that its entry gave
abbrev pub kind_said : Write → Option Entry → Option WriteKind
kind_said (ObjAdd shard otype payload) None = None
kind_said (ObjAdd shard otype payload) (Some entry) = option_map kind.ObjAdd (first_put entry.touches)
kind_said (ObjUpdate id payload) entry = Some kind.ObjUpdate
kind_said (ObjDelete id) entry = Some kind.ObjDelete
kind_said (AssocAdd id1 atype id2 time payload) entry = Some kind.AssocAdd
kind_said (AssocDelete id1 atype id2) entry = Some kind.AssocDelete
kind_said (AssocChangeType id1 atype id2 newtype) entry = Some kind.AssocChangeType

-- a type that the write names has an inverse
abbrev pub has_inverse : EdgeTypes → Write → Bool
has_inverse types (ObjAdd shard otype payload) = false
has_inverse types (ObjUpdate id payload) = false
has_inverse types (ObjDelete id) = false
has_inverse types (AssocAdd id1 atype id2 time payload) = is_some (types.inverse atype)
has_inverse types (AssocDelete id1 atype id2) = is_some (types.inverse atype)
has_inverse types (AssocChangeType id1 atype id2 newtype) = is_some (types.inverse atype) || is_some (types.inverse newtype)
