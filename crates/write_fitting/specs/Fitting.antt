-- Whether an entry is one that a write could have made, as a test.
use Rattle.std.specs.Prelude.{Bool, true, false, List, [], ◌∷◌, ◌==◌, ◌&&◌, bytes_eq}
use Rattle.std.specs.Cmp.Lexicographic.{pointwise}
use Rattle.tao_base.specs.Ids.{shard_of}
use Rattle.tao_base.specs.declared.data.Pair.{Pair}
use Rattle.tao_base.specs.declared.edge.Edge.{Edge}
use Rattle.tao_base.specs.declared.edge.Object.{Object}
use Rattle.tao_base.specs.declared.entry.Change.{Change}
use Rattle.tao_base.specs.declared.entry.Change.TheVariants.{PutObject, DropObject, SetEdge, CutEdge}
use Rattle.tao_base.specs.declared.entry.Touch.{Touch}
use Rattle.tao_base.specs.declared.id.AType.{AType}
use Rattle.tao_base.specs.declared.id.Id.{Id}
use Rattle.tao_base.specs.declared.id.Key.{Key}
use Rattle.tao_base.specs.declared.id.Key.TheVariants.{Obj, List as Assocs}
use Rattle.tao_base.specs.declared.write.Write.{Write}
use Rattle.tao_base.specs.declared.write.Write.TheVariants.{ObjAdd, ObjUpdate, ObjDelete, AssocAdd, AssocDelete, AssocChangeType}

-- whether two pairs have the same key with the same value
abbrev pub same_pair : Pair → Pair → Bool
same_pair p q = bytes_eq p.key q.key && bytes_eq p.value q.value

-- whether two data have the same pairs in the same order
abbrev pub same_data : List Pair → List Pair → Bool
same_data ps qs = pointwise same_pair ps qs

-- whether the touch puts an object that the test takes, with its id
abbrev pub puts : (Id → Object → Bool) → Key → Change → Bool
puts test (Obj id) (PutObject object) = test id object
puts test (Obj id) DropObject = false
puts test (Obj id) (SetEdge edge was) = false
puts test (Obj id) (CutEdge id2 stamp was) = false
puts test (Assocs id1 atype) change = false

-- whether the touch drops the object
abbrev pub drops : Id → Key → Change → Bool
drops object (Obj id) DropObject = id == object
drops object (Obj id) (PutObject other) = false
drops object (Obj id) (SetEdge edge was) = false
drops object (Obj id) (CutEdge id2 stamp was) = false
drops object (Assocs id1 atype) change = false

-- whether the key is that list
abbrev pub is_list : Id → AType → Key → Bool
is_list id1 atype (Assocs id type) = id == id1 && type.0 == atype.0
is_list id1 atype (Obj id) = false

-- whether the change sets an edge that the test takes
abbrev pub sets : (Edge → Bool) → Change → Bool
sets test (SetEdge edge was) = test edge
sets test (CutEdge id2 stamp was) = false
sets test (PutObject object) = false
sets test DropObject = false

-- whether the change cuts the edge
abbrev pub cuts : Id → Change → Bool
cuts other (CutEdge id2 stamp was) = id2 == other
cuts other (SetEdge edge was) = false
cuts other (PutObject object) = false
cuts other DropObject = false

-- whether the first touch is the write's
abbrev pub fits_first : Write → Key → Change → Bool
fits_first (ObjAdd shard otype payload) key change =
    puts (λ id object. shard_of id == shard && object.otype.0 == otype.0 && same_data object.payload payload) key change
fits_first (ObjUpdate id payload) key change = puts (λ other object. other == id && same_data object.payload payload) key change
fits_first (ObjDelete id) key change = drops id key change
fits_first (AssocAdd id1 atype id2 time payload) key change =
    is_list id1 atype key && sets (λ edge. edge.id2 == id2 && edge.time == time && same_data edge.payload payload) change
fits_first (AssocDelete id1 atype id2) key change = is_list id1 atype key && cuts id2 change
fits_first (AssocChangeType id1 atype id2 newtype) key change = is_list id1 atype key && cuts id2 change

-- whether the touches after the first are the write's
abbrev pub fits_second : Write → List Touch → Bool
fits_second (AssocChangeType id1 atype id2 newtype) [] = false
fits_second (AssocChangeType id1 atype id2 newtype) (t ∷ ts) = is_list id1 newtype t.key && sets (λ edge. edge.id2 == id2) t.change
fits_second (ObjAdd shard otype payload) ts = true
fits_second (ObjUpdate id payload) ts = true
fits_second (ObjDelete id) ts = true
fits_second (AssocAdd id1 atype id2 time payload) ts = true
fits_second (AssocDelete id1 atype id2) ts = true

-- whether the touches say what the write names
abbrev pub names : Write → List Touch → Bool
names write [] = false
names write (t ∷ ts) = fits_first write t.key t.change && fits_second write ts
