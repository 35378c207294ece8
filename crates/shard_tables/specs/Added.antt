-- Which object an entry puts.
use Rattle.std.specs.Prelude.{List, [], ◌∷◌, Option, Some, None}
use Rattle.tao_base.specs.declared.entry.Change.{Change}
use Rattle.tao_base.specs.declared.entry.Change.TheVariants.{PutObject, DropObject, SetEdge, CutEdge}
use Rattle.tao_base.specs.declared.entry.Touch.{Touch}
use Rattle.tao_base.specs.declared.id.Id.{Id}
use Rattle.tao_base.specs.declared.id.Key.{Key}
use Rattle.tao_base.specs.declared.id.Key.TheVariants.{Obj, List as Assocs}

-- the object that a change puts at the key
abbrev pub put_by : Key → Change → Option Id
put_by (Obj id) (PutObject object) = Some id
put_by (Obj id) DropObject = None
put_by (Obj id) (SetEdge edge was) = None
put_by (Obj id) (CutEdge id2 stamp was) = None
put_by (Assocs id1 atype) change = None

-- the object that the first touch puts
abbrev pub first_put : List Touch → Option Id
first_put [] = None
first_put (t ∷ ts) = put_by t.key t.change
