-- How what a log says of a key changes by one more entry.
use Rattle.std.specs.Prelude.{false, if◌then◌else◌, List, [], ◌∷◌, ◌++◌, fold, All, AllPairs, ◌≡◌, ◌≢◌, ◌+◌}
use Rattle.tao_base.specs.declared.entry.Entry.{Entry}
use Rattle.tao_base.specs.declared.entry.Touch.{Touch}
use Rattle.tao_base.specs.declared.id.AType.{AType}
use Rattle.tao_base.specs.declared.id.Id.{Id}
use Rattle.tao_base.specs.declared.id.Key.{Key}
use Rattle.tao_base.specs.declared.id.Key.TheVariants.{Obj, List as Assocs}
use Rattle.graph_model.specs.Edges.{edge_list, edge_record, list_after, record_after}
use Rattle.graph_model.specs.Log.{changes_of, object, object_after, touches_key, version}

-- the version rises by one where the entry touches the key
abbrev pub VersionFollows : List Entry → Entry → Key → Type 0
VersionFollows log e key = version (log ++ e ∷ []) key ≡ version log key + (if touches_key key e then 1 else 0)

-- the object: each change of it in the entry puts it or drops it
abbrev pub ObjectFollows : List Entry → Entry → Id → Type 0
ObjectFollows log e id = object (log ++ e ∷ []) id ≡ fold (λ found c. object_after c found) (object log id) (changes_of (e ∷ []) (Obj id))

-- the record of an edge: each change of the edge in the entry leaves one
abbrev pub RecordFollows : List Entry → Entry → Id → AType → Id → Type 0
RecordFollows log e id1 atype id2 =
    edge_record (log ++ e ∷ []) id1 atype id2
    ≡ fold (λ found c. record_after id2 c found) (edge_record log id1 atype id2) (changes_of (e ∷ []) (Assocs id1 atype))

-- the list: each change of it in the entry takes the edge out, and where it sets the edge, puts it in its place
abbrev pub ListFollows : List Entry → Entry → Id → AType → Type 0
ListFollows log e id1 atype =
    edge_list (log ++ e ∷ []) id1 atype ≡ fold (λ edges c. list_after c edges) (edge_list log id1 atype) (changes_of (e ∷ []) (Assocs id1 atype))

-- an entry that touches no key twice makes the touch's one change at each key that it touches, and none at any other
pub record ChangesByTouch (e : Entry) : Type 0 where
  pub touched : AllPairs (λ s t. s.key ≢ t.key) e.touches → All (λ t. changes_of (e ∷ []) t.key ≡ t.change ∷ []) e.touches
  pub untouched : (key : Key) → touches_key key e ≡ false → changes_of (e ∷ []) key ≡ []

-- at the key of the touch the entry does the touch's change and nothing else
pub record AppliesTouch (log : List Entry) (e : Entry) (t : Touch) : Type 0 where
  pub version_is : version (log ++ e ∷ []) t.key ≡ version log t.key + 1
  pub object_is : (id : Id) → t.key ≡ Obj id → object (log ++ e ∷ []) id ≡ object_after t.change (object log id)
  pub record_is : (id1 : Id) (atype : AType) (id2 : Id) → t.key ≡ Assocs id1 atype
      → edge_record (log ++ e ∷ []) id1 atype id2 ≡ record_after id2 t.change (edge_record log id1 atype id2)
  pub list_is : (id1 : Id) (atype : AType) → t.key ≡ Assocs id1 atype
      → edge_list (log ++ e ∷ []) id1 atype ≡ list_after t.change (edge_list log id1 atype)

-- an entry that touches no key twice does, at each key that it touches, the one touch's change and nothing else
pub record AppliesTouches (log : List Entry) (e : Entry) : Type 0 where
  pub each : AllPairs (λ s t. s.key ≢ t.key) e.touches → All (AppliesTouch log e) e.touches
