-- What the values of a program hold, where a clause ranges over all entries.
use Rattle.std.specs.Prelude.{ℕ, ◌<◌, ◌^◌, List, All, Option, IfSome}
use Rattle.std.specs.Str.{IsUtf8}
use Rattle.tao_base.specs.Data.{IsData}
use Rattle.tao_base.specs.Ids.{serial_of}
use Rattle.tao_base.specs.declared.data.Pair.{Pair}
use Rattle.tao_base.specs.declared.edge.Stamp.{Stamp}
use Rattle.tao_base.specs.declared.entry.Change.{Change}
use Rattle.tao_base.specs.declared.entry.Change.TheVariants.{PutObject, DropObject, SetEdge, CutEdge}
use Rattle.tao_base.specs.declared.entry.Entry.{Entry}
use Rattle.tao_base.specs.declared.entry.Origin.{Origin}
use Rattle.tao_base.specs.declared.entry.Origin.TheVariants.{Client, Merge}
use Rattle.tao_base.specs.declared.entry.Touch.{Touch}
use Rattle.tao_base.specs.declared.id.Key.{Key}
use Rattle.tao_base.specs.declared.id.Key.TheVariants.{Obj, List as Assocs}

-- an id has 64 bits, and a serial that isn't 0
abbrev pub IsId : ℕ → Type 0
IsId id = (id < 2 ^ 64) × (0 < serial_of id)

-- an origin's numbers are within their widths: 32 bits of a session, 16 of a shard, 64 of a write's number and of a position
abbrev pub OriginFits : Origin → Type 0
OriginFits (Client session seq) = (session < 2 ^ 32) × (seq < 2 ^ 64)
OriginFits (Merge shard position) = (shard < 2 ^ 16) × (position < 2 ^ 64)

-- a key's id is one, and the type of a list has 16 bits
abbrev pub KeyFits : Key → Type 0
KeyFits (Obj id) = IsId id
KeyFits (Assocs id1 atype) = IsId id1 × (atype.0 < 2 ^ 16)

-- a pair's key and value are UTF-8
abbrev pub PairFits : Pair → Type 0
PairFits p = IsUtf8 p.key × IsUtf8 p.value

-- the pairs are data, with ascending keys and within the limits of size, and all their texts are UTF-8
abbrev pub DataFits : List Pair → Type 0
DataFits pairs = IsData pairs × All PairFits pairs

-- a stamp's number has 64 bits, and its shard 16
abbrev pub StampFits : Stamp → Type 0
StampFits stamp = (stamp.number < 2 ^ 64) × (stamp.shard < 2 ^ 16)

-- the time at which an edge was live before, if it was, has 32 bits
abbrev pub WasFits : Option ℕ → Type 0
WasFits was = IfSome was (λ time. time < 2 ^ 32)

-- each number of a change is of its width, each id has a serial, and the data is within its limits
abbrev pub ChangeFits : Change → Type 0
ChangeFits (PutObject object) = (object.otype.0 < 2 ^ 16) × DataFits object.payload
ChangeFits DropObject = Unit {0}
ChangeFits (SetEdge edge was) = IsId edge.id2 × (edge.time < 2 ^ 32) × StampFits edge.stamp × WasFits was × DataFits edge.payload
ChangeFits (CutEdge id2 stamp was) = IsId id2 × StampFits stamp × WasFits was

-- a touch's key and change are within their limits, and its version has 64 bits
abbrev pub TouchFits : Touch → Type 0
TouchFits t = KeyFits t.key × (t.version < 2 ^ 64) × ChangeFits t.change

-- each number is of its width, each id has a serial, each data is within its limits
pub record EntryFits (e : Entry) : Type 0 where
  pub position : e.position < 2 ^ 64
  pub origin : OriginFits e.origin
  pub touches : All TouchFits e.touches
