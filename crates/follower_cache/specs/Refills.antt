-- The refills that a follower queues for the lists that a message dropped.
use Rattle.std.specs.Prelude.{◌≡◌, ◌+◌, ◌<◌, ◌⊎◌, min, List, [], ◌∷◌, ◌++◌, length, Option, Some, None}
use Rattle.tao_base.specs.EdgeTypes.{EdgeTypes}
use Rattle.tao_base.specs.declared.id.AType.{AType}
use Rattle.tao_base.specs.declared.id.Id.{Id}
use Rattle.tao_base.specs.declared.id.Key.{Key}
use Rattle.tao_base.specs.declared.id.Key.TheVariants.{Obj, List as Assocs}
use Rattle.tao_base.specs.declared.query.Query.TheVariants.{AssocRange}
use Rattle.cache_node.specs.cache_items.declared.delivered.DroppedList.{DroppedList}
use Rattle.follower_cache.specs.declared.queue.Refill.{Refill}

-- as many edges of the list as were held and ten more, within the bound of its type, at the version that dropped it or above
abbrev pub list_refill : EdgeTypes → Id → AType → DroppedList → Refill
list_refill types id1 atype row = record { query = AssocRange id1 atype 0 (min (types.bound atype) (row.length + 10)); floor = row.version }

-- the refill of the list at a key that was dropped; None where the key is an object's
abbrev pub refill_at : EdgeTypes → Key → DroppedList → Option Refill
refill_at types (Obj id) row = None
refill_at types (Assocs id1 atype) row = Some (list_refill types id1 atype row)

-- the refill of a list that was dropped; none where the key isn't one of a list
abbrev pub refill_of : EdgeTypes → DroppedList → Option Refill
refill_of types row = refill_at types row.key row

-- the refill is queued last where fewer than 256 wait, or is left out
abbrev pub QueuesRow : Option Refill → List Refill → List Refill → Type 0
QueuesRow None old new = new ≡ old
QueuesRow (Some refill) old new = (new ≡ old) ⊎ ((length old < 256) × (new ≡ old ++ refill ∷ []))

-- a refill of each of the dropped lists is queued, in their order, or left out
abbrev pub Queues : EdgeTypes → List DroppedList → List Refill → List Refill → Type 0
Queues types [] old new = new ≡ old
Queues types (row ∷ rows) old new = (between : List Refill) × QueuesRow (refill_of types row) old between × Queues types rows between new
