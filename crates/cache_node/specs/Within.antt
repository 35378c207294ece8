-- Items that are no longer than the bounds of their types. What is exact says nothing of a bound: it is the schema's, which a call is lent.
use Rattle.std.specs.Prelude.{◌≡◌, Some}
use Rattle.tao_base.specs.EdgeTypes.{EdgeTypes}
use Rattle.tao_base.specs.declared.id.Key.{Key}
use Rattle.cache_items.specs.sealed_item.Decided.{IsWithinBound}
use Rattle.cache_items.specs.declared.item.Item.{Item}
use Rattle.cache_items.specs.Node.{Items, item_at}

-- no held list has more edges than the bound of its type
abbrev pub AreWithin : EdgeTypes → Items → Type 0
AreWithin types items = (key : Key) (item : Item) → item_at items key ≡ Some item → IsWithinBound types key item.content

-- each item was held before
abbrev pub AreFewer : Items → Items → Type 0
AreFewer old new = (key : Key) (item : Item) → item_at new key ≡ Some item → item_at old key ≡ Some item
