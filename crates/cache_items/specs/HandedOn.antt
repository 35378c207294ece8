-- What a node hands on of its own items: the shortest front of one that decides a query.
use Rattle.std.specs.Prelude.{ℕ, ◌≡◌, ◌<◌, ◌≤◌, ◌⊎◌, is_some, if◌then◌else◌, Option, Some, None}
use Rattle.lru.specs.LruCache.{promoted}
use Rattle.tao_base.specs.EdgeTypes.{EdgeTypes}
use Rattle.tao_base.specs.Keys.{key_shard, same_key}
use Rattle.tao_base.specs.Queries.{query_key}
use Rattle.tao_base.specs.declared.id.Key.{Key}
use Rattle.tao_base.specs.declared.query.Query.{Query}
use Rattle.sealed_item.specs.Decided.{IsContentFront}
use Rattle.sealed_item.specs.Fills.{SealedItem}
use Rattle.served_shards.specs.Served.{low_at, view_at}
use Rattle.cache_items.specs.declared.item.Item.{Item}
use Rattle.cache_items.specs.Kept.{item_of, is_yes, took}
use Rattle.cache_items.specs.Node.{Node, item_at}
use Rattle.cache_items.specs.declared.look.Kept.{Kept}

-- the item cut to the shortest front that decides the query. None where its version is below the floor, or none of its fronts within the bound decides
abbrev pub IsFrontItem : EdgeTypes → Query → ℕ → Item → Option Item → Type 0
IsFrontItem types query floor item None = (item.version < floor) ⊎ IsContentFront types item.content query None
IsFrontItem types query floor item (Some front) =
    (floor ≤ item.version) × (front.version ≡ item.version) × IsContentFront types item.content query (Some front.content)

-- what is held at a key cut to the shortest front that decides the query. None where nothing is held, or the item has no such front at the floor
abbrev pub IsFrontHeld : EdgeTypes → Query → ℕ → Option Item → Option Item → Type 0
IsFrontHeld types query floor None front = front ≡ None
IsFrontHeld types query floor (Some item) front = IsFrontItem types query floor item front

-- the fill is of the key, as of the low-water mark of its shard, with what was seen of the shard's log
pub record IsOfNode (n : Node) (key : Key) (fill : SealedItem) : Type 0 where
  pub key_is : fill.key ≡ key
  pub as_of_is : fill.as_of ≡ low_at (key_shard key) n.served
  pub note_is : view_at (key_shard key) n.served ≡ Some fill.note

-- a fill of what is held at the query's key is handed on, cut to what decides the query. None exactly where nothing held serves
abbrev pub HandsOn : EdgeTypes → Node → Query → ℕ → Option SealedItem → Type 0
HandsOn types n query floor None = IsFrontHeld types query floor (item_at n.items (query_key query)) None
HandsOn types n query floor (Some fill) =
    IsFrontHeld types query floor (item_at n.items (query_key query)) (Some (item_of fill)) × IsOfNode n (query_key query) fill

-- the node after it handed a fill on: the item of the key stands first
abbrev pub handed_on : Key → Option SealedItem → Node → Node
handed_on key handed n = record n { items = if is_some handed then promoted (same_key key) n.items else n.items }

-- the node after it kept a copy of the fill, or didn't
abbrev pub with_copy : SealedItem → Kept → Node → Node
with_copy fill kept n = if is_yes kept then took fill kept n else n
