-- Whether a fill is kept, and what the node is then.
use Rattle.std.specs.Prelude.{◌≡◌, ℕ, Bool, true, false, ◌&&◌, ◌⊎◌, ◌==◌, nat_lt, if◌then◌else◌, find, Option, Some, None}
use Rattle.lru.specs.LruCache.{lru_cache, promoted, put_entries}
use Rattle.tao_base.specs.declared.id.Key.{Key}
use Rattle.tao_base.specs.Keys.{key_shard, same_key}
use Rattle.ask_table.specs.declared.ask.Ask.{Ask}
use Rattle.ask_table.specs.Asks.{Asks, with_floor}
use Rattle.ask_table.specs.Open.{is_numbered}
use Rattle.sealed_item.specs.Fills.{SealedItem}
use Rattle.sealed_item.specs.Decided.{is_longer_content}
use Rattle.cache_items.specs.declared.item.Item.{Item}
use Rattle.cache_items.specs.declared.look.Kept.{Kept}
use Rattle.cache_items.specs.declared.look.Kept.TheVariants.{Yes, Asks as NoAsk, Lost, Mark, Floor, Memory}
use Rattle.cache_items.specs.Node.{Items, Node, item_at, met}

-- the open ask of that number
abbrev pub ask_at : ℕ → Asks → Option Ask
ask_at ask t = find (is_numbered ask) t.asks

-- a fill of this version as of this length is kept where it has the ask's mark and its floor
abbrev pub admits : ℕ → ℕ → ℕ → ℕ → Kept
admits mark floor version as_of = if nat_lt as_of mark then Mark as_of mark else (if nat_lt version floor then Floor version floor else Yes)

-- whether the fill of an ask is kept, by the ask's mark and floor, or is lost, where the ask isn't open any more
abbrev pub admits_found : Option Ask → ℕ → ℕ → Kept
admits_found None version as_of = Lost
admits_found (Some a) version as_of = admits a.mark a.floor version as_of

-- whether the fill is kept for the ask, if there is memory
abbrev pub kept_of : Option ℕ → Asks → ℕ → ℕ → Kept
kept_of None t version as_of = NoAsk
kept_of (Some ask) t version as_of = admits_found (ask_at ask t) version as_of

-- whether a leader keeps the fill, if there is memory: where it is as of every marked position
abbrev pub own_kept_of : ℕ → ℕ → Kept
own_kept_of top as_of = if nat_lt as_of top then Mark as_of top else Yes

-- the reason is that one, or that there was no memory where the fill would be kept
abbrev pub GivesKept : Kept → Kept → Type 0
GivesKept Yes kept = (kept ≡ Yes) ⊎ (kept ≡ Memory)
GivesKept NoAsk kept = kept ≡ NoAsk
GivesKept Lost kept = kept ≡ Lost
GivesKept (Mark have need) kept = kept ≡ Mark have need
GivesKept (Floor have need) kept = kept ≡ Floor have need
GivesKept Memory kept = kept ≡ Memory

-- whether the fill was kept
abbrev pub is_yes : Kept → Bool
is_yes Yes = true
is_yes NoAsk = false
is_yes Lost = false
is_yes (Mark have need) = false
is_yes (Floor have need) = false
is_yes Memory = false

-- the item that is held of a fill: its version and content
abbrev pub item_of : SealedItem → Item
item_of fill = record { version = fill.version; content = fill.content }

-- the held item has the version and more edges
abbrev pub stays : Option Item → Item → Bool
stays None item = false
stays (Some old) item = (old.version == item.version) && is_longer_content old.content item.content

-- the key's item stands first, and at most the last one goes
abbrev pub kept_items : Items → ℕ → Key → Item → Items
kept_items items most key item =
    if stays (item_at items key) item then promoted (same_key key) items else put_entries same_key (lru_cache items most) key item

-- the node with an item that it keeps: the key's item stands first, and the asks on the key are raised to the version
abbrev pub with_item : Key → Item → Node → Node
with_item key item n = record n { items = kept_items n.items n.most key item; asks = with_floor key item.version n.asks }

-- the node after it took the fill, kept or not: it has met the fill's note
abbrev pub took : SealedItem → Kept → Node → Node
took fill kept n = met (key_shard fill.key) fill.note (if is_yes kept then with_item fill.key (item_of fill) n else n)
