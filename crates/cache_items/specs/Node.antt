-- What a contract sees of a cache node: its items, the most recently used first, its asks, and what it has processed and seen of each served shard's log.
use Rattle.std.specs.Prelude.{ℕ, ◌+◌, ◌-◌, Bool, false, nat_lt, if◌then◌else◌, List, [], ◌∷◌, length, take, Option, Some, None}
use Rattle.std.specs.Map.{lookup, remove_entry}
use Rattle.std.specs.Option.{option_map_or}
use Rattle.tao_base.specs.declared.entry.Entry.{Entry}
use Rattle.tao_base.specs.declared.id.Key.{Key}
use Rattle.tao_base.specs.Keys.{key_shard, same_key}
use Rattle.served_shards.specs.shard_log.View.{View}
use Rattle.ask_table.specs.Asks.{Asks, asks_of, with_ask, with_floor, without_ask, without_asks}
use Rattle.maint_msg.specs.KeyVersions.{keys_of}
use Rattle.maint_msg.specs.Maints.{SeenMaint}
use Rattle.maint_msg.specs.declared.key_versions.KeyVersion.{KeyVersion}
use Rattle.served_shards.specs.Begun.{restarted}
use Rattle.served_shards.specs.Served.{ServedShard, changed_at, forgetting, low_at, marking, seeing}
use Rattle.cache_items.specs.declared.item.Item.{Item}

-- the items that a node holds, each with its key, the most recently used first
abbrev pub Items : Type 0
Items = List (Key × Item)

-- the items, the most recently used first, and how many there may be; the open asks; the served shards
pub record Node : Type 0 where
  pub items : Items
  pub most : ℕ
  pub asks : Asks
  pub served : List ServedShard

-- the item at the key
abbrev pub item_at : Items → Key → Option Item
item_at items key = lookup (same_key key) items

-- the items without the one at the key
abbrev pub without : Key → Items → Items
without key items = remove_entry (same_key key) items

-- the items without the last
abbrev pub without_last : Items → Items
without_last items = take (length items - 1) items

-- the item at the key is below the version
abbrev pub is_stale : Items → KeyVersion → Bool
is_stale items k = option_map_or (λ item. nat_lt item.version k.version) (item_at items k.key) false

-- the items without the one at the key, where that is below the version
abbrev pub without_stale : KeyVersion → Items → Items
without_stale k items = if is_stale items k then without k.key items else items

-- the items but for those below their versions
abbrev pub dropped : Items → List KeyVersion → Items
dropped items [] = items
dropped items (k ∷ ks) = dropped (without_stale k items) ks

-- how many items are below their versions
abbrev pub drop_count : Items → List KeyVersion → ℕ
drop_count items [] = 0
drop_count items (k ∷ ks) = (if is_stale items k then 1 else 0) + drop_count (without_stale k items) ks

-- the floors of the asks on the keys raised to their versions
abbrev pub raised_all : List KeyVersion → Asks → Asks
raised_all [] t = t
raised_all (k ∷ ks) t = raised_all ks (with_floor k.key k.version t)

-- the node after it met a note of a shard's log
abbrev pub met : ℕ → View → Node → Node
met shard note n = record n { served = changed_at shard (seeing note) n.served }

-- the node after it processed a position at which these keys were touched: it drops what is below their versions, raises their asks, marks the position
abbrev pub processed : ℕ → ℕ → List KeyVersion → Node → Node
processed shard position keys n = record n {
  items = dropped n.items keys;
  asks = raised_all keys n.asks;
  served = changed_at shard (marking position) n.served;
}

-- the node after a message
abbrev pub delivered : SeenMaint → Node → Node
delivered m n = processed m.shard m.position m.keys (met m.shard m.note n)

-- the node after it processed the entries
abbrev pub caught_up : ℕ → List Entry → Node → Node
caught_up shard [] n = n
caught_up shard (e ∷ es) n = caught_up shard es (processed shard e.position (keys_of e) n)

-- the node with an ask on the key, which has the mark of the moment and floor 0. What is marked ahead at the key's shard is forgotten
abbrev pub with_opened_ask : Key → Node → Node
with_opened_ask key n = record n { asks = with_ask key (low_at (key_shard key) n.served) n.asks; served = changed_at (key_shard key) forgetting n.served }

-- the node without the ask, where one is given
abbrev pub with_ended_ask : Option ℕ → Node → Node
with_ended_ask None n = n
with_ended_ask (Some ask) n = record n { asks = without_ask ask n.asks }

-- a node that holds nothing yet
abbrev pub empty_node : ℕ → List ServedShard → Node
empty_node most served = record { items = []; most = most; asks = asks_of [] 0; served = served }

-- a node emptied, and begun anew
abbrev pub emptied : List ℕ → List View → Node → Node
emptied lows notes n = record { items = []; most = n.most; asks = without_asks n.asks; served = restarted n.served lows notes }
