-- What the fields of a cache stand for.
use Rattle.std.specs.Prelude.{◌≤◌, Contains, length, map, vec_capacity}
use Rattle.hot_items.specs.Hot.{Hot, hot_of}
use Rattle.hot_items.specs.KeyView.{asked}
use Rattle.hot_items.specs.Keys.{Asked}
use Rattle.hot_items.specs.declared.cache.HotCache.TheInside.{Inside}
use Rattle.hot_items.specs.declared.key.HotKey.{HotKey}
use Rattle.hot_items.specs.declared.reply.Held.{Held}

-- what contracts see of an answer that is held
abbrev pub seen : HotKey × Held → Asked × Held
seen e = (asked e.0, e.1)

-- what contracts see of a cache's fields
abbrev pub hot_seen : Inside → Hot
hot_seen c = hot_of (map seen c.items.entries) c.items.cap

-- the key that is looked up has room for the ids of each key that is held
abbrev pub HasRoom : Inside → Type 0
HasRoom c = (e : HotKey × Held) → Contains c.items.entries e → length e.0.ids.items ≤ vec_capacity c.probe.ids
