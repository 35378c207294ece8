-- What a key stands for.
use Rattle.hot_items.specs.Keys.{Asked}
use Rattle.hot_items.specs.declared.key.HotKey.{HotKey}

-- what contracts see of a key
abbrev pub asked : HotKey → Asked
asked k = record { key = k.key; part = k.part; ids = k.ids.items }
