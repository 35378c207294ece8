-- One open ask.
use Rattle.std.specs.Prelude.{ℕ, Bool, ◌==◌, max, if◌then◌else◌}
use Rattle.tao_base.specs.declared.id.Key.{Key}
use Rattle.tao_base.specs.Keys.{key_shard, same_key}
use Rattle.ask_table.specs.declared.ask.Ask.{Ask}

-- the floor of an ask on the key rises to the version, where it is lower
abbrev pub raised_ask : Key → ℕ → Ask → Ask
raised_ask key version a = if same_key a.key key then record a { floor = max a.floor version } else a

-- whether the ask has this number
abbrev pub is_numbered : ℕ → Ask → Bool
is_numbered number a = a.number == number

-- whether the ask's key lies on the shard
abbrev pub is_on_shard : ℕ → Ask → Bool
is_on_shard shard a = key_shard a.key == shard
