-- What the fields of a served shard stand for.
use Rattle.std.specs.Prelude.{ℕ, Bool, ◌==◌}
use Rattle.served_shards.specs.Served.{ServedShard}
use Rattle.served_shards.specs.declared.shards.Shard.{Shard}

-- what contracts see of a served shard's fields
abbrev pub served_of : Shard → ServedShard
served_of s = record { shard = s.number; marks = s.water; view = s.note }

-- whether the fields are of the shard with this number
abbrev pub is_of_shard : ℕ → Shard → Bool
is_of_shard n s = s.number == n
