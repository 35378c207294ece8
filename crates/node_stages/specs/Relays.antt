-- What a leader takes of a write that passed it on the way to the master's.
use Rattle.std.specs.Prelude.{ℕ, ◌≡◌, Option, Some, None}
use Rattle.cache_items.specs.Node.{Node}
use Rattle.cache_items.specs.TakenEntry.{AppliesEntry}
use Rattle.shard_log.specs.View.{View}
use Rattle.tao_base.specs.EdgeTypes.{EdgeTypes}
use Rattle.tao_base.specs.declared.entry.Entry.{Entry}

-- the leader takes the changes of the entry, and marks nothing; without an entry it stays as it is
abbrev pub RelaysTo : EdgeTypes → ℕ → Option Entry → View → Node → Node → Type 0
RelaysTo types shard None note old new = new ≡ old
RelaysTo types shard (Some e) note old new = AppliesEntry types shard e note old new
