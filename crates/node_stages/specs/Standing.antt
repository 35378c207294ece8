-- Where a node stands with the shards that it serves.
use Rattle.std.specs.Prelude.{ℕ, ◌≡◌, List, Some, map}
use Rattle.served_shards.specs.Served.{ServedShard, low_at, view_at}
use Rattle.node_stages.specs.declared.standing.Stand.{Stand}

-- the marks are the low-water marks of these shards, in order, and the notes have seen what the node has of their logs
pub record StandWith (served : List ServedShard) (shards : List ℕ) (stand : Stand) : Type 0 where
  pub lows : stand.lows.items ≡ map (λ shard. low_at shard served) shards
  pub notes : map (λ note. Some note) stand.notes.items ≡ map (λ shard. view_at shard served) shards

-- the marks and notes are those that a node has of the shards that it serves, in order
abbrev pub StandsSo : List ServedShard → Stand → Type 0
StandsSo served stand = StandWith served (map (λ t. t.shard) served) stand
