use Rattle.std.proofs.Common.{ℕ, ◌<◌, ◌≤◌}
use Rattle.std.specs.Prelude.{IsTrue}
use Rattle.core_model.specs.Fleet.{serves}
use Rattle.core_nodes.specs.Beginning.{length_at}
use Rattle.served_shards.specs.Served.{low_at}
use Rattle.unlocked_nodes.proofs.looking.is_past.Given as goal

-- so it is with the shards so far
abbrev pub invariant-loop-shard : goal.invariant-loop-shard
invariant-loop-shard g l = (shard : ℕ) → shard < l.shard → IsTrue (serves l.config l.name shard)
    → length_at l.bounds shard ≤ low_at shard (g.C.Cache.node l.cache).served
