use Rattle.std.proofs.Common.{◌≡◌, Some, map, take}
use Rattle.served_shards.specs.Served.{low_at, view_at}
use Rattle.node_stages.proofs.standing.stand_of.Given as goal

-- the marks and notes so far are those of the first shards
abbrev pub invariant-loop-shard : goal.invariant-loop-shard
invariant-loop-shard g l =
    let served = (g.C.Cache.node l.fn.cache).served in
    record {
      lows : l.lows.items ≡ map (λ n. low_at n served) (take l.shard-index l.shards);
      notes : map (λ v. Some v) l.notes.items ≡ map (λ n. view_at n served) (take l.shard-index l.shards);
      same : l.cache ≡ l.fn.cache;
    }
