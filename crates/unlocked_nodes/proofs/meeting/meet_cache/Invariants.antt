use Rattle.std.proofs.Common.{◌≡◌, ℕ, ◌<◌}
use Rattle.core_model.specs.Pens.{pens_of}
use Rattle.unlocked_nodes.specs.Looking.{HasMetAt}
use Rattle.unlocked_nodes.proofs.meeting.meet_cache.Given as goal

-- what was seen of the shards so far has met
abbrev pub invariant-loop-shard : goal.invariant-loop-shard
invariant-loop-shard g l = record {
  seen : (shard : ℕ) → shard < l.shard → HasMetAt (pens_of l.fn.stores) shard (g.C.Cache.node l.fn.cache);
  same : l.stores ≡ l.fn.stores;
  cache : l.cache ≡ l.fn.cache;
}
