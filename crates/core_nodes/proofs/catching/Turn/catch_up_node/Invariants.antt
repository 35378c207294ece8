use Rattle.std.proofs.Common.{◌≡◌}
use Rattle.graph_model.specs.Told.{WhereTold}
use Rattle.core_model.specs.Pens.{pens_of}
use Rattle.core_nodes.specs.Dues.{log_ends}
use Rattle.core_nodes.specs.Outside.{outside}
use Rattle.core_nodes.specs.Settling.{CacheGoesOn, IsAtFirstStores, OnlyReads, seen_logs}
use Rattle.core_nodes.proofs.DueNodes.{ShardsMet}
use Rattle.core_nodes.proofs.catching.Turn.catch_up_node.Given as goal

-- the node went on, and is at the ends of its region's stores of the first shards: all that was due there was met
abbrev pub invariant-loop-shard : goal.invariant-loop-shard
invariant-loop-shard g l =
    let state = g.K.Keeper.state in
    let shown = g.L.Link.shown in
    let tables = (state l.fn.keepers).told in
    record {
      goes : CacheGoesOn g.C.Cache.node g.C.Cache.refills (seen_logs g.K.Keeper.TELLS l.self.config.now tables (pens_of l.fn.stores)) l.fn.cache l.cache;
      ends : WhereTold g.K.Keeper.TELLS (IsAtFirstStores tables l.self.region l.shard (g.C.Cache.node l.cache.node));
      met : ShardsMet g.C.Cache.node (log_ends g.K.Keeper.TELLS l.self.config.now l.self.lengths.now) l.shard l.fn.cache l.cache (shown l.fn.link)
          (shown l.link);
      same : l.stores ≡ l.fn.stores;
      reads : OnlyReads g.K.Keeper.TELLS (outside (state l.fn.keepers) (shown l.fn.link)) (outside (state l.keepers) (shown l.link));
    }
