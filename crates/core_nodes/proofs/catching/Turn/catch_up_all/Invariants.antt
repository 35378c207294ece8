use Rattle.std.proofs.Common.{◌≡◌}
use Rattle.core_model.specs.Pens.{pens_of}
use Rattle.core_nodes.specs.Dues.{log_ends}
use Rattle.core_nodes.specs.Outside.{outside}
use Rattle.core_nodes.specs.Settling.{OnlyReads, is_turn, seen_logs}
use Rattle.core_nodes.proofs.CachesLemmas.{FirstGoOn}
use Rattle.core_nodes.proofs.DueLists.{FirstMet}
use Rattle.core_nodes.proofs.catching.Turn.catch_up_all.Given as goal

-- the nodes so far have gone on, and caught up where it was their turn: all that was due to them was met
abbrev pub invariant-loop-cache : goal.invariant-loop-cache
invariant-loop-cache g l =
    let state = g.K.Keeper.state in
    let shown = g.L.Link.shown in
    record {
      first : FirstGoOn g.C.Cache.node g.C.Cache.refills (seen_logs g.K.Keeper.TELLS l.self.config.now (state l.fn.keepers).told (pens_of l.fn.stores))
          (is_turn l.self.topology.now l.self.region) l.cache-index l.fn.caches l.caches;
      met : FirstMet g.C.Cache.node (log_ends g.K.Keeper.TELLS l.self.config.now l.self.lengths.now) (is_turn l.self.topology.now l.self.region)
          l.cache-index l.fn.caches l.caches (shown l.fn.link) (shown l.link);
      same : l.stores ≡ l.fn.stores;
      reads : OnlyReads g.K.Keeper.TELLS (outside (state l.fn.keepers) (shown l.fn.link)) (outside (state l.keepers) (shown l.link));
    }
