use Rattle.std.proofs.Common.{◌≡◌}
use Rattle.graph_model.specs.Told.{WhereTold}
use Rattle.core_model.specs.Pens.{pens_of}
use Rattle.node_stages.specs.Caches.{follower_node, follower_refills, leader_node, leader_refills}
use Rattle.core_nodes.specs.Dues.{all_caches, log_ends}
use Rattle.core_nodes.specs.Outside.{outside}
use Rattle.core_nodes.specs.Settling.{CachesGoOn, HaveCaughtUp, OnlyReads, seen_logs}
use Rattle.core_nodes.proofs.CachesLemmas.{had_turn}
use Rattle.core_nodes.proofs.DueLists.{RegionsMet}
use Rattle.core_nodes.proofs.catching.Ends.catch_up_caches.Given as goal

-- the nodes of the regions so far have caught up, for which all that was due to them was met, and no other has changed
abbrev pub invariant-loop-region : goal.invariant-loop-region
invariant-loop-region g l =
    let tells = g.K.Keeper.TELLS in
    let state = g.K.Keeper.state in
    let shown = g.L.Link.shown in
    let tables = (state l.fn.keepers).told in
    let logs = seen_logs tells l.self.config.now tables (pens_of l.fn.stores) in
    let turn = had_turn l.self.topology.now l.region in
    record {
      leaders : CachesGoOn leader_node leader_refills logs turn l.fn.leaders l.leaders;
      followers : CachesGoOn follower_node follower_refills logs turn l.fn.followers l.followers;
      caught : WhereTold tells (HaveCaughtUp leader_node l.self.config.now tables turn l.fn.leaders l.leaders);
      also : WhereTold tells (HaveCaughtUp follower_node l.self.config.now tables turn l.fn.followers l.followers);
      met : RegionsMet (log_ends tells l.self.config.now l.self.lengths.now) l.self.topology.now l.region (all_caches l.fn.leaders l.fn.followers)
          (all_caches l.leaders l.followers) (shown l.fn.link) (shown l.link);
      same : l.stores ≡ l.fn.stores;
      reads : OnlyReads tells (outside (state l.fn.keepers) (shown l.fn.link)) (outside (state l.keepers) (shown l.link));
    }
