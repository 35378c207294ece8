use Rattle.std.proofs.Common.{◌≡◌, length}
use Rattle.graph_model.specs.Told.{WhereTold}
use Rattle.keepers.specs.Shown.{told_in}
use Rattle.load_audit.specs.Audits.{logs_in}
use Rattle.load_shares.specs.Turns.{missing_of_first}
use Rattle.shared_tiers.specs.locked_nodes.Cluster.{on_cluster}
use Rattle.tao_busy.specs.Counting.{AreSharesOf, AreWell}
use Rattle.tao_busy.specs.Refusing.{HaveClearWay}
use Rattle.tao_busy.proofs.Meets.{Covers}
use Rattle.tao_busy.proofs.meeting.meet_shares.Given as goal

-- one less is left in each turn
abbrev pub decreases-shares : goal.decreases-shares
decreases-shares g l = length l.left.items

-- what the threads miss is covered by the refusals so far and the shares that are left, and there were none where nothing was in the requests' way
abbrev pub invariant-shares : goal.invariant-shares
invariant-shares g l =
    let m = g.J.Sharing.making in
    let logs = logs_in m.settings (told_in g.K.Keeper.state m.settings.shards l.fn.closed.keepers.items) in
    let on = on_cluster g.K.Keeper.TELLS g.K.Keeper.state m g.J.Logs.log in
    let threads = length l.fn.shares.items in
    record {
      counts : WhereTold g.K.Keeper.TELLS
          (Covers (missing_of_first logs threads l.requests threads) l.refused (missing_of_first logs threads l.requests (length l.left.items)));
      none : WhereTold g.K.Keeper.TELLS (HaveClearWay on logs l.requests → l.refused ≡ 0);
      each : AreSharesOf on threads l.requests l.left.items;
      well : AreWell l.left.items;
      unlocked : l.closed.unlocked ≡ l.fn.closed.unlocked;
      keepers : l.closed.keepers ≡ l.fn.closed.keepers;
    }
