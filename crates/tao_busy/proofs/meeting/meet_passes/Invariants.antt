use Rattle.std.proofs.Common.{◌≡◌, length}
use Rattle.graph_model.specs.Told.{WhereTold}
use Rattle.keepers.specs.Shown.{told_in}
use Rattle.load_audit.specs.Audits.{logs_in}
use Rattle.load_shares.specs.Seen.{AllBegin, EachPass}
use Rattle.shared_tiers.specs.locked_nodes.Passes.{IsPassOf}
use Rattle.tao_busy.proofs.meeting.meet_passes.Given as goal

-- one less is left in each turn
abbrev pub decreases-passes : goal.decreases-passes
decreases-passes g l = length l.left.items

-- where what is left begins the logs, all does
abbrev pub invariant-passes : goal.invariant-passes
invariant-passes g l =
    let m = g.J.Sharing.making in
    let logs = logs_in m.settings (told_in g.K.Keeper.state m.settings.shards l.fn.closed.keepers.items) in
    record {
      begin : WhereTold g.K.Keeper.TELLS (AllBegin logs l.left.items → AllBegin logs l.fn.passes.items);
      each : EachPass (IsPassOf m g.J.Logs.log) l.left.items;
      unlocked : l.closed.unlocked ≡ l.fn.closed.unlocked;
      keepers : l.closed.keepers ≡ l.fn.closed.keepers;
    }
