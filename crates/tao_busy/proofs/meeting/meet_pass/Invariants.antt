use Rattle.std.proofs.Common.{◌≡◌, ℕ, ◌<◌}
use Rattle.graph_model.specs.Told.{WhereTold}
use Rattle.keepers.specs.Shown.{told_in}
use Rattle.tao_busy.specs.Counting.{BeginsLog}
use Rattle.tao_busy.proofs.meeting.meet_pass.Given as goal

-- what was seen of the first shards' logs begins them, and the rest is as it was
abbrev pub invariant-loop-shard : goal.invariant-loop-shard
invariant-loop-shard g l =
    let m = g.J.Sharing.making in
    record {
      begins : WhereTold g.K.Keeper.TELLS ((shard : ℕ) → shard < l.shard
          → BeginsLog m.settings (told_in g.K.Keeper.state m.settings.shards l.fn.closed.keepers.items) l.fn.pass.notes shard);
      pass : l.pass ≡ l.fn.pass;
      unlocked : l.closed.unlocked ≡ l.fn.closed.unlocked;
      keepers : l.closed.keepers ≡ l.fn.closed.keepers;
    }
