use Rattle.std.proofs.Common.{◌≡◌, ◌+◌, length}
use Rattle.shared_tiers.specs.locked_nodes.Passes.{IsPassOf}
use Rattle.load_shares.specs.Seen.{EachPass}
use Rattle.tao_busy.specs.Refusing.{AreNumbered}
use Rattle.tao_busy.proofs.sessions.add_passes.Given as goal

-- one pass more for each tier
abbrev pub invariant-loop-tier : goal.invariant-loop-tier
invariant-loop-tier g l = record {
  passes : EachPass (IsPassOf g.J.Sharing.making g.J.Logs.log) l.passes.items;
  numbered : AreNumbered l.passes.items;
  many : length l.passes.items ≡ length l.fn.passes.items + l.tier;
}
