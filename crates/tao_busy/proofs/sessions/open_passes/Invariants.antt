use Rattle.std.proofs.Common.{◌≡◌, ◌≤◌, ◌*◌, length, take}
use Rattle.std.specs.Prelude.{flat_map}
use Rattle.load_gen.specs.Names.{tiers_of}
use Rattle.shared_tiers.specs.locked_nodes.Passes.{IsPassOf}
use Rattle.load_shares.specs.Seen.{EachPass}
use Rattle.tao_busy.specs.Refusing.{AreNumbered}
use Rattle.tao_busy.proofs.sessions.open_passes.Given as goal

-- a pass for each tier of the regions so far
abbrev pub invariant-loop-region : goal.invariant-loop-region
invariant-loop-region g l = record {
  passes : EachPass (IsPassOf g.J.Sharing.making g.J.Logs.log) l.passes.items;
  numbered : AreNumbered l.passes.items;
  many : length l.passes.items ≡ length (flat_map tiers_of (take l.region g.J.Sharing.making.settings.regions));
  few : length l.passes.items ≤ l.region * 65535;
}
