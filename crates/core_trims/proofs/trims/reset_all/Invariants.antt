use Rattle.std.proofs.Common.{◌≡◌, ◌++◌, length, drop}
use Rattle.core_model.specs.Emptied.{region_tables}
use Rattle.core_model.specs.Pens.{pens_of}
use Rattle.core_steps.specs.World.{world}
use Rattle.core_trims.specs.Trims.{ArePrepared, ResetEach, ResetsOn, names_of}
use Rattle.tao_link.specs.Shown.{LinkShown}
use Rattle.core_trims.proofs.trims.reset_all.Given as goal

-- those that are left come before those that were reset
abbrev pub invariant-loop-reset : goal.invariant-loop-reset
invariant-loop-reset g l =
    let keepers = g.K.Keeper.state l.fn.keepers in
    let over = region_tables g.K.Keeper.TELLS keepers.told l.fn.region in
    let done = drop (length l.left.items) l.fn.resets.items in
    record {
      parts : l.left.items ++ done ≡ l.fn.resets.items;
      prepared : ArePrepared l.fn.config (pens_of l.nodes.fleet.stores) over l.left.items;
      resets : (link : LinkShown) → ResetEach over (names_of done) (world l.fn.nodes keepers link) (world l.nodes keepers link);
      on : ResetsOn g.K.Keeper.TELLS l.fn.config keepers.told l.fn.nodes l.nodes;
      rest : l.nodes ≡ record l.fn.nodes { fleet = l.nodes.fleet; mail = l.nodes.mail };
    }

-- one less is left in each turn
abbrev pub decreases-loop-reset : goal.decreases-loop-reset
decreases-loop-reset g l = length l.left.items
