use Rattle.std.proofs.Common.{◌≡◌, take}
use Rattle.keepers.specs.Shown.{total}
use Rattle.keepers.proofs.keepers.total_faults.Given as goal

abbrev pub invariant-loop-keeper : goal.invariant-loop-keeper
invariant-loop-keeper g l = l.faults ≡ total (λ keeper. (g.M.Keeper.state keeper).faults) l.fn.more (take l.keeper-index l.keepers)
