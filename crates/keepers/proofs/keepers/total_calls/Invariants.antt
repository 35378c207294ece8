use Rattle.std.proofs.Common.{◌≡◌, take}
use Rattle.keepers.specs.Shown.{total}
use Rattle.keepers.proofs.keepers.total_calls.Given as goal

abbrev pub invariant-loop-keeper : goal.invariant-loop-keeper
invariant-loop-keeper g l = l.calls ≡ total (λ keeper. (g.M.Keeper.state keeper).calls) l.fn.more (take l.keeper-index l.keepers)
