use Rattle.std.proofs.Common.{◌≡◌, take}
use Rattle.keepers.specs.Shown.{total}
use Rattle.cluster_opening.proofs.counting.faults_of.Given as goal

abbrev pub invariant-loop-keeper : goal.invariant-loop-keeper
invariant-loop-keeper g l = l.faults ≡ total (λ keeper. (g.K.Keeper.state keeper).faults) 0 (take l.keeper-index l.keepers)
