-- From one state of a keeper to a later one.
use Rattle.std.proofs.Common.{Bool, arith, ◌∙◌}
use Rattle.tao_keeper.specs.KeeperState.{IsLater, KeeperState, KeepsTables}

-- where nothing was called
pub later_self : (keepers : KeeperState) → IsLater keepers keepers
later_self keepers = record { calls = omega arith; faults = omega arith }

-- one after another
pub later_trans : (a b c : KeeperState) → IsLater a b → IsLater b c → IsLater a c
later_trans a b c p q = record { calls = omega (arith, p.calls, q.calls); faults = omega (arith, p.faults, q.faults) }

pub keeps_trans : (tells : Bool) (a b c : KeeperState) → KeepsTables tells a b → KeepsTables tells b c → KeepsTables tells a c
keeps_trans tells a b c p q told at = q told at ∙ p told at
