use Rattle.std.proofs.Common.{◌≡◌, length}
use Rattle.std.specs.List.{AllByRecursion}
use Rattle.new_stores.specs.Empty.{HasNoStores}
use Rattle.new_stores.proofs.made.steady_keepers.Given as goal

-- so many keepers were made
abbrev pub invariant-loop-made : goal.invariant-loop-made
invariant-loop-made l = (length l.keepers.items ≡ l.made) × AllByRecursion HasNoStores l.keepers.items
