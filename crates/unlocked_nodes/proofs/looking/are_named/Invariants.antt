use Rattle.std.proofs.Common.{◌≡◌, ℕ, ◌<◌}
use Rattle.std.specs.Prelude.{slice_get}
use Rattle.core_model.specs.Fleet.{node_names}
use Rattle.unlocked_nodes.proofs.looking.are_named.Given as goal

-- those so far have their names
abbrev pub invariant-loop-place : goal.invariant-loop-place
invariant-loop-place g l = (place : ℕ) → place < l.place → slice_get (node_names l.caches) place ≡ slice_get l.names place
