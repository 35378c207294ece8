use Rattle.std.proofs.Common.{◌≡◌, take}
use Rattle.std.specs.Prelude.{filter_map}
use Rattle.graph_model.specs.Soundness.{other_end}
use Rattle.write_model.specs.Writes.{is_near, when}
use Rattle.tao_schema.specs.Schema.{types_of}
use Rattle.write_touches.proofs.near_ends.near_ends.Given as goal

abbrev pub invariant-loop-update : goal.invariant-loop-update
invariant-loop-update l = l.ends.items ≡ filter_map (λ u. when (is_near u) (other_end (types_of l.schema) u)) (take l.update-index l.updates)
