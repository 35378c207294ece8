-- Examples of the workload compute.
use Rattle.std.proofs.Common.{refl}
use Rattle.std.specs.Fmt.{digits}
use Rattle.load_gen.specs.Draws.{next_state}
use Rattle.load_gen.specs.Examples.{RequestsByExample}

pub examples : RequestsByExample
unfolding next_state digits
examples = record { step = refl; drawn = refl; kind = refl; no_call = refl; one_call = refl; nodes = refl; four_calls = refl; summed = refl }
