use Rattle.std.proofs.Common.{◌≡◌, take}
use Rattle.core_model.specs.Fleet.{leaders_from, regions_of}
use Rattle.core_model.proofs.names.leader_names.Given as goal

abbrev pub invariant-loop-region : goal.invariant-loop-region
invariant-loop-region l = l.names.items ≡ leaders_from 0 (take l.region (regions_of l.config))
