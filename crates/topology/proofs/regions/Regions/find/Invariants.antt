use Rattle.std.proofs.Common.{◌≡◌, drop, bytes_eq}
use Rattle.std.specs.List.{position_from}
use Rattle.topology.specs.Regions.{region_at}
use Rattle.topology.proofs.regions.Regions.find.Given as goal

abbrev pub invariant-loop-place : goal.invariant-loop-place
invariant-loop-place l = position_from (λ region. bytes_eq l.name region.name) l.place (drop l.place l.self) ≡ region_at l.self l.name
