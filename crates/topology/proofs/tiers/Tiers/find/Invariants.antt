use Rattle.std.proofs.Common.{◌≡◌, drop, bytes_eq}
use Rattle.std.specs.List.{position_from}
use Rattle.topology.specs.Tiers.{tier_at}
use Rattle.topology.proofs.tiers.Tiers.find.Given as goal

abbrev pub invariant-loop-place : goal.invariant-loop-place
invariant-loop-place l = position_from (λ tier. bytes_eq l.name tier.name) l.place (drop l.place l.self) ≡ tier_at l.self l.name
