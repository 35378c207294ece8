use Rattle.std.proofs.Common.{◌≡◌, ◌++◌, drop, map}
use Rattle.load_gen.proofs.names.region_names.Given as goal

-- the names so far, with those of the regions that are left, are all
abbrev pub invariant-loop-region : goal.invariant-loop-region
invariant-loop-region l = l.names.items ++ map (λ region. region.name) (drop l.region-index l.regions) ≡ map (λ region. region.name) l.regions
