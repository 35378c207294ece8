use Rattle.std.specs.List.{AllWithin}
use Rattle.unlocked_nodes.specs.Looking.{IsPastBounds}
use Rattle.unlocked_nodes.proofs.looking.are_past.Given as goal

-- so it is with those so far
abbrev pub invariant-loop-cache : goal.invariant-loop-cache
invariant-loop-cache g l = AllWithin (λ cache. IsPastBounds l.config l.bounds cache.name (g.C.Cache.node cache.node)) l.caches 0 l.cache-index
