use Rattle.std.proofs.Common.{subst}
use Rattle.std.specs.List.{IsDistinct}
use Rattle.std.specs.Map.{keys_of}
use Rattle.cache_items.proofs.KeyTest.{derived_same}
use Rattle.cache_items.proofs.holdings.Holdings.keys_differ.Goals as goal

pub returns-clause-apart : goal.returns-clause-apart
returns-clause-apart c = rw (← c.self.view_is) (subst (λ same. IsDistinct same (keys_of c.self.inside.items.entries)) derived_same c.len.ensures.valid.0)
