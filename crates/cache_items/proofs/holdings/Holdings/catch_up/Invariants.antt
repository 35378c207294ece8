use Rattle.std.proofs.Common.{◌≡◌, drop}
use Rattle.cache_items.specs.Node.{caught_up}
use Rattle.cache_items.proofs.holdings.Holdings.catch_up.Given as goal

abbrev pub invariant-loop-entry : goal.invariant-loop-entry
invariant-loop-entry l = caught_up l.shard (drop l.entry-index l.entries) l.self ≡ caught_up l.shard l.entries l.initial.self
