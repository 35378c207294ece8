use Rattle.std.proofs.Common.{◌≡◌, drop}
use Rattle.cache_items.specs.Node.{raised_all}
use Rattle.cache_items.proofs.holdings.Holdings.raise_named.Given as goal

abbrev pub invariant-loop-touched : goal.invariant-loop-touched
invariant-loop-touched l = record {
  raised : raised_all (drop l.touched-index l.keys) l.self.asks ≡ raised_all l.keys l.initial.self.asks;
  others : l.self ≡ record l.initial.self { asks = l.self.asks };
}
