use Rattle.std.proofs.Common.{◌≡◌, drop}
use Rattle.std.specs.Prelude.{map}
use Rattle.maint_msg.specs.KeyVersions.{key_version}
use Rattle.cache_items.specs.Node.{dropped, raised_all}
use Rattle.cache_items.proofs.holdings.Holdings.take_touches.Given as goal

abbrev pub invariant-loop-touch : goal.invariant-loop-touch
invariant-loop-touch l = record {
  items : dropped l.self.items (map key_version (drop l.touch-index l.touches)) ≡ dropped l.initial.self.items (map key_version l.touches);
  asks : raised_all (map key_version (drop l.touch-index l.touches)) l.self.asks ≡ raised_all (map key_version l.touches) l.initial.self.asks;
  others : l.self ≡ record l.initial.self { items = l.self.items; asks = l.self.asks };
}
