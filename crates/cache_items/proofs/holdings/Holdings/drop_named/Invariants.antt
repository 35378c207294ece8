use Rattle.std.proofs.Common.{◌≡◌, ◌+◌, ◌≤◌, ◌++◌, drop, List}
use Rattle.cache_items.specs.declared.delivered.DroppedList.{DroppedList}
use Rattle.cache_items.specs.Delivered.{AreSome, dropped_lists}
use Rattle.cache_items.specs.Node.{drop_count, dropped}
use Rattle.cache_items.proofs.holdings.Holdings.drop_named.Given as goal

-- what was dropped and what is left to drop is what all of the keys drop
abbrev pub invariant-loop-touched : goal.invariant-loop-touched
invariant-loop-touched l = record {
  few : l.count ≤ l.touched-index;
  counted : l.count + drop_count l.self.items (drop l.touched-index l.keys) ≡ drop_count l.initial.self.items l.keys;
  rest : dropped l.self.items (drop l.touched-index l.keys) ≡ dropped l.initial.self.items l.keys;
  others : l.self ≡ record l.initial.self { items = l.self.items };
  rows : (more : List DroppedList) → AreSome more (dropped_lists l.self.items (drop l.touched-index l.keys))
      → AreSome (l.rows ++ more) (dropped_lists l.initial.self.items l.keys);
}
