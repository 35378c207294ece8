use Rattle.std.proofs.Common.{◌≡◌, Some, sym}
use Rattle.cache_items.proofs.KeyTest.{derived_is}
use Rattle.cache_items.proofs.TakenItems.{gone, taken}
use Rattle.cache_items.specs.Node.{item_at}
use Rattle.cache_items.proofs.holdings.Holdings.change_item.Goals as goal

pub returns-then-not-stays-clause-items : goal.returns-then-not-stays-clause-items
returns-then-not-stays-clause-items c = λ note.
    let is : item_at c.self.inside.items.entries c.args.key.now ≡ Some c.in-Some.item.now = rw (← derived_is c.args.key.now) (sym c.in-Some.ensures.value) in
    rw (c.evict.ensures.rest, ← c.self.view_is, derived_is c.args.key.now, is)
    (gone c.self.inside.items.entries c.args.key.now c.args.before c.args.after c.args.change.now c.args.bound c.in-Some.item.now c.take-stays.new.self note is
    c.if-not-stays.ensures.0)

pub returns-else-not-stays-clause-items : goal.returns-else-not-stays-clause-items
returns-else-not-stays-clause-items c = λ note.
    let is : item_at c.self.inside.items.entries c.args.key.now ≡ Some c.in-Some.item.now = rw (← derived_is c.args.key.now) (sym c.in-Some.ensures.value) in
    rw (← c.self.view_is, derived_is c.args.key.now, is)
    (taken c.self.inside.items.entries c.args.key.now c.args.before c.args.after c.args.change.now c.args.bound c.in-Some.item.now c.take-stays.new.self note is
    c.if-not-stays.ensures)
