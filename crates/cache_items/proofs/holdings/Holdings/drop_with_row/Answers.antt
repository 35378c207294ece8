use Rattle.std.proofs.Common.{◌≡◌, ◌∙◌, ap}
use Rattle.std.specs.Map.{lookup}
use Rattle.cache_items.proofs.KeyTest.{derived_is}
use Rattle.cache_items.specs.Node.{item_at}
use Rattle.cache_items.proofs.holdings.Holdings.drop_with_row.Goals as goal

pub returns-clause-rows : goal.returns-clause-rows
returns-clause-rows c =
    let is : c.pop-item.result ≡ item_at c.self.inside.items.entries c.args.touched.now.key =
    c.pop-item.ensures.value ∙ ap (λ same. lookup same c.self.inside.items.entries) (derived_is c.args.touched.now.key) in
    rw (← c.self.view_is, ← is) c.add.ensures
