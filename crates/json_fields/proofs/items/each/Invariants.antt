use Rattle.std.proofs.Common.{◌≡◌, ◌++◌, drop, option_map}
use Rattle.json_fields.specs.View.{items_view}
use Rattle.json_fields.specs.Items.{each}
use Rattle.json_fields.proofs.items.each.Given as goal

abbrev pub invariant-loop-item : goal.invariant-loop-item
invariant-loop-item g l =
    let said = g.R.ItemReader.said in
    option_map (λ others. l.read.items ++ others) (each said (items_view (drop l.item-index l.items))) ≡ each said (items_view l.items)
