use Rattle.std.proofs.Common.{rules, not, ◌∙◌}
use Rattle.std.proofs.lemmas.Bool.{cond-true}
use Rattle.std.proofs.lemmas.List.Sorted.{IsPartitionPoint-from_clause}
use Rattle.graph_model.specs.Edges.{IsNewestFirst, is_newer}
use Rattle.list_prefix.proofs.Changed.{insert_at, place_parts}
use Rattle.list_prefix.proofs.changing.insert.Goals as goal

pub returns : goal.returns
returns c =
    let sorted : IsNewestFirst c.deref.result.now = rw c.deref.ensures.value c.requires.in_order.newest_first in
    let point = IsPartitionPoint-from_clause (λ y. not (is_newer c.args.edge y)) _ _ c.partition_point-place.ensures.partitioned
    (place_parts c.args.edge c.deref.result.now sorted) (λ a r q k. search rules) in
    let is = insert_at c.args.edge c.deref.result.now _ point c.partition_point-place.ensures.bound in
    c.insert.ensures.items ∙ cond-true _ _ _ (c.insert.ensures.succeeds c.requires.room) ∙ rw c.deref.ensures.value at is
