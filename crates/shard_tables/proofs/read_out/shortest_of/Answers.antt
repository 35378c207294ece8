use Rattle.std.proofs.Common.{◌≡◌, ◌∙◌, ap, subst, sym, take}
use Rattle.graph_model.specs.Edges.{IsInListOrder}
use Rattle.sealed_item.proofs.list_prefix_lemmas.Changed.{in_order_take}
use Rattle.shard_tables.proofs.read_out.shortest_of.Goals as goal

pub of-requires-2-clause-in_order : goal.of-requires-2-clause-in_order
of-requires-2-clause-in_order c =
    let is : c.of.result ≡ take c.in_ok-count.count c.args.first.edges =
    c.of.ensures ∙ c.truncate.ensures.items ∙ ap (take c.in_ok-count.count) c.into_vec-front.ensures in
    subst IsInListOrder (sym is) (in_order_take c.in_ok-count.count c.args.first.edges c.requires.in_order)
