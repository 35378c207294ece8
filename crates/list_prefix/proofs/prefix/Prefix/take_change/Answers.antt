use Rattle.std.proofs.Common.{◌<◌, ◌^◌, length, arith, ap, ◌∙◌}
use Rattle.tao_base.specs.declared.entry.Change.TheVariants.{SetEdge, CutEdge}
use Rattle.graph_model.specs.Edges.{IsInListOrder}
use Rattle.list_prefix.specs.Changes.{shortened, with_edge}
use Rattle.list_prefix.specs.ListPrefix.{CanBegin, list_prefix}
use Rattle.list_prefix.proofs.Changed.{after_begins, begins_same, in_order_rest, in_order_same}
use Rattle.list_prefix.proofs.prefix.Prefix.take_change.Goals as goal

pub put_in-self-inside-requires-clause-in_order : goal.put_in-self-inside-requires-clause-in_order
put_in-self-inside-requires-clause-in_order c =
    let order : IsInListOrder c.reserve.new.self.items = rw c.reserve.ensures.items c.self.invariant.in_order in
    in_order_same _ _ (ap (λ p. p.edges) c.take_out-rest.ensures.rest) (in_order_rest c.in_ok-edge-in-SetEdge.edge.id2 c.reserve.new.self.items order)

pub put_in-self-inside-requires-clause-room : goal.put_in-self-inside-requires-clause-room
put_in-self-inside-requires-clause-room c = omega (
  arith,
  c.in_ok-reserve-in-SetEdge.ensures.ok,
  c.take_out-rest.ensures.fewer,
  c.take_out-rest.ensures.capacity,
)

pub invariant_of-self-in-SetEdge-1 : goal.invariant_of-self-in-SetEdge-1
invariant_of-self-in-SetEdge-1 c =
    let begins : CanBegin c.reserve.new.self.items c.self.inside.total = rw c.reserve.ensures.items c.self.invariant in
    let small : length c.reserve.new.self.items < 2 ^ 63 = omega (arith, c.reserve.new.self.ok.0, c.reserve.new.self.ok.1, c.reserve.new.self.small) in
    let rest = c.take_out-rest.ensures.rest in
    begins_same (list_prefix c.put_in-self-inside.new.edges.items c.put_in-self-inside.result) _
    (c.put_in-self-inside.ensures ∙ ap (λ p. with_edge c.in_ok-edge-in-SetEdge.edge p c.args.bound) rest)
    (after_begins (SetEdge c.in_ok-edge-in-SetEdge.edge c.in-SetEdge.was) (list_prefix c.reserve.new.self.items c.self.inside.total) c.args.bound begins small)

pub invariant_of-self-in-CutEdge-1 : goal.invariant_of-self-in-CutEdge-1
invariant_of-self-in-CutEdge-1 c =
    let small : length c.self.inside.edges.items < 2 ^ 63 = omega (arith, c.self.inside.edges.ok.0, c.self.inside.edges.ok.1, c.self.inside.edges.small) in
    let rest = c.take_out-self-inside.ensures.rest in
    begins_same (list_prefix c.shorten.new.edges.items c.take_out-self-inside.result) _
    (ap (λ xs. list_prefix xs c.take_out-self-inside.result) c.shorten.ensures ∙ ap (λ p. list_prefix (shortened c.args.bound p.edges) p.total) rest)
    (after_begins (CutEdge c.in-CutEdge.id2 c.in-CutEdge.stamp c.in-CutEdge.was)
    (list_prefix c.self.inside.edges.items c.self.inside.total) c.args.bound c.self.invariant small)
