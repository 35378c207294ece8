-- Where edges stand in a list.
use Rattle.std.specs.Ordering.{nat_cmp, ordering_then}
use Rattle.std.specs.declared.cmp.Ordering.{Ordering}
use Rattle.tao_base.specs.declared.edge.Edge.{Edge}
use Rattle.list_index.specs.declared.order_key.OrderKey.{OrderKey}

-- the place of an edge: its time and its id2, each the greatest first
abbrev pub order_key_of : Edge → OrderKey
order_key_of e = record { time = record { 0 = e.time }; id2 = record { 0 = e.id2 } }

-- the later time comes first, and of equal times the greater id2
abbrev pub order_cmp : OrderKey → OrderKey → Ordering
order_cmp x y = ordering_then (nat_cmp y.time.0 x.time.0) (nat_cmp y.id2.0 x.id2.0)
