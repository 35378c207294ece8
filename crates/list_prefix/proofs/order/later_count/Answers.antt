use Rattle.std.proofs.Common.{rules}
use Rattle.std.specs.Prelude.{nat_lt}
use Rattle.std.proofs.lemmas.List.Sorted.{IsPartitionPoint-from_clause}
use Rattle.list_prefix.proofs.Spans.{later_parted, point_is}
use Rattle.list_prefix.proofs.order.later_count.Goals as goal

pub returns-clause-value : goal.returns-clause-value
returns-clause-value g c =
    let edge = g.E.AsEdge.edge in
    let parted = later_parted edge c.args.edges.now c.args.high c.requires.newest_first in
    let stands = c.partition_point.ensures in
    let point = IsPartitionPoint-from_clause (λ e. nat_lt c.args.high (edge e).time) _ _ stands.partitioned parted (λ a r q k. search rules) in
    point_is edge (λ e. nat_lt c.args.high e.time) c.args.edges.now _ point stands.bound
