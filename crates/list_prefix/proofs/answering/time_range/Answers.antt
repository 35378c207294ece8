use Rattle.std.proofs.Common.{◌≡◌, ◌∙◌, ap, map, subst, take, drop, min, IfOk}
use Rattle.list_prefix.proofs.Spans.{first_within}
use Rattle.list_prefix.proofs.answering.time_range.Goals as goal

pub returns : goal.returns
returns g c =
    let edges = map g.E.AsEdge.edge c.args.edges.now in
    let first =
    first_within c.args.low c.args.high c.args.used _ _ edges c.requires.newest_first c.later_count-start.ensures.value c.from_count.ensures.value in
    let count = c.min.ensures ∙ ap (λ n. min n c.args.used) c.saturating_sub-count.ensures in
    subst (λ given. IfOk c.edges_at.result (λ found. found ≡ given)) (ap (λ n. take n (drop c.later_count-start.result edges)) count ∙ first) c.edges_at.ensures
