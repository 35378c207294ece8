use Rattle.std.proofs.Common.{◌∙◌, ap}
use Rattle.std.proofs.lemmas.List.{map-id}
use Rattle.list_prefix.proofs.Spans.{number_within}
use Rattle.list_prefix.specs.Spans.{from_on, later_than}
use Rattle.list_prefix.proofs.deciding.number_within.Goals as goal

pub returns : goal.returns
returns c =
    let edges = c.args.edges.now in
    let start = c.later_count-start.ensures.value ∙ ap (later_than c.args.high) (map-id edges) in
    let end = c.from_count.ensures.value ∙ ap (from_on c.args.low) (map-id edges) in
    c.saturating_sub.ensures ∙ number_within c.args.low c.args.high _ _ edges c.requires.newest_first start end
