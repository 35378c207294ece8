use Rattle.std.proofs.Common.{rules, ap, ◌∙◌, false}
use Rattle.std.specs.Option.{option_map_or}
use Rattle.graph_model.specs.Edges.{is_newer}
use Rattle.list_prefix.proofs.Lasts.{last_is, some_and}
use Rattle.list_prefix.proofs.changing.comes_before_last.Goals as goal

pub returns : goal.returns
returns c =
    some_and _ _ (is_newer c.args.edge.now) _ c.is_some_and.ensures (λ x post. search rules)
    ∙ ap (λ o. option_map_or (is_newer c.args.edge.now) o false) (c.last.ensures.value ∙ last_is c.args.edges.now)
