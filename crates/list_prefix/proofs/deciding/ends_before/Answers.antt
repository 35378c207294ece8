use Rattle.std.proofs.Common.{rules, ap, ◌∙◌, false}
use Rattle.std.specs.Option.{option_map_or}
use Rattle.std.specs.Prelude.{nat_lt}
use Rattle.tao_base.specs.declared.edge.Edge.{Edge}
use Rattle.list_prefix.proofs.Lasts.{last_is, some_and}
use Rattle.list_prefix.proofs.deciding.ends_before.Goals as goal

pub returns : goal.returns
returns c =
    some_and _ _ (λ (e : Edge). nat_lt e.time c.args.low) _ c.is_some_and.ensures (λ x post. search rules)
    ∙ ap (λ o. option_map_or (λ (e : Edge). nat_lt e.time c.args.low) o false) (c.last.ensures.value ∙ last_is c.args.edges.now)
