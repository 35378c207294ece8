use Rattle.std.proofs.Common.{rules, ◌==◌, not}
use Rattle.std.proofs.lemmas.Fn.{filter_same}
use Rattle.list_prefix.proofs.changing.remove.Goals as goal

pub returns-clause-items : goal.returns-clause-items
returns-clause-items c = filter_same _ (λ e. not (e.id2 == c.args.id2)) _ (λ x b q h. search rules) _ _ c.retain.ensures.filtered
