use Rattle.std.proofs.Common.{rules, not}
use Rattle.std.proofs.lemmas.Fn.{filter_same}
use Rattle.std.specs.List.{list_any}
use Rattle.write_model.specs.Writes.{same_edge}
use Rattle.write_touches.proofs.near_ends.leave_out.Goals as goal

pub returns : goal.returns
returns c = filter_same _ (λ v. not (list_any (same_edge v) c.args.updates.now)) _ (λ x b q h. search rules) _ _ c.retain.ensures.filtered
