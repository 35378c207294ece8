use Rattle.std.proofs.Common.{◌∙◌, subst}
use Rattle.std.proofs.lemmas.Option.{get_or_from_slice_get, slice_get_within}
use Rattle.load_audit.specs.Kept.{AuditsKept}
use Rattle.load_audit.proofs.kept.audit_all.Goals as goal

pub returns-clause-each : goal.returns-clause-each
returns-clause-each g c = λ place before after was is.
    let within = slice_get_within c.args.all.now place before was in
    let at = (c.for_each_mut.ensures place before within).1 in
    let tells = g.M.Keeper.TELLS in
    let state = g.M.Keeper.state in
    let writes = c.args.writes.now in
    subst (λ b. AuditsKept tells state writes b after) (at.argument_is ∙ get_or_from_slice_get c.args.all.now place before before was)
    (subst (λ a. AuditsKept tells state writes at.argument.now a) (at.left ∙ get_or_from_slice_get _ place after before is) at.call)
