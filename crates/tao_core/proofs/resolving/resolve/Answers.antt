use Rattle.std.proofs.Common.{sym, ◌∙◌}
use Rattle.core_sessions.specs.Sessions.{sessions_of}
use Rattle.tao_core.proofs.AskedLemmas.{checked_can}
use Rattle.tao_core.proofs.resolving.resolve.Goals as goal

pub returns-in-Ok-clause-can : goal.returns-in-Ok-clause-can
returns-in-Ok-clause-can c =
    checked_can c.args.config.now (sessions_of c.args.sessions.now) c.args.plans.now c.args.request.now c.check.result (sym c.admit.ensures ∙ c.in-Ok.is)
    c.check.ensures.checked c.check.ensures.placed
