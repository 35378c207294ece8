use Rattle.std.proofs.Common.{◌<◌, length, subst, sym}
use Rattle.core_sessions.specs.Sessions.{sessions_of}
use Rattle.tao_core.specs.Core.{CoreState, IsConsistentCore, core_state}
use Rattle.tao_core.proofs.Keeping.{opened_core, unopened_core}
use Rattle.tao_core.proofs.serving.Core.open_session.Goals as goal
use Rattle.tao_core.proofs.serving.Core.open_session.Goals.{in-Ok-add, in-Err}

pub returns-clause-keepers : goal.returns-clause-keepers
returns-clause-keepers c = λ tells tables is.
    let core = core_state c.self.inside in
    let of = subst (IsConsistentCore tells tables) (sym c.self.view_is) is in
    let within = subst (λ (x : CoreState). c.args.opened.region < length x.settings.regions) (sym c.self.view_is) c.requires.region in
    subst (λ f. IsConsistentCore tells tables (record core { fleet = f; sessions = sessions_of c.add.new.self })) (sym c.notes.ensures.same)
    (elim c.match-add.branch [
      | in-Ok-add w ↦
          opened_core tells tables core c.args.opened c.in-Ok.notes.items (sessions_of c.add.new.self) of within c.in-Ok.ensures.notes w.in-Ok-add.ensures.ok
      | in-Err w ↦ unopened_core tells tables core (sessions_of c.add.new.self) of w.in-Err.ensures.err
    ])
