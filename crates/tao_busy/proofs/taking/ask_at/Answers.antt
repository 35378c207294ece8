use Rattle.std.proofs.Common.{subst, sym}
use Rattle.std.proofs.lemmas.Option.{slice_get-get_or}
use Rattle.tao_busy.proofs.PassesSeen.{begin_at, see_at}
use Rattle.tao_busy.proofs.SessionPasses.{sessions_stay}
use Rattle.tao_busy.proofs.taking.ask_at.Goals as goal
use Rattle.tao_busy.specs.Refusing.{IsCallOf}

pub returns-clause-on : goal.returns-clause-on
returns-clause-on g c = see_at c.args.passes.now c.args.place _ _ c.requires.inside c.ask_by.ensures.on

pub returns-clause-sessions : goal.returns-clause-sessions
returns-clause-sessions g c =
    sessions_stay g.J.Sharing.making.settings c.args.passes.now c.args.place _ _ c.requires.inside c.ask_by.ensures.on c.requires.sessions

pub returns-clause-few : goal.returns-clause-few
returns-clause-few g c = λ told logs all. c.ask_by.ensures.few told logs (begin_at c.args.passes.now c.args.place _ c.requires.inside logs all)

pub returns-clause-none : goal.returns-clause-none
returns-clause-none g c = λ told mine logs all way well.
    let number = c.requires.sessions.numbered c.args.place _ (slice_get-get_or c.args.passes.now c.args.place _ c.requires.inside) in
    c.ask_by.ensures.none told (subst (λ n. IsCallOf n c.args.request.now) (sym number) mine) logs
    (begin_at c.args.passes.now c.args.place _ c.requires.inside logs all) way well
