use Rattle.std.proofs.Common.{ap, subst, sym}
use Rattle.core_sessions.specs.Sessions.{sessions_of}
use Rattle.tao_core.specs.Core.{moment}
use Rattle.tao_core.specs.Replies.{AnswersRequest}
use Rattle.tao_core.proofs.CallLemmas.{answers_asked, answers_unasked}
use Rattle.tao_core.proofs.serving.Core.call.Goals as goal

pub returns-in-Err-clause-does : goal.returns-in-Err-clause-does
returns-in-Err-clause-does g c =
    let now = moment c.args.self.now (g.K.Keeper.state c.args.keepers.now) (g.L.Link.shown c.args.link.now) in
    subst (λ r. AnswersRequest g.K.Keeper.TELLS now c.args.request.now r now) (sym c.into_reply.ensures)
    (answers_unasked now c.self.inside.config.now (sessions_of c.self.inside.sessions) c.self.inside.plans (ap (λ x. x.settings) c.self.view_is)
    (ap (λ x. x.sessions) c.self.view_is) (ap (λ x. x.plans) c.self.view_is)
    g.K.Keeper.TELLS c.args.request.now c.in-Err.refusal c.in-Err.ensures.asked)

pub returns-in-Ok-clause-does : goal.returns-in-Ok-clause-does
returns-in-Ok-clause-does g c =
    let now = moment c.args.self.now (g.K.Keeper.state c.args.keepers.now) (g.L.Link.shown c.args.link.now) in
    let new = moment c.perform.new.self (g.K.Keeper.state c.perform.new.keepers) (g.L.Link.shown c.perform.new.link) in
    answers_asked now c.self.inside.config.now (sessions_of c.self.inside.sessions) c.self.inside.plans (ap (λ x. x.settings) c.self.view_is)
    (ap (λ x. x.sessions) c.self.view_is) (ap (λ x. x.plans) c.self.view_is) g.K.Keeper.TELLS c.args.request.now c.in-Ok.asked c.perform.result new
    c.in-Ok.ensures.asked c.perform.ensures.does
