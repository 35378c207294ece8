use Rattle.std.proofs.Common.{subst, sym}
use Rattle.request_json.specs.Requests.{request_in}
use Rattle.tao_core.specs.Core.{moment}
use Rattle.tao_top.specs.Step.{AnswersLine}
use Rattle.tao_top.proofs.serving.Serving.answer.Goals as goal

pub returns-in-Ok-clause-does : goal.returns-in-Ok-clause-does
returns-in-Ok-clause-does g c =
    let tells = g.K.Keeper.TELLS in
    let state = g.K.Keeper.state in
    let shown = g.L.Link.shown in
    let after = moment c.call-reply.new.self (state c.call-reply.new.keepers) (shown c.call-reply.new.link) in
    subst (λ core. AnswersLine tells (moment core (state c.args.keepers.now) (shown c.args.link.now)) (request_in c.args.line.now) c.call-reply.result after)
    c.self.view_is
    (subst (λ asked. AnswersLine tells (moment c.self.inside.core (state c.args.keepers.now) (shown c.args.link.now)) asked c.call-reply.result after)
    (sym c.in-Ok.ensures) c.call-reply.ensures.does)
