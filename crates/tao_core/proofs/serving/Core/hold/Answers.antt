use Rattle.std.proofs.Common.{◌≡◌, None, subst, sym}
use Rattle.core_plans.specs.Held.{plan_at}
use Rattle.core_sessions.specs.Sessions.{sessions_of}
use Rattle.tao_core.specs.Asked.{CallCanBeDone}
use Rattle.tao_core.specs.Core.{CoreState, IsCoreOf, core_state, moment}
use Rattle.tao_core.proofs.HeldBegun.{begun_core, is_begun}
use Rattle.tao_core.proofs.NotBegun.{held_goes}
use Rattle.tao_core.proofs.serving.Core.hold.Goals as goal

pub step_plan-requires-clause-keepers : goal.step_plan-requires-clause-keepers
step_plan-requires-clause-keepers g c =
    let tables = (g.K.Keeper.state c.args.keepers.now).told in
    let core = core_state c.self.inside in
    let of = subst (IsCoreOf g.K.Keeper.TELLS tables) (sym c.self.view_is) c.requires.keepers in
    subst (λ xs. IsCoreOf g.K.Keeper.TELLS tables (record core { plans = c.add.new.self; sessions = xs })) (sym c.make_room.ensures)
    (begun_core g.K.Keeper.TELLS (g.K.Keeper.state c.args.keepers.now) core of.is_consistent c.args.call c.begun_plan-plan.result
    (is_begun core.settings core.states core.sessions c.args.call c.in-Ok.from.start c.in-Ok.from.follower c.begun_plan-plan.result c.in-Ok.ensures.begins
    c.begun_plan-plan.ensures)
    (subst (λ (x : CoreState). CallCanBeDone x.settings x.sessions c.args.call) (sym c.self.view_is) c.requires.can) c.args.number c.add.new.self of
    (subst (λ (x : CoreState). plan_at x.plans c.args.number ≡ None) (sym c.self.view_is) c.requires.free) c.in-Ok-add.ensures.ok)

pub returns-in-Ok-add-clause-does : goal.returns-in-Ok-add-clause-does
returns-in-Ok-add-clause-does g c =
    let core = core_state c.self.inside in
    held_goes core c.args.self.now c.self.view_is (sessions_of c.make_room.new.sessions) c.make_room.ensures c.args.call
    g.K.Keeper.TELLS (g.K.Keeper.state c.args.keepers.now) (g.L.Link.shown c.args.link.now) c.args.number c.begun_plan-plan.result
    c.add.new.self c.step_plan.result
    (moment c.step_plan.new.self (g.K.Keeper.state c.step_plan.new.keepers) (g.L.Link.shown c.step_plan.new.link))
    (is_begun core.settings core.states core.sessions c.args.call c.in-Ok.from.start c.in-Ok.from.follower c.begun_plan-plan.result c.in-Ok.ensures.begins
    c.begun_plan-plan.ensures) c.in-Ok-add.ensures.ok c.step_plan.ensures.steps
