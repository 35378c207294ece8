use Rattle.std.proofs.Common.{None, refl, subst, sym, ◌∙◌}
use Rattle.core_plans.specs.declared.held.HeldPlan.TheVariants as of_plan
use Rattle.core_model.specs.Pens.{pens_of}
use Rattle.core_sessions.specs.Sessions.{sessions_of}
use Rattle.request_check.specs.declared.checked.CheckedCall.TheVariants as call
use Rattle.tao_core.specs.Core.{core_state}
use Rattle.tao_core.specs.HeldCalls.{IsNotBegun}
use Rattle.tao_core.proofs.AnsweredAtOnce.{
  answered_call,
  call_learns,
  lent_core,
  lent_same,
  refused_call,
  room_begun,
  starts_call,
  starts_ready,
  starts_under_way,
}
use Rattle.tao_core.proofs.serving.Core.answer_write.Goals as goal

pub carry_write-requires-clause-ready : goal.carry_write-requires-clause-ready
carry_write-requires-clause-ready g c =
    let tells = g.K.Keeper.TELLS in
    let keepers = g.K.Keeper.state c.args.keepers.now in
    let now = core_state c.self.inside in
    let core = lent_core now now.fleet (sessions_of c.reserve.new.self) in
    let own = lent_same now now.fleet (sessions_of c.reserve.new.self) refl c.reserve.ensures.same ∙ c.self.view_is in
    let asked = call.Write c.args.call in
    let plan = of_plan.Write c.begun_write-plan.result in
    starts_ready tells asked core c.args.self.now keepers plan
    (starts_call tells asked core c.args.self.now keepers plan c.args.from.start c.args.from.follower own c.requires.keepers c.requires.can
    c.requires.begins (c.begun_write-plan.ensures core.settings)) (g.L.Link.shown c.args.link.now)

pub carry_write-requires-clause-write : goal.carry_write-requires-clause-write
carry_write-requires-clause-write g c =
    let tells = g.K.Keeper.TELLS in
    let keepers = g.K.Keeper.state c.args.keepers.now in
    let now = core_state c.self.inside in
    let core = lent_core now now.fleet (sessions_of c.reserve.new.self) in
    let own = lent_same now now.fleet (sessions_of c.reserve.new.self) refl c.reserve.ensures.same ∙ c.self.view_is in
    let asked = call.Write c.args.call in
    let plan = of_plan.Write c.begun_write-plan.result in
    starts_under_way tells asked core c.args.self.now keepers plan
    (starts_call tells asked core c.args.self.now keepers plan c.args.from.start c.args.from.follower own c.requires.keepers c.requires.can
    c.requires.begins (c.begun_write-plan.ensures core.settings))

pub finish_write-requires-clause-may : goal.finish_write-requires-clause-may
finish_write-requires-clause-may g c =
    let tells = g.K.Keeper.TELLS in
    let keepers = g.K.Keeper.state c.args.keepers.now in
    let went = c.carry_write in
    let now = core_state c.self.inside in
    let core = lent_core now now.fleet (sessions_of c.reserve.new.self) in
    let own = lent_same now now.fleet (sessions_of c.reserve.new.self) refl c.reserve.ensures.same ∙ c.self.view_is in
    let asked = call.Write c.args.call in
    let plan = of_plan.Write c.begun_write-plan.result in
    let starts =
    starts_call tells asked core c.args.self.now keepers plan c.args.from.start c.args.from.follower own c.requires.keepers c.requires.can
    c.requires.begins (c.begun_write-plan.ensures core.settings) in
    call_learns tells asked core c.args.self.now keepers plan starts (g.K.Keeper.state went.new.keepers) (g.L.Link.shown c.args.link.now)
    (g.L.Link.shown went.new.link) went.new.nodes (of_plan.Write went.new.plan) went.ensures.does went.ensures.write went.ensures.on
    None c.reserve.new.self refl
    (room_begun core.settings core.states core.sessions c.args.call plan (pens_of core.fleet.stores) c.reserve.new.self starts.begun c.in-Ok.ensures.room)

pub returns-in-Ok : goal.returns-in-Ok
returns-in-Ok g c =
    let tells = g.K.Keeper.TELLS in
    let keepers = g.K.Keeper.state c.args.keepers.now in
    let went = c.carry_write in
    let finished = c.finish_write in
    let now = core_state c.self.inside in
    let core = lent_core now now.fleet (sessions_of c.reserve.new.self) in
    let own = lent_same now now.fleet (sessions_of c.reserve.new.self) refl c.reserve.ensures.same ∙ c.self.view_is in
    let asked = call.Write c.args.call in
    let plan = of_plan.Write c.begun_write-plan.result in
    let starts =
    starts_call tells asked core c.args.self.now keepers plan c.args.from.start c.args.from.follower own c.requires.keepers c.requires.can
    c.requires.begins (c.begun_write-plan.ensures core.settings) in
    let done =
    answered_call tells asked core c.args.self.now keepers plan starts (g.K.Keeper.state went.new.keepers) (g.L.Link.shown c.args.link.now)
    (g.L.Link.shown went.new.link) went.new.nodes (of_plan.Write went.new.plan) went.ensures.does went.ensures.write went.ensures.on
    (sessions_of finished.new.sessions) finished.result finished.ensures.over finished.ensures.learns went.new.nodes.fleet refl in
    record { does = done.does; usable = done.usable }

-- ---- there is no memory

pub returns-in-Err : goal.returns-in-Err
returns-in-Err g c =
    let now = core_state c.self.inside in
    let sessions = sessions_of c.reserve.new.self in
    let asked = call.Write c.args.call in
    let done =
    refused_call g.K.Keeper.TELLS asked now (lent_core now now.fleet sessions) c.args.self.now c.self.view_is
    (lent_same now now.fleet sessions refl c.reserve.ensures.same) (g.K.Keeper.state c.args.keepers.now)
    (g.L.Link.shown c.args.link.now) c.out_of_memory.result c.requires.keepers
    (subst (IsNotBegun now.states now.sessions asked) (sym c.out_of_memory.ensures) refl) in
    record { does = done.does; usable = done.usable }
