use Rattle.std.proofs.Common.{Some, refl, subst, sym, ◌∙◌}
use Rattle.core_plans.specs.declared.held.HeldPlan.TheVariants as of_plan
use Rattle.core_sessions.specs.Sessions.{sessions_of}
use Rattle.request_check.specs.declared.checked.CheckedCall.TheVariants as call
use Rattle.tao_core.specs.Core.{core_state}
use Rattle.tao_core.specs.HeldCalls.{IsNotBegun}
use Rattle.tao_core.proofs.AnsweredAtOnce.{
  answered_call,
  call_learns,
  lent_core,
  lent_same,
  reader_begun,
  refused_call,
  starts_call,
  starts_ready,
  starts_under_way,
}
use Rattle.tao_core.proofs.serving.Core.answer_read.Goals as goal

pub carry_read-requires-clause-ready : goal.carry_read-requires-clause-ready
carry_read-requires-clause-ready g c =
    let tells = g.K.Keeper.TELLS in
    let keepers = g.K.Keeper.state c.args.keepers.now in
    let ready = c.ready_reader-ready in
    let now = core_state c.self.inside in
    let core = lent_core now ready.new.fleet (sessions_of ready.new.sessions) in
    let own = lent_same now ready.new.fleet (sessions_of ready.new.sessions) ready.ensures.fleet ready.ensures.sessions ∙ c.self.view_is in
    let asked = call.Read c.args.call in
    let plan = of_plan.Read c.begun_read-plan.result in
    starts_ready tells asked core c.args.self.now keepers plan
    (starts_call tells asked core c.args.self.now keepers plan c.args.from.start c.args.from.follower own c.requires.keepers c.requires.can
    c.requires.begins c.begun_read-plan.ensures) (g.L.Link.shown c.args.link.now)

pub carry_read-requires-clause-read : goal.carry_read-requires-clause-read
carry_read-requires-clause-read g c =
    let tells = g.K.Keeper.TELLS in
    let keepers = g.K.Keeper.state c.args.keepers.now in
    let ready = c.ready_reader-ready in
    let now = core_state c.self.inside in
    let core = lent_core now ready.new.fleet (sessions_of ready.new.sessions) in
    let own = lent_same now ready.new.fleet (sessions_of ready.new.sessions) ready.ensures.fleet ready.ensures.sessions ∙ c.self.view_is in
    let asked = call.Read c.args.call in
    let plan = of_plan.Read c.begun_read-plan.result in
    starts_under_way tells asked core c.args.self.now keepers plan
    (starts_call tells asked core c.args.self.now keepers plan c.args.from.start c.args.from.follower own c.requires.keepers c.requires.can
    c.requires.begins c.begun_read-plan.ensures)

pub finish_read-requires-clause-stores : goal.finish_read-requires-clause-stores
finish_read-requires-clause-stores g c = c.carry_read.ensures.on.consistent.stores.configured

pub finish_read-requires-clause-here : goal.finish_read-requires-clause-here
finish_read-requires-clause-here g c = c.carry_read.ensures.read.follower.here

pub finish_read-requires-clause-may : goal.finish_read-requires-clause-may
finish_read-requires-clause-may g c =
    let tells = g.K.Keeper.TELLS in
    let keepers = g.K.Keeper.state c.args.keepers.now in
    let ready = c.ready_reader-ready in
    let went = c.carry_read in
    let now = core_state c.self.inside in
    let core = lent_core now ready.new.fleet (sessions_of ready.new.sessions) in
    let own = lent_same now ready.new.fleet (sessions_of ready.new.sessions) ready.ensures.fleet ready.ensures.sessions ∙ c.self.view_is in
    let asked = call.Read c.args.call in
    let plan = of_plan.Read c.begun_read-plan.result in
    let starts =
    starts_call tells asked core c.args.self.now keepers plan c.args.from.start c.args.from.follower own c.requires.keepers c.requires.can
    c.requires.begins c.begun_read-plan.ensures in
    call_learns tells asked core c.args.self.now keepers plan starts (g.K.Keeper.state went.new.keepers) (g.L.Link.shown c.args.link.now)
    (g.L.Link.shown went.new.link) went.new.nodes (of_plan.Read went.new.plan) went.ensures.does went.ensures.read went.ensures.on
    (Some c.in-Ok.reader) ready.new.sessions refl
    (reader_begun core.settings core.states core.sessions c.args.call plan c.shard.result now.fleet core.fleet c.in-Ok.reader ready.new.sessions starts.begun
    c.shard.ensures ready.ensures.fleet c.in-Ok.ensures.room c.in-Ok.ensures.reader)

pub returns-in-Ok : goal.returns-in-Ok
returns-in-Ok g c =
    let tells = g.K.Keeper.TELLS in
    let keepers = g.K.Keeper.state c.args.keepers.now in
    let ready = c.ready_reader-ready in
    let went = c.carry_read in
    let finished = c.finish_read in
    let now = core_state c.self.inside in
    let core = lent_core now ready.new.fleet (sessions_of ready.new.sessions) in
    let own = lent_same now ready.new.fleet (sessions_of ready.new.sessions) ready.ensures.fleet ready.ensures.sessions ∙ c.self.view_is in
    let asked = call.Read c.args.call in
    let plan = of_plan.Read c.begun_read-plan.result in
    let starts =
    starts_call tells asked core c.args.self.now keepers plan c.args.from.start c.args.from.follower own c.requires.keepers c.requires.can
    c.requires.begins c.begun_read-plan.ensures in
    let done =
    answered_call tells asked core c.args.self.now keepers plan starts (g.K.Keeper.state went.new.keepers) (g.L.Link.shown c.args.link.now)
    (g.L.Link.shown went.new.link) went.new.nodes (of_plan.Read went.new.plan) went.ensures.does went.ensures.read went.ensures.on
    (sessions_of finished.new.sessions) finished.result finished.ensures.over finished.ensures.learns finished.new.fleet finished.ensures.fleet in
    record { does = done.does; usable = done.usable }

-- ---- there is no memory

pub returns-in-Err : goal.returns-in-Err
returns-in-Err g c =
    let ready = c.ready_reader-ready in
    let now = core_state c.self.inside in
    let sessions = sessions_of ready.new.sessions in
    let asked = call.Read c.args.call in
    let done =
    refused_call g.K.Keeper.TELLS asked now (lent_core now ready.new.fleet sessions) c.args.self.now c.self.view_is
    (lent_same now ready.new.fleet sessions ready.ensures.fleet ready.ensures.sessions) (g.K.Keeper.state c.args.keepers.now)
    (g.L.Link.shown c.args.link.now) c.out_of_memory.result c.requires.keepers
    (subst (IsNotBegun now.states now.sessions asked) (sym c.out_of_memory.ensures) refl) in
    record { does = done.does; usable = done.usable }
