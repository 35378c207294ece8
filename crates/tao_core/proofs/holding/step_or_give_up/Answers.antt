use Rattle.std.proofs.Common.{None, subst, sym}
use Rattle.core_model.specs.Fleet.{Fleet}
use Rattle.core_model.specs.Pens.{pens_of}
use Rattle.core_plans.specs.Held.{CanStep, GivesUpPlan, StepsPlan, plan_at}
use Rattle.core_plans.specs.LedBy.{rules_of}
use Rattle.core_steps.specs.Posting.{CanPost, PostsOn}
use Rattle.core_steps.specs.World.{world}
use Rattle.tao_core.proofs.HeldStages.{advances, can_there, can_under, ends_without, room_given, room_stepped, shard_there}
use Rattle.tao_core.proofs.holding.step_or_give_up.Goals as goal

pub ready_at-requires-clause-there : goal.ready_at-requires-clause-there
ready_at-requires-clause-there g c =
    let keepers = g.K.Keeper.state c.args.keepers.now in
    can_there g.K.Keeper.TELLS c.args.due.now.config.now keepers.told c.args.nodes.now.fleet (plan_at c.args.plans.now c.args.due.now.number) c.requires.can

pub ready_at-requires-clause-here : goal.ready_at-requires-clause-here
ready_at-requires-clause-here g c =
    let tells = g.K.Keeper.TELLS in
    let keepers = g.K.Keeper.state c.args.keepers.now in
    let s = c.args.due.now.config.now in
    let fleet = c.args.nodes.now.fleet in
    let plan = plan_at c.args.plans.now c.args.due.now.number in
    shard_there tells s keepers.told fleet plan (can_under tells s keepers.told fleet plan c.requires.can)

pub step-requires-clause-ready : goal.step-requires-clause-ready
step-requires-clause-ready g c =
    let keepers = g.K.Keeper.state c.args.keepers.now in
    let nodes = c.args.nodes.now in
    subst (λ (f : Fleet). CanPost g.K.Keeper.TELLS c.args.due.now.config.now (world (record nodes { fleet = f }) keepers (g.L.Link.shown c.args.link.now)))
    (sym c.ready_at.ensures.fleet) c.requires.ready

pub step-requires-clause-can : goal.step-requires-clause-can
step-requires-clause-can g c =
    let keepers = g.K.Keeper.state c.args.keepers.now in
    subst (λ (f : Fleet). CanStep g.K.Keeper.TELLS c.args.due.now.config.now keepers.told f (plan_at c.args.plans.now c.args.due.now.number))
    (sym c.ready_at.ensures.fleet) c.requires.can

pub give_up-requires-clause-ready : goal.give_up-requires-clause-ready
give_up-requires-clause-ready g c =
    let keepers = g.K.Keeper.state c.args.keepers.now in
    let nodes = c.args.nodes.now in
    subst (λ (f : Fleet). CanPost g.K.Keeper.TELLS c.args.due.now.config.now (world (record nodes { fleet = f }) keepers (g.L.Link.shown c.args.link.now)))
    (sym c.ready_at.ensures.fleet) c.requires.ready

pub give_up-requires-clause-can : goal.give_up-requires-clause-can
give_up-requires-clause-can g c =
    let keepers = g.K.Keeper.state c.args.keepers.now in
    subst (λ (f : Fleet). CanStep g.K.Keeper.TELLS c.args.due.now.config.now keepers.told f (plan_at c.args.plans.now c.args.due.now.number))
    (sym c.ready_at.ensures.fleet) c.requires.can

pub returns-in-Ok : goal.returns-in-Ok
returns-in-Ok g c =
    let tells = g.K.Keeper.TELLS in
    let s = c.args.due.now.config.now in
    let number = c.args.due.now.number in
    let plans = c.args.plans.now in
    let keepers = g.K.Keeper.state c.args.keepers.now in
    let link = g.L.Link.shown c.args.link.now in
    let nodes = c.args.nodes.now in
    let did = c.step in
    let end = world did.new.nodes (g.K.Keeper.state did.new.keepers) (g.L.Link.shown did.new.link) in
    let same = c.ready_at.ensures.fleet in
    let steps = subst (λ (f : Fleet). StepsPlan (rules_of tells s) number plans (world (record nodes { fleet = f }) keepers link) did.new.self end) same
    did.ensures.steps in
    let on = subst (λ (f : Fleet). PostsOn tells s (world (record nodes { fleet = f }) keepers link) end) same did.ensures.on in
    record {
      steps = advances tells s number plans did.new.self (world nodes keepers link) end steps;
      under_way = did.ensures.under_way;
      on = on;
      same = c.ready_at.ensures.sessions;
      room = room_stepped tells s number plans did.new.self c.in-Ok.reader c.ready_at.new.sessions keepers.told nodes.fleet (pens_of nodes.fleet.stores)
          (pens_of did.new.nodes.fleet.stores) (world nodes keepers link) end on.goes.rise steps c.requires.can c.requires.begun c.in-Ok.ensures.ready;
    }

pub returns-in-Err : goal.returns-in-Err
returns-in-Err g c =
    let tells = g.K.Keeper.TELLS in
    let s = c.args.due.now.config.now in
    let number = c.args.due.now.number in
    let plans = c.args.plans.now in
    let keepers = g.K.Keeper.state c.args.keepers.now in
    let link = g.L.Link.shown c.args.link.now in
    let nodes = c.args.nodes.now in
    let did = c.give_up in
    let end = world did.new.nodes keepers link in
    let same = c.ready_at.ensures.fleet in
    let gives = subst (λ (f : Fleet). GivesUpPlan number plans (world (record nodes { fleet = f }) keepers link) did.new.self end) same
    did.ensures.gives_up in
    record {
      steps = ends_without tells s number plans did.new.self (world nodes keepers link) end gives;
      under_way = did.ensures.under_way;
      on = subst (λ (f : Fleet). PostsOn tells s (world (record nodes { fleet = f }) keepers link) end) same did.ensures.on;
      same = c.ready_at.ensures.sessions;
      room = room_given tells s number plans did.new.self None c.ready_at.new.sessions (pens_of did.new.nodes.fleet.stores) (world nodes keepers link) end gives;
    }
