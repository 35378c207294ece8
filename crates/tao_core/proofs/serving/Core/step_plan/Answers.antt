use Rattle.std.proofs.Common.{refl, subst, sym, ◌∙◌}
use Rattle.std.specs.Prelude.{IsSome}
use Rattle.core_plans.specs.Held.{OpensFirst, plan_at}
use Rattle.core_sessions.specs.Sessions.{sessions_of}
use Rattle.graph_model.proofs.Members.{if_some}
use Rattle.tao_core.specs.Core.{CoreState, IsCoreOf, IsOfSession, core_state}
use Rattle.tao_core.proofs.HeldKeeping.{can_step}
use Rattle.tao_core.proofs.Keeping.{core_can_post}
use Rattle.tao_core.proofs.HeldStages.{end_leaves, may_here, next_leaves, shard_there}
use Rattle.tao_core.proofs.serving.Core.step_plan.Goals as goal

pub step_or_give_up-reader-requires-clause-ready : goal.step_or_give_up-reader-requires-clause-ready
step_or_give_up-reader-requires-clause-ready g c =
    let keepers = g.K.Keeper.state c.args.keepers.now in
    let of = subst (IsCoreOf g.K.Keeper.TELLS keepers.told) (sym c.self.view_is) c.requires.keepers in
    core_can_post g.K.Keeper.TELLS (core_state c.self.inside) keepers (g.L.Link.shown c.args.link.now) of.is_consistent

pub step_or_give_up-reader-requires-clause-can : goal.step_or_give_up-reader-requires-clause-can
step_or_give_up-reader-requires-clause-can g c =
    let tables = (g.K.Keeper.state c.args.keepers.now).told in
    can_step g.K.Keeper.TELLS tables (core_state c.self.inside) c.args.number
    (subst (IsCoreOf g.K.Keeper.TELLS tables) (sym c.self.view_is) c.requires.keepers)
    (subst (λ (x : CoreState). IsSome (plan_at x.plans c.args.number)) (sym c.self.view_is) c.requires.there)

pub step_or_give_up-reader-requires-clause-author : goal.step_or_give_up-reader-requires-clause-author
step_or_give_up-reader-requires-clause-author g c =
    let of = subst (IsCoreOf g.K.Keeper.TELLS (g.K.Keeper.state c.args.keepers.now).told) (sym c.self.view_is) c.requires.keepers in
    if_some (IsOfSession (sessions_of c.self.inside.sessions)) (plan_at c.self.inside.plans c.args.number) (of.authors c.args.number)

pub step_or_give_up-reader-requires-clause-begun : goal.step_or_give_up-reader-requires-clause-begun
step_or_give_up-reader-requires-clause-begun g c =
    let of = subst (IsCoreOf g.K.Keeper.TELLS (g.K.Keeper.state c.args.keepers.now).told) (sym c.self.view_is) c.requires.keepers in
    if_some OpensFirst (plan_at c.self.inside.plans c.args.number) (of.plans.begun c.args.number)

pub end_plan-requires-clause-stores : goal.end_plan-requires-clause-stores
end_plan-requires-clause-stores g c = c.step_or_give_up-reader.ensures.on.consistent.stores.configured

pub end_plan-requires-clause-here : goal.end_plan-requires-clause-here
end_plan-requires-clause-here g c =
    let did = c.step_or_give_up-reader in
    shard_there g.K.Keeper.TELLS c.self.inside.config.now (g.K.Keeper.state did.new.keepers).told did.new.nodes.fleet
    (plan_at did.new.plans c.args.number) did.ensures.under_way

pub end_plan-requires-clause-may : goal.end_plan-requires-clause-may
end_plan-requires-clause-may g c =
    let state = g.K.Keeper.state in
    let shown = g.L.Link.shown in
    let did = c.step_or_give_up-reader in
    may_here g.K.Keeper.TELLS c.args.number (core_state c.self.inside) c.args.self.now c.self.view_is did.new.nodes did.new.plans
    (sessions_of did.new.sessions) (state c.args.keepers.now) (state did.new.keepers) (shown c.args.link.now) (shown did.new.link)
    c.requires.keepers did.ensures.steps did.ensures.under_way did.ensures.on did.ensures.same
    did.result did.new.sessions did.ensures.same did.ensures.room

pub returns-in-Some : goal.returns-in-Some
returns-in-Some g c =
    let state = g.K.Keeper.state in
    let shown = g.L.Link.shown in
    let did = c.step_or_give_up-reader in
    let done =
    next_leaves g.K.Keeper.TELLS c.args.number (core_state c.self.inside) c.args.self.now c.self.view_is did.new.nodes did.new.plans
    (sessions_of did.new.sessions) (state c.args.keepers.now) (state did.new.keepers) (shown c.args.link.now) (shown did.new.link)
    c.requires.keepers did.ensures.steps did.ensures.under_way did.ensures.on did.ensures.same
    c.args.word c.in-Some.next _ (sym c.next_at.ensures ∙ c.in-Some.is) refl in
    record { steps = done.steps; usable = done.usable }

pub returns-in-None : goal.returns-in-None
returns-in-None g c =
    let state = g.K.Keeper.state in
    let shown = g.L.Link.shown in
    let did = c.step_or_give_up-reader in
    let done =
    end_leaves g.K.Keeper.TELLS c.args.number (core_state c.self.inside) c.args.self.now c.self.view_is did.new.nodes did.new.plans
    (sessions_of did.new.sessions) (state c.args.keepers.now) (state did.new.keepers) (shown c.args.link.now) (shown did.new.link)
    c.requires.keepers did.ensures.steps did.ensures.under_way did.ensures.on did.ensures.same
    c.args.word c.end_plan.new.plans (sessions_of c.end_plan.new.sessions) c.end_plan.result c.end_plan.new.fleet c.end_plan.ensures.fleet
    (sym c.next_at.ensures ∙ c.in-None.is) c.end_plan.ensures.ends in
    record { steps = done.steps; usable = done.usable }
