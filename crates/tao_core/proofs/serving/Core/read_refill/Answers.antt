use Rattle.std.proofs.Common.{ap, Contains, subst, sym}
use Rattle.core_model.specs.Fleet.{follower_names}
use Rattle.core_model.specs.Messages.{IsRefillFor}
use Rattle.core_model.specs.Pens.{pens_of}
use Rattle.core_plans.specs.Held.{IsUnderWay}
use Rattle.tao_core.specs.Core.{CoreState, IsConsistentCore, core_state}
use Rattle.tao_core.proofs.AnsweredAtOnce.{refill_is, refill_reads}
use Rattle.tao_core.proofs.Delivering.{refill_under_way}
use Rattle.tao_core.proofs.Keeping.{core_can_post}
use Rattle.tao_core.proofs.serving.Core.read_refill.Goals as goal

pub carry_read-requires-clause-ready : goal.carry_read-requires-clause-ready
carry_read-requires-clause-ready g c =
    let keepers = g.K.Keeper.state c.args.keepers.now in
    core_can_post g.K.Keeper.TELLS (core_state c.self.inside) keepers (g.L.Link.shown c.args.link.now)
    (subst (IsConsistentCore g.K.Keeper.TELLS keepers.told) (sym c.self.view_is) c.requires.keepers)

pub carry_read-requires-clause-read : goal.carry_read-requires-clause-read
carry_read-requires-clause-read g c =
    let keepers = g.K.Keeper.state c.args.keepers.now in
    let core = core_state c.self.inside in
    subst (IsUnderWay g.K.Keeper.TELLS core.settings keepers.told core.fleet)
    (sym (refill_is core.settings c.args.node c.args.refill c.region_of-region.result c.home_tier-tier.result c.begin_read-plan.result c.begin_read-plan.ensures
    c.region_of-region.ensures c.home_tier-tier.ensures))
    (refill_under_way g.K.Keeper.TELLS keepers core c.args.node c.args.refill
    (subst (IsConsistentCore g.K.Keeper.TELLS keepers.told) (sym c.self.view_is) c.requires.keepers)
    (subst (λ (x : CoreState). Contains (follower_names x.settings) c.args.node) (sym c.self.view_is) c.requires.node)
    (subst (λ (x : CoreState). IsRefillFor x.settings (pens_of x.fleet.stores) c.args.node c.args.refill) (sym c.self.view_is) c.requires.refill))

pub returns : goal.returns
returns g c =
    let state = g.K.Keeper.state in
    let shown = g.L.Link.shown in
    let core = core_state c.self.inside in
    let went = c.carry_read in
    let done =
    refill_reads g.K.Keeper.TELLS c.args.node c.args.refill core c.args.self.now c.self.view_is (state c.args.keepers.now) (state went.new.keepers)
    (shown c.args.link.now) (shown went.new.link) c.requires.keepers went.new.nodes c.begin_read-plan.result went.new.plan
    (refill_is core.settings c.args.node c.args.refill c.region_of-region.result c.home_tier-tier.result c.begin_read-plan.result c.begin_read-plan.ensures
    c.region_of-region.ensures c.home_tier-tier.ensures)
    went.ensures.does went.ensures.read went.ensures.on c.finish.result c.finish.ensures in
    record { does = done.does; leaves = done.leaves; sessions = ap (λ (x : CoreState). x.sessions) c.self.view_is }
