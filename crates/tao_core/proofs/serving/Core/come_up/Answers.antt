use Rattle.std.proofs.Common.{◌≡◌, refl, subst, sym, ◌∙◌, ap, false, true}
use Rattle.core_model.specs.Consistent.{IsConsistent}
use Rattle.core_model.specs.States.{AreStatesOf}
use Rattle.core_steps.specs.ReadSteps.{AskFails}
use Rattle.store_replies.specs.Refused.{refused_as}
use Rattle.request_check.specs.Placed.{IsPlacedNode}
use Rattle.tao_keeper.specs.KeeperState.{IsLater}
use Rattle.topology.specs.States.{is_up}
use Rattle.tao_core.specs.Core.{CoreState, core_state}
use Rattle.tao_core.proofs.AskedLemmas.{cache_there}
use Rattle.tao_core.proofs.HealthLemmas.{comes_up, down_stays_usable, fails_to_ask, placed_cache, placed_region, stays_down, unchanged_usable}
use Rattle.tao_core.proofs.HealthLemmas.{up_usable, was_up}
use Rattle.tao_core.proofs.serving.Core.come_up.Goals as goal

pub come_up-requires-clause-consistent : goal.come_up-requires-clause-consistent
come_up-requires-clause-consistent g c =
    subst (λ (x : CoreState). IsConsistent g.K.Keeper.TELLS x.settings (g.K.Keeper.state c.args.keepers.now).told x.fleet) (sym c.self.view_is)
    c.requires.keepers.is_consistent.consistent

pub come_up-requires-clause-node : goal.come_up-requires-clause-node
come_up-requires-clause-node g c =
    cache_there c.self.inside.config.now c.args.node
    (subst (λ (x : CoreState). IsPlacedNode x.settings c.args.node) (sym c.self.view_is) c.requires.node)

pub come_up-requires-clause-region : goal.come_up-requires-clause-region
come_up-requires-clause-region g c =
    placed_region c.self.inside.config.now c.args.node (cache_there c.self.inside.config.now c.args.node
    (subst (λ (x : CoreState). IsPlacedNode x.settings c.args.node) (sym c.self.view_is) c.requires.node))

pub returns-in-Ok : goal.returns-in-Ok
returns-in-Ok g c =
    let core = core_state c.self.inside in
    let rose = c.come_up in
    let before = g.K.Keeper.state c.args.keepers.now in
    let now = g.K.Keeper.state rose.new.keepers in
    let states = c.self.inside.nodes.topology in
    let down : is_up states c.args.node ≡ false = sym c.is_up.ensures ∙ c.if-is_up.false in
    let was = subst (λ (x : CoreState). IsPlacedNode x.settings c.args.node) (sym c.self.view_is) c.requires.node in
    let are = subst (λ (x : CoreState). AreStatesOf x.settings x.states) (sym c.self.view_is) c.requires.keepers.is_consistent.states in
    let later : IsLater before now = record { calls = rose.ensures.calls.calls; faults = rose.ensures.calls.faults } in
    let sets = c.set_up.ensures.set (c.set_up.ensures.changed.1
    (placed_cache core.settings states c.args.node are was, (λ up. let e = sym down ∙ up in absurd (cc)))) in
    record {
      does = λ link. comes_up g.K.Keeper.TELLS c.args.node core c.args.self.now c.self.view_is before now c.requires.keepers rose.new.self rose.ensures.tables
          later c.set_up.new.self c.in-Ok.ensures.begins rose.ensures.consistent rose.ensures.goes sets link _ c.health_said-in-Ok.ensures down;
      usable = up_usable g.K.Keeper.TELLS c.args.node core c.args.self.now c.self.view_is before now c.requires.keepers rose.new.self rose.ensures.tables
          later c.set_up.new.self c.in-Ok.ensures.begins rose.ensures.consistent rose.ensures.goes sets;
    }

pub returns-in-Err : goal.returns-in-Err
returns-in-Err g c =
    let core = core_state c.self.inside in
    let rose = c.come_up in
    let before = g.K.Keeper.state c.args.keepers.now in
    let now = g.K.Keeper.state rose.new.keepers in
    let later : IsLater before now = record { calls = rose.ensures.calls.calls; faults = rose.ensures.calls.faults } in
    let told = c.refused_as.ensures ∙ ap (λ n. refused_as n c.in-Err.refusal) c.faults.ensures in
    let fails = subst (λ r. AskFails r before now) (sym told)
    (fails_to_ask c.in-Err.refusal before now c.in-Err.ensures.refused (λ fault. rose.ensures.calls.failed (c.in-Err.is ∙ fault))) in
    record {
      does = λ link. stays_down g.K.Keeper.TELLS c.args.node core c.args.self.now c.self.view_is before now c.requires.keepers rose.new.self
          rose.ensures.tables later c.in-Err.ensures.same link _ c.refused_as.result refl fails (sym c.is_up.ensures ∙ c.if-is_up.false);
      usable = down_stays_usable g.K.Keeper.TELLS c.args.node core c.args.self.now c.self.view_is before now c.requires.keepers rose.new.self
          rose.ensures.tables later c.in-Err.ensures.same;
    }

pub returns-then-is_up : goal.returns-then-is_up
returns-then-is_up g c =
    let core = c.args.self.now in
    let keepers = g.K.Keeper.state c.args.keepers.now in
    let up = subst (λ (x : CoreState). is_up x.states c.args.node ≡ true) c.self.view_is (sym c.is_up.ensures ∙ c.if-is_up.true) in
    record {
      does = λ link. was_up core core core refl refl g.K.Keeper.TELLS c.args.node keepers link _ c.health_said.ensures up;
      usable = unchanged_usable core core core refl refl g.K.Keeper.TELLS keepers c.requires.keepers;
    }
