use Rattle.std.proofs.Common.{◌≡◌, refl, subst, sym, ◌∙◌, ap, false, true}
use Rattle.core_mail.specs.Inboxes.{AreInboxesOf}
use Rattle.core_model.specs.Fleet.{HasNode}
use Rattle.core_model.specs.Pens.{pens_of}
use Rattle.core_model.specs.States.{AreStatesOf}
use Rattle.request_check.specs.Placed.{IsPlacedNode}
use Rattle.topology.specs.States.{is_up}
use Rattle.tao_core.specs.Core.{CoreState, core_state}
use Rattle.tao_core.proofs.AskedLemmas.{cache_there}
use Rattle.tao_core.proofs.Delivering.{inbox_has}
use Rattle.tao_core.proofs.HealthLemmas.{down_usable, down_wants, goes_down, placed_cache, unchanged_usable, was_down}
use Rattle.tao_core.proofs.serving.Core.go_down.Goals as goal

pub go_down-requires-clause-node : goal.go_down-requires-clause-node
go_down-requires-clause-node c =
    cache_there c.self.inside.config.now c.args.node
    (subst (λ (x : CoreState). IsPlacedNode x.settings c.args.node) (sym c.self.view_is) c.requires.node)

pub clear_inbox-requires : goal.clear_inbox-requires
clear_inbox-requires c =
    subst (λ (x : CoreState). HasNode c.args.node x.mail) (sym c.self.view_is)
    (inbox_has c.args.self.now c.args.node c.requires.inboxes (cache_there c.args.self.now.settings c.args.node c.requires.node))

pub returns-in-Ok : goal.returns-in-Ok
returns-in-Ok c =
    let core = core_state c.self.inside in
    let fell = c.go_down in
    let states = c.self.inside.nodes.topology in
    let up : is_up states c.args.node ≡ true = sym c.is_up.ensures ∙ c.if-not-is_up.false in
    let are = subst (λ (x : CoreState). AreStatesOf x.settings x.states) (sym c.self.view_is) c.requires.states in
    let placed = subst (λ (x : CoreState). IsPlacedNode x.settings c.args.node) (sym c.self.view_is) c.requires.node in
    let is = subst (λ (x : CoreState). AreInboxesOf x.settings (pens_of x.fleet.stores) x.mail) (sym c.self.view_is) c.requires.inboxes in
    let inboxes = c.clear_inbox.ensures.of core.settings (pens_of core.fleet.stores) is in
    let sets = c.set_up.ensures.set (c.set_up.ensures.changed.1
    (placed_cache core.settings states c.args.node are placed, (λ down. let e = sym up ∙ down in absurd (cc)))) in
    record {
      does = λ keepers link. goes_down c.args.node core c.args.self.now c.self.view_is fell.new.self c.clear_inbox.new.self c.set_up.new.self
          c.in-Ok.ensures.begins fell.ensures.fleet fell.ensures.goes c.clear_inbox.ensures.loses inboxes sets keepers link _ c.health_said-in-Ok.ensures up;
      usable = down_usable c.args.node core c.args.self.now c.self.view_is fell.new.self c.clear_inbox.new.self c.set_up.new.self
          c.in-Ok.ensures.begins fell.ensures.fleet fell.ensures.goes c.clear_inbox.ensures.loses inboxes sets;
    }

pub returns-in-Err : goal.returns-in-Err
returns-in-Err c =
    let core = core_state c.self.inside in
    let same = ap (λ f. record core { fleet = f }) c.in-Err.ensures.same in
    record {
      does = λ keepers link. down_wants core c.args.self.now (record core { fleet = c.go_down.new.self }) c.self.view_is same c.args.node keepers link _
          c.out_of_memory.ensures;
      usable = unchanged_usable core c.args.self.now (record core { fleet = c.go_down.new.self }) c.self.view_is same;
    }

pub returns-then-not-is_up : goal.returns-then-not-is_up
returns-then-not-is_up c =
    let core = c.args.self.now in
    let down = subst (λ (x : CoreState). is_up x.states c.args.node ≡ false) c.self.view_is (sym c.is_up.ensures ∙ c.if-not-is_up.true) in
    record {
      does = λ keepers link. was_down core core core refl refl c.args.node keepers link _ c.health_said.ensures down;
      usable = unchanged_usable core core core refl refl;
    }
