use Rattle.std.proofs.Common.{◌≡◌, ap, false, subst, sym, ◌∙◌}
use Rattle.core_model.specs.Fleet.{Fleet, HasNode}
use Rattle.core_model.specs.Messages.{IsRefillFor}
use Rattle.core_model.specs.Pens.{pens_of}
use Rattle.topology.specs.States.{is_up}
use Rattle.tao_core.specs.Core.{CoreState, core_state}
use Rattle.tao_core.proofs.Delivering.{follower_has, left_consistent, refill_down, refill_found, refill_missed}
use Rattle.tao_core.proofs.serving.Core.refill.Goals as goal

pub next_refill-requires-clause-follower : goal.next_refill-requires-clause-follower
next_refill-requires-clause-follower g c =
    subst (λ (x : CoreState). HasNode c.args.node x.fleet.followers) (sym c.self.view_is)
    (follower_has c.args.self.now.settings c.args.self.now.fleet c.args.node c.requires.keepers.consistent.fleet c.requires.node)

pub read_refill-requires-clause-keepers : goal.read_refill-requires-clause-keepers
read_refill-requires-clause-keepers g c =
    let next = c.next_refill in
    left_consistent g.K.Keeper.TELLS c.args.node (core_state c.self.inside) c.args.self.now c.self.view_is (g.K.Keeper.state c.args.keepers.now)
    (g.L.Link.shown c.args.link.now) next.new.self c.requires.keepers next.result next.ensures.takes next.ensures.rest next.ensures.fleet next.ensures.goes

pub read_refill-requires-clause-refill : goal.read_refill-requires-clause-refill
read_refill-requires-clause-refill g c =
    subst (λ ms. IsRefillFor c.self.inside.config.now (pens_of ms) c.args.node c.in-Some.refill)
    (sym (ap (λ (f : Fleet). f.stores) c.next_refill.ensures.rest)) c.in-Some.ensures.refill

pub returns-in-Some : goal.returns-in-Some
returns-in-Some g c =
    let next = c.next_refill in
    let read = c.read_refill in
    let done =
    refill_found g.K.Keeper.TELLS c.args.node (core_state c.self.inside) c.args.self.now c.self.view_is (g.K.Keeper.state c.args.keepers.now)
    (g.L.Link.shown c.args.link.now) next.new.self c.requires.keepers next.result next.ensures.takes next.ensures.rest next.ensures.fleet next.ensures.goes
    c.in-Some.refill read.result c.refilled_as.result read.new.self (g.K.Keeper.state read.new.keepers) (g.L.Link.shown read.new.link) c.in-Some.is
    (sym c.is_up.ensures ∙ c.if-not-is_up.false) read.ensures.does read.ensures.leaves read.ensures.sessions c.refilled_as.ensures in
    record { does = done.does; leaves = done.leaves; same = done.same }

pub returns-in-None : goal.returns-in-None
returns-in-None g c =
    let next = c.next_refill in
    let keepers = g.K.Keeper.state c.args.keepers.now in
    let done =
    refill_missed g.K.Keeper.TELLS c.args.node (core_state c.self.inside) c.args.self.now c.self.view_is keepers (g.L.Link.shown c.args.link.now)
    next.new.self c.requires.keepers next.result next.ensures.takes next.ensures.rest next.ensures.fleet next.ensures.goes c.no_refill-in-None.result
    c.in-None.is c.no_refill-in-None.ensures in
    record { does = done.does; leaves = done.leaves; same = done.same }

pub returns-then-not-is_up : goal.returns-then-not-is_up
returns-then-not-is_up g c =
    let keepers = g.K.Keeper.state c.args.keepers.now in
    let down = subst (λ (x : CoreState). is_up x.states c.args.node ≡ false) c.self.view_is (sym c.is_up.ensures ∙ c.if-not-is_up.true) in
    let done =
    refill_down g.K.Keeper.TELLS c.args.node c.args.self.now keepers (g.L.Link.shown c.args.link.now) c.requires.keepers down c.no_refill.result
    c.no_refill.ensures in
    record { does = done.does; leaves = done.leaves; same = done.same }
