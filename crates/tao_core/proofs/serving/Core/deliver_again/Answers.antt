use Rattle.std.proofs.Common.{subst, sym}
use Rattle.std.specs.Prelude.{IfSome}
use Rattle.core_mail.specs.Inboxes.{AreInboxesOf, WaitsAt}
use Rattle.core_model.specs.Consistent.{IsFleetOf}
use Rattle.core_model.specs.Fleet.{HasNode}
use Rattle.core_model.specs.Messages.{IsMessageFor}
use Rattle.core_model.specs.Pens.{pens_of}
use Rattle.tao_core.specs.Core.{CoreState, core_state}
use Rattle.tao_core.proofs.Delivered.{none_repeated, repeated}
use Rattle.tao_core.proofs.Delivering.{inbox_has}
use Rattle.tao_core.proofs.serving.Core.deliver_again.Goals as goal

pub copy-requires : goal.copy-requires
copy-requires c =
    subst (λ (x : CoreState). HasNode c.args.node x.mail) (sym c.self.view_is)
    (inbox_has c.args.self.now c.args.node c.requires.inboxes c.requires.node)

pub process-requires-clause-message : goal.process-requires-clause-message
process-requires-clause-message c =
    let s = c.self.inside.config.now in
    let pens = pens_of c.self.inside.nodes.fleet.stores in
    subst (λ found. IfSome found (IsMessageFor s pens c.args.node)) c.in-Some.is
    (c.in-Ok.ensures.message s pens
    (subst (λ (x : CoreState). AreInboxesOf x.settings (pens_of x.fleet.stores) x.mail) (sym c.self.view_is) c.requires.inboxes))

pub returns-in-Some : goal.returns-in-Some
returns-in-Some c =
    let waits = subst (λ found. WaitsAt c.args.node c.args.place found c.self.inside.nodes.mail) c.in-Some.is c.in-Ok.ensures.copy in
    let done =
    repeated c.args.node c.args.place (core_state c.self.inside) c.args.self.now c.copy.new.self c.process.result c.self.view_is c.copy.ensures.same
    c.in-Some.message c.process.new.self waits c.process.ensures.does c.process.ensures.fleet c.process.ensures.on c.process.ensures.rest in
    record { does = done.does; fleet = done.fleet; stores = done.stores; on = done.on; rest = done.rest }

pub returns-in-None : goal.returns-in-None
returns-in-None c =
    let none = subst (λ found. WaitsAt c.args.node c.args.place found c.self.inside.nodes.mail) c.in-None.is c.in-Ok.ensures.copy in
    let fleet = subst (λ (x : CoreState). IsFleetOf x.settings x.fleet) (sym c.self.view_is) c.requires.fleet in
    let done =
    none_repeated c.args.node c.args.place (core_state c.self.inside) c.args.self.now c.copy.new.self c.no_message.result c.self.view_is
    c.copy.ensures.same c.no_message.ensures none fleet in
    record { does = done.does; fleet = done.fleet; stores = done.stores; on = done.on; rest = done.rest }
