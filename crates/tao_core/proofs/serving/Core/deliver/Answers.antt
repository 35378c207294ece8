use Rattle.std.proofs.Common.{subst, sym}
use Rattle.core_mail.specs.Inboxes.{AreInboxesOf}
use Rattle.core_model.specs.Consistent.{IsFleetOf}
use Rattle.core_model.specs.Fleet.{HasNode}
use Rattle.core_model.specs.Pens.{pens_of}
use Rattle.tao_core.specs.Core.{CoreState, core_state}
use Rattle.tao_core.proofs.Delivered.{delivered, none_delivered}
use Rattle.tao_core.proofs.Delivering.{inbox_has}
use Rattle.tao_core.proofs.serving.Core.deliver.Goals as goal

pub take-requires : goal.take-requires
take-requires c =
    subst (λ (x : CoreState). HasNode c.args.node x.mail) (sym c.self.view_is)
    (inbox_has c.args.self.now c.args.node c.requires.inboxes c.requires.node)

pub process-requires-clause-message : goal.process-requires-clause-message
process-requires-clause-message c =
    c.in-Some.ensures.message c.self.inside.config.now (pens_of c.self.inside.nodes.fleet.stores)
    (subst (λ (x : CoreState). AreInboxesOf x.settings (pens_of x.fleet.stores) x.mail) (sym c.self.view_is) c.requires.inboxes)

pub returns-in-Some : goal.returns-in-Some
returns-in-Some c =
    let is = subst (λ (x : CoreState). AreInboxesOf x.settings (pens_of x.fleet.stores) x.mail) (sym c.self.view_is) c.requires.inboxes in
    let done =
    delivered c.args.node c.args.place (core_state c.self.inside) c.args.self.now c.take.new.self c.process.result c.self.view_is c.in-Some.message
    c.process.new.self c.in-Some.ensures.takes (c.take.ensures.of c.self.inside.config.now (pens_of c.self.inside.nodes.fleet.stores) is)
    c.process.ensures.does c.process.ensures.fleet c.process.ensures.on c.process.ensures.rest in
    record { does = done.does; fleet = done.fleet; inboxes = done.inboxes; stores = done.stores; on = done.on; rest = done.rest }

pub returns-in-None : goal.returns-in-None
returns-in-None c =
    let is = subst (λ (x : CoreState). AreInboxesOf x.settings (pens_of x.fleet.stores) x.mail) (sym c.self.view_is) c.requires.inboxes in
    let fleet = subst (λ (x : CoreState). IsFleetOf x.settings x.fleet) (sym c.self.view_is) c.requires.fleet in
    let done =
    none_delivered c.args.node c.args.place (core_state c.self.inside) c.args.self.now c.take.new.self c.no_message.result c.self.view_is
    c.no_message.ensures c.in-None.ensures.takes (c.take.ensures.of c.self.inside.config.now (pens_of c.self.inside.nodes.fleet.stores) is) fleet in
    record { does = done.does; fleet = done.fleet; inboxes = done.inboxes; stores = done.stores; on = done.on; rest = done.rest }
