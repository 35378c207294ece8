use Rattle.std.proofs.Common.{subst, sym}
use Rattle.core_mail.specs.Inboxes.{AreInboxesOf}
use Rattle.core_model.specs.Fleet.{HasNode}
use Rattle.core_model.specs.Pens.{pens_of}
use Rattle.tao_core.specs.Core.{CoreState, core_state}
use Rattle.tao_core.proofs.Delivered.{loss}
use Rattle.tao_core.proofs.Delivering.{inbox_has}
use Rattle.tao_core.proofs.serving.Core.lose.Goals as goal

pub take-requires : goal.take-requires
take-requires c =
    subst (λ (x : CoreState). HasNode c.args.node x.mail) (sym c.self.view_is)
    (inbox_has c.args.self.now c.args.node c.requires.inboxes c.requires.node)

pub returns-clause-does : goal.returns-clause-does
returns-clause-does c =
    loss c.args.node c.args.place (core_state c.self.inside) c.args.self.now c.take.new.self c.lost_as.result c.self.view_is c.take.result
    c.lost_as.ensures c.take.ensures.takes

pub returns-clause-inboxes : goal.returns-clause-inboxes
returns-clause-inboxes c =
    c.take.ensures.of c.args.self.now.settings (pens_of c.args.self.now.fleet.stores)
    (subst (λ (x : CoreState). AreInboxesOf c.args.self.now.settings (pens_of c.args.self.now.fleet.stores) x.mail) (sym c.self.view_is) c.requires.inboxes)
