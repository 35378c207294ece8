use Rattle.std.proofs.Common.{refl, sym, subst}
use Rattle.core_mail.proofs.InboxLemmas.{inboxes_stay}
use Rattle.core_model.specs.Pens.{pens_of}
use Rattle.served_shards.specs.Begun.{AreReached}
use Rattle.core_trims.proofs.Resetting.{reset_logs, reset_reached, resets_well}
use Rattle.core_trims.proofs.trims.reset_node.Goals as goal

pub empty-requires-clause-logs : goal.empty-requires-clause-logs
empty-requires-clause-logs g c =
    reset_logs g.K.Keeper.TELLS c.args.config.now (g.K.Keeper.state c.args.keepers.now).told c.args.nodes.now.fleet c.args.nodes.now.mail c.requires.order
    c.args.region c.args.reset c.requires.prepared

pub empty-requires-clause-reached : goal.empty-requires-clause-reached
empty-requires-clause-reached g c =
    subst (λ ls. AreReached ls c.args.reset.stand.notes.items) (sym c.deref.ensures.value)
    (reset_reached g.K.Keeper.TELLS c.args.config.now (g.K.Keeper.state c.args.keepers.now).told c.args.nodes.now.fleet c.args.nodes.now.mail
    c.requires.order c.args.region c.args.reset c.requires.prepared)

pub clear_inbox-requires : goal.clear_inbox-requires
clear_inbox-requires g c =
    (inboxes_stay c.args.config.now (pens_of c.args.nodes.now.fleet.stores) c.args.nodes.now.mail).cache_has c.args.reset.node c.requires.prepared.cache
    c.requires.order.inboxes

pub returns : goal.returns
returns g c =
    let well = resets_well g.K.Keeper.TELLS c.args.config.now (g.K.Keeper.state c.args.keepers.now).told c.args.nodes.now.fleet c.args.nodes.now.mail
    c.requires.order c.args.region c.args.reset c.requires.prepared c.deref.result.now c.empty.new.self c.clear_inbox.new.self c.deref.ensures.value
    c.empty.ensures c.clear_inbox.ensures.loses
    (c.clear_inbox.ensures.of c.args.config.now (pens_of c.args.nodes.now.fleet.stores) c.requires.order.inboxes) in
    record {
      resets = λ link. record { empties = well.empties; messages = c.clear_inbox.ensures.loses; rest = refl };
      on = record { order = well.order; goes = well.goes; stores = well.stores };
      rest = refl;
    }
