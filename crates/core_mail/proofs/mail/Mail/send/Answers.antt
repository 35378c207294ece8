use Rattle.std.proofs.Common.{◌≡◌, sym, subst, ◌∙◌, arith}
use Rattle.std.proofs.lemmas.List.{with_items_is}
use Rattle.core_mail.specs.Inboxes.{AreInboxesOf}
use Rattle.core_mail.proofs.InboxLemmas.{send_kept}
use Rattle.core_mail.proofs.mail.Mail.send.Goals as goal

pub returns-clause-of : goal.returns-clause-of
returns-clause-of c pens seen is =
    let s = c.args.around.now.config.now in
    let own : c.deref_mut.result.now ≡ c.args.self.now = c.deref_mut.ensures.value ∙ c.self.view_is in
    subst (AreInboxesOf s pens) (sym (with_items_is c.self.inside.inboxes c.send_each.new.inboxes (omega arith)))
    (send_kept s pens c.args.topology.now c.args.at.region c.args.at.shard c.args.entry.now c.args.note.now c.deref_mut.result.now c.send_each.new.inboxes
    c.requires.own c.requires.here c.requires.stands c.requires.lies c.send_each.ensures.sends seen (subst (AreInboxesOf s pens) (sym own) is))
