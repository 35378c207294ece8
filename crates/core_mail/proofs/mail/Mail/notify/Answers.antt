use Rattle.std.proofs.Common.{◌≡◌, refl, sym, subst, ◌∙◌, arith}
use Rattle.std.proofs.lemmas.List.{with_items_is}
use Rattle.core_mail.specs.Inboxes.{AreInboxesOf}
use Rattle.core_mail.proofs.InboxLemmas.{notify_kept}
use Rattle.core_mail.proofs.mail.Mail.notify.Goals as goal

pub returns-clause-of : goal.returns-clause-of
returns-clause-of c pens seen is =
    let s = c.args.around.now.config.now in
    let own : c.deref_mut.result.now ≡ c.args.self.now = c.deref_mut.ensures.value ∙ c.self.view_is in
    subst (AreInboxesOf s pens) (sym (with_items_is c.self.inside.inboxes c.send_at.new.inboxes (omega arith)))
    (notify_kept s pens c.args.node c.args.shard c.args.entry.now c.args.note.now c.deref_mut.result.now c.send_at.new.inboxes
    c.requires.here c.requires.serves c.requires.stands c.requires.lies (c.send_at.new.inboxes, c.send_at.ensures.sends, refl) seen
    (subst (AreInboxesOf s pens) (sym own) is))
