use Rattle.std.proofs.Common.{◌≡◌, sym, subst, ◌∙◌, arith}
use Rattle.std.proofs.lemmas.List.{with_items_is}
use Rattle.core_mail.specs.Inboxes.{AreInboxesOf}
use Rattle.core_mail.proofs.InboxLemmas.{lost_kept}
use Rattle.core_mail.proofs.mail.Mail.clear_inbox.Goals as goal

pub returns-clause-of : goal.returns-clause-of
returns-clause-of c s pens is =
    let own : c.deref_mut.result.now ≡ c.args.self.now = c.deref_mut.ensures.value ∙ c.self.view_is in
    subst (AreInboxesOf s pens) (sym (with_items_is c.self.inside.inboxes c.clear_at.new.inboxes (omega arith)))
    (lost_kept s pens c.args.node c.deref_mut.result.now c.clear_at.new.inboxes c.clear_at.ensures (subst (AreInboxesOf s pens) (sym own) is))
