use Rattle.std.proofs.Common.{◌≡◌, sym, subst, ◌∙◌, arith}
use Rattle.std.proofs.lemmas.List.{with_items_is}
use Rattle.core_mail.specs.Inboxes.{AreInboxesOf}
use Rattle.core_mail.proofs.InboxLemmas.{taken_for, taken_kept}
use Rattle.core_mail.proofs.mail.Mail.take.Goals as goal

pub returns-clause-of : goal.returns-clause-of
returns-clause-of c s pens is =
    let own : c.deref_mut.result.now ≡ c.args.self.now = c.deref_mut.ensures.value ∙ c.self.view_is in
    subst (AreInboxesOf s pens) (sym (with_items_is c.self.inside.inboxes c.take_at.new.inboxes (omega arith)))
    (taken_kept s pens c.args.node c.args.place c.take_at.result c.deref_mut.result.now c.take_at.new.inboxes c.take_at.ensures
    (subst (AreInboxesOf s pens) (sym own) is))

pub returns-clause-message : goal.returns-clause-message
returns-clause-message c s pens is =
    let own : c.deref_mut.result.now ≡ c.args.self.now = c.deref_mut.ensures.value ∙ c.self.view_is in
    taken_for s pens c.args.node c.args.place c.take_at.result c.deref_mut.result.now c.take_at.new.inboxes c.take_at.ensures
    (subst (AreInboxesOf s pens) (sym own) is)
