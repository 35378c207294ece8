use Rattle.std.proofs.Common.{◌≡◌, IfOk, subst, ◌∙◌}
use Rattle.core_mail.specs.Inboxes.{Inboxes, WaitsAt}
use Rattle.core_mail.proofs.InboxLemmas.{copied_for}
use Rattle.core_mail.proofs.mail.Mail.copy.Goals as goal

pub returns-clause-message : goal.returns-clause-message
returns-clause-message c =
    let own : c.deref_mut.result.now ≡ c.args.self.now = c.deref_mut.ensures.value ∙ c.self.view_is in
    copied_for c.args.node c.args.place c.copy_at.result c.args.self.now
    (subst (λ (inboxes : Inboxes). IfOk c.copy_at.result (λ copy. WaitsAt c.args.node c.args.place copy inboxes)) own c.copy_at.ensures.copy)
