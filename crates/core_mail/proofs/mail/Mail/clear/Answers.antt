use Rattle.std.proofs.Common.{◌≡◌, ap, sym, subst, ◌∙◌, arith}
use Rattle.std.proofs.lemmas.List.{with_items_is}
use Rattle.std.specs.Prelude.{map}
use Rattle.core_mail.specs.Inboxes.{cleared}
use Rattle.core_mail.proofs.InboxLemmas.{IsCleared, all_cleared}
use Rattle.core_mail.proofs.mail.Mail.clear.Goals as goal

pub returns : goal.returns
returns c =
    let own : c.deref_mut.result.now ≡ c.args.self.now = c.deref_mut.ensures.value ∙ c.self.view_is in
    let new : c.clear_all.new.inboxes ≡ map cleared c.args.self.now = c.clear_all.ensures ∙ ap (map cleared) own in
    let done : IsCleared c.args.self.now _ =
    subst (IsCleared c.args.self.now) (sym (with_items_is c.self.inside.inboxes c.clear_all.new.inboxes (omega arith)))
    (all_cleared c.args.self.now c.clear_all.new.inboxes new) in
    record { empty = done.empty; names = done.names; of = done.of }
