use Rattle.std.proofs.Common.{◌≡◌, ◌++◌, ap, sym, subst, ◌∙◌}
use Rattle.core_model.specs.Fleet.{leader_names}
use Rattle.core_mail.specs.Inboxes.{AreEmpty, AreInboxesOf, cache_names}
use Rattle.core_mail.proofs.InboxLemmas.{all_empty, empty_of}
use Rattle.core_mail.proofs.mail.Mail.open.Goals as goal

pub returns-clause-of : goal.returns-clause-of
returns-clause-of c pens =
    let s = c.args.config.now in
    let all : c.deref-2.result.now ≡ cache_names s =
    c.deref-2.ensures.value ∙ (c.in_ok-extend_from_slice.ensures.items ∙ (ap (λ names. names ++ c.deref.result.now) c.in_ok-names.ensures
    ∙ ap (λ names. leader_names s ++ names) (c.deref.ensures.value ∙ c.in_ok-follower_names.ensures))) in
    subst (AreInboxesOf s pens) (sym c.in_ok-empty_inboxes.ensures) (empty_of s c.deref-2.result.now pens all)

pub returns-clause-empty : goal.returns-clause-empty
returns-clause-empty c = subst AreEmpty (sym c.in_ok-empty_inboxes.ensures) (all_empty c.deref-2.result.now)
