use Rattle.core_model.proofs.NamedNodes.{rests_at}
use Rattle.core_mail.proofs.InboxLemmas.{waits_there}
use Rattle.core_mail.proofs.inboxes.copy_at.Goals as goal

pub returns-clause-copy : goal.returns-clause-copy
returns-clause-copy c =
    waits_there c.args.inboxes.now c.args.name c.args.place c.named_place-index.result c.index-inboxes-index.result c.copy_at.result c.named_place-index.ensures
    c.copy_at.ensures.copy

pub returns-clause-same : goal.returns-clause-same
returns-clause-same c =
    rests_at c.args.inboxes.now c.args.name c.named_place-index.result c.index-inboxes-index.result c.copy_at.new.self c.named_place-index.ensures
    c.copy_at.ensures.same
