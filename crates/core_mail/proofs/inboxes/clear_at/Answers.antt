use Rattle.core_model.proofs.NamedNodes.{changes_at}
use Rattle.core_mail.specs.Inboxes.{LosesAll}
use Rattle.core_mail.proofs.inboxes.clear_at.Goals as goal

pub returns : goal.returns
returns c =
    changes_at LosesAll c.args.inboxes.now c.args.name c.named_place-index.result c.index-inboxes-index.result c.clear.new.self c.named_place-index.ensures
    c.clear.ensures
