use Rattle.core_model.proofs.NamedNodes.{changes_at}
use Rattle.core_mail.specs.Inboxes.{TakesOut}
use Rattle.core_mail.proofs.inboxes.take_at.Goals as goal

pub returns : goal.returns
returns c =
    changes_at (TakesOut c.args.place c.take_from.result) c.args.inboxes.now c.args.name c.named_place-index.result c.index-inboxes-index.result
    c.take_from.new.inbox c.named_place-index.ensures c.take_from.ensures
