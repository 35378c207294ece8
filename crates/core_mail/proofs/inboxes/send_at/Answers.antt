use Rattle.maint_msg.specs.Inbox.{IsSent}
use Rattle.core_model.proofs.NamedNodes.{changes_at}
use Rattle.core_mail.specs.Inboxes.{entry_message}
use Rattle.core_mail.proofs.inboxes.send_at.Goals as goal

pub returns-clause-sends : goal.returns-clause-sends
returns-clause-sends c =
    changes_at (IsSent (entry_message c.args.shard c.args.entry.now c.args.note.now)) c.args.inboxes.now c.args.name c.named_place-place.result
    c.index-inboxes-place.result
    c.send_to.new.inbox c.named_place-place.ensures c.send_to.ensures.sends
