use Rattle.std.proofs.Common.{subst}
use Rattle.core_mail.specs.Inboxes.{Sends, entry_message}
use Rattle.core_model.specs.Messages.{notified_of}
use Rattle.core_steps.proofs.nodes.Nodes.notify_followers.Goals as goal

pub returns-clause-sends : goal.returns-clause-sends
returns-clause-sends c =
    let was = c.args.self.now in
    subst (λ r. Sends (notified_of was.topology r c.args.shard) (entry_message c.args.shard c.args.entry.now c.args.note.now) was.mail c.send.new.self)
    c.master-region.ensures.master c.send.ensures.sends
