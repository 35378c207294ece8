use Rattle.core_mail.proofs.InboxLemmas.{clears_more}
use Rattle.core_mail.proofs.inboxes.clear_all.Goals as goal

pub loop-inbox-preserved : goal.loop-inbox-preserved
loop-inbox-preserved c =
    clears_more c.args.inboxes.now c.loop-inbox.inboxes c.loop-inbox.inbox-index c.inbox-item.result c.clear.new.self c.loop-inbox-test.true
    c.loop-inbox.invariant c.inbox-item.is c.clear.ensures
