use Rattle.shared_inbox.proofs.Putting.{one_more}
use Rattle.shared_inbox.proofs.inbox.SharedInbox.put.Goals as goal

pub push_as-requires-clause-rule : goal.push_as-requires-clause-rule
push_as-requires-clause-rule g c n items views room each at = (tt, one_more g.J.Logs.log items c.args.message each c.requires.log, tt)
