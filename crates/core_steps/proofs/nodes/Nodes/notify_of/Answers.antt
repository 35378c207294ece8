use Rattle.core_steps.proofs.WriteLemmas.{notified_new}
use Rattle.core_steps.proofs.nodes.Nodes.notify_of.Goals as goal

pub returns-in-Some-clause-notifies : goal.returns-in-Some-clause-notifies
returns-in-Some-clause-notifies c =
    notified_new c.args.self.now.topology c.args.leader c.args.shard c.args.wrote.now.entry c.in-Some.entry c.args.wrote.now.note c.args.self.now.mail
    c.notify_each.new.self.mail c.in-Some.is c.notify_each.ensures.sends
