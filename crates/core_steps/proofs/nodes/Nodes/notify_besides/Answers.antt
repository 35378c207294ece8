use Rattle.std.proofs.Common.{sym, ◌∙◌}
use Rattle.core_mail.specs.Inboxes.{entry_message}
use Rattle.core_steps.proofs.NotifyLemmas.{besides_up, leader_has, merging_leads}
use Rattle.core_steps.proofs.nodes.Nodes.notify_besides.Goals as goal

pub notify-requires-clause-there : goal.notify-requires-clause-there
notify-requires-clause-there c =
    let s = c.args.config.now in
    leader_has s c.args.shard c.preferred-leader.result c.args.self.now.mail c.requires.names
    (merging_leads s c.args.self.now.topology c.master.result c.args.shard c.preferred-leader.result c.requires.own c.requires.here
    c.preferred-leader.ensures.preferred (c.preferred-leader.ensures.configured c.master.ensures.configured))

pub returns-then-is_up-clause-sends : goal.returns-then-is_up-clause-sends
returns-then-is_up-clause-sends c =
    besides_up c.args.self.now.topology c.args.shard c.master.result c.preferred-leader.result
    (entry_message c.args.shard c.args.entry.now c.args.note.now) c.args.self.now.mail c.notify.new.self c.master.ensures.master
    c.preferred-leader.ensures.preferred (sym c.is_up.ensures ∙ c.if-is_up.true) c.notify.ensures.sends
