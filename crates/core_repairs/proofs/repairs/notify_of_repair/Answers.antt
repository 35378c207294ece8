use Rattle.std.proofs.Common.{sym, subst, ◌∙◌}
use Rattle.core_steps.specs.core_mail.Inboxes.{Sends, entry_message}
use Rattle.core_model.specs.Messages.{notified_besides}
use Rattle.core_model.specs.Pens.{IsSeen, pens_of}
use Rattle.core_steps.proofs.core_nodes_lemmas.CommitLemmas.{note_seen}
use Rattle.core_steps.specs.declared.nodes.Nodes.{Nodes}
use Rattle.core_steps.proofs.NotifyLemmas.{sends_named}
use Rattle.core_repairs.proofs.RepairLemmas.{notified_repair}
use Rattle.core_repairs.proofs.repairs.notify_of_repair.Goals as goal

pub notify_besides-requires-clause-names : goal.notify_besides-requires-clause-names
notify_besides-requires-clause-names c =
    sends_named _ _ c.args.nodes.now.mail c.notify_followers.new.self.mail c.notify_followers.ensures.sends ∙ c.requires.inboxes.names

pub returns-clause-notifies : goal.returns-clause-notifies
returns-clause-notifies c =
    let was = c.args.nodes.now in
    let shard = c.args.shard in
    let mid = c.notify_followers.new.self.mail in
    let end = c.notify_besides.new.self.mail in
    notified_repair was.topology shard c.args.wrote.now c.in-Some.entry c.renew-note.result c.notify_followers.new.note was.mail mid end c.in-Some.is
    c.notify_followers.ensures.note c.notify_followers.ensures.sends
    (subst (λ (n : Nodes). Sends (notified_besides n.topology shard) (entry_message shard c.in-Some.entry c.notify_followers.new.note) mid end)
    c.notify_followers.ensures.rest c.notify_besides.ensures.sends)

pub returns-clause-inboxes : goal.returns-clause-inboxes
returns-clause-inboxes c =
    let shard = c.args.shard in
    let pens = pens_of c.args.nodes.now.fleet.stores in
    let seen = subst (IsSeen pens shard) (sym c.renew-note.ensures.view) (note_seen (pens shard)) in
    let again = subst (IsSeen pens shard) (sym c.notify_followers.ensures.note) seen in
    c.notify_besides.ensures.of pens again (c.notify_followers.ensures.of pens seen c.requires.inboxes)
