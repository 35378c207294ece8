use Rattle.std.proofs.Common.{refl, ap, subst, sym, ◌∙◌}
use Rattle.core_mail.specs.Inboxes.{Sends, entry_message}
use Rattle.core_model.specs.Messages.{notified_besides}
use Rattle.topology.specs.Choices.{master_region}
use Rattle.core_steps.specs.declared.nodes.Nodes.{Nodes}
use Rattle.core_steps.proofs.NotifyLemmas.{sends_named, notified_more}
use Rattle.core_steps.proofs.nodes.Nodes.notify_each.Goals as goal

pub notify_besides-requires-clause-own : goal.notify_besides-requires-clause-own
notify_besides-requires-clause-own c = ap (λ (n : Nodes). n.topology.regions) c.notify_followers.ensures.rest ∙ c.requires.own

pub notify_besides-requires-clause-names : goal.notify_besides-requires-clause-names
notify_besides-requires-clause-names c =
    sends_named _ _ c.args.self.now.mail c.notify_followers.new.self.mail c.notify_followers.ensures.sends ∙ c.requires.names

pub returns-then-not-serves_in_turn-clause-sends : goal.returns-then-not-serves_in_turn-clause-sends
returns-then-not-serves_in_turn-clause-sends c =
    let was = c.args.self.now in
    let states = was.topology in
    let shard = c.args.shard in
    let m = entry_message shard c.args.entry.now c.args.note.now in
    let mid = c.notify_followers.new.self.mail in
    let end = c.notify_besides.new.self.mail in
    let besides = subst (λ n. Sends (notified_besides c.notify_followers.new.self.topology shard) (entry_message shard c.args.entry.now n) mid end)
    c.notify_followers.ensures.note c.notify_besides.ensures.sends in
    notified_more c.args.config.now states shard (master_region states shard) c.args.leader m was.mail mid end c.requires.own refl
    (sym c.serves_in_turn.ensures ∙ c.if-not-serves_in_turn.true) c.notify_followers.ensures.sends
    (subst (λ (n : Nodes). Sends (notified_besides n.topology shard) m mid end) c.notify_followers.ensures.rest besides)
