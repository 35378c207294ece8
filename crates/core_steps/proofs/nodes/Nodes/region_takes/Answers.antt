use Rattle.std.proofs.Common.{ap, subst, sym, ◌∙◌}
use Rattle.core_mail.specs.Inboxes.{AreInboxesOf, Sends, entry_message}
use Rattle.core_model.specs.Fleet.{node_names}
use Rattle.core_model.specs.Messages.{notified_of}
use Rattle.core_model.specs.Pens.{IsSeen, pens_of}
use Rattle.shard_log.specs.View.{View, as_note}
use Rattle.shard_tables.specs.Written.{LiesOn, StandsIn}
use Rattle.core_steps.proofs.StreamLemmas.{message_for, region_done}
use Rattle.core_steps.specs.declared.nodes.Nodes.{Nodes}
use Rattle.core_steps.proofs.nodes.Nodes.region_takes.Goals as goal

pub leader_processes-requires-clause-message : goal.leader_processes-requires-clause-message
leader_processes-requires-clause-message c =
    let was = c.args.self.now in
    let pens = pens_of was.fleet.stores in
    message_for c.args.config.now pens was.topology c.args.at c.args.entry.now (as_note (pens c.args.at.shard)) c.args.news.message
    c.requires.states.regions c.requires.here c.requires.seen.seen c.requires.seen.stands c.requires.lies c.requires.news.message_is

pub notify_region-requires-clause-own : goal.notify_region-requires-clause-own
notify_region-requires-clause-own c = ap (λ (n : Nodes). n.topology.regions) c.leader_processes.ensures.rest ∙ c.requires.states.regions

pub notify_region-requires-clause-names : goal.notify_region-requires-clause-names
notify_region-requires-clause-names c =
    ap (λ (n : Nodes). node_names n.mail) c.leader_processes.ensures.rest ∙ c.requires.inboxes.names

pub notify_region-requires-clause-stands : goal.notify_region-requires-clause-stands
notify_region-requires-clause-stands c = subst (λ (v : View). StandsIn v c.args.entry.now) (sym c.requires.news.note_is) c.requires.seen.stands

pub notify_region-requires-clause-lies : goal.notify_region-requires-clause-lies
notify_region-requires-clause-lies c =
    subst (λ (v : View). LiesOn v c.args.at.shard c.args.entry.now) (sym c.requires.news.note_is) c.requires.lies

pub returns : goal.returns
returns c =
    let was = c.args.self.now in
    let mid = c.leader_processes.new.self in
    let new = c.notify_region.new.self in
    let s = c.args.config.now in
    let at = c.args.at in
    let e = c.args.entry.now in
    let pens = pens_of was.fleet.stores in
    let note = as_note (pens at.shard) in
    let sends = subst (λ (v : View). Sends (notified_of mid.topology at.region at.shard) (entry_message at.shard e v) mid.mail new.mail)
    c.requires.news.note_is c.notify_region.ensures.sends in
    let seen = subst (λ (v : View). IsSeen pens at.shard v) (sym c.requires.news.note_is) c.requires.seen.seen in
    let inboxes = c.notify_region.ensures.of pens seen
    (subst (λ (n : Nodes). AreInboxesOf s pens n.mail) (sym c.leader_processes.ensures.rest) c.requires.inboxes) in
    let done = region_done s at e note c.args.news.message was mid new c.requires.news.message_is c.leader_processes.ensures.processes
    c.leader_processes.ensures.rest c.leader_processes.ensures.fleet c.leader_processes.ensures.goes sends c.notify_region.ensures.rest inboxes in
    record { takes = done.takes; rest = done.rest; fleet = done.fleet; goes = done.goes; inboxes = done.inboxes }
