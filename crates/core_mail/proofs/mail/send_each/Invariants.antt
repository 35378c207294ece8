use Rattle.std.proofs.Common.{◌≡◌}
use Rattle.core_model.specs.Fleet.{node_names}
use Rattle.core_model.specs.Messages.{notified_of}
use Rattle.core_mail.specs.Inboxes.{cache_names, entry_message}
use Rattle.core_mail.proofs.Notifying.{SendsRest, notified_from}
use Rattle.core_mail.proofs.mail.send_each.Given as goal

-- what was sent so far, with what is sent from here on, comes to the whole
abbrev pub invariant-loop-tier : goal.invariant-loop-tier
invariant-loop-tier l = record {
  sends : SendsRest (notified_of l.topology l.at.region l.at.shard) (notified_from l.topology l.at.region l.at.shard l.tier)
      (entry_message l.at.shard l.entry l.fn.note) l.fn.inboxes l.inboxes;
  names : node_names l.inboxes ≡ cache_names l.around.config.now;
  same : l.note ≡ l.fn.note;
}
