use Rattle.std.proofs.Common.{◌≡◌, ◌++◌, drop}
use Rattle.std.specs.Prelude.{map}
use Rattle.core_mail.specs.Inboxes.{shown_message}
use Rattle.core_mail.proofs.inboxes.shown.Given as goal

-- the messages shown so far and those of the rest are those of all
abbrev pub invariant-loop-message : goal.invariant-loop-message
invariant-loop-message l = l.messages.items ++ map shown_message (drop l.message-index l.waiting) ≡ map shown_message l.waiting
