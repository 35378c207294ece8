use Rattle.std.proofs.Common.{◌≡◌, ◌++◌, take, drop}
use Rattle.std.specs.Prelude.{map}
use Rattle.core_mail.specs.Inboxes.{cleared}
use Rattle.core_mail.proofs.inboxes.clear_all.Given as goal

-- the inboxes so far are cleared, and the others are as they were
abbrev pub invariant-loop-inbox : goal.invariant-loop-inbox
invariant-loop-inbox l = l.inboxes ≡ map cleared (take l.inbox-index l.fn.inboxes) ++ drop l.inbox-index l.fn.inboxes
