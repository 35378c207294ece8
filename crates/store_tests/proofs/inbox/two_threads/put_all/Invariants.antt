use Rattle.std.proofs.Common.{◌≡◌}
use Rattle.store_tests.proofs.inbox.two_threads.put_all.Given as goal

-- the pass and the note are as they were
abbrev pub invariant-loop-turn : goal.invariant-loop-turn
invariant-loop-turn g l = (l.pass ≡ l.fn.pass) × (l.note ≡ l.fn.note)
