use Rattle.std.proofs.Common.{◌≡◌}
use Rattle.store_tests.proofs.inbox.two_threads.take_all.Given as goal

-- the pass is of the same inbox
abbrev pub invariant-loop : goal.invariant-loop
invariant-loop g l = l.pass.inbox ≡ l.fn.pass.inbox
