use Rattle.std.proofs.Common.{◌≡◌, ◌++◌, drop, map}
use Rattle.std.specs.Prelude.{filter}
use Rattle.load_gen.specs.Summary.{is_call}
use Rattle.load_audit.proofs.writes.calls_in.Given as goal

abbrev pub invariant-loop-request : goal.invariant-loop-request
invariant-loop-request l = map (λ call. call.now) l.calls.items ++ filter is_call (drop l.request-index l.requests) ≡ filter is_call l.requests
