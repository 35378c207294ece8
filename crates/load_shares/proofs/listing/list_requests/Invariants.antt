use Rattle.std.proofs.Common.{◌≡◌, ◌++◌, length}
use Rattle.load_gen.specs.Requests.{requests_of}
use Rattle.load_shares.proofs.listing.list_requests.Given as goal

-- the requests so far, with those that are left, are all of them
abbrev pub invariant-requests : goal.invariant-requests
invariant-requests l = l.requests.items ++ l.workload ≡ requests_of l.fn.config l.fn.seed l.fn.calls

abbrev pub decreases-requests : goal.decreases-requests
decreases-requests l = length l.workload
