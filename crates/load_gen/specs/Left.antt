-- The requests of a workload that are still to come.
use Rattle.std.specs.Prelude.{◌+◌, ◌-◌, Bool, true, false, List, [], ◌∷◌, ◌++◌, drop}
use Rattle.requests.specs.declared.request.Request.{Request}
use Rattle.requests.specs.declared.request.Request.TheVariants.{Store}
use Rattle.requests.specs.declared.stores.StoreRequest.TheVariants.{Settle}
use Rattle.load_gen.specs.Requests.{calls_after, openings_from}
use Rattle.load_gen.specs.declared.workload.Workload.TheInside.{Inside}

-- the settling, unless it was done
abbrev pub settling : Bool → List Request
settling false = Store Settle ∷ []
settling true = []

-- the sessions that aren't opened, the calls that aren't made, and the settling
abbrev pub requests_left : Inside → List Request
requests_left w = openings_from (w.opened + 1) (drop w.opened w.names.tiers) ++ calls_after w.names w.made w.draws (w.calls - w.made) ++ settling w.settled
