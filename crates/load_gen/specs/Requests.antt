-- The requests of the workload.
use Rattle.std.specs.Prelude.{ℕ, zero, suc, ◌+◌, List, [], ◌∷◌, ◌++◌, Option, Some, None}
use Rattle.requests.specs.declared.request.Request.{Request}
use Rattle.requests.specs.declared.request.Request.TheVariants.{Open, Store}
use Rattle.requests.specs.declared.stores.StoreRequest.TheVariants.{Settle}
use Rattle.topology.specs.Config.{Settings}
use Rattle.load_gen.specs.Calls.{call_in}
use Rattle.load_gen.specs.Names.{NameLists, names_of}
use Rattle.load_gen.specs.declared.names.TierName.{TierName}

-- a session opens at a tier
abbrev pub opening : ℕ → TierName → Request
opening session tier = Open (record { session = session; region = tier.region; tier = tier.tier })

-- a session for each of these tiers, by numbers from a number on
abbrev pub openings_from : ℕ → List TierName → List Request
openings_from session [] = []
openings_from session (tier ∷ tiers) = opening session tier ∷ openings_from (session + 1) tiers

-- so many calls after a number, each drawn with the state of the generator that the one before it left
abbrev pub calls_after : NameLists → ℕ → ℕ → ℕ → List Request
calls_after names number state zero = []
calls_after names number state (suc count) =
    let drawn = call_in names (number + 1) state in drawn.0 ∷ calls_after names (number + 1) drawn.1 count

-- the requests of a configuration, a seed and a number of calls: a session is opened at each tier, the calls are made, and the store is settled
abbrev pub requests_of : Settings → ℕ → ℕ → List Request
requests_of settings seed calls =
    let names = names_of settings in openings_from 1 names.tiers ++ calls_after names 0 seed calls ++ Store Settle ∷ []

-- the first request, if there is one, and those after it
abbrev pub first_of : List Request → Option Request × List Request
first_of [] = (None, [])
first_of (request ∷ requests) = (Some request, requests)
