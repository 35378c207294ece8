-- What a request asks, with places in place of names: what is named is looked up in the order of the refusals' rows.
use Rattle.std.specs.Prelude.{Result, Ok, ⊤}
use Rattle.topology.specs.Config.{Settings}
use Rattle.replies.specs.declared.refusals.NameRefused.{NameRefused}
use Rattle.requests.specs.declared.request.OpenCall.{OpenCall}
use Rattle.requests.specs.declared.request.Request.{Request}
use Rattle.requests.specs.declared.request.Request.TheVariants as request
use Rattle.request_check.specs.declared.checked.Checked.{Checked}
use Rattle.request_check.specs.declared.checked.Checked.TheVariants as checked
use Rattle.request_check.specs.Caches.{IsPlacedCache, checked_cache}
use Rattle.request_check.specs.Calls.{checked_call}
use Rattle.request_check.specs.Health.{IsPlacedHealth, checked_health}
use Rattle.request_check.specs.Links.{checked_link}
use Rattle.request_check.specs.Names.{placed_as, tier_named}
use Rattle.request_check.specs.Placed.{IsPlacedCall, IsPlacedTier}
use Rattle.request_check.specs.Plans.{IsPlacedPlan, checked_plan}
use Rattle.request_check.specs.Stores.{IsPlacedStore, checked_store}
use Rattle.outcomes.specs.Results.{◌>>=◌}

-- an `open` with its region and tier looked up by name; of a tier that is missing the refusal names the region too
abbrev pub checked_open : Settings → OpenCall → Result Checked NameRefused
checked_open s opening = do
  found ← tier_named s opening.region opening.tier
  Ok (checked.Open opening.session found.region found.tier)

-- each word is of a family, whose file has its row
abbrev pub checked_of : Settings → Request → Result Checked NameRefused
checked_of s (request.Open opening) = checked_open s opening
checked_of s (request.Call call) = placed_as checked.Call (checked_call s call)
checked_of s (request.Plan asked) = placed_as checked.Plan (checked_plan s asked)
checked_of s (request.Cache asked) = placed_as checked.Cache (checked_cache s asked)
checked_of s (request.Store asked) = placed_as checked.Store (checked_store s asked)
checked_of s (request.Health asked) = placed_as checked.Health (checked_health s asked)
checked_of s (request.Link asked) = placed_as checked.Link (checked_link s asked)

-- each region, tier, shard, cache node and key that the request names is the configuration's, and a change of type is one
abbrev pub IsPlaced : Settings → Checked → Type 0
IsPlaced s (checked.Open session region tier) = IsPlacedTier s region tier
IsPlaced s (checked.Call call) = IsPlacedCall s call
IsPlaced s (checked.Plan asked) = IsPlacedPlan s asked
IsPlaced s (checked.Cache asked) = IsPlacedCache s asked
IsPlaced s (checked.Store asked) = IsPlacedStore s asked
IsPlaced s (checked.Health asked) = IsPlacedHealth s asked
IsPlaced s (checked.Link asked) = ⊤
