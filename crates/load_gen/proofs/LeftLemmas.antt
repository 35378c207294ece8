-- The requests that are still to come.
use Rattle.std.proofs.Common.{◌≡◌, ℕ, ◌+◌, ◌-◌, ◌<◌, ◌≤◌, suc, List, [], ◌∷◌, length, drop, Some, refl, ap, arith}
use Rattle.std.proofs.lemmas.List.{drop_all}
use Rattle.requests.specs.declared.request.Request.{Request}
use Rattle.load_gen.specs.Calls.{call_in}
use Rattle.load_gen.specs.Draws.{IsDrawn}
use Rattle.load_gen.specs.Left.{requests_left}
use Rattle.load_gen.specs.Requests.{first_of}
use Rattle.load_gen.specs.declared.workload.Workload.TheInside.{Inside}

-- a list's first request and the rest
pub first_is : (old new : List Request) (request : Request) → request ∷ new ≡ old → (Some request, new) ≡ first_of old
first_is old new request is = ap first_of is

-- where every session is opened, a call that isn't made comes first
pub call_is_next : (w : Inside) (request : Request) (draws : ℕ) → length w.names.tiers ≤ w.opened → w.made < w.calls
    → IsDrawn (call_in w.names (w.made + 1)) request w.draws draws
    → request ∷ requests_left (record w { draws = draws; made = w.made + 1 }) ≡ requests_left w
call_is_next w request draws opened within is =
    let none : drop w.opened w.names.tiers ≡ [] = drop_all w.opened w.names.tiers opened in
    let count : w.calls - w.made ≡ suc (w.calls - (w.made + 1)) = omega arith in
    rw none (rw count (rw is.0 (rw is.1 refl)))
