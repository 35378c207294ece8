-- The writes of a workload as they are kept, each at the place of its number.
use denote.Ref.{Bor}
use Rattle.std.specs.Prelude.{◌≡◌, ℕ, ◌+◌, List, Option, Some, None, filter_map, map, option_and_then, slice_get}
use Rattle.request_check.specs.declared.checked.Checked.{Checked}
use Rattle.request_check.specs.declared.checked.Checked.TheVariants.{Open, Call, Plan, Cache, Store, Health, Link}
use Rattle.request_check.specs.declared.checked.CheckedCall.TheVariants.{Read, Write}
use Rattle.request_check.specs.declared.checked.CheckedWrite.{CheckedWrite}
use Rattle.requests.specs.declared.request.Request.{Request}
use Rattle.topology.specs.Config.{Settings}
use Rattle.load_audit.specs.Listed.{write_in}

-- of each call the write that it is, if it is one
abbrev pub placed_calls : Settings → List (Bor Request) → List (Option CheckedWrite)
placed_calls s calls = map (write_in s) (map (λ (call : Bor Request). call.now) calls)

-- each write stands at the place of its number, which counts from 1
abbrev pub AreAtPlaces : List (Option CheckedWrite) → Type 0
AreAtPlaces calls = (place : ℕ) (write : CheckedWrite) → slice_get calls place ≡ Some (Some write) → write.seq ≡ place + 1

-- the writes, in order
abbrev pub writes_among : List (Option CheckedWrite) → List CheckedWrite
writes_among calls = filter_map (λ call. call) calls

-- the write at a place, where there is a call at it and that is one
abbrev pub call_at : List (Option CheckedWrite) → ℕ → Option CheckedWrite
call_at calls place = option_and_then (λ call. call) (slice_get calls place)

-- the write that a checked request is, if it is one
abbrev pub write_of : Checked → Option CheckedWrite
write_of (Call (Write write)) = Some write
write_of (Call (Read read)) = None
write_of (Open session region tier) = None
write_of (Plan asked) = None
write_of (Cache asked) = None
write_of (Store asked) = None
write_of (Health asked) = None
write_of (Link asked) = None
