-- Which requests make a batch, and why others don't.
use Rattle.std.specs.Prelude.{◌≡◌, ◌≤◌, ◌<◌, Bool, true, false, not, List, Some, None, length, position}
use Rattle.requests.specs.declared.calls.Call.TheVariants.{Read}
use Rattle.requests.specs.declared.request.Request.{Request}
use Rattle.requests.specs.declared.request.Request.TheVariants.{Call}
use Rattle.read_batch.specs.declared.refusal.BatchRefusal.{BatchRefusal}
use Rattle.read_batch.specs.declared.refusal.BatchRefusal.TheVariants.{TooMany, NotRead, OutOfMemory}

-- the request is one of the five reads
abbrev pub asks_read : Request → Bool
asks_read (Call (Read read)) = true
asks_read other = false

-- no read is asked
abbrev pub asks_other : Request → Bool
asks_other request = not (asks_read request)

-- 256 requests at most, each of which is a read
pub record MakesBatch (requests : List Request) : Type 0 where
  pub few : length requests ≤ 256
  pub reads : position asks_other requests ≡ None

-- more than 256 requests are too many; of no more than these the first that is no read is named; and there was no memory for such as make a batch
abbrev pub RefusesBatch : List Request → BatchRefusal → Type 0
RefusesBatch requests (TooMany count) = (256 < length requests) × (count ≡ length requests)
RefusesBatch requests (NotRead place) = (length requests ≤ 256) × (position asks_other requests ≡ Some place)
RefusesBatch requests OutOfMemory = MakesBatch requests
