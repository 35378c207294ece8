-- Which calls of a workload a thread makes.
use Rattle.std.specs.Prelude.{ℕ, zero, suc, ◌≤◌, ◌<◌, ◌+◌, ◌%◌, ◌==◌, ◌&&◌, Bool, List, [], ◌∷◌, ◌++◌, if◌then◌else◌}
use Rattle.load_audit.specs.Listed.{missing_adds}
use Rattle.load_gen.specs.Summary.{is_call}
use Rattle.requests.specs.declared.request.Request.{Request}
use Rattle.tao_base.specs.declared.entry.Entry.{Entry}

-- 1 for a call, and else 0
abbrev pub one_call : Request → ℕ
one_call request = if is_call request then 1 else 0

-- whether the request is a call of the thread at a place among so many: its number, which counts the calls up to it, leaves that place
abbrev pub is_in_turn : ℕ → ℕ → ℕ → Request → Bool
is_in_turn threads place number request = is_call request && number % threads == place

-- the request, where it is a call of the thread at a place among so many
abbrev pub taken_of : ℕ → ℕ → ℕ → Request → List Request
taken_of threads place number request = if is_in_turn threads place number request then (request ∷ []) else []

-- the calls of the thread at a place among so many, of requests before which so many calls came
abbrev pub share_of : ℕ → ℕ → ℕ → List Request → List Request
share_of threads place before [] = []
share_of threads place before (request ∷ requests) =
    taken_of threads place (before + one_call request) request ++ share_of threads place (before + one_call request) requests

-- how many additions of the first threads, so many, stand in none of the logs
abbrev pub missing_of_first : List (List Entry) → ℕ → List Request → ℕ → ℕ
missing_of_first logs threads requests zero = 0
missing_of_first logs threads requests (suc count) =
    missing_of_first logs threads requests count + missing_adds logs (share_of threads count 0 requests)

-- the shares of all threads miss at least what the requests miss
pub record SharesCoverAll : Type 0 where
  pub cover : (logs : List (List Entry)) (threads : ℕ) (requests : List Request) → 0 < threads
      → missing_adds logs requests ≤ missing_of_first logs threads requests threads
