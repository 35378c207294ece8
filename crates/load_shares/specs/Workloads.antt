-- What is so of the calls of a workload: the sessions and the names that they have are there, and no two have one number.
use Rattle.std.specs.Prelude.{◌≡◌, ◌≤◌, ℕ, List, All, Contains, IfErr, length, ⊤}
use Rattle.load_audit.specs.Listed.{IsWorkload, writes_of}
use Rattle.load_gen.specs.Names.{names_of}
use Rattle.request_check.specs.Calls.{checked_call}
use Rattle.request_check.specs.declared.checked.CheckedWrite.{CheckedWrite}
use Rattle.requests.specs.CallWords.{asking_session}
use Rattle.requests.specs.declared.calls.Call.{Call}
use Rattle.requests.specs.declared.request.Request.{Request}
use Rattle.requests.specs.declared.request.Request.TheVariants as request
use Rattle.topology.specs.Config.{Settings}

-- there is something to choose of each kind of name that a call has, and a log has at most so many entries
pub record HasChoices (s : Settings) : Type 0 where
  pub shards : 1 ≤ s.shards
  pub tiers : 1 ≤ length (names_of s).tiers
  pub objects : 1 ≤ length (names_of s).objects
  pub assocs : 1 ≤ length (names_of s).assocs
  pub entries : s.log_max ≤ 65536

-- a session of a workload: there is one for each tier, by numbers from 1
pub record IsSession (s : Settings) (session : ℕ) : Type 0 where
  pub first : 1 ≤ session
  pub last : session ≤ length (names_of s).tiers

-- the call is of a session of a workload, and no name in it is refused
pub record IsConfiguredCall (s : Settings) (call : Call) : Type 0 where
  pub session : IsSession s (asking_session call)
  pub named : IfErr (checked_call s call) (λ refused. ⊥)

-- the request is such a call, if it is a read or a write
abbrev pub IsConfiguredRequest : Settings → Request → Type 0
IsConfiguredRequest s (request.Call call) = IsConfiguredCall s call
IsConfiguredRequest s other = ⊤

-- what is so of a workload's requests: each call is of a session and of names that are there, and no two writes have one number
pub record WorkloadLaws : Type 0 where
  pub configured : (s : Settings) (requests : List Request) → HasChoices s → IsWorkload s requests → All (IsConfiguredRequest s) requests
  pub alone : (s : Settings) (requests : List Request) (write other : CheckedWrite) → IsWorkload s requests → Contains (writes_of s requests) write
      → Contains (writes_of s requests) other → other.seq ≡ write.seq → other ≡ write
