-- The writes of a workload's list, and the entries that are theirs.
use Rattle.std.specs.Prelude.{◌≡◌, ℕ, ◌&&◌, Bool, true, false, not, List, All, Contains, filter_map, sum_by, if◌then◌else◌, Option, None, IsTrue}
use Rattle.std.specs.List.{list_any}
use Rattle.std.specs.Result.{result_ok}
use Rattle.load_gen.specs.Requests.{requests_of}
use Rattle.log_index.specs.Positions.{same_origin}
use Rattle.request_check.specs.Calls.{checked_write_call}
use Rattle.request_check.specs.declared.checked.CheckedWrite.{CheckedWrite}
use Rattle.requests.specs.declared.calls.Call.TheVariants.{Write}
use Rattle.requests.specs.declared.calls.WriteText.{WriteText}
use Rattle.requests.specs.declared.calls.WriteText.TheVariants.{ObjAdd, ObjUpdate, ObjDelete, AssocAdd, AssocDelete, AssocChangeType}
use Rattle.requests.specs.declared.request.Request.{Request}
use Rattle.requests.specs.declared.request.Request.TheVariants.{Call}
use Rattle.tao_base.specs.declared.entry.Entry.{Entry}
use Rattle.tao_base.specs.declared.entry.Origin.{Origin}
use Rattle.tao_base.specs.declared.entry.Origin.TheVariants.{Client}
use Rattle.graph_model.specs.Soundness.{is_client}
use Rattle.topology.specs.Config.{Settings}
use Rattle.write_model.specs.Writes.{FitsWrite}

-- ---- a workload's writes

-- the requests are those of a workload over the configuration
pub record IsWorkload (s : Settings) (requests : List Request) : Type 0 where
  pub seed : ℕ
  pub calls : ℕ
  pub is : requests ≡ requests_of s seed calls

-- the write that a request is, with its names given their places; none where it is another request, or names what isn't there
abbrev pub write_in : Settings → Request → Option CheckedWrite
write_in s (Call (Write call)) = result_ok (checked_write_call s call)
write_in s request = None

-- the writes among the requests, in their order
abbrev pub writes_of : Settings → List Request → List CheckedWrite
writes_of s requests = filter_map (write_in s) requests

-- whose write it is: that of its session, under its number
abbrev pub origin_of : CheckedWrite → Origin
origin_of write = Client write.session write.seq

-- ---- the entries that are theirs

-- the entry has the origin of one of these writes, and fits it
pub record IsOfOne (writes : List CheckedWrite) (e : Entry) : Type 0 where
  pub write : CheckedWrite
  pub listed : Contains writes write
  pub origin_is : e.origin ≡ origin_of write
  pub fits : FitsWrite e write.write

-- the entry is no client's, or of one of these writes
abbrev pub IsKnown : List CheckedWrite → Entry → Type 0
IsKnown writes e = IsTrue (is_client e.origin) → IsOfOne writes e

-- the entry is a client's, and has the origin of none of these writes, or doesn't fit it
abbrev pub IsStrange : List CheckedWrite → Entry → Type 0
IsStrange writes e = IsTrue (is_client e.origin) × (IsOfOne writes e → ⊥)

-- the entry is of one of the requests that are writes
abbrev pub IsListed : Settings → List Request → Entry → Type 0
IsListed s requests e = IsOfOne (writes_of s requests) e

-- the entry is a client's, and of none of the requests
abbrev pub IsStranger : Settings → List Request → Entry → Type 0
IsStranger s requests e = IsStrange (writes_of s requests) e

-- each client's entry of the log is of one of the requests
abbrev pub AreListed : Settings → List Request → List Entry → Type 0
AreListed s requests log = All (IsKnown (writes_of s requests)) log

-- ---- the additions that are in no log

-- whether an entry of these logs has the origin
abbrev pub stands_in : List (List Entry) → Origin → Bool
stands_in logs origin = list_any (λ log. list_any (λ e. same_origin origin e.origin) log) logs

-- whether a write adds an object or an edge
abbrev pub is_add : WriteText → Bool
is_add (ObjAdd shard otype payload) = true
is_add (AssocAdd edge time payload) = true
is_add (ObjUpdate id payload) = false
is_add (ObjDelete id) = false
is_add (AssocDelete edge) = false
is_add (AssocChangeType edge newtype) = false

-- 1 where the request adds an object or an edge, and no entry of the logs has its origin; else 0
abbrev pub missing_add : List (List Entry) → Request → ℕ
missing_add logs (Call (Write call)) = if is_add call.write && not (stands_in logs (Client call.session call.seq)) then 1 else 0
missing_add logs request = 0

-- how many of the requests are additions that stand in none of the logs
abbrev pub missing_adds : List (List Entry) → List Request → ℕ
missing_adds logs requests = sum_by (missing_add logs) requests
