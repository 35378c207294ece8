-- When no call of a load is refused.
use Rattle.std.specs.Prelude.{ℕ, ◌≡◌, ◌≢◌, ◌≤◌, ◌<◌, ◌+◌, All, false, List, [], ◌∷◌, Some, length, slice_get}
use Rattle.core_model.specs.Stores.{master_log, master_store}
use Rattle.graph_model.specs.Log.{entry_at}
use Rattle.graph_model.specs.Told.{WhereTold}
use Rattle.load_audit.specs.Listed.{origin_of, write_in}
use Rattle.load_audit.specs.LiveEdges.{records_of}
use Rattle.load_gen.specs.Names.{names_of}
use Rattle.load_shares.specs.Seen.{AllBegin, BeginLogs}
use Rattle.load_shares.specs.Workloads.{IsConfiguredRequest}
use Rattle.load_shares.specs.declared.tallies.Tally.{Tally}
use Rattle.request_check.specs.declared.checked.CheckedWrite.{CheckedWrite}
use Rattle.requests.specs.CallWords.{asking_session}
use Rattle.requests.specs.declared.request.Request.{Request}
use Rattle.requests.specs.declared.request.Request.TheVariants.{Call}
use Rattle.session_pass.specs.Passes.{SeenPass}
use Rattle.shard_log.specs.View.{View}
use Rattle.shared_tiers.specs.locked_nodes.Cluster.{OnCluster}
use Rattle.tao_base.specs.Stamps.{stamp_of}
use Rattle.tao_base.specs.declared.entry.Entry.{Entry}
use Rattle.tao_keeper.specs.KeeperState.{KeeperState}
use Rattle.tao_keeper.specs.Table.{Tables}
use Rattle.topology.specs.Config.{Settings}
use Rattle.write_model.specs.Writes.{FitsWrite}

-- ---- what is in no call's way

-- keepers of the type never fail
abbrev pub NeverFail : {M : Type 0} → (M → KeeperState) → Type 0
NeverFail state = (keeper : _) → (state keeper).faults ≡ 0

-- how many entries of each shard's log are old
abbrev pub cuts_in : Settings → Tables → ℕ → ℕ
cuts_in s tables shard = (tables (master_store s shard)).cut

-- no entry of the shards' logs is old
abbrev pub HaveNoCuts : Settings → (ℕ → ℕ) → Type 0
HaveNoCuts s cut = (shard : ℕ) → shard < s.shards → cut shard ≡ 0

-- the log has fewer entries than it may, and no record in it has the last number of a stamp
pub record HasRoomToWrite (s : Settings) (log : List Entry) : Type 0 where
  pub entries : length log < s.log_max
  pub stamps : All (λ u. (stamp_of u.3).number ≢ 4611686018427387903) (records_of log)

-- nothing is in a call's way: keepers of the type never fail, no entry was old at first, as the cuts say, and at last no log is full
pub record IsWayClear {M : Type 0} (state : M → KeeperState) (s : Settings) (cut : ℕ → ℕ) (tables : Tables) : Type 0 where
  pub steady : NeverFail state
  pub uncut : HaveNoCuts s cut
  pub room : (shard : ℕ) → shard < s.shards → HasRoomToWrite s (master_log s tables shard)

-- ---- while threads make calls

-- each of the logs is such
abbrev pub EachLog : (List Entry → Type 0) → List (List Entry) → Type 0
EachLog Is logs = (shard : ℕ) (log : List Entry) → slice_get logs shard ≡ Some log → Is log

-- an entry of the log that has the origin of the request's write fits it
abbrev pub HasOwnEntries : Settings → Request → List Entry → Type 0
HasOwnEntries s request log = (write : CheckedWrite) (position : ℕ) (e : Entry) → write_in s request ≡ Some write → entry_at log position ≡ Some e
    → e.origin ≡ origin_of write → FitsWrite e write.write

-- nothing is in the way of the requests: keepers never fail, no entry was old when the cluster was made, no log is full, what the requests name is there, and
-- no entry of another write has the origin of one of theirs
pub record HaveClearWay {M : Type 0} (on : OnCluster M) (logs : List (List Entry)) (requests : List Request) : Type 0 where
  pub steady : NeverFail on.state
  pub uncut : HaveNoCuts on.making.settings on.making.cut
  pub limit : on.making.settings.log_max ≤ 65536
  pub room : EachLog (HasRoomToWrite on.making.settings) logs
  pub configured : All (IsConfiguredRequest on.making.settings) requests
  pub own : All (λ request. EachLog (HasOwnEntries on.making.settings request) logs) requests

-- of these requests none was refused, unless memory was wanted, where nothing was in their way in any logs that begin with what the passes have seen
abbrev pub RefusesNoneOf : {M : Type 0} → OnCluster M → List Request → Tally → List SeenPass → Type 0
RefusesNoneOf on requests tally passes =
    WhereTold on.tells ((logs : List (List Entry)) → AllBegin logs passes → HaveClearWay on logs requests → tally.short ≡ false → tally.refused ≡ 0)

-- the request is a call of the session
abbrev pub IsCallOf : ℕ → Request → Type 0
IsCallOf session (Call call) = asking_session call ≡ session
IsCallOf session other = ⊥

-- the same of one call of a session, and what the session's pass has seen
abbrev pub RefusesNot : {M : Type 0} → OnCluster M → ℕ → Request → Tally → List View → Type 0
RefusesNot on session request tally notes =
    WhereTold on.tells (IsCallOf session request → (logs : List (List Entry)) → BeginLogs logs notes → HaveClearWay on logs (request ∷ []) → tally.short ≡ false
    → tally.refused ≡ 0)

-- the same of one call of a session, and what all passes have seen
abbrev pub RefusesNotOf : {M : Type 0} → OnCluster M → ℕ → Request → Tally → List SeenPass → Type 0
RefusesNotOf on session request tally passes =
    WhereTold on.tells (IsCallOf session request → (logs : List (List Entry)) → AllBegin logs passes → HaveClearWay on logs (request ∷ []) → tally.short ≡ false
    → tally.refused ≡ 0)

-- ---- sessions

-- the passes are of the sessions by numbers from 1
abbrev pub AreNumbered : List SeenPass → Type 0
AreNumbered passes = (place : ℕ) (pass : SeenPass) → slice_get passes place ≡ Some pass → pass.session ≡ place + 1

-- there is a pass of each session of a workload
pub record HaveEachSession (s : Settings) (passes : List SeenPass) : Type 0 where
  pub many : length passes ≡ length (names_of s).tiers
  pub numbered : AreNumbered passes
