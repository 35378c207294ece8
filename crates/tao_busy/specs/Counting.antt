-- What the threads of a load count.
use Rattle.std.specs.Prelude.{ℕ, ◌≡◌, ◌≤◌, Bool, All, IsSomeAnd, false, List, [], ◌∷◌, Some, length, slice_get}
use Rattle.core_model.specs.Stores.{master_log}
use Rattle.graph_model.specs.Told.{WhereTold}
use Rattle.load_audit.specs.Listed.{missing_adds}
use Rattle.load_shares.specs.Seen.{AllBegin, BeginLogs, EachPass}
use Rattle.load_shares.specs.Turns.{share_of}
use Rattle.requests.specs.declared.request.Request.{Request}
use Rattle.session_pass.specs.Passes.{SeenPass}
use Rattle.shard_log.specs.View.{Begins, View}
use Rattle.shared_tiers.specs.locked_nodes.Cluster.{OnCluster}
use Rattle.shared_tiers.specs.locked_nodes.Passes.{IsPassOf}
use Rattle.tao_base.specs.declared.entry.Entry.{Entry}
use Rattle.tao_keeper.specs.Table.{Tables}
use Rattle.topology.specs.Config.{Settings}
use Rattle.tao_busy.specs.Refusing.{RefusesNoneOf}
use Rattle.tao_busy.specs.declared.shares.Share.{Share}

-- ---- a thread's calls

-- of these requests, at most so many are additions that stand in none of the logs, whatever logs begin with what the passes have seen
abbrev pub MissesFew : Bool → List Request → ℕ → List SeenPass → Type 0
MissesFew tells requests refused passes =
    WhereTold tells ((logs : List (List Entry)) → AllBegin logs passes → missing_adds logs requests ≤ refused)

-- the same of one request, and what one pass has seen
abbrev pub MissesNone : Bool → Request → ℕ → List View → Type 0
MissesNone tells request refused notes =
    WhereTold tells ((logs : List (List Entry)) → BeginLogs logs notes → missing_adds logs (request ∷ []) ≤ refused)

-- what is left of the thread at a place among so many: passes of the cluster; unless it wanted memory, an addition of the thread's stands in what these have
-- seen, or was refused; and where nothing was in their way none of its calls was
pub record IsShare {M : Type 0} (on : OnCluster M) (threads place : ℕ) (requests : List Request) (share : Share) : Type 0 where
  pub passes : EachPass (IsPassOf on.making on.log) share.passes.items
  pub few : share.tally.short ≡ false → MissesFew on.tells (share_of threads place 0 requests) share.tally.refused share.passes.items
  pub none : RefusesNoneOf on requests share.tally share.passes.items

-- each of the shares is that of the thread at its place among so many
abbrev pub AreSharesOf : {M : Type 0} → OnCluster M → ℕ → List Request → List Share → Type 0
AreSharesOf on threads requests shares = (place : ℕ) (share : Share) → slice_get shares place ≡ Some share → IsShare on threads place requests share

-- these are left of the threads, so many, in order
pub record AreShares {M : Type 0} (on : OnCluster M) (threads : ℕ) (requests : List Request) (shares : List Share) : Type 0 where
  pub many : length shares ≡ threads
  pub each : AreSharesOf on threads requests shares

-- no thread wanted memory
abbrev pub AreWell : List Share → Type 0
AreWell shares = All (λ share. share.tally.short ≡ false) shares

-- ---- the closed cluster

-- what was seen of the shard's log begins the log that the tables have
abbrev pub BeginsLog : Settings → Tables → List View → ℕ → Type 0
BeginsLog s tables notes shard = IsSomeAnd (slice_get notes shard) (λ note. Begins note.entries (master_log s tables shard))
