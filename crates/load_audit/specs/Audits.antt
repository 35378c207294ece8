-- What an audit of a load finds.
use Rattle.std.specs.Prelude.{◌≡◌, ◌<◌, ℕ, List, Some, length, map, sum_by, ⊤}
use Rattle.std.specs.List.{range_with_len}
use Rattle.core_model.specs.Stores.{master_log}
use Rattle.graph_model.specs.Log.{entry_at}
use Rattle.requests.specs.declared.request.Request.{Request}
use Rattle.tao_base.specs.declared.entry.Entry.{Entry}
use Rattle.tao_keeper.specs.Table.{Tables}
use Rattle.topology.specs.Config.{Settings}
use Rattle.load_audit.specs.Listed.{AreListed, IsKnown, IsStranger, writes_of}
use Rattle.load_audit.specs.LiveEdges.{live_count}
use Rattle.load_audit.specs.declared.audits.AuditRefusal.{AuditRefusal}
use Rattle.load_audit.specs.declared.audits.AuditRefusal.TheVariants.{Failed, Stranger}
use Rattle.load_audit.specs.declared.audits.LoadAudit.{LoadAudit}

-- the logs of the first shards, so many: each that of the shard's master store
abbrev pub first_logs : Settings → Tables → ℕ → List (List Entry)
first_logs s tables count = map (master_log s tables) (range_with_len 0 count)

-- the logs of all shards
abbrev pub logs_in : Settings → Tables → List (List Entry)
logs_in s tables = first_logs s tables s.shards

-- the lengths of the logs, in the order of the shards
abbrev pub lengths_in : Settings → Tables → List ℕ
lengths_in s tables = map (λ shard. length (master_log s tables shard)) (range_with_len 0 s.shards)

-- how many edges the logs leave live, added up
abbrev pub edges_in : Settings → Tables → ℕ
edges_in s tables = sum_by live_count (logs_in s tables)

-- each client's entry of the first shards' logs, so many, is of one of the requests
abbrev pub AreListedBelow : Settings → Tables → List Request → ℕ → Type 0
AreListedBelow s tables requests count = (shard : ℕ) → shard < count → AreListed s requests (master_log s tables shard)

-- what the logs hold: their lengths, the edges that they leave live, and no client's entry but those of the requests
pub record IsAuditOf (s : Settings) (tables : Tables) (requests : List Request) (found : LoadAudit) : Type 0 where
  pub logs : found.logs ≡ lengths_in s tables
  pub edges : found.edges ≡ edges_in s tables
  pub listed : AreListedBelow s tables requests s.shards

-- the entry at the position of the shard's log is a client's, and of none of the requests; none that comes before it is, in its log or in that of a shard
-- before
pub record IsFirstStranger (s : Settings) (tables : Tables) (requests : List Request) (shard position : ℕ) : Type 0 where
  pub configured : shard < s.shards
  pub entry : Entry
  pub stands : entry_at (master_log s tables shard) position ≡ Some entry
  pub strange : IsStranger s requests entry
  pub before : (other : ℕ) (e : Entry) → other < position → entry_at (master_log s tables shard) other ≡ Some e → IsKnown (writes_of s requests) e
  pub below : AreListedBelow s tables requests shard

-- why an audit doesn't pass: what a fault leaves open, and else that there is a stranger
abbrev pub RefusesAudit : Settings → Tables → List Request → AuditRefusal → Type 0
RefusesAudit s tables requests (Failed fail) = ⊤
RefusesAudit s tables requests (Stranger shard position) = IsFirstStranger s tables requests shard position
