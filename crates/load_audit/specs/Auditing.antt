-- An audit under way, and what it finds of each log.
use Rattle.std.specs.Prelude.{◌≡◌, ◌<◌, ℕ, List, All, Result, Ok, Err, length, ⊤}
use Rattle.core_model.specs.Stores.{master_log}
use Rattle.request_check.specs.declared.checked.CheckedWrite.{CheckedWrite}
use Rattle.tao_base.specs.declared.entry.Entry.{Entry}
use Rattle.tao_keeper.specs.Table.{Tables}
use Rattle.topology.specs.Config.{Settings}
use Rattle.load_audit.specs.Audits.{edges_in, lengths_in}
use Rattle.load_audit.specs.Listed.{IsKnown}
use Rattle.load_audit.specs.LiveEdges.{live_count}
use Rattle.load_audit.specs.Numbered.{IsStrangeAt}
use Rattle.load_audit.specs.declared.audits.AuditRefusal.{AuditRefusal}
use Rattle.load_audit.specs.declared.audits.AuditRefusal.TheVariants.{Failed, Stranger}
use Rattle.load_audit.specs.declared.audits.LoadAudit.{LoadAudit}
use Rattle.load_audit.specs.declared.found.LogFound.{LogFound}

-- the length of the log, and how many edges it leaves live, and each of its entries is known
pub record IsFoundOf (writes : List CheckedWrite) (log : List Entry) (found : LogFound) : Type 0 where
  pub length_is : found.length ≡ length log
  pub live_is : found.live ≡ live_count log
  pub known : All (IsKnown writes) log

-- what an audit of a shard's log comes to: that is found, or the first strange entry is named, or there was a fault
abbrev pub AuditsLog : List CheckedWrite → ℕ → List Entry → Result LogFound AuditRefusal → Type 0
AuditsLog writes shard log (Ok found) = IsFoundOf writes log found
AuditsLog writes shard log (Err (Failed fail)) = ⊤
AuditsLog writes shard log (Err (Stranger at position)) = (at ≡ shard) × IsStrangeAt writes log position

-- each entry of the first shards' logs, so many, is known
abbrev pub AreKnownBelow : Settings → Tables → List CheckedWrite → ℕ → Type 0
AreKnownBelow s tables writes count = (shard : ℕ) → shard < count → All (IsKnown writes) (master_log s tables shard)

-- the lengths of the logs, and how many edges they leave live, and each of their entries is known
pub record IsSumOf (s : Settings) (tables : Tables) (writes : List CheckedWrite) (audit : LoadAudit) : Type 0 where
  pub lengths : audit.logs ≡ lengths_in s tables
  pub live : audit.edges ≡ edges_in s tables
  pub known : AreKnownBelow s tables writes s.shards

-- the first strange entry of all logs
pub record IsStrangeIn (s : Settings) (tables : Tables) (writes : List CheckedWrite) (shard position : ℕ) : Type 0 where
  pub configured : shard < s.shards
  pub strange : IsStrangeAt writes (master_log s tables shard) position
  pub below : AreKnownBelow s tables writes shard

-- what an audit of all logs comes to
abbrev pub AuditsLogs : Settings → Tables → List CheckedWrite → Result LoadAudit AuditRefusal → Type 0
AuditsLogs s tables writes (Ok audit) = IsSumOf s tables writes audit
AuditsLogs s tables writes (Err (Failed fail)) = ⊤
AuditsLogs s tables writes (Err (Stranger shard position)) = IsStrangeIn s tables writes shard position
