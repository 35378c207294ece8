-- The additions of a workload, and the entries that are theirs.
use Rattle.std.specs.Prelude.{ℕ, ◌≡◌, ◌≤◌, true, false, None, Ok, Some, List, [], ◌∷◌, slice_get}
use Rattle.graph_model.specs.Log.{entry_at}
use Rattle.load_audit.specs.Listed.{is_add, missing_adds}
use Rattle.request_check.specs.Calls.{checked_write_call}
use Rattle.request_check.specs.declared.checked.CheckedWrite.{CheckedWrite}
use Rattle.requests.specs.declared.calls.Call.TheVariants.{Write}
use Rattle.requests.specs.declared.calls.WriteCall.{WriteCall}
use Rattle.requests.specs.declared.request.Request.TheVariants.{Call}
use Rattle.shard_log.specs.View.{View}
use Rattle.tao_base.specs.EdgeTypes.{EdgeTypes}
use Rattle.tao_base.specs.declared.entry.Entry.{Entry}
use Rattle.tao_base.specs.declared.entry.Origin.{Origin}
use Rattle.tao_base.specs.declared.entry.Origin.TheVariants.{Client}
use Rattle.topology.specs.Config.{Settings}
use Rattle.write_model.specs.Writes.{forward_entry}
use Rattle.load_shares.specs.Seen.{BeginLogs}

-- the write is its session's, under its number
pub record IsCheckedOf (call : WriteCall) (write : CheckedWrite) : Type 0 where
  pub session_is : write.session ≡ call.session
  pub seq_is : write.seq ≡ call.seq
  -- an addition always has something to write
  pub adds : is_add call.write ≡ true → (types : EdgeTypes) (log : List Entry) (origin : Origin) → forward_entry types 0 log origin write.write ≡ None → ⊥

-- what is so of a workload's writes: each keeps its session and its number where its names are looked up, an addition always writes, and one whose entry was
-- seen misses nothing
pub record AdditionsStand : Type 0 where
  pub checked : (s : Settings) (call : WriteCall) (write : CheckedWrite) → checked_write_call s call ≡ Ok write → IsCheckedOf call write
  pub stands : (logs : List (List Entry)) (notes : List View) (call : WriteCall) (shard : ℕ) (note : View) (position : ℕ) (e : Entry)
      → BeginLogs logs notes → slice_get notes shard ≡ Some note → entry_at note.entries position ≡ Some e → e.origin ≡ Client call.session call.seq
      → missing_adds logs (Call (Write call) ∷ []) ≤ 0
  pub plain : (logs : List (List Entry)) (call : WriteCall) → is_add call.write ≡ false → missing_adds logs (Call (Write call) ∷ []) ≤ 0
