-- Keepers, each with what was found of the log that is audited of it.
use Rattle.std.specs.Prelude.{ℕ, ◌≡◌, ◌≤◌, Bool, List, Err, Some, Vec, length, map, slice_get}
use Rattle.std.specs.Vec.{vec_capacity, vec_len}
use Rattle.counts.specs.Count.{Rose}
use Rattle.graph_model.specs.Told.{WhereTold}
use Rattle.request_check.specs.declared.checked.CheckedWrite.{CheckedWrite}
use Rattle.tao_base.specs.declared.id.StoreName.{StoreName}
use Rattle.tao_keeper.specs.KeeperState.{IsLater, KeeperState, KeepsTables}
use Rattle.tao_keeper.specs.declared.keeper.KeepFail.TheVariants.{Failed as KeeperFailed}
use Rattle.load_audit.specs.Auditing.{AuditsLog}
use Rattle.load_audit.specs.declared.audits.AuditRefusal.TheVariants.{Failed as AuditFailed}
use Rattle.load_audit.specs.declared.kept.KeptLog.{KeptLog}

-- nothing is in the list, which has room for so many
pub record IsRoomFor {T A : Type 0} (many : ℕ) (room : Vec T A) : Type 0 where
  pub empty : vec_len room ≡ 0
  pub enough : many ≤ vec_capacity room

-- the keepers, in their order
abbrev pub keepers_in : {M : Type 0} → List (KeptLog M) → List M
keepers_in all = map (λ kept. kept.keeper) all

-- what was found of the log is so, as the keeper tells it
abbrev pub IsAudited : {M : Type 0} → Bool → (M → KeeperState) → List CheckedWrite → KeptLog M → Type 0
IsAudited tells state writes kept = (at : StoreName) → kept.at ≡ Some at
    → WhereTold tells (AuditsLog writes at.shard ((state kept.keeper).told at).log kept.found)

-- of each keeper's log
abbrev pub AreAudited : {M : Type 0} → Bool → (M → KeeperState) → List CheckedWrite → List (KeptLog M) → Type 0
AreAudited tells state writes all = (place : ℕ) (kept : KeptLog _) → slice_get all place ≡ Some kept → IsAudited tells state writes kept

-- the keeper failed as the log was read
pub record HasFailed {M : Type 0} (kept : KeptLog M) : Type 0 where
  pub at : StoreName
  pub at_is : kept.at ≡ Some at
  pub found_is : kept.found ≡ Err (AuditFailed KeeperFailed)

-- one of the keepers failed
pub record HasFault {M : Type 0} (all : List (KeptLog M)) : Type 0 where
  pub place : ℕ
  pub kept : KeptLog M
  pub stands : slice_get all place ≡ Some kept
  pub failed : HasFailed kept

-- ---- an audit

-- a keeper's tables stay, where it tells them, and no count of it fell
pub record KeeperStays (tells : Bool) (old new : KeeperState) : Type 0 where
  pub tables : KeepsTables tells old new
  pub later : IsLater old new

-- each of the keepers so, in their order
pub record KeepersStay {M : Type 0} (tells : Bool) (state : M → KeeperState) (old new : List M) : Type 0 where
  pub many : length new ≡ length old
  pub each : (place : ℕ) (before after : M) → slice_get old place ≡ Some before → slice_get new place ≡ Some after
      → KeeperStays tells (state before) (state after)

-- the count of faults of one of the keepers rose
pub record OneFailed {M : Type 0} (state : M → KeeperState) (old new : List M) : Type 0 where
  pub place : ℕ
  pub before : M
  pub after : M
  pub before_is : slice_get old place ≡ Some before
  pub after_is : slice_get new place ≡ Some after
  pub rose : Rose (state before).faults (state after).faults

-- the log that is to be audited of a keeper was
pub record AuditsKept {M : Type 0} (tells : Bool) (state : M → KeeperState) (writes : List CheckedWrite) (old new : KeptLog M) : Type 0 where
  pub stays : KeeperStays tells (state old.keeper) (state new.keeper)
  pub audited : IsAudited tells state writes new
  pub rose : HasFailed new → Rose (state old.keeper).faults (state new.keeper).faults

-- of each keeper
abbrev pub AuditsEach : {M : Type 0} → Bool → (M → KeeperState) → List CheckedWrite → List (KeptLog M) → List (KeptLog M) → Type 0
AuditsEach tells state writes old new = (place : ℕ) (before after : KeptLog _) → slice_get old place ≡ Some before → slice_get new place ≡ Some after
    → AuditsKept tells state writes before after
