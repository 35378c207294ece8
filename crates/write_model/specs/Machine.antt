-- What a caller sees: the steps of the plain machine, settled and paired states. The plain machine is the logs alone.
use Rattle.std.specs.Prelude.{ℕ, List, [], ◌∷◌, ◌++◌, length, All, AllPairs, Some, None, slice_set, ◌≡◌, ◌⊎◌, ◌<◌}
use Rattle.tao_base.specs.EdgeTypes.{EdgeTypes}
use Rattle.tao_base.specs.Ids.{shard_of}
use Rattle.tao_base.specs.declared.id.Id.{Id}
use Rattle.tao_base.specs.declared.id.AType.{AType}
use Rattle.tao_base.specs.declared.entry.Entry.{Entry}
use Rattle.tao_base.specs.declared.entry.Origin.{Origin}
use Rattle.tao_base.specs.declared.write.Write.{Write}
use Rattle.graph_model.specs.Edges.{edge_record}
use Rattle.graph_model.specs.Log.{entry_at}
use Rattle.write_model.specs.Merges.{JobSource, Stores, log_of, job_of, merge_entry}
use Rattle.write_model.specs.Writes.{forward_entry, FitsWrite}

-- the shard's log gains the entry, and every other log stays
abbrev pub Gains : List (List Entry) → List (List Entry) → ℕ → Entry → Type 0
Gains old new shard e = (shard < length old) × (new ≡ slice_set old shard (log_of old shard ++ e ∷ []))

-- the other shard's log gains the merge of the entry's job
pub record Merges (types : EdgeTypes) (old new : List (List Entry)) (owed : JobSource) : Type 0 where
  pub merged : Entry
  pub there : All (λ u. shard_of u.0 ≡ owed.other) (job_of types owed.entry)
  pub is : merge_entry types (log_of old owed.other) owed ≡ Some merged
  pub gained : Gains old new owed.other merged

-- the job is merged, or not yet
abbrev pub MayMerge : EdgeTypes → List (List Entry) → List (List Entry) → JobSource → Type 0
MayMerge types old new owed = (new ≡ old) ⊎ Merges types old new owed

-- the job is merged where any of its records is news
abbrev pub MergesNews : EdgeTypes → List (List Entry) → List (List Entry) → JobSource → Type 0
MergesNews types old new owed =
    ((merge_entry types (log_of old owed.other) owed ≡ None) × (new ≡ old)) ⊎ Merges types old new owed

-- jobs are merged, or not yet, one after another
abbrev pub MergeInTurn : EdgeTypes → List (List Entry) → List (List Entry) → List JobSource → Type 0
MergeInTurn types old new [] = new ≡ old
MergeInTurn types old new (owed ∷ more) = (between : List (List Entry)) × MayMerge types old between owed × MergeInTurn types between new more

-- what a client asks to be written: on its shard, in the shard's epoch, and under its origin
pub record ClientWrite : Type 0 where
  pub shard : ℕ
  pub epoch : ℕ
  pub origin : Origin
  pub asked : Write

-- a write commits its entry
pub record Commits (types : EdgeTypes) (old new : List (List Entry)) (w : ClientWrite) (e : Entry) : Type 0 where
  pub is : forward_entry types w.epoch (log_of old w.shard) w.origin w.asked ≡ Some e
  pub gained : Gains old new w.shard e

-- the entry stands at its position, and is one that was made for the write
pub record StandsFor (logs : List (List Entry)) (w : ClientWrite) (e : Entry) : Type 0 where
  pub stands : entry_at (log_of logs w.shard) e.position ≡ Some e
  pub origin_is : e.origin ≡ w.origin
  pub fits : FitsWrite e w.asked

-- what the entry of a write owes to the other shard
abbrev pub source_of_write : ClientWrite → Entry → ℕ → JobSource
source_of_write w e other = record { shard = w.shard; epoch = w.epoch; entry = e; other = other }

-- a write that changed something: its entry, and then perhaps the merge at the other shard
pub record Writes (types : EdgeTypes) (old new : List (List Entry)) (w : ClientWrite) (e : Entry) (other : ℕ) : Type 0 where
  pub between : List (List Entry)
  pub commits : Commits types old between w e
  pub merges : MayMerge types between new (source_of_write w e other)

-- a write that found nothing to change
pub record ChangesNothing (types : EdgeTypes) (old new : List (List Entry)) (w : ClientWrite) : Type 0 where
  pub nothing : forward_entry types w.epoch (log_of old w.shard) w.origin w.asked ≡ None
  pub stays : new ≡ old

-- a write that was made before: its entry stands, and perhaps its merge is added
pub record Repeats (types : EdgeTypes) (old new : List (List Entry)) (w : ClientWrite) (e : Entry) (other : ℕ) : Type 0 where
  pub stood : StandsFor old w e
  pub merges : MayMerge types old new (source_of_write w e other)

-- a write that was refused after its entry stood: that is new, or was there
abbrev pub LeavesEntry : EdgeTypes → List (List Entry) → List (List Entry) → ClientWrite → Entry → ℕ → Type 0
LeavesEntry types old new w e other = Writes types old new w e other ⊎ Repeats types old new w e other

-- the job is open, and its entry stands, in the epoch of its shard
pub record IsOpenJob (types : EdgeTypes) (stores : Stores) (owed : JobSource) : Type 0 where
  pub epoch_is : owed.epoch ≡ stores.epochs.of owed.shard
  pub stands : entry_at (log_of stores.logs owed.shard) owed.entry.position ≡ Some owed.entry
  pub job_is : stores.job owed.shard owed.entry.position ≡ Some (job_of types owed.entry)

-- no open job of the shard has a lower position
pub record IsFirstJob (types : EdgeTypes) (stores : Stores) (owed : JobSource) : Type 0 where
  pub job : IsOpenJob types stores owed
  pub first : (position : ℕ) → position < owed.entry.position → stores.job owed.shard position ≡ None

-- a repair merges the shard's first job
pub record Repairs (types : EdgeTypes) (stores : Stores) (new : List (List Entry)) (owed : JobSource) : Type 0 where
  pub first : IsFirstJob types stores owed
  pub merges : MergesNews types stores.logs new owed

-- the first job's shard comes before the second's, or on one shard its position does
abbrev pub ComesBefore : JobSource → JobSource → Type 0
ComesBefore a b = (a.shard < b.shard) ⊎ ((a.shard ≡ b.shard) × (a.entry.position < b.entry.position))

-- a settle merges open jobs, shard by shard, each shard's in order of position
pub record Settles (types : EdgeTypes) (stores : Stores) (new : List (List Entry)) : Type 0 where
  pub jobs : List JobSource
  pub open_jobs : All (IsOpenJob types stores) jobs
  pub in_order : AllPairs ComesBefore jobs
  pub merges : MergeInTurn types stores.logs new jobs

-- each edge whose type has an inverse has at both ends no record, or the same one
abbrev pub ArePaired : EdgeTypes → List (List Entry) → Type 0
ArePaired types logs = (id1 : Id) (atype inverse : AType) (id2 : Id) → types.inverse atype ≡ Some inverse
    → edge_record (log_of logs (shard_of id1)) id1 atype id2 ≡ edge_record (log_of logs (shard_of id2)) id2 inverse id1

-- of each shard every slave's log is the master's, every mark is the log's length, and no job is open
pub record IsSettled (stores : Stores) (slaves : ℕ → List (List Entry)) (marks : ℕ → List ℕ) : Type 0 where
  pub slaves_are : (shard : ℕ) → All (λ slave. slave ≡ log_of stores.logs shard) (slaves shard)
  pub marks_are : (shard : ℕ) → All (λ mark. mark ≡ length (log_of stores.logs shard)) (marks shard)
  pub no_jobs : (shard position : ℕ) → stores.job shard position ≡ None
