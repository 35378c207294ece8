-- What a store did for a write of a client, and for a merge, by its answer.
use Rattle.std.specs.Prelude.{ℕ, ◌≡◌, Bool, false, All, None, IfErr, IfOk, IfSome, Result}
use Rattle.tao_base.specs.EdgeTypes.{EdgeTypes}
use Rattle.tao_base.specs.declared.entry.Origin.{Origin}
use Rattle.tao_base.specs.declared.id.StoreName.{StoreName}
use Rattle.tao_base.specs.declared.write.Write.{Write}
use Rattle.graph_model.specs.Records.{HasStamp}
use Rattle.graph_model.specs.Soundness.{IsSoundOf}
use Rattle.graph_model.specs.Told.{WhereTold}
use Rattle.shard_log.specs.View.{Grows, as_note}
use Rattle.write_model.specs.Writes.{FitsWrite}
use Rattle.tao_keeper.specs.Given.{IsGivenJob}
use Rattle.tao_keeper.specs.Growing.{LogsGrow}
use Rattle.tao_keeper.specs.KeeperState.{CallsKeeper, KeeperState}
use Rattle.tao_keeper.specs.Table.{Tables}
use Rattle.tao_keeper.specs.declared.jobs.Job.{Job}
use Rattle.shard_tables.specs.Jobs.{AskedMerge, FindsJob, IsOfMerges, MergesAs, OpensJob, asked_merge, job_with}
use Rattle.shard_tables.specs.StoreView.{Store}
use Rattle.shard_tables.specs.Stores.{IsStoreOf, store_with}
use Rattle.shard_tables.specs.Written.{AskedWrite, HasEntry, LiesOn, StandsIn, TableGains, WriteAnswers, added_entry, asked_write}
use Rattle.shard_tables.specs.declared.refusal.StoreRefusal.{StoreRefusal}
use Rattle.shard_tables.specs.declared.refusal.StoreRefusal.TheVariants.{KeeperFault}
use Rattle.shard_tables.specs.declared.writes.Wrote.{Wrote}

-- what a write asks of a store over these tables: of its log, with its limit, in its epoch
abbrev pub asked_at : EdgeTypes → Tables → Store → Origin → Write → AskedWrite
asked_at types tables store origin write = asked_write types store.log_max store.epoch (tables store.name) origin write

-- what a merge asks of a store over these tables: of its log, with its limit
abbrev pub asked_merge_at : Tables → Store → ℕ → Job → AskedMerge
asked_merge_at tables store from job = asked_merge store.log_max (tables store.name).log from job

-- what a write did at the store of this name: what it was answered, and what became of the keeper
pub record WriteDone (tells : Bool) (at : StoreName) (asked : AskedWrite) (old new : KeeperState) (result : Result Wrote StoreRefusal) : Type 0 where
  -- the answer says so of the log before it
  pub answer : WhereTold tells (WriteAnswers asked result)
  -- an entry that is answered is one that the write could have made
  pub fits : IfOk result (λ wrote. IfSome wrote.entry (λ e. FitsWrite e asked.write))
  -- an object that is added has an entry
  pub entry : IfOk result (λ wrote. HasEntry asked.write wrote.entry)
  -- a new write answers with the job of its entry
  pub job : IfOk result (λ wrote. OpensJob asked.types wrote.retry wrote.entry wrote.job)
  -- a write that was made before answers with the open job of its entry
  pub found : WhereTold tells (IfOk result (λ wrote. FindsJob (old.told at) wrote.retry wrote.entry wrote.job))
  -- the job that is answered is one that a keeper gives
  pub given : IfOk result (λ wrote. IfSome wrote.job IsGivenJob)
  -- the entry that was added stands in the store's table, with its job, and nothing else changed
  pub tables : WhereTold tells (TableGains old.told new.told at (added_entry result) (job_with asked.types (added_entry result)))
  -- no entry is gone from a log
  pub logs : LogsGrow tells old.told new.told
  -- the note that is answered has seen the entry
  pub stands : IfOk result (λ wrote. IfSome wrote.entry (StandsIn wrote.note))
  -- the entry touches keys of the store's shard alone
  pub here : IfOk result (λ wrote. IfSome wrote.entry (LiesOn wrote.note at.shard))
  -- the store's log is sound
  pub sound : WhereTold tells (IsSoundOf asked.types at.shard (new.told at).log)
  -- the keeper's counts rose, that of its faults where it failed
  pub calls : CallsKeeper KeeperFault old new result

-- what a merge did at the store of this name: what it was answered, and what became of the keeper
pub record MergeDone (tells : Bool) (at : StoreName) (asked : AskedMerge) (old new : KeeperState) (result : Result Wrote StoreRefusal) : Type 0 where
  -- the answer says so of the log before it
  pub answer : WhereTold tells (MergesAs asked.most asked.log asked.from asked.job.position asked.job.edges result)
  -- a refusal is one of merges
  pub refusals : IfErr result IsOfMerges
  -- no merge is answered as one that was made before
  pub first : IfOk result (λ wrote. wrote.retry ≡ false)
  -- a merge owes nothing
  pub job : IfOk result (λ wrote. wrote.job ≡ None)
  -- the entry that was added stands in the store's table, without a job, and nothing else changed
  pub tables : WhereTold tells (TableGains old.told new.told at (added_entry result) None)
  -- no entry is gone from a log
  pub logs : LogsGrow tells old.told new.told
  -- the note that is answered has seen the entry
  pub stands : IfOk result (λ wrote. IfSome wrote.entry (StandsIn wrote.note))
  -- the entry touches keys of the store's shard alone
  pub here : IfOk result (λ wrote. IfSome wrote.entry (LiesOn wrote.note at.shard))
  -- a log that was sound is sound
  pub sound : WhereTold tells ((types : EdgeTypes) → IsSoundOf types at.shard (old.told at).log → IsSoundOf types at.shard (new.told at).log)
  -- the records of the job, or later ones, stand in the log
  pub merged : WhereTold tells (IfOk result (λ _. All (HasStamp (new.told at).log) asked.job.edges))
  -- the keeper's counts rose, that of its faults where it failed
  pub calls : CallsKeeper KeeperFault old new result

-- what a write or a merge did to the master's store, over the tables that it left
pub record StoreGains (tells : Bool) (tables : Tables) (old new : Store) (result : Result Wrote StoreRefusal) : Type 0 where
  -- its log gained the entry that was added, and nothing else of it changed
  pub log : new ≡ store_with old (added_entry result)
  -- what it had seen begins what it has seen
  pub grows : Grows old.view new.view
  -- the note that is answered has seen all that it has
  pub note : IfOk result (λ wrote. wrote.note ≡ as_note new.view)
  -- it has seen its keeper's log
  pub keeper : IsStoreOf tells tables new
