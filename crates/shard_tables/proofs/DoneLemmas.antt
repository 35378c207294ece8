-- What a store did for a write or a merge, by the facts that each exit of the code has.
use Rattle.std.proofs.Common.{◌≡◌, ◌+◌, ◌<◌, Bool, true, false, ◌∷◌, ◌++◌, [], length, refl, sym, ap, ◌∙◌, subst, arith}
use Rattle.std.specs.Prelude.{All, Option, Some, None, Result, Ok, Err, IfErr, IfOk, IfSome, if◌then◌else◌}
use Rattle.std.specs.Result.{IsErr}
use Rattle.counts.specs.Count.{Rose}
use Rattle.tao_base.specs.EdgeTypes.{EdgeTypes}
use Rattle.tao_base.specs.Keys.{key_shard}
use Rattle.tao_base.specs.declared.entry.Entry.{Entry}
use Rattle.tao_base.specs.declared.id.StoreName.{StoreName}
use Rattle.tao_base.specs.declared.write.Write.{Write}
use Rattle.tao_base.specs.declared.write.Write.TheVariants.{ObjAdd, ObjUpdate, ObjDelete, AssocAdd, AssocDelete, AssocChangeType}
use Rattle.graph_model.specs.Log.{entry_at}
use Rattle.graph_model.specs.Records.{HasStamp}
use Rattle.graph_model.specs.Soundness.{IsSound, IsSoundOf}
use Rattle.graph_model.specs.Told.{WhereTold}
use Rattle.shard_log.proofs.Beginnings.{begins-append, begins-self}
use Rattle.shard_log.proofs.GrowthLemmas.{entries_stay}
use Rattle.shard_log.specs.View.{Begins, Grows, as_note}
use Rattle.tao_keeper.proofs.Growing.{growing_laws}
use Rattle.tao_keeper.specs.Given.{IsGivenJob}
use Rattle.tao_keeper.specs.KeeperState.{CallsKeeper, IsLater, KeeperState, KeepsTables}
use Rattle.tao_keeper.specs.Growing.{LogsGrow}
use Rattle.tao_keeper.specs.Table.{Becomes, Changes, after_commit}
use Rattle.tao_keeper.specs.declared.jobs.Job.{Job}
use Rattle.tao_keeper.specs.declared.keeper.Commit.{Commit}
use Rattle.tao_keeper.specs.declared.keeper.KeepFail.{KeepFail}
use Rattle.tao_keeper.specs.declared.keeper.KeepFail.TheVariants as keep
use Rattle.write_model.specs.Merges.{merge_of}
use Rattle.write_model.specs.WriteLaws.{StaysSound}
use Rattle.write_model.specs.Writes.{FitsWrite}
use Rattle.shard_tables.proofs.MergeLemmas.{IsMade}
use Rattle.shard_tables.proofs.WriteLemmas.{becomes_from}
use Rattle.shard_tables.specs.Jobs.{AskedMerge, IsOfMerges, MergesAs}
use Rattle.shard_tables.specs.Refusals.{IsOfReads, keeper_refused}
use Rattle.shard_tables.specs.StoreCommits.{HasNoCommit, IsOfCommit, OwesJob}
use Rattle.shard_tables.specs.StoreView.{Store}
use Rattle.shard_tables.specs.Stores.{HasSeen, IsStoreOf, store_with, with_added}
use Rattle.shard_tables.specs.WriteDone.{MergeDone, StoreGains, WriteDone}
use Rattle.shard_tables.specs.Written.{AskedWrite, FindsNothing, HasEntry, IsAdded, LiesOn, StandsIn, WriteAnswers, added_entry}
use Rattle.shard_tables.specs.declared.refusal.StoreRefusal.{StoreRefusal}
use Rattle.shard_tables.specs.declared.refusal.StoreRefusal.TheVariants.{KeeperFault, LogFull, ShardFull, StampFull, TooOld, SeqReused, OutOfMemory}
use Rattle.shard_tables.specs.declared.writes.Wrote.{Wrote}

-- ---- calls, tables and the store

-- calls that are counted from an earlier state on
pub calls_since : {T E : Type 0} (fault : E) (old mid new : KeeperState) (result : Result T E) → IsLater old mid → CallsKeeper fault mid new result
    → CallsKeeper fault old new result
calls_since fault old mid new result before after = record {
  calls = omega (arith, before.calls, after.calls);
  faults = omega (arith, before.faults, after.faults);
  failed = λ is. rose (after.failed is);
}
  where
    rose : Rose mid.faults new.faults → Rose old.faults new.faults
    rose up = omega (arith, before.faults, up)

-- a sound log of a table that stayed
pub sound_stays : (types : EdgeTypes) (tells : Bool) (at : StoreName) (old new : KeeperState) → KeepsTables tells old new
    → WhereTold tells (IsSoundOf types at.shard (old.told at).log) → WhereTold tells (IsSoundOf types at.shard (new.told at).log)
sound_stays types tells at old new stays sound = λ told. subst (λ t. IsSoundOf types at.shard t.log) (sym (stays told at)) (sound told)

-- no log is cut by tables that stay, and by a commit then
pub logs_since : (tells : Bool) (old mid new : KeeperState) → KeepsTables tells old mid → LogsGrow tells mid.told new.told → LogsGrow tells old.told new.told
logs_since tells old mid new stays grow =
    growing_laws.in_turn tells old.told mid.told new.told (growing_laws.stays tells old.told mid.told stays) grow

-- a store's log begins the one with the entry that was added
pub store_grows : (store : Store) (added : Option Entry) → Grows store.view (store_with store added).view
store_grows store added = record { log_is = refl; begins = by added }
  where
    by : (added : Option Entry) → Begins store.view.entries (with_added store.view.entries added)
    by None = begins-self store.view.entries
    by (Some e) = begins-append store.view.entries store.view.entries (e ∷ []) (begins-self store.view.entries)

-- calls of a keeper that failed, by what the store answers for it
pub keeper_calls : {T U : Type 0} (fail : KeepFail) (old new : KeeperState) → CallsKeeper {T = T} keep.Failed old new (Err fail)
    → CallsKeeper {T = U} KeeperFault old new (Err (keeper_refused fail))
keeper_calls keep.Failed old new calls = record { calls = calls.calls; faults = calls.faults; failed = λ is. calls.failed refl }
keeper_calls keep.OutOfMemory old new calls = record { calls = calls.calls; faults = calls.faults; failed = λ is. absurd (cc) }

pub keeper_reads : (fail : KeepFail) → IsOfReads (keeper_refused fail)
keeper_reads keep.Failed = tt
keeper_reads keep.OutOfMemory = tt

-- calls that succeeded, before there was nothing to be committed
pub calls_before : {T : Type 0} (store : Store) (old new : KeeperState) (refusal : StoreRefusal) → HasNoCommit store refusal → IsLater old new
    → CallsKeeper {T = T} KeeperFault old new (Err refusal)
calls_before store old new OutOfMemory wanting later = record { calls = later.calls; faults = later.faults; failed = λ is. absurd (cc) }
calls_before store old new (LogFull count) wanting later = record { calls = later.calls; faults = later.faults; failed = λ is. absurd (cc) }
calls_before store old new KeeperFault wanting later = absurd wanting
calls_before store old new (ShardFull serial) wanting later = absurd wanting
calls_before store old new (StampFull number) wanting later = absurd wanting
calls_before store old new (TooOld cut position) wanting later = absurd wanting
calls_before store old new (SeqReused position) wanting later = absurd wanting

-- a store over tables that stayed
pub store_since : (tells : Bool) (old new : KeeperState) (store : Store) → KeepsTables tells old new → IsStoreOf tells old.told store
    → IsStoreOf tells new.told store
store_since tells old new store stays of = record {
  told_is = of.told_is;
  seen = λ told. subst (λ t. HasSeen store.role t.log store.view.entries) (sym (stays told store.name)) (of.seen told);
}

-- a store that gained nothing, over tables that stayed
pub store_stays : (tells : Bool) (old new : KeeperState) (before after : Store) (result : Result Wrote StoreRefusal) → after ≡ before
    → added_entry result ≡ None → IfOk result (λ wrote. wrote.note ≡ as_note before.view) → KeepsTables tells old new → IsStoreOf tells old.told before
    → StoreGains tells new.told before after result
store_stays tells old new before after result same none note stays of =
    subst (λ s. StoreGains tells new.told before s result) (sym same) (record {
      log = ap (store_with before) (sym none);
      grows = store_grows before None;
      note = note;
      keeper = store_since tells old new before stays of;
    })

-- a store whose call was refused
pub store_refused : (tells : Bool) (old new : KeeperState) (before after : Store) (result : Result Wrote StoreRefusal) → IsErr result → after ≡ before
    → KeepsTables tells old new → IsStoreOf tells old.told before → StoreGains tells new.told before after result
store_refused tells old new before after (Ok wrote) err same stays of = absurd (cc)
store_refused tells old new before after (Err refusal) err same stays of = store_stays tells old new before after (Err refusal) same refl tt stays of

-- a store that had nothing to add
pub store_nothing : (tells : Bool) (old new : KeeperState) (before after : Store) (wrote : Wrote) → wrote.entry ≡ None → wrote.retry ≡ false
    → wrote.note ≡ as_note before.view → after ≡ before → KeepsTables tells old new → IsStoreOf tells old.told before
    → StoreGains tells new.told before after (Ok wrote)
store_nothing tells old new before after wrote none first note same stays of =
    store_stays tells old new before after (Ok wrote) same (ap (λ again. if again then None else wrote.entry) first ∙ none) note stays of

-- ---- a commit

-- an entry that is committed behind a master's log: it stands there, and lies on the store's shard
module _ (tells : Bool) (before after : Store) (commit : Commit) (wrote : Wrote) (is : IsOfCommit commit wrote)
    (log : after ≡ store_with before (added_entry (Ok wrote))) (note : wrote.note ≡ as_note after.view)
    (position : commit.entry.position ≡ length before.view.entries + 1) where
  after_is : after ≡ store_with before (Some commit.entry)
  after_is = log ∙ ap (store_with before) (ap (λ again. if again then None else wrote.entry) is.new ∙ is.entry)

  note_is : wrote.note ≡ as_note (store_with before (Some commit.entry)).view
  note_is = note ∙ ap (λ s. as_note s.view) after_is

  pub commit_stands : IfSome wrote.entry (StandsIn wrote.note)
  commit_stands =
      subst (λ found. IfSome found (StandsIn wrote.note)) (sym is.entry)
      (subst (λ seen. StandsIn seen commit.entry) (sym note_is) (λ heard.
      subst (λ p. entry_at (before.view.entries ++ commit.entry ∷ []) p ≡ Some commit.entry) (sym position)
      (entries_stay.added before.view.entries commit.entry)))

  pub commit_lies : before.view.log.told ≡ tells → WhereTold tells (All (λ t. key_shard t.key ≡ before.name.shard) commit.entry.touches)
      → IfSome wrote.entry (LiesOn wrote.note before.name.shard)
  commit_lies told_is here =
      subst (λ found. IfSome found (LiesOn wrote.note before.name.shard)) (sym is.entry)
      (subst (λ seen. LiesOn seen before.name.shard commit.entry) (sym note_is) (λ heard. here (sym told_is ∙ heard)))

-- an answer whose parts are known
pub wrote_is : (wrote : Wrote) (entry : Option Entry) (retry : Bool) (job : Option Job) → wrote.entry ≡ entry → wrote.retry ≡ retry → wrote.job ≡ job
    → wrote ≡ record { entry = entry; retry = retry; job = job; note = wrote.note }
wrote_is wrote entry retry job p q r = λ i. record { entry = p i; retry = q i; job = r i; note = wrote.note }

-- ---- writes

-- what is committed for a write over this store: an entry that it adds, with the job that it owes
pub record IsWriteCommit (tells : Bool) (asked : AskedWrite) (store : Store) (commit : Commit) : Type 0 where
  pub position : commit.entry.position ≡ length store.view.entries + 1
  pub fits : FitsWrite commit.entry asked.write
  pub owes : OwesJob asked.types commit
  pub given : IfSome commit.job IsGivenJob
  pub added : WhereTold tells (IsAdded asked commit.entry)
  pub stays : WhereTold tells (StaysSound asked.types store.name.shard asked.log commit.entry)

pub has_entry : (write : Write) (e : Entry) → HasEntry write (Some e)
has_entry (ObjAdd shard otype payload) e = tt
has_entry (ObjUpdate id payload) e = tt
has_entry (ObjDelete id) e = tt
has_entry (AssocAdd id1 atype id2 time payload) e = tt
has_entry (AssocDelete id1 atype id2) e = tt
has_entry (AssocChangeType id1 atype id2 newtype) e = tt

-- a refusal for the keeper or as out of memory says nothing of the log
write_refusal : (asked : AskedWrite) (refusal : StoreRefusal) → IsOfReads refusal → WriteAnswers asked (Err refusal)
write_refusal asked KeeperFault is = tt
write_refusal asked OutOfMemory is = tt
write_refusal asked (LogFull count) is = absurd is
write_refusal asked (ShardFull serial) is = absurd is
write_refusal asked (StampFull number) is = absurd is
write_refusal asked (TooOld cut position) is = absurd is
write_refusal asked (SeqReused position) is = absurd is

-- a write at the store of this name
module _ (tells : Bool) (at : StoreName) (asked : AskedWrite) (old new : KeeperState) where
  -- it is refused, and no table changed
  pub write_refused : (result : Result Wrote StoreRefusal) (refusal : StoreRefusal) → result ≡ Err refusal
      → WhereTold tells (WriteAnswers asked (Err refusal)) → WhereTold tells (IsSoundOf asked.types at.shard (old.told at).log) → KeepsTables tells old new
      → CallsKeeper {T = Wrote} KeeperFault old new (Err refusal) → WriteDone tells at asked old new result
  write_refused result refusal is answer sound stays calls = subst (WriteDone tells at asked old new) (sym is) (record {
    answer = answer;
    fits = tt;
    entry = tt;
    job = tt;
    found = λ told. tt;
    given = tt;
    tables = stays;
    logs = growing_laws.stays tells old.told new.told stays;
    stands = tt;
    here = tt;
    sound = sound_stays asked.types tells at old new stays sound;
    calls = calls;
  })

  -- it is refused for the keeper, or as out of memory
  pub write_unread : (result : Result Wrote StoreRefusal) (refusal : StoreRefusal) → result ≡ Err refusal → IsOfReads refusal
      → WhereTold tells (IsSoundOf asked.types at.shard (old.told at).log) → KeepsTables tells old new
      → CallsKeeper {T = Wrote} KeeperFault old new (Err refusal) → WriteDone tells at asked old new result
  write_unread result refusal is reads = write_refused result refusal is (λ told. write_refusal asked refusal reads)

  -- it finds nothing to change
  pub write_nothing : (wrote : Wrote) → wrote.entry ≡ None → wrote.retry ≡ false → wrote.job ≡ None → WhereTold tells (FindsNothing asked)
      → HasEntry asked.write None → WhereTold tells (IsSoundOf asked.types at.shard (old.told at).log) → KeepsTables tells old new → IsLater old new
      → WriteDone tells at asked old new (Ok wrote)
  write_nothing wrote entry_is retry_is job_is nothing needs sound stays later =
      let is = wrote_is wrote None false None entry_is retry_is job_is in
      subst (λ w. WriteDone tells at asked old new (Ok w)) (sym is) (record {
        answer = nothing;
        fits = tt;
        entry = needs;
        job = refl;
        found = λ told. tt;
        given = tt;
        tables = stays;
        logs = growing_laws.stays tells old.told new.told stays;
        stands = tt;
        here = tt;
        sound = sound_stays asked.types tells at old new stays sound;
        calls = record { calls = later.calls; faults = later.faults; failed = λ failed. absurd (cc) };
      })

-- a write whose entry was committed at this store, or was refused by the keeper
module _ (tells : Bool) (asked : AskedWrite) (before after : Store) (old mid new : KeeperState) (commit : Commit)
    (stays : KeepsTables tells old mid) (later : IsLater old mid) (of : IsWriteCommit tells asked before commit)
    (log_is : asked.log ≡ (old.told before.name).log) (told_is : before.view.log.told ≡ tells)
    (sound : WhereTold tells (IsSoundOf asked.types before.name.shard (old.told before.name).log)) where
  committed : (wrote : Wrote) → IsOfCommit commit wrote
      → WhereTold tells (Becomes mid.told new.told before.name (after_commit (mid.told before.name) commit.entry commit.job))
      → StoreGains tells new.told before after (Ok wrote) → LogsGrow tells mid.told new.told → CallsKeeper KeeperFault mid new (Ok wrote)
      → WriteDone tells before.name asked old new (Ok wrote)
  committed wrote is gains store logs calls =
      let here : WhereTold tells (All (λ t. key_shard t.key ≡ before.name.shard) commit.entry.touches) = λ told. (of.stays told).ends.here in
      let stands = commit_stands tells before after commit wrote is store.log store.note of.position in
      let lies = commit_lies tells before after commit wrote is store.log store.note of.position told_is here in
      let plain = wrote_is wrote (Some commit.entry) false commit.job is.entry is.new is.job in
      let becomes : WhereTold tells (Becomes old.told new.told before.name (after_commit (old.told before.name) commit.entry commit.job)) =
      λ told. becomes_from old.told mid.told new.told before.name commit.entry commit.job (stays told) (gains told) in
      subst (λ w. WriteDone tells before.name asked old new (Ok w)) (sym plain) (record {
        answer = of.added;
        fits = of.fits;
        entry = has_entry asked.write commit.entry;
        job = of.owes;
        found = λ told. tt;
        given = of.given;
        tables = subst (λ j. WhereTold tells (Becomes old.told new.told before.name (after_commit (old.told before.name) commit.entry j))) of.owes becomes;
        logs = logs_since tells old mid new stays logs;
        stands = subst (λ found. IfSome found (StandsIn wrote.note)) is.entry stands;
        here = subst (λ found. IfSome found (LiesOn wrote.note before.name.shard)) is.entry lies;
        sound = λ told.
            subst (IsSoundOf asked.types before.name.shard) (ap (λ l. l ++ commit.entry ∷ []) log_is ∙ sym (ap (λ t. t.log) (becomes told).here))
            (of.stays told).sound;
        calls = (let since = calls_since KeeperFault old mid new (Ok wrote) later calls in
            record { calls = since.calls; faults = since.faults; failed = λ failed. absurd (cc) });
      })

  pub write_committed : (result : Result Wrote StoreRefusal) → IfOk result (IsOfCommit commit) → IfErr result IsOfReads
      → WhereTold tells (Changes result mid.told new.told before.name (after_commit (mid.told before.name) commit.entry commit.job))
      → StoreGains tells new.told before after result → LogsGrow tells mid.told new.told → CallsKeeper KeeperFault mid new result
      → WriteDone tells before.name asked old new result
  write_committed (Ok wrote) is refused gains store logs calls = committed wrote is gains store logs calls
  write_committed (Err refusal) is refused same store logs calls =
      write_unread tells before.name asked old new (Err refusal) refusal refl refused sound
      (λ told s. same told s ∙ stays told s) (calls_since KeeperFault old mid new (Err refusal) later calls)

-- ---- merges

-- what is committed for a merge over this store: the entry that merges the records, without a job
pub record IsMergeCommit (tells : Bool) (asked : AskedMerge) (store : Store) (commit : Commit) : Type 0 where
  pub position : commit.entry.position ≡ length store.view.entries + 1
  pub none : commit.job ≡ None
  pub room : WhereTold tells (length asked.log < asked.most)
  pub made : WhereTold tells (IsMade store.name.shard asked.log asked.from asked.job.position asked.job.edges commit.entry)
  pub here : WhereTold tells (All (λ t. key_shard t.key ≡ store.name.shard) commit.entry.touches)

-- a refusal for the keeper or as out of memory is one of merges, and says nothing of the log
merge_refusal : (asked : AskedMerge) (refusal : StoreRefusal) → IsOfReads refusal
    → IsOfMerges refusal × MergesAs asked.most asked.log asked.from asked.job.position asked.job.edges (Err refusal)
merge_refusal asked KeeperFault is = (tt, tt)
merge_refusal asked OutOfMemory is = (tt, tt)
merge_refusal asked (LogFull count) is = absurd is
merge_refusal asked (ShardFull serial) is = absurd is
merge_refusal asked (StampFull number) is = absurd is
merge_refusal asked (TooOld cut position) is = absurd is
merge_refusal asked (SeqReused position) is = absurd is

-- a merge at the store of this name
module _ (tells : Bool) (at : StoreName) (asked : AskedMerge) (old new : KeeperState) where
  -- it is refused, and no table changed
  pub merge_refused : (result : Result Wrote StoreRefusal) (refusal : StoreRefusal) → result ≡ Err refusal → IsOfMerges refusal
      → WhereTold tells (MergesAs asked.most asked.log asked.from asked.job.position asked.job.edges (Err refusal)) → KeepsTables tells old new
      → CallsKeeper {T = Wrote} KeeperFault old new (Err refusal) → MergeDone tells at asked old new result
  merge_refused result refusal is refusals answer stays calls = subst (MergeDone tells at asked old new) (sym is) (record {
    answer = answer;
    refusals = refusals;
    first = tt;
    job = tt;
    tables = stays;
    logs = growing_laws.stays tells old.told new.told stays;
    stands = tt;
    here = tt;
    sound = λ told types sound. subst (λ t. IsSoundOf types at.shard t.log) (sym (stays told at)) sound;
    merged = λ told. tt;
    calls = calls;
  })

  -- it is refused for the keeper, or as out of memory
  pub merge_unread : (result : Result Wrote StoreRefusal) (refusal : StoreRefusal) → result ≡ Err refusal → IsOfReads refusal → KeepsTables tells old new
      → CallsKeeper {T = Wrote} KeeperFault old new (Err refusal) → MergeDone tells at asked old new result
  merge_unread result refusal is reads =
      let says = merge_refusal asked refusal reads in
      merge_refused result refusal is says.0 (λ told. says.1)

  -- all of the records stand there already
  pub merge_nothing : (wrote : Wrote) → wrote.entry ≡ None → wrote.retry ≡ false → wrote.job ≡ None
      → WhereTold tells (merge_of asked.log asked.from asked.job.position asked.job.edges ≡ None)
      → WhereTold tells (All (HasStamp (old.told at).log) asked.job.edges) → KeepsTables tells old new → IsLater old new
      → MergeDone tells at asked old new (Ok wrote)
  merge_nothing wrote entry_is retry_is job_is nothing merged stays later =
      let is = wrote_is wrote None false None entry_is retry_is job_is in
      subst (λ w. MergeDone tells at asked old new (Ok w)) (sym is) (record {
        answer = λ told. (sym (nothing told), tt);
        refusals = tt;
        first = refl;
        job = refl;
        tables = stays;
        logs = growing_laws.stays tells old.told new.told stays;
        stands = tt;
        here = tt;
        sound = λ told types sound. subst (λ t. IsSoundOf types at.shard t.log) (sym (stays told at)) sound;
        merged = λ told. subst (λ t. All (HasStamp t.log) asked.job.edges) (sym (stays told at)) (merged told);
        calls = record { calls = later.calls; faults = later.faults; failed = λ failed. absurd (cc) };
      })

-- a merge whose entry was committed at this store, or was refused by the keeper
module _ (tells : Bool) (asked : AskedMerge) (before after : Store) (old mid new : KeeperState) (commit : Commit)
    (stays : KeepsTables tells old mid) (later : IsLater old mid) (of : IsMergeCommit tells asked before commit)
    (log_is : asked.log ≡ (old.told before.name).log) (told_is : before.view.log.told ≡ tells) (sound : WhereTold tells (IsSound asked.log)) where
  merge_made : (wrote : Wrote) → IsOfCommit commit wrote
      → WhereTold tells (Becomes mid.told new.told before.name (after_commit (mid.told before.name) commit.entry commit.job))
      → StoreGains tells new.told before after (Ok wrote) → LogsGrow tells mid.told new.told → CallsKeeper KeeperFault mid new (Ok wrote)
      → MergeDone tells before.name asked old new (Ok wrote)
  merge_made wrote is gains store logs calls =
      let stands = commit_stands tells before after commit wrote is store.log store.note of.position in
      let lies = commit_lies tells before after commit wrote is store.log store.note of.position told_is of.here in
      let plain = wrote_is wrote (Some commit.entry) false None is.entry is.new (is.job ∙ of.none) in
      let becomes : WhereTold tells (Becomes old.told new.told before.name (after_commit (old.told before.name) commit.entry commit.job)) =
      λ told. becomes_from old.told mid.told new.told before.name commit.entry commit.job (stays told) (gains told) in
      let grown : tells ≡ true → asked.log ++ commit.entry ∷ [] ≡ (new.told before.name).log =
      λ told. ap (λ l. l ++ commit.entry ∷ []) log_is ∙ sym (ap (λ t. t.log) (becomes told).here) in
      subst (λ w. MergeDone tells before.name asked old new (Ok w)) (sym plain) (record {
        answer = λ told. (sym (of.made told).is, of.room told);
        refusals = tt;
        first = refl;
        job = refl;
        tables = subst (λ j. WhereTold tells (Becomes old.told new.told before.name (after_commit (old.told before.name) commit.entry j))) of.none becomes;
        logs = logs_since tells old mid new stays logs;
        stands = subst (λ found. IfSome found (StandsIn wrote.note)) is.entry stands;
        here = subst (λ found. IfSome found (LiesOn wrote.note before.name.shard)) is.entry lies;
        sound = λ told types was.
            subst (IsSoundOf types before.name.shard) (grown told)
            ((of.made told).sound types (subst (IsSoundOf types before.name.shard) (sym log_is) was));
        merged = λ told. subst (λ l. All (HasStamp l) asked.job.edges) (grown told) ((of.made told).done (sound told));
        calls = (let since = calls_since KeeperFault old mid new (Ok wrote) later calls in
            record { calls = since.calls; faults = since.faults; failed = λ failed. absurd (cc) });
      })

  pub merge_committed : (result : Result Wrote StoreRefusal) → IfOk result (IsOfCommit commit) → IfErr result IsOfReads
      → WhereTold tells (Changes result mid.told new.told before.name (after_commit (mid.told before.name) commit.entry commit.job))
      → StoreGains tells new.told before after result → LogsGrow tells mid.told new.told → CallsKeeper KeeperFault mid new result
      → MergeDone tells before.name asked old new result
  merge_committed (Ok wrote) is refused gains store logs calls = merge_made wrote is gains store logs calls
  merge_committed (Err refusal) is refused same store logs calls =
      merge_unread tells before.name asked old new (Err refusal) refusal refl refused (λ told s. same told s ∙ stays told s)
      (calls_since KeeperFault old mid new (Err refusal) later calls)
