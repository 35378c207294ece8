-- What a commit at the leader and the store answers, said of the notes alone; and that a keeper which failed may fail.
use Rattle.std.proofs.Common.{◌≡◌, ◌≢◌, ℕ, Bool, true, false, List, [], ◌∷◌, Option, Some, None, length, Result, Ok, Err, ap, refl, subst, sym, ◌∙◌}
use Rattle.std.specs.Prelude.{IfSome}
use Rattle.core_model.specs.Asked.{AuthoredWrite}
use Rattle.core_model.specs.Jobs.{far_shard}
use Rattle.graph_model.specs.Log.{entry_at}
use Rattle.graph_model.specs.Soundness.{EdgeUpdate, IsSound}
use Rattle.graph_model.specs.Told.{WhereTold}
use Rattle.log_names.specs.Names.{IsOfLog, LogNames}
use Rattle.shard_log.proofs.Beginnings.{begins-length}
use Rattle.shard_log.proofs.GrowthLemmas.{grows-trans}
use Rattle.shard_log.specs.View.{Grows, View}
use Rattle.shard_tables.specs.Jobs.{OpensJob}
use Rattle.shard_tables.specs.StoreView.{Store}
use Rattle.shard_tables.specs.Stores.{HasSeen}
use Rattle.shard_tables.specs.WriteDone.{StoreGains, WriteDone, asked_at}
use Rattle.shard_tables.specs.Written.{AnswersAs, AskedWrite, LiesOn, StandsIn, WriteAnswers}
use Rattle.shard_tables.specs.declared.refusal.StoreRefusal.{StoreRefusal}
use Rattle.shard_tables.specs.declared.refusal.StoreRefusal.TheVariants.{KeeperFault, LogFull, ShardFull, StampFull, TooOld, SeqReused, OutOfMemory}
use Rattle.shard_tables.specs.declared.store.StoreRole.{StoreRole}
use Rattle.shard_tables.specs.declared.store.StoreRole.TheVariants.{Master}
use Rattle.shard_tables.specs.declared.writes.Wrote.{Wrote}
use Rattle.shared_stores.specs.Asked.{asked_of_seen}
use Rattle.shared_stores.specs.Making.{Making}
use Rattle.shared_stores.specs.Owed.{IsOwed, owed_by}
use Rattle.tao_base.specs.EdgeTypes.{EdgeTypes}
use Rattle.tao_base.specs.Writes.{write_kind, write_shard}
use Rattle.tao_base.specs.declared.entry.Entry.{Entry}
use Rattle.tao_base.specs.declared.id.StoreName.{StoreName}
use Rattle.tao_keeper.specs.KeeperState.{CallsKeeper, KeeperState}
use Rattle.tao_keeper.specs.Table.{Tables, job_from}
use Rattle.tao_keeper.specs.declared.jobs.Job.{Job}
use Rattle.tao_schema.specs.Schema.{types_of}
use Rattle.write_model.proofs.Written.{given_entry}
use Rattle.write_model.specs.Merges.{job_of}
use Rattle.write_model.specs.Writes.{touches_of}
use Rattle.store_replies.specs.Refused.{refused_as}
use Rattle.replies.specs.declared.refusals.Refusal.{Refusal}
use Rattle.locked_nodes.proofs.Refusing.{may_fail}
use Rattle.locked_nodes.specs.Cluster.{MayFail}
use Rattle.locked_writes.proofs.Origins.{once_at}
use Rattle.locked_writes.specs.Writes.{CommitsIn, RefusesSeen, SeenWhereTold, StandsOnce}

-- ---- the entry

-- an entry that is answered has the origin of the write
origin_of : (asked : AskedWrite) (retry : Bool) (e : Entry) → AnswersAs asked retry (Some e) → e.origin ≡ asked.origin
origin_of asked true e is = is.stands.origin_is
origin_of asked false e is =
    ap (λ (x : Entry). x.origin)
    (sym (given_entry asked.log (write_kind asked.write) asked.origin (touches_of asked.types asked.epoch asked.log asked.write) e is.next.forward).1)

-- and is the only one of it
stands_once : (asked : AskedWrite) (retry : Bool) (entry : Option Entry) (log : List Entry) → IsSound log → AnswersAs asked retry entry
    → IfSome entry (λ e. entry_at log e.position ≡ Some e) → IfSome entry (StandsOnce log asked.origin)
stands_once asked retry None log sound is stands = tt
stands_once asked retry (Some e) log sound is stands =
    let own : e.origin ≡ asked.origin = origin_of asked retry e is in
    record {
      stands = stands;
      origin_is = own;
      once = λ position other at same. once_at log sound position e.position other e at stands (same ∙ sym own);
    }

-- a new write that answers with no job owes nothing
no_records : (position : ℕ) (us : List EdgeUpdate) → None ≡ job_from position us → us ≡ []
no_records position [] none = refl
no_records position (u ∷ us) none = absurd (cc)

owes_nothing : (types : EdgeTypes) (retry : Bool) (entry : Option Entry) (job : Option Job) → OpensJob types retry entry job → retry ≡ false → job ≡ None
    → IfSome entry (λ e. job_of types e ≡ [])
owes_nothing types true entry job opens new none = absurd (cc)
owes_nothing types false None job opens new none = tt
owes_nothing types false (Some e) job opens new none = no_records e.position (job_of types e) (sym none ∙ opens)

-- ---- the store

-- a master's store has seen its keeper's log, after a write too
whole_log : (tells : Bool) (tables : Tables) (store after : Store) (r : Result Wrote StoreRefusal) → store.role ≡ Master → StoreGains tells tables store after r
    → WhereTold tells (after.view.entries ≡ (tables store.name).log)
whole_log tells tables store after r master gains = λ told.
    let role : after.role ≡ Master = ap (λ (s : Store). s.role) gains.log ∙ master in
    let name : after.name ≡ store.name = ap (λ (s : Store). s.name) gains.log in
    let seen : HasSeen Master (tables after.name).log after.view.entries =
    subst (λ (q : StoreRole). HasSeen q (tables after.name).log after.view.entries) role (gains.keeper.seen told) in
    subst (λ (n : StoreName). after.view.entries ≡ (tables n).log) name seen

module _ (tells : Bool) (m : Making) (log : LogNames) (call : AuthoredWrite) (held seen : View) (store after : Store) (old new : KeeperState) where
  pub committed : (wrote : Wrote) → IsOfLog log (write_shard call.write) held → store.role ≡ Master → write_shard call.write ≡ store.name.shard
      → WhereTold tells (WriteAnswers (asked_of_seen m (write_shard call.write) seen.entries call) (Ok wrote)) → Grows held seen → Grows seen wrote.note
      → IfSome wrote.job (λ job. IfSome wrote.entry (λ e. far_shard job ≢ write_shard call.write
      → IsOwed tells (types_of m.settings.schema) (owed_by (write_shard call.write) job e)))
      → WriteDone tells store.name (asked_at (types_of m.settings.schema) old.told store call.origin call.write) old new (Ok wrote)
      → StoreGains tells new.told store after (Ok wrote) → CommitsIn tells m log call held wrote
  committed wrote of_log master here answer grows later owes done gains =
      let told_is : wrote.note.log.told ≡ tells = ap (λ (v : View). v.log.told) gains.note ∙ gains.keeper.told_is in
      let whole : WhereTold tells (wrote.note.entries ≡ (new.told store.name).log) =
      λ told. ap (λ (v : View). v.entries) gains.note ∙ whole_log tells new.told store after (Ok wrote) master gains told in
      record {
        log_is = later.log_is ∙ grows.log_is ∙ of_log;
        told_is = told_is;
        grows = grows-trans held seen wrote.note grows later;
        answers = λ told. record {
          n = length seen.entries;
          since = begins-length held.entries seen.entries grows.begins;
          answers = subst (λ (es : List Entry). AnswersAs (asked_of_seen m (write_shard call.write) es call) wrote.retry wrote.entry) later.begins
              (answer told);
        };
        once = λ told.
            let sound : IsSound wrote.note.entries = subst IsSound (sym (whole told)) (done.sound told).sound in
            let stands : IfSome wrote.entry (λ e. entry_at wrote.note.entries e.position ≡ Some e) = stands_where wrote.entry (told_is ∙ told) done.stands in
            stands_once (asked_of_seen m (write_shard call.write) seen.entries call) wrote.retry wrote.entry wrote.note.entries sound (answer told) stands;
        stands = done.stands;
        lies = subst (λ (n : ℕ). IfSome wrote.entry (LiesOn wrote.note n)) (sym here) done.here;
        fits = done.fits;
        has = done.entry;
        owes = owes;
        paid = owes_nothing (types_of m.settings.schema) wrote.retry wrote.entry wrote.job done.job;
      }
    where
      stands_where : (entry : Option Entry) → wrote.note.log.told ≡ true → IfSome entry (StandsIn wrote.note)
          → IfSome entry (λ e. entry_at wrote.note.entries e.position ≡ Some e)
      stands_where None told is = tt
      stands_where (Some e) told is = is told

-- ---- refusals

-- how a store's refusal of a write is said
refused_so : (tells : Bool) (asked : AskedWrite) (fails : Type 0) (faults : ℕ) (refusal : StoreRefusal) → WhereTold tells (WriteAnswers asked (Err refusal))
    → (refusal ≡ KeeperFault → fails) → RefusesSeen (SeenWhereTold tells asked) fails (refused_as faults refusal)
refused_so tells asked fails faults KeeperFault answers failed = failed refl
refused_so tells asked fails faults OutOfMemory answers failed = refl
refused_so tells asked fails faults (LogFull count) answers failed = answers
refused_so tells asked fails faults (ShardFull serial) answers failed = answers
refused_so tells asked fails faults (StampFull number) answers failed = answers
refused_so tells asked fails faults (TooOld cut position) answers failed = answers
refused_so tells asked fails faults (SeqReused position) answers failed = answers

-- why a commit is refused
pub commit_refused : {M : Type 0} (state : M → KeeperState) (before after : M) (tells : Bool) (asked : AskedWrite) (r : Result Wrote StoreRefusal)
    (refusal : StoreRefusal) (faults : ℕ) (said : Refusal) → r ≡ Err refusal → WhereTold tells (WriteAnswers asked r)
    → CallsKeeper KeeperFault (state before) (state after) r → said ≡ refused_as faults refusal
    → RefusesSeen (SeenWhereTold tells asked) (MayFail state) said
commit_refused state before after tells asked r refusal faults said err answers calls is =
    subst (RefusesSeen (SeenWhereTold tells asked) (MayFail state)) (sym is)
    (refused_so tells asked (MayFail state) faults refusal (λ told. subst (WriteAnswers asked) err (answers told))
    (λ fault. may_fail state before after r calls (err ∙ ap Err fault)))
