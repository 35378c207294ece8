-- The job in the answer of a master's write is owed, where its records lie on another shard.
use Rattle.std.proofs.Common.{◌≡◌, ◌≢◌, ℕ, ◌+◌, Bool, true, false, List, [], ◌∷◌, length, Option, Some, None, Result, Ok, Err, All, IfOk, IfSome}
use Rattle.std.proofs.Common.{ap, sym, subst, ◌∙◌}
use Rattle.std.proofs.Math.Logic.{∥∥₁_elim}
use Rattle.std.proofs.Props.{props}
use Rattle.std.proofs.lemmas.Option.{same_Some}
use Rattle.std.specs.Option.{option_map}
use Rattle.std.specs.Prelude.{Contains, if◌then◌else◌, unwrap_or}
use Rattle.node_stages.proofs.core_model_lemmas.OwedJobs.{first_record}
use Rattle.node_stages.specs.core_model.Jobs.{far_shard}
use Rattle.graph_model.proofs.EntryLemmas.{entry_at-last}
use Rattle.graph_model.specs.Log.{entry_at}
use Rattle.graph_model.specs.Soundness.{EdgeUpdate, IsSoundOf}
use Rattle.graph_model.specs.Told.{WhereTold}
use Rattle.log_names.specs.Names.{LogNames}
use Rattle.shard_log.specs.View.{View}
use Rattle.shard_tables.specs.Jobs.{FindsJob, HasOpenJob, OpensJob, job_with}
use Rattle.shard_tables.specs.StoreView.{Store}
use Rattle.shard_tables.specs.WriteDone.{WriteDone, asked_at}
use Rattle.shard_tables.specs.Written.{TableGains}
use Rattle.shard_tables.specs.declared.refusal.StoreRefusal.{StoreRefusal}
use Rattle.shard_tables.specs.declared.store.StoreRole.TheVariants.{Master}
use Rattle.shard_tables.specs.declared.writes.Wrote.{Wrote}
use Rattle.tao_base.specs.EdgeTypes.{EdgeTypes}
use Rattle.tao_base.specs.Ids.{shard_of}
use Rattle.tao_base.specs.declared.entry.Entry.{Entry}
use Rattle.tao_base.specs.declared.entry.Origin.{Origin}
use Rattle.tao_base.specs.declared.write.Write.{Write}
use Rattle.tao_keeper.specs.Given.{IsGivenJob}
use Rattle.tao_keeper.specs.KeeperState.{KeeperState}
use Rattle.tao_keeper.specs.Table.{Jobs, Tables, job_from}
use Rattle.tao_keeper.specs.declared.jobs.Job.{Job}
use Rattle.tao_schema.specs.Schema.{types_of}
use Rattle.write_model.proofs.Covered.{at_place}
use Rattle.write_model.proofs.FarJobs.{jobs_are_far}
use Rattle.write_model.specs.Merges.{HasItsJobs, job_of}
use Rattle.shared_stores.proofs.Kept.{own_log, sound_own}
use Rattle.shared_stores.specs.Locked.{IsSharedStore, locked}
use Rattle.shared_stores.specs.Making.{Making}
use Rattle.shared_stores.specs.Owed.{IsOwed, OwesItsJob, owed_by}

-- the job that is opened at a position has these records
opened_as : (position : ℕ) (us : List EdgeUpdate) (job : Job) → Some job ≡ job_from position us → (job.position ≡ position) × (job.edges ≡ us)
opened_as position [] job is = absurd (cc)
opened_as position (u ∷ us) job is = (cc, cc)

-- a job with the records of an entry of a sound log is owed where these lie
module _ (types : EdgeTypes) (shard : ℕ) (log : List Entry) (sound : IsSoundOf types shard log) (position : ℕ) (e : Entry)
    (stands : entry_at log position ≡ Some e) (job : Job) (given : IsGivenJob job) where
  owes_its : job.position ≡ e.position → job.edges ≡ job_of types e → OwesItsJob types (owed_by shard job e)
  owes_its at records =
      let place = at_place types shard log position e sound stands in
      let one = first_record job.edges given.some in
      let u : EdgeUpdate = one.0 in
      let far = (jobs_are_far shard log).far types sound place.0 e u place.1 (subst (λ us. Contains us u) records one.1) in
      let to : shard_of u.0 ≡ far_shard job = sym (ap (λ o. unwrap_or (option_map (λ x. shard_of x.0) o) 0) one.2) in
      record { position_is = at; records_are = records; there = subst (λ s. All (λ x. shard_of x.0 ≡ s) (job_of types e)) to far.there }

  -- as one that is open at its position is
  owes_open : (jobs : Jobs) → HasItsJobs types log jobs → job.position ≡ position → jobs position ≡ Some job.edges → OwesItsJob types (owed_by shard job e)
  owes_open jobs has at open_is =
      let records : job.edges ≡ job_of types e =
      ∥∥₁_elim (has position job.edges open_is) (hlevel props)
      (λ found. found.job_is ∙ ap (job_of types) (same_Some found.entry e (sym found.stands ∙ stands))) in
      owes_its (at ∙ sym (at_place types shard log position e sound stands).2) records

-- a write at a master under its lock
module _ (tells : Bool) (m : Making) (log : LogNames) (store : Store) (old new : Tables) (notes : List View)
    (is : IsSharedStore tells m log (locked store old notes)) (master : store.role ≡ Master) where
  abbrev types : EdgeTypes
  types = types_of m.settings.schema

  -- its jobs are those of its log
  its_jobs : tells ≡ true → HasItsJobs types (old store.name).log (old store.name).jobs
  its_jobs told =
      subst (λ l. HasItsJobs types l (old store.name).jobs) (own_log m store notes old) (is.master told master).kept.covered.jobs

  found_owes : (e : Entry) (job : Job) → IsGivenJob job → HasOpenJob (old store.name) e (Some job) → tells ≡ true
      → OwesItsJob types (owed_by store.name.shard job e)
  found_owes e job given finds told =
      owes_open types store.name.shard (old store.name).log (sound_own tells m log store old notes is master told) finds.position e finds.stands job given
      (old store.name).jobs (its_jobs told) finds.job_is.0 finds.job_is.1

  module _ (sound : WhereTold tells (IsSoundOf types store.name.shard (new store.name).log)) where
    new_owes : (e : Entry) (job : Job) → IsGivenJob job → OpensJob types false (Some e) (Some job) → tells ≡ true
        → TableGains old new store.name (Some e) (job_with types (Some e)) → OwesItsJob types (owed_by store.name.shard job e)
    new_owes e job given opens told gains =
        let opened = opened_as e.position (job_of types e) job opens in
        let stands : entry_at (new store.name).log (length (old store.name).log + 1) ≡ Some e =
        subst (λ l. entry_at l (length (old store.name).log + 1) ≡ Some e) (sym (ap (λ t. t.log) gains.here)) (entry_at-last (old store.name).log e) in
        owes_its types store.name.shard (new store.name).log (sound told) (length (old store.name).log + 1) e stands job given opened.0 opened.1

    answer_owes : (retry : Bool) (entry : Option Entry) (job : Option Job) → OpensJob types retry entry job
        → WhereTold tells (FindsJob (old store.name) retry entry job) → IfSome job IsGivenJob
        → WhereTold tells (TableGains old new store.name (if retry then None else entry) (job_with types (if retry then None else entry)))
        → IfSome job (λ j. IfSome entry (λ e. far_shard j ≢ store.name.shard → IsOwed tells types (owed_by store.name.shard j e)))
    answer_owes retry entry None opens finds given gains = tt
    answer_owes retry None (Some job) opens finds given gains = tt
    answer_owes true (Some e) (Some job) opens finds given gains =
        λ apart. record { given = given; away = λ same. apart (sym same); owes = λ told. found_owes e job given (finds told) told }
    answer_owes false (Some e) (Some job) opens finds given gains =
        λ apart. record { given = given; away = λ same. apart (sym same); owes = λ told. new_owes e job given opens told (gains told) }

-- a job that is answered is owed, where its records lie on another shard
pub owes_written : (tells : Bool) (m : Making) (log : LogNames) (store : Store) (old new : KeeperState) (notes : List View)
    → IsSharedStore tells m log (locked store old.told notes) → store.role ≡ Master → (origin : Origin) (write : Write) (r : Result Wrote StoreRefusal)
    → WriteDone tells store.name (asked_at (types_of m.settings.schema) old.told store origin write) old new r
    → IfOk r (λ wrote. IfSome wrote.job (λ job. IfSome wrote.entry (λ e. far_shard job ≢ store.name.shard
    → IsOwed tells (types_of m.settings.schema) (owed_by store.name.shard job e))))
owes_written tells m log store old new notes is master origin write (Ok wrote) done =
    answer_owes tells m log store old.told new.told notes is master done.sound wrote.retry wrote.entry wrote.job done.job done.found done.given done.tables
owes_written tells m log store old new notes is master origin write (Err refusal) done = tt
