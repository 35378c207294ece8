-- A job whose entry was seen may be merged at the master where it is owed, which stays one of its cluster, and then has all of the job.
use Rattle.std.proofs.Common.{◌≡◌, ◌≢◌, ℕ, ◌<◌, Bool, true, false, List, length, Option, Some, None, Result, Ok, Err, IfOk, refl, ap, sym, subst, ◌∙◌, arith}
use Rattle.std.proofs.lemmas.List.Elements.{All-contains}
use Rattle.std.specs.Prelude.{All, if◌then◌else◌}
use Rattle.node_stages.proofs.core_model_lemmas.OwedJobs.{first_record}
use Rattle.graph_model.specs.Log.{entry_at}
use Rattle.graph_model.specs.Records.{HasStamp}
use Rattle.graph_model.specs.Soundness.{EdgeUpdate}
use Rattle.graph_model.specs.Told.{WhereTold}
use Rattle.locked_model.specs.Locked.{IsKept, SeesOwed}
use Rattle.locked_model.specs.LockedLaws.{LockedMergesKeep}
use Rattle.log_names.specs.Names.{LogNames}
use Rattle.shard_log.specs.View.{View}
use Rattle.shard_tables.proofs.WriteLemmas.{has_all}
use Rattle.shard_tables.specs.Jobs.{MergesAs}
use Rattle.shard_tables.specs.StoreView.{Store}
use Rattle.shard_tables.specs.WriteDone.{MergeDone, StoreGains, asked_merge_at}
use Rattle.shard_tables.specs.Written.{TableGains, added_entry}
use Rattle.shard_tables.specs.declared.refusal.StoreRefusal.{StoreRefusal}
use Rattle.shard_tables.specs.declared.store.StoreRole.TheVariants.{Master}
use Rattle.shard_tables.specs.declared.writes.Wrote.{Wrote}
use Rattle.tao_base.specs.EdgeTypes.{EdgeTypes, InversesMatch}
use Rattle.tao_base.specs.Ids.{shard_of}
use Rattle.tao_base.specs.declared.entry.Entry.{Entry}
use Rattle.tao_keeper.specs.KeeperState.{KeeperState}
use Rattle.tao_keeper.specs.Table.{Becomes, Tables, after_commit}
use Rattle.tao_schema.specs.Schema.{types_of}
use Rattle.write_model.proofs.Covered.{at_place}
use Rattle.write_model.proofs.FarJobs.{jobs_are_far}
use Rattle.write_model.proofs.MergeOf.{jobs_may_be_merged}
use Rattle.write_model.specs.MergeLaws.{IsFarEntry, IsMergeable, MayBeMerged}
use Rattle.write_model.specs.Merges.{JobSource, job_of, merge_of, number_in}
use Rattle.shared_stores.proofs.Kept.{gains_own, kept_gains, other_log, own_log, stays_known}
use Rattle.shared_stores.specs.Locked.{IsSharedStore, entries_seen, known, locked}
use Rattle.shared_stores.specs.Making.{Making}
use Rattle.shared_stores.specs.Owed.{IsDoneIn, IsOwed, Owed}

-- in the first epoch a merge names an entry by its position
first_number : (position : ℕ) → number_in 0 position ≡ position
first_number position = omega arith

-- a job that is owed to the master's shard, and whose entry was seen
module _ (tells : Bool) (m : Making) (log : LogNames) (store : Store) (before : KeeperState) (notes : List View)
    (is : IsSharedStore tells m log (locked store before.told notes)) (master : store.role ≡ Master) (owed : Owed) (here : owed.to ≡ store.name.shard)
    (match : InversesMatch (types_of m.settings.schema)) (law : LockedMergesKeep) (owes : IsOwed tells (types_of m.settings.schema) owed)
    (seen : WhereTold tells (entry_at (entries_seen notes owed.from) owed.entry.position ≡ Some owed.entry)) where
  abbrev types : EdgeTypes
  types = types_of m.settings.schema

  abbrev old : Tables
  old = before.told

  abbrev source : JobSource
  source = record { shard = owed.from; epoch = 0; entry = owed.entry; other = store.name.shard }

  away : owed.from ≢ store.name.shard
  away same = owes.away (same ∙ sym here)

  -- so the store sees it
  sees : tells ≡ true → SeesOwed types (known m (locked store old notes)) source
  sees told = record {
    epoch_is = refl;
    stands = subst (λ l. entry_at l owed.entry.position ≡ Some owed.entry) (sym (other_log m store notes old owed.from away)) (seen told);
    there = subst (λ shard. All (λ u. shard_of u.0 ≡ shard) (job_of types owed.entry)) here (owes.owes told).there;
    away = away;
  }

  -- what is so of the entry is so of the job
  of_job : tells ≡ true → (P : ℕ → List EdgeUpdate → Type 0) → P (number_in 0 owed.entry.position) (job_of types owed.entry)
      → P owed.job.position owed.job.edges
  of_job told P p =
      let its = owes.owes told in
      subst (P owed.job.position) (sym its.records_are)
      (subst (λ n. P n (job_of types owed.entry)) (first_number owed.entry.position ∙ sym its.position_is) p)

  of_entry : tells ≡ true → (P : ℕ → List EdgeUpdate → Type 0) → P owed.job.position owed.job.edges
      → P (number_in 0 owed.entry.position) (job_of types owed.entry)
  of_entry told P p =
      let its = owes.owes told in
      subst (λ n. P n (job_of types owed.entry)) (its.position_is ∙ sym (first_number owed.entry.position))
      (subst (P owed.job.position) its.records_are p)

  far : tells ≡ true → IsFarEntry types owed.from store.name.shard owed.entry
  far told =
      let was = (is.master told master).kept in
      let one = first_record (job_of types owed.entry) (of_entry told (λ n us. 0 < length us) owes.given.some) in
      let sound = was.sound owed.from in
      let stands = (sees told).stands in
      let place = at_place types owed.from ((known m (locked store old notes)).log owed.from) owed.entry.position owed.entry sound stands in
      let found = (jobs_are_far owed.from ((known m (locked store old notes)).log owed.from)).far types sound place.0 owed.entry one.0 place.1 one.1 in
      let lies = All-contains (λ u. shard_of u.0 ≡ store.name.shard) (job_of types owed.entry) one.0 (sees told).there one.1 in
      subst (λ shard. IsFarEntry types owed.from shard owed.entry) lies found

  mergeable : tells ≡ true → IsMergeable types ((known m (locked store old notes)).log store.name.shard) source
  mergeable told = record {
    inverses = match;
    sound = (is.master told master).kept.sound store.name.shard;
    far = far told;
    origin = law.may types (known m (locked store old notes)) source (is.master told master).kept (sees told);
  }

  pub may_merge : WhereTold tells (MayBeMerged store.name.shard (old store.name).log owed.from owed.job.position owed.job.edges)
  may_merge told =
      subst (λ l. MayBeMerged store.name.shard l owed.from owed.job.position owed.job.edges) (own_log m store notes old)
      (of_job told (MayBeMerged store.name.shard ((known m (locked store old notes)).log store.name.shard) owed.from)
      (jobs_may_be_merged.may types ((known m (locked store old notes)).log store.name.shard) source (mergeable told)))

  module _ (new : Tables) where
    merged_keeps : (e : Entry) → merge_of (old store.name).log owed.from owed.job.position owed.job.edges ≡ Some e → tells ≡ true
        → Becomes old new store.name (after_commit (old store.name) e None) → IsKept types store.name.shard (known m (locked store new notes))
    merged_keeps e made told gains =
        law.keep types (known m (locked store old notes)) (known m (locked store new notes)) source e match (is.master told master).kept (sees told)
        (subst (λ l. merge_of l owed.from (number_in 0 owed.entry.position) (job_of types owed.entry) ≡ Some e) (sym (own_log m store notes old))
        (of_entry told (λ n us. merge_of (old store.name).log owed.from n us ≡ Some e) made))
        (gains_own m store notes old new e None gains) (ap (λ t. t.jobs) gains.here)

    keeps : (entry : Option Entry) → entry ≡ merge_of (old store.name).log owed.from owed.job.position owed.job.edges → tells ≡ true
        → TableGains old new store.name entry None → IsKept types store.name.shard (known m (locked store new notes))
    keeps None made told gains = stays_known tells m log store old new notes is master told gains
    keeps (Some e) made told gains = merged_keeps e (sym made) told gains

    wrote_keeps : (most : ℕ) (r : Result Wrote StoreRefusal) → tells ≡ true
        → MergesAs most (old store.name).log owed.from owed.job.position owed.job.edges r → IfOk r (λ wrote. wrote.retry ≡ false)
        → TableGains old new store.name (added_entry r) None → IsKept types store.name.shard (known m (locked store new notes))
    wrote_keeps most (Ok wrote) told answer first gains =
        keeps (if wrote.retry then None else wrote.entry) (ap (λ b. if b then None else wrote.entry) first ∙ answer.0) told gains
    wrote_keeps most (Err refusal) told answer first gains = stays_known tells m log store old new notes is master told gains

  -- what the merge leaves
  module _ (after : Store) (later : KeeperState) where
    pub kept_merge : (r : Result Wrote StoreRefusal) → MergeDone tells store.name (asked_merge_at old store owed.from owed.job) before later r
        → StoreGains tells later.told store after r → IsSharedStore tells m log (locked after later.told notes)
    kept_merge r done made =
        kept_gains tells m log store old later.told notes is master after (added_entry r) None made.log done.tables
        (λ told. wrote_keeps later.told store.log_max r told (done.answer told) done.first (done.tables told))

    pub all_merged : (r : Result Wrote StoreRefusal) → MergeDone tells store.name (asked_merge_at old store owed.from owed.job) before later r
        → StoreGains tells later.told store after r → IfOk r (λ wrote. IsDoneIn m log wrote.note owed)
    all_merged (Ok wrote) done made = record {
      log_is = ap (λ v. v.log) made.note ∙ made.grows.log_is ∙ is.log_is ∙ ap log (sym here);
      done = λ heard.
          (let told : tells ≡ true = sym made.keeper.told_is ∙ ap (λ v. v.log.told) (sym made.note) ∙ heard in
          let role : after.role ≡ Master = ap (λ x. x.role) made.log ∙ master in
          let log_is : (later.told store.name).log ≡ wrote.note.entries =
          ap (λ x. (later.told x.name).log) (sym made.log) ∙ sym (has_all tells later.told after role made.keeper told) ∙ ap (λ v. v.entries) (sym made.note) in
          subst (λ l. All (HasStamp l) (job_of types owed.entry)) log_is
          (subst (All (HasStamp (later.told store.name).log)) (owes.owes told).records_are (done.merged told)));
    }
    all_merged (Err refusal) done made = tt
