-- A master under its lock stays one of its cluster after a write.
use Rattle.std.proofs.Common.{◌≡◌, ◌≢◌, ℕ, ◌+◌, ◌<◌, Bool, true, false, List, [], ◌∷◌, length, Option, Some, None, Result, Ok, Err}
use Rattle.std.proofs.Common.{refl, ap, sym, subst, ◌∙◌, arith}
use Rattle.std.proofs.lemmas.Bool.Decides.{nat_tests}
use Rattle.std.specs.Prelude.{IsTrue, if◌then◌else◌, nat_le}
use Rattle.graph_model.specs.Soundness.{EdgeUpdate, is_client}
use Rattle.graph_model.specs.Told.{WhereTold}
use Rattle.locked_model.specs.Locked.{IsKept, JobTurns}
use Rattle.locked_model.specs.LockedLaws.{LockedWritesKeep}
use Rattle.log_names.specs.Names.{LogNames}
use Rattle.shard_log.specs.View.{View}
use Rattle.shard_tables.specs.Jobs.{job_with}
use Rattle.shard_tables.specs.StoreView.{Store}
use Rattle.shard_tables.specs.WriteDone.{StoreGains, WriteDone, asked_at}
use Rattle.shard_tables.specs.Written.{AnswersAs, AskedWrite, IsAdded, TableGains, WriteAnswers, added_entry}
use Rattle.shard_tables.specs.declared.refusal.StoreRefusal.{StoreRefusal}
use Rattle.shard_tables.specs.declared.refusal.StoreRefusal.TheVariants.{OutOfMemory}
use Rattle.shard_tables.specs.declared.store.StoreRole.TheVariants.{Master}
use Rattle.shard_tables.specs.declared.writes.Wrote.{Wrote}
use Rattle.tao_base.proofs.Tests.{apart-eqb, eqb-self}
use Rattle.tao_base.specs.EdgeTypes.{EdgeTypes, InversesMatch}
use Rattle.tao_base.specs.Writes.{ChangesType, write_kind, write_shard}
use Rattle.tao_base.specs.declared.entry.Entry.{Entry}
use Rattle.tao_base.specs.declared.entry.Kind.{Kind}
use Rattle.tao_base.specs.declared.entry.Origin.{Origin}
use Rattle.tao_base.specs.declared.entry.Touch.{Touch}
use Rattle.tao_base.specs.declared.write.Write.{Write}
use Rattle.tao_base.specs.declared.write.Write.TheVariants.{ObjAdd, ObjUpdate, ObjDelete, AssocAdd, AssocDelete, AssocChangeType}
use Rattle.tao_keeper.proofs.Growing.{stays_grow}
use Rattle.tao_keeper.specs.KeeperState.{KeeperState}
use Rattle.tao_keeper.specs.Table.{AreOfEntries, Becomes, Jobs, Tables, after_commit, job_from, with_new_job}
use Rattle.tao_schema.specs.Schema.{types_of}
use Rattle.write_model.specs.Merges.{job_of}
use Rattle.write_model.specs.Steps.{opened_job}
use Rattle.write_model.specs.WriteLaws.{IsAdmitted, IsOfShard}
use Rattle.write_model.specs.Writes.{forward_entry, next_entry, touches_of}
use Rattle.write_touches.specs.FarJobs.{job_for}
use Rattle.write_touches.specs.Touching.{lacks_serial}
use Rattle.shared_stores.proofs.Kept.{gains_own, kept_gains, own_log, sound_own, stays_known}
use Rattle.shared_stores.specs.Locked.{IsSharedStore, known, locked}
use Rattle.shared_stores.specs.Making.{Making}

-- ---- the entry of a write, and its job

-- a write with its serial is of its shard
of_shard : (shard : ℕ) (log : List Entry) (write : Write) → write_shard write ≡ shard → lacks_serial log write ≡ false → IsOfShard shard log write
of_shard shard log (ObjAdd on otype payload) here room = (here, has_room _ room)
  where
    has_room : (n : ℕ) → nat_le 281474976710655 (n + 1) ≡ false → n + 1 < 281474976710656
    has_room n h = grind (arith, nat_tests)
of_shard shard log (ObjUpdate id payload) here room = here
of_shard shard log (ObjDelete id) here room = here
of_shard shard log (AssocAdd id1 atype id2 time payload) here room = here
of_shard shard log (AssocDelete id1 atype id2) here room = here
of_shard shard log (AssocChangeType id1 atype id2 newtype) here room = here

-- the next entry stands past the log
next_past : (log : List Entry) (kind : Kind) (origin : Origin) (ts : List Touch) (e : Entry) → next_entry log kind origin ts ≡ Some e → length log < e.position
next_past log kind origin [] e is = absurd (cc)
next_past log kind origin (t ∷ ts) e is =
    let same : length log + 1 ≡ e.position = cc in
    omega (arith, same)

opened_here : (jobs : Jobs) (position : ℕ) (us : List EdgeUpdate) → jobs position ≡ None → with_new_job jobs (job_from position us) position ≡ opened_job us
opened_here jobs position [] none = none
opened_here jobs position (u ∷ us) none = ap (λ b. if b then Some (u ∷ us) else jobs position) (eqb-self position)

opened_others : (jobs : Jobs) (position : ℕ) (us : List EdgeUpdate) (p : ℕ) → p ≢ position → with_new_job jobs (job_from position us) p ≡ jobs p
opened_others jobs position [] p apart = refl
opened_others jobs position (u ∷ us) p apart = ap (λ b. if b then Some (u ∷ us) else jobs p) (apart-eqb p position apart)

-- ---- a write

module _ (tells : Bool) (m : Making) (log : LogNames) (store : Store) (old new : Tables) (notes : List View)
    (is : IsSharedStore tells m log (locked store old notes)) (master : store.role ≡ Master) where
  abbrev types : EdgeTypes
  types = types_of m.settings.schema

  turns : (e : Entry) → Becomes old new store.name (after_commit (old store.name) e (job_for types e)) → (old store.name).jobs e.position ≡ None
      → JobTurns (known m (locked store old notes)) (known m (locked store new notes)) e.position (opened_job (job_of types e))
  turns e gains none = record {
    here = ap (λ t. t.jobs e.position) gains.here ∙ opened_here (old store.name).jobs e.position (job_of types e) none;
    others = λ p apart. ap (λ t. t.jobs p) gains.here ∙ opened_others (old store.name).jobs e.position (job_of types e) p apart;
  }

  module _ (match : InversesMatch types) (origin : Origin) (write : Write) (here : write_shard write ≡ store.name.shard)
      (client : IsTrue (is_client origin)) (changes : ChangesType types write) (law : LockedWritesKeep)
      (of_entries : WhereTold tells (AreOfEntries (old store.name))) where
    abbrev asked : AskedWrite
    asked = asked_at types old store origin write

    admitted : (e : Entry) → IsAdded asked e → tells ≡ true
        → IsAdmitted types store.name.shard ((known m (locked store old notes)).log store.name.shard) origin write
    admitted e added told =
        let there : IsAdmitted types store.name.shard (old store.name).log origin write = record {
          inverses = match;
          sound = sound_own tells m log store old notes is master told;
          new = added.next.new;
          here = of_shard store.name.shard (old store.name).log write here added.next.serial;
          changes = changes;
        } in
        subst (λ l. IsAdmitted types store.name.shard l origin write) (sym (own_log m store notes old)) there

    forward : (e : Entry) → IsAdded asked e
        → forward_entry types 0 ((known m (locked store old notes)).log store.name.shard) origin write ≡ Some e
    forward e added =
        subst (λ l. forward_entry types 0 l origin write ≡ Some e) (sym (own_log m store notes old))
        (subst (λ epoch. forward_entry types epoch (old store.name).log origin write ≡ Some e) is.is.epoch_is added.next.forward)

    no_job : (e : Entry) → IsAdded asked e → tells ≡ true → (old store.name).jobs e.position ≡ None
    no_job e added told = (of_entries told).none_past e.position
        (next_past (old store.name).log (write_kind write) origin (touches_of types store.epoch (old store.name).log write) e added.next.forward)

    added_keeps : (e : Entry) → IsAdded asked e → tells ≡ true → Becomes old new store.name (after_commit (old store.name) e (job_for types e))
        → IsKept types store.name.shard (known m (locked store new notes))
    added_keeps e added told gains =
        law.keep types store.name.shard (known m (locked store old notes)) (known m (locked store new notes)) origin write e
        (is.master told master).kept client (admitted e added told) (forward e added)
        (gains_own m store notes old new e (job_for types e) gains) (turns e gains (no_job e added told))

    keeps : (retry : Bool) (entry : Option Entry) → tells ≡ true → AnswersAs asked retry entry
        → TableGains old new store.name (if retry then None else entry) (job_with types (if retry then None else entry))
        → IsKept types store.name.shard (known m (locked store new notes))
    keeps true entry told answer gains = stays_known tells m log store old new notes is master told gains
    keeps false None told answer gains = stays_known tells m log store old new notes is master told gains
    keeps false (Some e) told answer gains = added_keeps e answer told gains

    wrote_keeps : (r : Result Wrote StoreRefusal) → tells ≡ true → WriteAnswers asked r
        → TableGains old new store.name (added_entry r) (job_with types (added_entry r)) → IsKept types store.name.shard (known m (locked store new notes))
    wrote_keeps (Ok wrote) told answer gains = keeps wrote.retry wrote.entry told answer gains
    wrote_keeps (Err refusal) told answer gains = stays_known tells m log store old new notes is master told gains

-- what a write leaves
pub kept_commit : (tells : Bool) (m : Making) (log : LogNames) (store after : Store) (old new : KeeperState) (notes : List View)
    → IsSharedStore tells m log (locked store old.told notes) → store.role ≡ Master → InversesMatch (types_of m.settings.schema)
    → (origin : Origin) (write : Write) → write_shard write ≡ store.name.shard → IsTrue (is_client origin)
    → ChangesType (types_of m.settings.schema) write → LockedWritesKeep → WhereTold tells (AreOfEntries (old.told store.name))
    → (r : Result Wrote StoreRefusal)
    → WriteDone tells store.name (asked_at (types_of m.settings.schema) old.told store origin write) old new r
    → StoreGains tells new.told store after r → IsSharedStore tells m log (locked after new.told notes)
kept_commit tells m log store after old new notes is master match origin write here client changes law of_entries r done made =
    kept_gains tells m log store old.told new.told notes is master after (added_entry r) (job_with (types_of m.settings.schema) (added_entry r)) made.log
    done.tables
    (λ told. wrote_keeps tells m log store old.told new.told notes is master match origin write here client changes law of_entries r told
    (done.answer told) (done.tables told))

-- where there is no memory before a write, nothing was done
pub no_commit : (tells : Bool) (m : Making) (log : LogNames) (store : Store) (keepers : KeeperState) (notes : List View)
    → IsSharedStore tells m log (locked store keepers.told notes) → store.role ≡ Master → (origin : Origin) (write : Write)
    → WriteDone tells store.name (asked_at (types_of m.settings.schema) keepers.told store origin write) keepers keepers (Err OutOfMemory)
no_commit tells m log store keepers notes is master origin write = record {
  answer = λ told. tt;
  fits = tt;
  entry = tt;
  job = tt;
  found = λ told. tt;
  given = tt;
  tables = λ told at. refl;
  logs = stays_grow tells keepers.told keepers.told (λ told at. refl);
  stands = tt;
  here = tt;
  sound = sound_own tells m log store keepers.told notes is master;
  calls = record { calls = omega arith; faults = omega arith; failed = λ fault. absurd (cc) };
}
