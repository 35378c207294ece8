-- A commit keeps the stores of all shards, and a job that it answers is owed.
use Rattle.std.proofs.Common.{◌≡◌, ℕ, ◌+◌, ◌<◌, Bool, true, false, Option, Some, None, Result, Ok, Err, IfOk, IfSome, refl, sym, ap, ◌∙◌, subst, arith, List}
use Rattle.std.proofs.lemmas.Bool.Decides.{nat_tests}
use Rattle.std.specs.Prelude.{IsTrue, if◌then◌else◌, nat_le}
use Rattle.graph_model.specs.Soundness.{is_client}
use Rattle.graph_model.specs.Told.{WhereTold}
use Rattle.master_tables.proofs.Calls.{tables_are_stores}
use Rattle.shard_tables.proofs.WriteSteps.{write_is_step}
use Rattle.shard_tables.specs.Jobs.{FindsJob, OpensJob, job_with}
use Rattle.shard_tables.specs.WriteDone.{WriteDone}
use Rattle.shard_tables.specs.WriteSteps.{client_write}
use Rattle.shard_tables.specs.Written.{AnswersAs, AskedWrite, IsAdded, TableGains, WriteAnswers, added_entry, asked_write}
use Rattle.shard_tables.specs.declared.refusal.StoreRefusal.{StoreRefusal}
use Rattle.shard_tables.specs.declared.writes.Wrote.{Wrote}
use Rattle.tao_base.specs.EdgeTypes.{InversesMatch}
use Rattle.tao_base.specs.Writes.{ChangesType, write_shard}
use Rattle.tao_base.specs.declared.entry.Entry.{Entry}
use Rattle.tao_base.specs.declared.entry.Origin.{Origin}
use Rattle.tao_base.specs.declared.write.Write.{Write}
use Rattle.tao_base.specs.declared.write.Write.TheVariants.{ObjAdd, ObjUpdate, ObjDelete, AssocAdd, AssocDelete, AssocChangeType}
use Rattle.tao_keeper.specs.KeeperState.{KeeperState}
use Rattle.tao_keeper.specs.Table.{AreOfEntries, Tables}
use Rattle.tao_keeper.specs.declared.jobs.Job.{Job}
use Rattle.tao_schema.specs.Schema.{types_of}
use Rattle.topology.specs.Config.{Settings}
use Rattle.write_model.proofs.CoverCommits.{commits_keep}
use Rattle.write_model.specs.Merges.{log_of}
use Rattle.write_model.specs.WriteLaws.{IsAdmitted, IsOfShard}
use Rattle.write_touches.specs.Touching.{lacks_serial}
use Rattle.core_model.proofs.KeptStores.{kept_stays, sound_logs}
use Rattle.core_model.proofs.OwedJobs.{open_job_owed}
use Rattle.core_model.specs.Jobs.{IsOwedJob, job_on}
use Rattle.core_model.specs.Stores.{AreKeptIn, master_log, master_store, masters_of, stores_in}
use Rattle.core_nodes.specs.MasterWrites.{asked_of_master}
use Rattle.tao_base.proofs.Tests.{eqb-self}

-- what a commit leaves of the stores of all shards, and of its job
pub record CommitKeeps (tells : Bool) (s : Settings) (shard : ℕ) (new : Tables) (r : Result Wrote StoreRefusal) : Type 0 where
  pub kept : WhereTold tells (AreKeptIn s new)
  pub owes : WhereTold tells (IfOk r (λ wrote. IfSome wrote.job (λ job. IsOwedJob s new (job_on shard job))))

-- a write with its serial is of its shard
of_shard : (log : List Entry) (write : Write) → lacks_serial log write ≡ false → IsOfShard (write_shard write) log write
of_shard log (ObjAdd on otype payload) room = (refl, has_room _ room)
  where
    has_room : (n : ℕ) → nat_le 281474976710655 (n + 1) ≡ false → n + 1 < 281474976710656
    has_room n h = grind (arith, nat_tests)
of_shard log (ObjUpdate id payload) room = refl
of_shard log (ObjDelete id) room = refl
of_shard log (AssocAdd id1 atype id2 time payload) room = refl
of_shard log (AssocDelete id1 atype id2) room = refl
of_shard log (AssocChangeType id1 atype id2 newtype) room = refl

module _ (s : Settings) (most : ℕ) (origin : Origin) (write : Write) (old new : Tables) (within : write_shard write < s.shards)
    (kept : AreKeptIn s old) where
  abbrev asked : AskedWrite
  asked = asked_write (types_of s.schema) most 0 (old (master_store s (write_shard write))) origin write

  module _ (match : InversesMatch (types_of s.schema)) (client : IsTrue (is_client origin)) (changes : ChangesType (types_of s.schema) write)
      (of_entries : AreOfEntries (old (master_store s (write_shard write)))) where
    admitted : (e : Entry) → IsAdded asked e → IsAdmitted (types_of s.schema) (write_shard write)
        (log_of (stores_in s old).logs (write_shard write)) origin write
    admitted e added =
        let log = master_log s old (write_shard write) in
        let here : IsAdmitted (types_of s.schema) (write_shard write) log origin write = record {
          inverses = match;
          sound = sound_logs s old kept (write_shard write) within;
          new = added.next.new;
          here = of_shard log write added.next.serial;
          changes = changes;
        } in
        subst (λ l. IsAdmitted (types_of s.schema) (write_shard write) l origin write)
        (sym ((tables_are_stores (masters_of s) old).log_is (write_shard write) within)) here

    keeps : (retry : Bool) (entry : Option Entry) → AnswersAs asked retry entry
        → TableGains old new (master_store s (write_shard write)) (if retry then None else entry)
        (job_with (types_of s.schema) (if retry then None else entry)) → AreKeptIn s new
    keeps true entry answer gains = kept_stays s old new gains kept
    keeps false None answer gains = kept_stays s old new gains kept
    keeps false (Some e) answer gains =
        let sound = sound_logs s old kept (write_shard write) within in
        let step = write_is_step (masters_of s) old new (write_shard write) asked within refl refl sound of_entries in
        commits_keep.keep (types_of s.schema) (stores_in s old) (stores_in s new) (client_write (write_shard write) asked) e kept client
        (admitted e answer) (step.commits e answer gains)

    pub kept_commit : (r : Result Wrote StoreRefusal) → WriteAnswers asked r
        → TableGains old new (master_store s (write_shard write)) (added_entry r) (job_with (types_of s.schema) (added_entry r)) → AreKeptIn s new
    kept_commit (Ok wrote) answer gains = keeps wrote.retry wrote.entry answer gains
    kept_commit (Err refusal) answer gains = kept_stays s old new gains kept

-- the job of the answer is open then
module _ (s : Settings) (shard : ℕ) (old new : Tables) (within : shard < s.shards) (kept : AreKeptIn s new) where
  owes : (retry : Bool) (entry : Option Entry) (job : Option Job) → OpensJob (types_of s.schema) retry entry job
      → FindsJob (old (master_store s shard)) retry entry job
      → TableGains old new (master_store s shard) (if retry then None else entry) (job_with (types_of s.schema) (if retry then None else entry))
      → IfSome job (λ j. IsOwedJob s new (job_on shard j))
  owes retry entry None opens finds gains = tt
  owes true (Some e) (Some j) opens finds gains =
      open_job_owed s new shard j within kept
      (ap (λ t. t.jobs j.position) (gains (master_store s shard)) ∙ ap (old (master_store s shard)).jobs finds.job_is.0 ∙ finds.job_is.1)
  owes true None (Some j) opens finds gains = absurd finds
  owes false None (Some j) opens finds gains = absurd (cc)
  owes false (Some e) (Some j) opens finds gains =
      let becomes = subst (TableGains old new (master_store s shard) (Some e)) (sym opens) gains in
      open_job_owed s new shard j within kept (ap (λ t. t.jobs j.position) becomes.here
      ∙ ap (λ b. if b then Some j.edges else (old (master_store s shard)).jobs j.position) (eqb-self j.position))

  pub owes_job : (r : Result Wrote StoreRefusal) → IfOk r (λ wrote. OpensJob (types_of s.schema) wrote.retry wrote.entry wrote.job)
      → IfOk r (λ wrote. FindsJob (old (master_store s shard)) wrote.retry wrote.entry wrote.job)
      → TableGains old new (master_store s shard) (added_entry r) (job_with (types_of s.schema) (added_entry r))
      → IfOk r (λ wrote. IfSome wrote.job (λ j. IsOwedJob s new (job_on shard j)))
  owes_job (Ok wrote) opens finds gains = owes wrote.retry wrote.entry wrote.job opens finds gains
  owes_job (Err refusal) opens finds gains = tt

module _ (tells : Bool) (s : Settings) (origin : Origin) (write : Write) (old new : KeeperState) (within : write_shard write < s.shards)
    (match : InversesMatch (types_of s.schema)) (client : IsTrue (is_client origin)) (changes : ChangesType (types_of s.schema) write)
    (kept : WhereTold tells (AreKeptIn s old.told)) (of_entries : WhereTold tells (AreOfEntries (old.told (master_store s (write_shard write))))) where
  pub commit_keeps : (r : Result Wrote StoreRefusal)
      → WriteDone tells (master_store s (write_shard write)) (asked_of_master s old.told origin write) old new r
      → CommitKeeps tells s (write_shard write) new.told r
  commit_keeps r done =
      let now : WhereTold tells (AreKeptIn s new.told) = λ told.
      kept_commit s s.log_max origin write old.told new.told within (kept told) match client changes (of_entries told) r (done.answer told)
      (done.tables told) in
      record {
        kept = now;
        owes = λ told. owes_job s (write_shard write) old.told new.told within (now told) r done.job (done.found told) (done.tables told);
      }
