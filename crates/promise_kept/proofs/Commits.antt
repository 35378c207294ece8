-- What a commit makes of the logs, and of its job.
use Rattle.std.proofs.Common.{◌≡◌, ◌<◌, ◌∙◌, ◌+◌, ◌++◌, ◌∷◌, [], ℕ, Bool, true, false, List, Option, Some, None, length, take, sym, ap, subst}
use Rattle.std.proofs.Common.{arith}
use Rattle.std.proofs.lemmas.List.{get_or-set_same, take_all}
use Rattle.std.proofs.lemmas.List.Elements.{All-nil}
use Rattle.std.specs.Prelude.{IfSome}
use Rattle.core_model.proofs.Places.{one_some}
use Rattle.core_model.proofs.KeptStores.{sound_logs}
use Rattle.core_model.specs.Stores.{AreKeptIn, master_log, master_store, masters_of, stores_in}
use Rattle.core_steps.specs.Writes.{StepsAs}
use Rattle.graph_model.specs.Log.{entry_at}
use Rattle.graph_model.specs.Soundness.{EdgeUpdate}
use Rattle.master_tables.proofs.Calls.{tables_are_stores}
use Rattle.plain_promise.specs.Promise.{Begun, EachGrows, Logs}
use Rattle.promise_kept.proofs.Going.{begins_shorter, log_is}
use Rattle.promise_kept.specs.Seen.{HasItsJob, HasJobOf, HasWritten}
use Rattle.request_check.specs.declared.checked.CheckedWrite.{CheckedWrite}
use Rattle.shard_tables.specs.Jobs.{FindsJob, HasOpenJob, OpensJob}
use Rattle.shard_tables.specs.Written.{AskedWrite}
use Rattle.tao_base.specs.EdgeTypes.{EdgeTypes}
use Rattle.tao_base.specs.Writes.{write_shard}
use Rattle.tao_base.specs.declared.entry.Entry.{Entry}
use Rattle.tao_base.specs.declared.entry.Kind.{Kind}
use Rattle.tao_base.specs.declared.entry.Origin.{Origin}
use Rattle.tao_base.specs.declared.entry.Origin.TheVariants.{Client}
use Rattle.tao_base.specs.declared.entry.Touch.{Touch}
use Rattle.tao_keeper.specs.Table.{Tables, job_from}
use Rattle.tao_keeper.specs.declared.jobs.Job.{Job}
use Rattle.tao_schema.specs.Schema.{types_of}
use Rattle.topology.specs.Config.{Settings}
use Rattle.write_model.proofs.Covered.{at_place}
use Rattle.write_model.proofs.Growing.{entry_at-last}
use Rattle.write_model.specs.Machine.{ClientWrite, Commits}
use Rattle.write_model.specs.Merges.{AreThere, Stores, job_of, log_of}
use Rattle.write_model.specs.Writes.{FitsWrite, forward_entry, next_entry}
use Rattle.write_plan.specs.declared.progress.OtherEnd.TheVariants.{Due}

-- ---- entries at their places

pub next_position : (log : List Entry) (kind : Kind) (origin : Origin) (ts : List Touch) (e : Entry) → next_entry log kind origin ts ≡ Some e
    → e.position ≡ length log + 1
next_position log kind origin [] e h = absurd (cc)
next_position log kind origin (t ∷ ts) e h = ap (λ (x : Entry). x.position) (sym (one_some _ _ h))

next_origin : (log : List Entry) (kind : Kind) (origin : Origin) (ts : List Touch) (e : Entry) → next_entry log kind origin ts ≡ Some e → e.origin ≡ origin
next_origin log kind origin [] e h = absurd (cc)
next_origin log kind origin (t ∷ ts) e h = ap (λ (x : Entry). x.origin) (sym (one_some _ _ h))

-- a commit's entry stands at its position
pub commit_stands : (types : EdgeTypes) (old new : Logs) (w : ClientWrite) (e : Entry) → Commits types old new w e
    → entry_at (log_of new w.shard) e.position ≡ Some e
commit_stands types old new w e c =
    let here : log_of new w.shard ≡ log_of old w.shard ++ e ∷ [] =
    ap (λ l. log_of l w.shard) c.gained.1 ∙ get_or-set_same old w.shard (log_of old w.shard ++ e ∷ []) [] c.gained.0 in
    ap (λ l. entry_at l e.position) here ∙ ap (entry_at (log_of old w.shard ++ e ∷ [])) (next_position _ _ _ _ e c.is) ∙ entry_at-last (log_of old w.shard) e

-- ---- what the commit of a client's write did

-- a client's write, of the first epoch
abbrev pub write_of : CheckedWrite → ClientWrite
write_of call = record { shard = write_shard call.write; epoch = 0; origin = Client call.session call.seq; asked = call.write }

module _ (s : Settings) (old new : Tables) (call : CheckedWrite) where
  abbrev Was : Stores
  Was = stores_in s old

  abbrev Now : Stores
  Now = stores_in s new

  abbrev shard : ℕ
  shard = write_shard call.write

  -- it stands then, or there was nothing to change
  pub commit_written : (began : Begun) (asked : AskedWrite) → asked.types ≡ types_of s.schema → asked.epoch ≡ 0 → asked.origin ≡ Client call.session call.seq
      → asked.write ≡ call.write → EachGrows began.logs Was.logs → (retry : Bool) (entry : Option Entry) → IfSome entry (λ e. FitsWrite e call.write)
      → StepsAs asked retry entry shard Was Now → HasWritten s Now began call entry
  commit_written began asked types epoch origin write grew false (Some e) fits steps = record {
    stands = commit_stands asked.types Was.logs Now.logs _ e steps.commits;
    origin_is = next_origin _ _ _ _ e steps.commits.is ∙ origin;
    fits = fits;
  }
  commit_written began asked types epoch origin write grew true (Some e) fits steps = record {
    stands = subst (λ logs. entry_at (log_of logs shard) e.position ≡ Some e) (sym steps.1) steps.0.stood.stands;
    origin_is = steps.0.stood.origin_is ∙ origin;
    fits = fits;
  }
  commit_written began asked types epoch origin write grew false None fits steps =
      let same = ap (λ logs. log_of logs shard) steps.0.stays in
      let whole : take (length (log_of Was.logs shard)) (log_of Now.logs shard) ≡ log_of Was.logs shard =
      ap (take (length (log_of Was.logs shard))) same ∙ take_all (length (log_of Was.logs shard)) (log_of Was.logs shard) (omega arith) in
      let long = ap length same in
      record {
        n = length (log_of Was.logs shard);
        since = begins_shorter (log_of began.logs shard) (log_of Was.logs shard) (grew shard);
        within = omega (arith, long);
        nothing = ap (λ l. forward_entry (types_of s.schema) 0 l (Client call.session call.seq) call.write) whole
            ∙ ap (λ t. forward_entry t 0 (log_of Was.logs shard) (Client call.session call.seq) call.write) (sym types)
            ∙ ap (λ n. forward_entry asked.types n (log_of Was.logs shard) (Client call.session call.seq) call.write) (sym epoch)
            ∙ ap (λ o. forward_entry asked.types asked.epoch (log_of Was.logs shard) o call.write) (sym origin)
            ∙ ap (forward_entry asked.types asked.epoch (log_of Was.logs shard) asked.origin) (sym write)
            ∙ steps.0.nothing;
      }
  commit_written began asked types epoch origin write grew true None fits steps = absurd steps

  -- ---- its job

  none_there : (position : ℕ) (us : List EdgeUpdate) → None ≡ job_from position us → (log : ℕ → List Entry) → AreThere log us
  none_there position [] none log = All-nil _
  none_there position (u ∷ us) none log = absurd (cc)

  opened_position : (position : ℕ) (us : List EdgeUpdate) (j : Job) → Some j ≡ job_from position us → j.position ≡ position
  opened_position position [] j is = absurd (cc)
  opened_position position (u ∷ us) j is = ap (λ (x : Job). x.position) (one_some _ _ is)

  new_job : (e : Entry) (job : Option Job) → job ≡ job_from e.position (job_of (types_of s.schema) e) → HasItsJob s Now Due job e
  new_job e None is = record { position_is = tt; there = λ nothing. none_there e.position (job_of (types_of s.schema) e) is (log_of Now.logs) }
  new_job e (Some j) is =
      record { position_is = opened_position e.position (job_of (types_of s.schema) e) j is; there = λ nothing. absurd nothing }

  module _ (here : shard < s.shards) (kept : AreKeptIn s old) (same : Now.logs ≡ Was.logs) where
    found_job : (e : Entry) (job : Option Job) → HasOpenJob (old (master_store s shard)) e job → HasItsJob s Now Due job e
    found_job e None found = record {
      position_is = tt;
      there = λ nothing.
          let stands : entry_at (log_of Was.logs shard) found.position ≡ Some e =
          ap (λ l. entry_at l found.position) (log_is s old shard here) ∙ found.stands in
          let none : Was.job shard found.position ≡ None = (tables_are_stores (masters_of s) old).job_is shard found.position here ∙ found.job_is in
          subst (λ logs. AreThere (log_of logs) (job_of (types_of s.schema) e)) (sym same)
          ((kept.covered.each shard).owed found.position e stands none);
    }
    found_job e (Some j) found =
        let own = (at_place (types_of s.schema) shard (master_log s old shard) found.position e (sound_logs s old kept shard here) found.stands).2 in
        record { position_is = found.job_is.0 ∙ sym own; there = λ nothing. absurd nothing }

  pub commit_job : (asked : AskedWrite) → shard < s.shards → AreKeptIn s old → (retry : Bool) (entry : Option Entry) (job : Option Job)
      → OpensJob (types_of s.schema) retry entry job → FindsJob (old (master_store s shard)) retry entry job → StepsAs asked retry entry shard Was Now
      → HasJobOf s Now Due job entry
  commit_job asked here kept false (Some e) job opens finds steps = new_job e job opens
  commit_job asked here kept true (Some e) job opens finds steps = found_job here kept steps.1 e job finds
  commit_job asked here kept false None job opens finds steps = opens
  commit_job asked here kept true None job opens finds steps = absurd steps
