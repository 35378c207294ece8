-- What the calls of a keeper do to the tables of the masters.
use Rattle.std.proofs.Common.{◌≡◌, ◌≢◌, ℕ, ◌<◌, ◌+◌, List, [], ◌∷◌, ◌++◌, inl, inr, refl, sym, ap, ◌∙◌, subst, arith}
use Rattle.std.proofs.lemmas.Bool.{cases_eq}
use Rattle.std.specs.Prelude.{Option, Some, None, slice_set, nat_lt, ◌==◌, if◌then◌else◌}
use Rattle.tao_base.specs.EdgeTypes.{EdgeTypes}
use Rattle.tao_base.specs.declared.entry.Entry.{Entry}
use Rattle.tao_base.specs.declared.entry.Origin.{Origin}
use Rattle.tao_base.specs.declared.write.Write.{Write}
use Rattle.write_model.proofs.OpenJobs.{open_jobs_are_owed}
use Rattle.write_model.specs.Machine.{Gains}
use Rattle.write_model.specs.Merges.{HasJob, JobSource, job_of, log_of, merge_of, number_in, source_number}
use Rattle.tao_keeper.specs.graph_model.Soundness.{EdgeUpdate}
use Rattle.write_model.specs.Steps.{CommitsWithJob, EndsJob, IsOwed, JobBecomes, JobsStay, MergesJob, opened_job}
use Rattle.write_model.specs.Writes.{forward_entry}
use Rattle.tao_keeper.specs.Table.{Becomes, Stays, Table, Tables, after_commit, after_end, job_from, with_new_job}
use Rattle.master_tables.proofs.Each.{each_at, each_length, each_same, each_set}
use Rattle.master_tables.specs.Laws.{CallsAreSteps, FirstJobsAreFirst, NumbersArePositions, TableLaws, TablesAreStores}
use Rattle.master_tables.specs.Masters.{Masters, stores_of}
use Rattle.tao_base.proofs.Tests.{apart-eqb, eqb-self, is_lower}

-- one table changes
module _ (m : Masters) (old new : Tables) where
  log_at : (tables : Tables) (shard : ℕ) → shard < m.shards → log_of (stores_of m tables).logs shard ≡ (tables (m.name shard)).log
  log_at tables shard lt = each_at (λ s. (tables (m.name s)).log) 0 m.shards shard lt
      ∙ ap (λ s. (tables (m.name s)).log) (let e : 0 + shard ≡ shard = omega arith in e)

  job_at : (tables : Tables) (shard position : ℕ) → shard < m.shards → (stores_of m tables).job shard position ≡ (tables (m.name shard)).jobs position
  job_at tables shard position lt = ap (λ b. if b then (tables (m.name shard)).jobs position else None) (is_lower shard m.shards lt)

  other_master : (s shard : ℕ) → s ≢ shard → m.name s ≢ m.name shard
  other_master s shard apart same = apart (sym (m.of_shard s) ∙ ap (λ n. n.shard) same ∙ m.of_shard shard)

  logs_stay : ((s : ℕ) → (new (m.name s)).log ≡ (old (m.name s)).log) → (stores_of m new).logs ≡ (stores_of m old).logs
  logs_stay same = each_same (λ s. (old (m.name s)).log) (λ s. (new (m.name s)).log) 0 m.shards (λ i le. same i)

  jobs_stay : ((s : ℕ) → (new (m.name s)).jobs ≡ (old (m.name s)).jobs) → JobsStay (stores_of m old) (stores_of m new)
  jobs_stay same shard position = ap (λ o. if nat_lt shard m.shards then o else None) (ap (λ jobs. jobs position) (same shard))

  -- the master of a shard, or of another one
  field_is : {X : Type 0} (f : Table → X) (shard : ℕ) (table : Table) → Becomes old new (m.name shard) table → f table ≡ f (old (m.name shard)) → (s : ℕ)
      → f (new (m.name s)) ≡ f (old (m.name s))
  field_is f shard table b same s = elim (cases_eq s shard) [
    | inl is ↦ subst (λ i. f (new (m.name i)) ≡ f (old (m.name i))) (sym is) (ap f b.here ∙ same)
    | inr apart ↦ ap f (b.others (m.name s) (other_master s shard apart))
  ]

  gains : (shard : ℕ) (table : Table) (e : Entry) → shard < m.shards → Becomes old new (m.name shard) table → table.log ≡ (old (m.name shard)).log ++ e ∷ []
      → Gains (stores_of m old).logs (stores_of m new).logs shard e
  gains shard table e lt b longer =
      let at : 0 + shard ≡ shard = omega arith in (
        subst (λ n. shard < n) (sym (each_length (λ s. (old (m.name s)).log) 0 m.shards)) lt,
        each_set (λ s. (old (m.name s)).log) (λ s. (new (m.name s)).log) 0 m.shards shard lt
            (λ i ne. ap (λ t. t.log) (b.others (m.name i) (other_master i shard (λ e. ne (e ∙ sym at)))))
            ∙ ap (slice_set (stores_of m old).logs shard) (ap (λ s. (new (m.name s)).log) at ∙ ap (λ t. t.log) b.here ∙ longer
            ∙ ap (λ l. l ++ e ∷ []) (sym (log_at old shard lt))),
      )

  -- the job of one position changes
  job_becomes : (shard position : ℕ) (table : Table) (given : Option (List EdgeUpdate)) → shard < m.shards → Becomes old new (m.name shard) table
      → table.jobs position ≡ given → ((p : ℕ) → p ≢ position → table.jobs p ≡ (old (m.name shard)).jobs p)
      → JobBecomes (stores_of m old) (stores_of m new) shard position given
  job_becomes shard position table given lt b here others = record {
    here = job_at new shard position lt ∙ ap (λ t. t.jobs position) b.here ∙ here;
    others = λ s p apart. elim (cases_eq s shard) [
      | inl is ↦ (
          let there : (new (m.name shard)).jobs p ≡ (old (m.name shard)).jobs p = ap (λ t. t.jobs p) b.here ∙ others p (apart is) in
          subst (λ i. (stores_of m new).job i p ≡ (stores_of m old).job i p) (sym is) (job_at new shard p lt ∙ there ∙ sym (job_at old shard p lt)))
      | inr ne ↦ ap (λ o. if nat_lt s m.shards then o else None) (ap (λ t. t.jobs p) (b.others (m.name s) (other_master s shard ne)))
    ];
  }

  opened_here : (jobs : ℕ → Option (List EdgeUpdate)) (position : ℕ) (us : List EdgeUpdate) → jobs position ≡ None
      → with_new_job jobs (job_from position us) position ≡ opened_job us
  opened_here jobs position [] none = none
  opened_here jobs position (u ∷ us) none = ap (λ b. if b then Some (u ∷ us) else jobs position) (eqb-self position)

  opened_others : (jobs : ℕ → Option (List EdgeUpdate)) (position : ℕ) (us : List EdgeUpdate) (p : ℕ) → p ≢ position
      → with_new_job jobs (job_from position us) p ≡ jobs p
  opened_others jobs position [] p apart = refl
  opened_others jobs position (u ∷ us) p apart = ap (λ b. if b then Some (u ∷ us) else jobs p) (apart-eqb p position apart)

  step_commits : (types : EdgeTypes) (shard epoch : ℕ) (origin : Origin) (write : Write) (e : Entry) → shard < m.shards → epoch ≡ 0
      → (old (m.name shard)).jobs e.position ≡ None
      → forward_entry types epoch (old (m.name shard)).log origin write ≡ Some e
      → Becomes old new (m.name shard) (after_commit (old (m.name shard)) e (job_from e.position (job_of types e)))
      → CommitsWithJob types (stores_of m old) (stores_of m new) (record { shard = shard; epoch = epoch; origin = origin; asked = write }) e
  step_commits types shard epoch origin write e lt first none is b = record {
    epoch_is = first;
    commits = record {
      is = ap (λ l. forward_entry types epoch l origin write) (log_at old shard lt) ∙ is;
      gained = gains shard (after_commit (old (m.name shard)) e (job_from e.position (job_of types e))) e lt b refl;
    };
    opens = job_becomes shard e.position (after_commit (old (m.name shard)) e (job_from e.position (job_of types e))) (opened_job (job_of types e)) lt b
        (opened_here (old (m.name shard)).jobs e.position (job_of types e) none) (opened_others (old (m.name shard)).jobs e.position (job_of types e));
    epochs = refl;
  }

  step_merges : (types : EdgeTypes) (owed : JobSource) (e : Entry) → owed.other < m.shards → IsOwed types (stores_of m old) owed
      → merge_of (old (m.name owed.other)).log owed.shard (source_number owed) (job_of types owed.entry) ≡ Some e
      → Becomes old new (m.name owed.other) (after_commit (old (m.name owed.other)) e None) → MergesJob types (stores_of m old) (stores_of m new) owed
  step_merges types owed e lt owes is b = record {
    owes = owes;
    merges = inr (record {
      merged = e;
      there = owes.there;
      is = ap (λ l. merge_of l owed.shard (source_number owed) (job_of types owed.entry)) (log_at old owed.other lt) ∙ is;
      gained = gains owed.other (after_commit (old (m.name owed.other)) e None) e lt b refl;
    });
    jobs = jobs_stay (field_is (λ t. t.jobs) owed.other (after_commit (old (m.name owed.other)) e None) b refl);
    epochs = refl;
  }

  step_merges_none : (types : EdgeTypes) (owed : JobSource) → owed.other < m.shards → IsOwed types (stores_of m old) owed
      → merge_of (old (m.name owed.other)).log owed.shard (source_number owed) (job_of types owed.entry) ≡ None
      → Stays old new → MergesJob types (stores_of m old) (stores_of m new) owed
  step_merges_none types owed lt owes is stays = record {
    owes = owes;
    merges = inl (
      ap (λ l. merge_of l owed.shard (source_number owed) (job_of types owed.entry)) (log_at old owed.other lt) ∙ is,
      logs_stay (λ s. ap (λ t. t.log) (stays (m.name s))),
    );
    jobs = jobs_stay (λ s. ap (λ t. t.jobs) (stays (m.name s)));
    epochs = refl;
  }

  step_ends : (types : EdgeTypes) (owed : JobSource) → owed.shard < m.shards → IsOwed types (stores_of m old) owed
      → HasJob types (log_of (stores_of m old).logs owed.other) owed.entry
      → Becomes old new (m.name owed.shard) (after_end (old (m.name owed.shard)) owed.entry.position) → EndsJob types (stores_of m old) (stores_of m new) owed
  step_ends types owed lt owes done b = record {
    owes = owes;
    done = done;
    logs = logs_stay (field_is (λ t. t.log) owed.shard (after_end (old (m.name owed.shard)) owed.entry.position) b refl);
    ends = job_becomes owed.shard owed.entry.position (after_end (old (m.name owed.shard)) owed.entry.position) None lt b
        (ap (λ c. if c then None else (old (m.name owed.shard)).jobs owed.entry.position) (eqb-self owed.entry.position))
        (λ p apart. ap (λ c. if c then None else (old (m.name owed.shard)).jobs p) (apart-eqb p owed.entry.position apart));
    epochs = refl;
  }

pub tables_are_stores : (m : Masters) (tables : Tables) → TablesAreStores m tables
tables_are_stores m tables = record { log_is = log_at m tables tables tables; job_is = job_at m tables tables tables }

pub calls_are_steps : (m : Masters) (old new : Tables) → CallsAreSteps m old new
calls_are_steps m old new = record {
  stays = λ stays. (logs_stay m old new (λ s. ap (λ t. t.log) (stays (m.name s))), jobs_stay m old new (λ s. ap (λ t. t.jobs) (stays (m.name s))));
  commits = λ types w. step_commits m old new types w.shard w.epoch w.origin w.asked;
  merges = step_merges m old new;
  merges_none = step_merges_none m old new;
  ends = step_ends m old new;
}

first_number : (epoch position : ℕ) → epoch ≡ 0 → number_in epoch position ≡ position
first_number epoch position first = omega (arith, first)

pub numbers_are_positions : (m : Masters) (tables : Tables) → NumbersArePositions m tables
numbers_are_positions m tables = record { number_is = λ types owed owes. first_number owed.epoch owed.entry.position owes.epoch_is }

pub first_jobs_are_first : (m : Masters) (tables : Tables) → FirstJobsAreFirst m tables
first_jobs_are_first m tables = record {
  first = λ types shard job u lt kept first h.
      (let is : (stores_of m tables).job shard job.position ≡ Some job.edges = job_at m tables tables tables shard job.position lt ∙ first.0 in
      let owed = open_jobs_are_owed.owed types (stores_of m tables) shard job.position job.edges u kept is h in (
        owed.0,
        owed.1,
        owed.2,
        record {
          job = owed.1.job;
          first = λ p below.
              (let lower = subst (λ q. p < q) owed.1.position_is below in
              ap (λ s. (stores_of m tables).job s p) owed.1.shard_is ∙ job_at m tables tables tables shard p lt ∙ first.1 p lower);
        },
      ));
  none = λ shard position lt first. job_at m tables tables tables shard position lt ∙ first position;
}

pub table_laws : TableLaws
table_laws = record { are_stores = tables_are_stores; are_positions = numbers_are_positions; are_steps = calls_are_steps; are_first = first_jobs_are_first }
