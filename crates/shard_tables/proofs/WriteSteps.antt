-- A write that was answered is a step of the stores of all shards.
use Rattle.std.proofs.Common.{◌≡◌, ℕ, ◌+◌, ◌<◌, List, [], ◌∷◌, length, inl, sym, ap, ◌∙◌, subst, arith}
use Rattle.std.specs.Option.{option_map}
use Rattle.std.specs.Prelude.{Option, Some, None}
use Rattle.graph_model.specs.Log.{entry_at}
use Rattle.graph_model.specs.Soundness.{IsSoundOf}
use Rattle.master_tables.proofs.Calls.{calls_are_steps, tables_are_stores}
use Rattle.master_tables.specs.Masters.{Masters, stores_of}
use Rattle.tao_base.specs.Writes.{write_kind}
use Rattle.tao_base.specs.declared.entry.Entry.{Entry}
use Rattle.tao_base.specs.declared.entry.Kind.{Kind}
use Rattle.tao_base.specs.declared.entry.Origin.{Origin}
use Rattle.tao_base.specs.declared.entry.Touch.{Touch}
use Rattle.tao_keeper.specs.Table.{AreOfEntries, IsJobAt, Jobs, Stays, Tables}
use Rattle.tao_keeper.specs.declared.jobs.Job.{Job}
use Rattle.write_model.proofs.Covered.{at_place}
use Rattle.write_model.specs.Machine.{ChangesNothing, Repeats}
use Rattle.write_model.specs.Merges.{log_of}
use Rattle.write_model.specs.Steps.{JobsStay}
use Rattle.write_model.specs.Writes.{forward_entry, next_entry, touches_of}
use Rattle.shard_tables.specs.Jobs.{HasOpenJob}
use Rattle.shard_tables.specs.WriteSteps.{WriteIsStep, WritesAreSteps, client_write}
use Rattle.shard_tables.specs.Written.{AskedWrite, FindsNothing, IsAdded, IsRetry}

-- the next entry stands past the log
next_past : (log : List Entry) (kind : Kind) (origin : Origin) (ts : List Touch) (e : Entry) → next_entry log kind origin ts ≡ Some e → length log < e.position
next_past log kind origin [] e is = absurd (cc)
next_past log kind origin (t ∷ ts) e is =
    let same : length log + 1 ≡ e.position = cc in
    omega (arith, same)

pub job_edges : (jobs : Jobs) (position : ℕ) (job : Option Job) → IsJobAt jobs position job → jobs position ≡ option_map (λ j. j.edges) job
job_edges jobs position None is = is
job_edges jobs position (Some job) is = is.1

module _ (m : Masters) (old new : Tables) (shard : ℕ) (asked : AskedWrite) (lt : shard < m.shards) (first : asked.epoch ≡ 0)
    (log_is : asked.log ≡ (old (m.name shard)).log)
    (sound : IsSoundOf asked.types shard asked.log) (of_entries : AreOfEntries (old (m.name shard))) where
  -- the log of the shard is the one that is asked
  there : asked.log ≡ log_of (stores_of m old).logs shard
  there = log_is ∙ sym ((tables_are_stores m old).log_is shard lt)

  -- an entry stands at its position
  position_is : (position : ℕ) (e : Entry) → entry_at asked.log position ≡ Some e → e.position ≡ position
  position_is position e stands = (at_place asked.types shard asked.log position e sound stands).2

  forward_here : (e : Entry) → IsAdded asked e → forward_entry asked.types asked.epoch (old (m.name shard)).log asked.origin asked.write ≡ Some e
  forward_here e added = subst (λ l. forward_entry asked.types asked.epoch l asked.origin asked.write ≡ Some e) log_is added.next.forward

  no_job : (e : Entry) → IsAdded asked e → (old (m.name shard)).jobs e.position ≡ None
  no_job e added =
      let log = (old (m.name shard)).log in
      of_entries.none_past e.position
      (next_past log (write_kind asked.write) asked.origin (touches_of asked.types asked.epoch log asked.write) e (forward_here e added))

  nothing_is : FindsNothing asked → Stays old new
      → ChangesNothing asked.types (stores_of m old).logs (stores_of m new).logs (client_write shard asked) × JobsStay (stores_of m old) (stores_of m new)
  nothing_is found stays =
      let same = (calls_are_steps m old new).stays stays in (
        record { nothing = subst (λ l. forward_entry asked.types asked.epoch l asked.origin asked.write ≡ None) there found.nothing; stays = same.0 },
        same.1,
      )

  repeats_is : (e : Entry) (other : ℕ) → IsRetry asked e → Stays old new
      → Repeats asked.types (stores_of m old).logs (stores_of m new).logs (client_write shard asked) e other × JobsStay (stores_of m old) (stores_of m new)
  repeats_is e other retry stays =
      let same = (calls_are_steps m old new).stays stays in
      let at = subst (λ p. entry_at asked.log p ≡ Some e) (sym (position_is retry.position e retry.stands.stands)) retry.stands.stands in (
        record {
          stood = record { stands = subst (λ l. entry_at l e.position ≡ Some e) there at; origin_is = retry.stands.origin_is; fits = retry.fits };
          merges = inl same.0;
        },
        same.1,
      )

  finds_is : (e : Entry) (job : Option Job) → HasOpenJob (old (m.name shard)) e job → (stores_of m old).job shard e.position ≡ option_map (λ j. j.edges) job
  finds_is e job found =
      let stands = subst (λ l. entry_at l found.position ≡ Some e) (sym log_is) found.stands in
      (tables_are_stores m old).job_is shard e.position lt ∙ ap (old (m.name shard)).jobs (position_is found.position e stands)
      ∙ job_edges (old (m.name shard)).jobs found.position job found.job_is

  pub write_is_step : WriteIsStep m old new shard asked
  write_is_step = record {
    commits = λ e added gains.
        (calls_are_steps m old new).commits asked.types (client_write shard asked) e lt first (no_job e added) (forward_here e added) gains;
    nothing = nothing_is;
    repeats = repeats_is;
    finds = finds_is;
  }

pub writes_are_steps : WritesAreSteps
writes_are_steps = record { are = write_is_step }
