-- What an entry owes it owes on, and what was merged stays merged, while logs grow.
use Rattle.std.proofs.Common.{◌≡◌, ℕ, ◌≤◌, ◌<◌, true, List, [], ◌++◌, length, inl, inr, refl, sym, ap, ◌∙◌, arith}
use Rattle.std.specs.Prelude.{drop}
use Rattle.std.proofs.lemmas.Bool.{cases_lt}
use Rattle.std.proofs.lemmas.List.{get_or_past, take-append-drop}
use Rattle.std.proofs.lemmas.List.Elements.{All-weaker}
use Rattle.graph_model.specs.Records.{HasStamp}
use Rattle.leader_tier.proofs.master_tables_lemmas.Calls.{tables_are_stores}
use Rattle.leader_tier.proofs.master_tables_lemmas.Each.{each_length}
use Rattle.tao_base.specs.declared.entry.Entry.{Entry}
use Rattle.tao_keeper.specs.Growing.{LogsGrow}
use Rattle.tao_keeper.specs.Table.{Tables}
use Rattle.tao_schema.specs.Schema.{types_of}
use Rattle.topology.specs.Config.{Settings}
use Rattle.write_model.proofs.Growing.{Grown, entry_stays, stamp_stays}
use Rattle.write_model.specs.Merges.{JobSource, job_of, log_of}
use Rattle.write_model.specs.Steps.{IsOwed}
use Rattle.core_model.specs.Jobs.{IsMergedJob, IsOwedJob, ShardJob}
use Rattle.core_model.specs.Laws.{JobsStayOwed}
use Rattle.core_model.specs.Stores.{AreKeptIn, master_log, master_store, masters_of, stores_in}

module _ (s : Settings) where
  -- the log of a shard that isn't configured has no entry
  log_past : (tables : Tables) (shard : ℕ) → s.shards ≤ shard → log_of (stores_in s tables).logs shard ≡ []
  log_past tables shard past =
      let long = each_length (master_log s tables) 0 s.shards in
      get_or_past (stores_in s tables).logs shard [] (omega (arith, past, long))

  module _ (old new : Tables) (grow : LogsGrow true old new) where
    log_grows : (shard : ℕ) → shard < s.shards
        → (more : List Entry) × (log_of (stores_in s new).logs shard ≡ log_of (stores_in s old).logs shard ++ more)
    log_grows shard here =
        let was = (tables_are_stores (masters_of s) old).log_is shard here in
        let is = (tables_are_stores (masters_of s) new).log_is shard here in
        let before = master_log s old shard in
        let now = master_log s new shard in
        let whole : now ≡ before ++ drop (length before) now =
        sym (take-append-drop (length before) now) ∙ ap (λ l. l ++ drop (length before) now) (sym (grow.begins refl (master_store s shard))) in
        (drop (length before) now, is ∙ whole ∙ ap (λ l. l ++ drop (length before) now) (sym was))

    grown_at : (shard : ℕ) → (more : List Entry) × (log_of (stores_in s new).logs shard ≡ log_of (stores_in s old).logs shard ++ more)
    grown_at shard = elim (cases_lt shard s.shards) [
      | inl here ↦ log_grows shard here
      | inr past ↦ ([], log_past new shard past ∙ ap (λ l. l ++ []) (sym (log_past old shard past)))
    ]

    -- each shard's log begins its later self
    pub logs_grown : Grown (log_of (stores_in s old).logs) (log_of (stores_in s new).logs)
    logs_grown = record { more = λ shard. (grown_at shard).0; is = λ shard. (grown_at shard).1 }

    pub owes_on : (owed : JobSource) → IsOwed (types_of s.schema) (stores_in s old) owed → IsOwed (types_of s.schema) (stores_in s new) owed
    owes_on owed was = record {
      epoch_is = was.epoch_is;
      stands = entry_stays (types_of s.schema) (log_of (stores_in s old).logs) (log_of (stores_in s new).logs) logs_grown owed.shard owed.entry.position
          owed.entry was.stands;
      there = was.there;
    }

    job_stays_owed : (j : ShardJob) → IsOwedJob s old j → IsOwedJob s new j
    job_stays_owed j was = record { owed = was.owed; of = was.of; owes = owes_on was.owed was.owes }

    job_stays_merged : (j : ShardJob) → AreKeptIn s new → IsMergedJob s old j → IsMergedJob s new j
    job_stays_merged j kept was =
        let before = log_of (stores_in s old).logs was.owed.other in
        let now = log_of (stores_in s new).logs was.owed.other in
        record {
          owed = was.owed;
          of = was.of;
          owes = owes_on was.owed was.owes;
          done = All-weaker (HasStamp before) (HasStamp now)
              (stamp_stays (types_of s.schema) (log_of (stores_in s old).logs) (log_of (stores_in s new).logs) logs_grown kept.sound was.owed.other)
              (job_of (types_of s.schema) was.owed.entry) was.done;
        }

pub jobs_stay_owed : (s : Settings) → JobsStayOwed s
jobs_stay_owed s = record {
  owed = λ old new j grow was. job_stays_owed s old new grow j was;
  merged = λ old new j kept grow was. job_stays_merged s old new grow j kept was;
}
