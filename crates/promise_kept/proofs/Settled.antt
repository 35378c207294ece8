-- What a settle merges and says, in the words of the promise.
use Rattle.std.proofs.Common.{◌≡◌, ℕ, zero, suc, ◌+◌, true, List, ◌∷◌, Some, length, map, inl, inr, refl, sym, ap, ◌∙◌, subst}
use Rattle.std.proofs.lemmas.Option.{same_Some}
use Rattle.std.specs.List.{range_with_len}
use Rattle.core_model.specs.Stores.{master_log, stores_in}
use Rattle.core_steps.specs.core_nodes.Settling.{log_lengths}
use Rattle.core_steps.specs.core_nodes.declared.settling.SettleStop.{SettleStop}
use Rattle.tao_core.specs.core_repairs.Repairs.{SettlesLogs}
use Rattle.master_tables.specs.Masters.{each_shard}
use Rattle.plain_promise.specs.Promise.{IsSettledNow}
use Rattle.promise_kept.proofs.Going.{grows_same, stores_are}
use Rattle.promise_kept.proofs.Others.{KeepsCalls, keeps_calls, keeps_core, keeps_on}
use Rattle.promise_kept.specs.Lines.{GoesOnUsable}
use Rattle.promise_kept.specs.Seen.{IsSettledSince, stores_at}
use Rattle.tao_base.specs.declared.entry.Entry.{Entry}
use Rattle.tao_core.proofs.SettledLaws.{settled_until_a_commit}
use Rattle.tao_core.specs.Core.{CoreState, Moment}
use Rattle.tao_core.specs.Settling.{HasRunJobs, HasStreamed, IsUnsettled, SettlesCore}
use Rattle.tao_keeper.specs.KeeperState.{KeeperState, KeepsTables}
use Rattle.tao_keeper.specs.Table.{Tables}
use Rattle.tao_schema.specs.Schema.{types_of}
use Rattle.topology.specs.Config.{Settings}
use Rattle.write_model.specs.Machine.{ArePaired, Settles}
use Rattle.write_model.specs.Merges.{Stores}

-- ---- the lengths

-- one shard after another
each_lengths : (log : ℕ → List Entry) (from n : ℕ) → map length (each_shard log from n) ≡ map (λ shard. length (log shard)) (range_with_len from n)
each_lengths log from zero = refl
each_lengths log from (suc n) = ap (λ more. length (log from) ∷ more) (each_lengths log (from + 1) n)

lengths_are : (s : Settings) (tables : Tables) → map length (stores_in s tables).logs ≡ log_lengths s tables
lengths_are s tables = each_lengths (master_log s tables) 0 s.shards

-- ---- what was merged

-- tables that were only read
settles_kept : (s : Settings) (start : Tables) (old new : KeeperState) → KeepsTables true old new → SettlesLogs s start old.told → SettlesLogs s start new.told
settles_kept s start old new tables settles = let same : old.told ≡ new.told = λ i at. sym (tables refl at) i in subst (SettlesLogs s start) same settles

module _ (old new : Moment) where
  abbrev s : Settings
  s = old.core.settings

  -- the streams change no shard's own store
  shards_stay : (ran : Moment) (now : Tables) → HasRunJobs true old ran → stores_in s now ≡ stores_in s ran.keepers.told
      → SettlesLogs s old.keepers.told now
  shards_stay ran now jobs same =
      subst (λ (st : Stores). Settles (types_of s.schema) (stores_in s old.keepers.told) st.logs) (sym same) (jobs.runs.settles refl)

  streamed_whole : (ran streamed : Moment) → HasRunJobs true old ran → HasStreamed true ran streamed → SettlesLogs s old.keepers.told streamed.keepers.told
  streamed_whole ran streamed jobs streams =
      let settings = ap (λ (c : CoreState). c.settings) jobs.rest in
      shards_stay ran streamed.keepers.told jobs
      (subst (λ (x : Settings). stores_in x streamed.keepers.told ≡ stores_in x ran.keepers.told) settings (streams.streams.shards refl))

  -- so does one that came to no end
  pub unsettled : (given : SettleStop) → IsUnsettled true given old new → SettlesLogs s old.keepers.told new.keepers.told
  unsettled given (inl stops) = stops.stops.settles refl
  unsettled given (inr (inl stops)) = shards_stay stops.ran new.keepers.told stops.jobs (stops.stops.shards refl)
  unsettled given (inr (inr (inl stops))) = settles_kept s old.keepers.told stops.streamed.keepers new.keepers stops.tables
      (streamed_whole stops.ran stops.streamed stops.jobs stops.streams)
  unsettled given (inr (inr (inr stops))) = settles_kept s old.keepers.told stops.streamed.keepers new.keepers stops.asked
      (streamed_whole stops.ran stops.streamed stops.jobs stops.streams)

  settled_whole : (logs : List ℕ) → SettlesCore true logs old new → SettlesLogs s old.keepers.told new.keepers.told
  settled_whole logs is = settles_kept s old.keepers.told is.streamed.keepers new.keepers is.reads.tables
      (streamed_whole is.ran is.streamed is.jobs is.streams)

  -- ---- what stays

  -- the core of a settle under way
  streamed_keeps : (ran streamed : Moment) → HasRunJobs true old ran → HasStreamed true ran streamed → KeepsCalls old streamed
  streamed_keeps ran streamed jobs streams = keeps_on old ran streamed (keeps_calls old ran jobs.rest) (keeps_calls ran streamed streams.rest)

  pub unsettled_keeps : (given : SettleStop) → IsUnsettled true given old new → KeepsCalls old new
  unsettled_keeps given (inl stops) = keeps_calls old new stops.rest
  unsettled_keeps given (inr (inl stops)) =
      keeps_on old stops.ran new (keeps_calls old stops.ran stops.jobs.rest) (keeps_calls stops.ran new stops.rest)
  unsettled_keeps given (inr (inr (inl stops))) =
      keeps_on old stops.streamed new (streamed_keeps stops.ran stops.streamed stops.jobs stops.streams)
      (keeps_core stops.streamed new (ap (λ (m : Moment). m.core) stops.same))
  unsettled_keeps given (inr (inr (inr stops))) =
      keeps_on old stops.streamed new (streamed_keeps stops.ran stops.streamed stops.jobs stops.streams) (record {
        sessions = ap (λ (c : CoreState). c.sessions) stops.rest;
        plans = ap (λ (c : CoreState). c.plans) stops.rest;
      })

  -- ---- what it says

  module _ (on : GoesOnUsable old new) where
    -- the logs are those of a settle of the promise
    pub settles_now : SettlesLogs s old.keepers.told new.keepers.told → Settles (types_of s.schema) (stores_at old) (stores_at new).logs
    settles_now settles = subst (λ (st : Stores). Settles (types_of s.schema) (stores_at old) st.logs) (sym (stores_are old new on)) settles

    pub settled_changes : (logs : List ℕ) → SettlesCore true logs old new → Settles (types_of s.schema) (stores_at old) (stores_at new).logs
    settled_changes logs is = settles_now (settled_whole logs is)

    pub settled_says : (logs : List ℕ) → SettlesCore true logs old new → IsSettledNow (types_of s.schema) logs (stores_at new)
    settled_says logs is =
        let left = is.settled refl in record {
          none = left.none;
          paired = subst (λ x. ArePaired (types_of x.schema) (stores_at new).logs) on.after.settings left.paired;
          lengths_are = left.lengths ∙ sym (lengths_are new.core.settings new.keepers.told);
        }

    -- and nodes and stores are settled since
    pub settled_now : (logs : List ℕ) → SettlesCore true logs old new → IsSettledSince new (Some (stores_at new).logs)
    settled_now logs is = record {
      grows = λ left same. grows_same left (stores_at new).logs (same_Some (stores_at new).logs left same);
      rests = λ left same still. settled_until_a_commit.settles logs old new is;
    }
