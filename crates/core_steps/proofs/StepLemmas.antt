-- A write that was committed is a step of the plain machine.
use Rattle.std.proofs.Common.{◌<◌, Bool, true, false, Option, Some, None, refl}
use Rattle.graph_model.specs.Soundness.{IsSoundOf}
use Rattle.graph_model.specs.Told.{WhereTold}
use Rattle.tao_base.specs.Writes.{write_shard}
use Rattle.tao_base.specs.declared.entry.Entry.{Entry}
use Rattle.master_tables.proofs.Calls.{calls_are_steps}
use Rattle.shard_tables.proofs.WriteSteps.{write_is_step}
use Rattle.shard_tables.specs.Jobs.{job_with}
use Rattle.shard_tables.specs.WriteSteps.{WriteIsStep}
use Rattle.shard_tables.specs.Written.{AnswersAs, TableGains}
use Rattle.tao_keeper.specs.KeeperState.{KeeperState}
use Rattle.tao_keeper.specs.Table.{AreOfEntries}
use Rattle.tao_schema.specs.Schema.{types_of}
use Rattle.topology.specs.Config.{Settings}
use Rattle.core_model.specs.Stores.{master_log, master_store, masters_of}
use Rattle.core_model.specs.Asked.{AuthoredWrite}
use Rattle.core_steps.specs.Writes.{CommitsCall, StepsAs, asked_of_log, given_by_log, new_entry, stores_now}

module _ (s : Settings) (old new : KeeperState) (call : AuthoredWrite) (within : write_shard call.write < s.shards) where
  module _ (sound : IsSoundOf (types_of s.schema) (write_shard call.write) (master_log s old.told (write_shard call.write)))
      (jobs : AreOfEntries (old.told (master_store s (write_shard call.write)))) where
    step : WriteIsStep (masters_of s) old.told new.told (write_shard call.write) (asked_of_log s old call)
    step = write_is_step (masters_of s) old.told new.told (write_shard call.write) (asked_of_log s old call) within refl refl sound jobs

    write_steps : (retry : Bool) (entry : Option Entry) → AnswersAs (asked_of_log s old call) retry entry
        → TableGains old.told new.told (master_store s (write_shard call.write)) (new_entry retry entry) (job_with (types_of s.schema) (new_entry retry entry))
        → StepsAs (asked_of_log s old call) retry entry (write_shard call.write) (stores_now s old) (stores_now s new)
    write_steps true (Some e) answer gains =
        let repeats = step.repeats e (write_shard call.write) answer gains in
        (repeats.0, ((calls_are_steps (masters_of s) old.told new.told).stays gains).0, repeats.1)
    write_steps true None answer gains = absurd answer
    write_steps false (Some e) answer gains = step.commits e answer gains
    write_steps false None answer gains = step.nothing answer gains

  -- what the log answered is committed
  pub commits : (tells : Bool) (retry : Bool) (entry : Option Entry)
      → WhereTold tells (IsSoundOf (types_of s.schema) (write_shard call.write) (master_log s old.told (write_shard call.write)))
      → WhereTold tells (AreOfEntries (old.told (master_store s (write_shard call.write))))
      → WhereTold tells (AnswersAs (asked_of_log s old call) retry entry)
      → WhereTold tells (TableGains old.told new.told (master_store s (write_shard call.write)) (new_entry retry entry)
      (job_with (types_of s.schema) (new_entry retry entry)))
      → CommitsCall tells s call (given_by_log retry entry) old new
  commits tells retry entry sound jobs answer gains = record {
    step = λ told. write_steps (sound told) (jobs told) retry entry (answer told) (gains told);
    answers = answer;
    gains = gains;
  }
