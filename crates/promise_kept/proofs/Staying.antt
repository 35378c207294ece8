-- What the commit of a write answered stays so while logs grow.
use Rattle.std.proofs.Common.{◌≡◌, ◌∙◌, ◌+◌, Option, Some, None, length, length-append, take, ap, arith}
use Rattle.std.proofs.lemmas.List.{take-append-le}
use Rattle.core_model.specs.Stores.{AreKeptIn, stores_in}
use Rattle.plain_promise.proofs.PromiseLaws.{grown_by}
use Rattle.plain_promise.specs.Promise.{Begun, EachGrows}
use Rattle.promise_kept.specs.Seen.{HadNothing, HasItsJob, HasJobOf, HasWritten, IsAnsweredFor}
use Rattle.request_check.specs.declared.checked.CheckedWrite.{CheckedWrite}
use Rattle.tao_base.specs.Writes.{write_shard}
use Rattle.tao_base.specs.declared.entry.Entry.{Entry}
use Rattle.tao_base.specs.declared.entry.Origin.TheVariants.{Client}
use Rattle.tao_keeper.specs.Table.{Tables}
use Rattle.tao_keeper.specs.declared.jobs.Job.{Job}
use Rattle.tao_schema.specs.Schema.{types_of}
use Rattle.topology.specs.Config.{Settings}
use Rattle.write_model.proofs.Growing.{Grown, entry_stays, there_stays}
use Rattle.write_model.specs.Merges.{AreThere, Stores, job_of, log_of}
use Rattle.write_model.specs.Writes.{forward_entry}
use Rattle.write_plan.specs.declared.committed.Committed.{Committed}
use Rattle.write_plan.specs.declared.progress.OtherEnd.{OtherEnd}

module _ (s : Settings) (old new : Tables) (grows : EachGrows (stores_in s old).logs (stores_in s new).logs) (kept : AreKeptIn s new) where
  abbrev Was : Stores
  Was = stores_in s old

  abbrev Now : Stores
  Now = stores_in s new

  grown : Grown (log_of Was.logs) (log_of Now.logs)
  grown = grown_by Was.logs Now.logs grows

  -- a moment that the log had it had
  nothing_stays : (began : Begun) (write : CheckedWrite) → HadNothing s Was began write → HadNothing s Now began write
  nothing_stays began write had =
      let shard = write_shard write.write in
      let longer = grown.is shard in
      let within = had.within in
      let front : take had.n (log_of Now.logs shard) ≡ take had.n (log_of Was.logs shard) =
      ap (take had.n) longer ∙ take-append-le had.n (log_of Was.logs shard) (grown.more shard) within in
      let long : length (log_of Now.logs shard) ≡ length (log_of Was.logs shard) + length (grown.more shard) =
      ap length longer ∙ length-append (log_of Was.logs shard) (grown.more shard) in
      record {
        n = had.n;
        since = had.since;
        within = omega (arith, within, long);
        nothing = ap (λ l. forward_entry (types_of s.schema) 0 l (Client write.session write.seq) write.write) front ∙ had.nothing;
      }

  -- what stands stands
  pub written_stays : (began : Begun) (write : CheckedWrite) (entry : Option Entry) → HasWritten s Was began write entry → HasWritten s Now began write entry
  written_stays began write None had = nothing_stays began write had
  written_stays began write (Some e) stood = record {
    stands = entry_stays (types_of s.schema) (log_of Was.logs) (log_of Now.logs) grown (write_shard write.write) e.position e stood.stands;
    origin_is = stood.origin_is;
    fits = stood.fits;
  }

  -- what is at the other ends is there
  pub ends_stay : (e : Entry) → AreThere (log_of Was.logs) (job_of (types_of s.schema) e) → AreThere (log_of Now.logs) (job_of (types_of s.schema) e)
  ends_stay e there =
      there_stays (types_of s.schema) (log_of Was.logs) (log_of Now.logs) grown kept.sound (job_of (types_of s.schema) e) there

  job_stays : (at : OtherEnd) (job : Option Job) (e : Entry) → HasItsJob s Was at job e → HasItsJob s Now at job e
  job_stays at job e has = record { position_is = has.position_is; there = λ nothing. ends_stay e (has.there nothing) }

  job_of_stays : (at : OtherEnd) (job : Option Job) (entry : Option Entry) → HasJobOf s Was at job entry → HasJobOf s Now at job entry
  job_of_stays at job None none = none
  job_of_stays at job (Some e) has = job_stays at job e has

  pub answered_stays : (began : Begun) (write : CheckedWrite) (at : OtherEnd) (c : Committed) → IsAnsweredFor s Was began write at c
      → IsAnsweredFor s Now began write at c
  answered_stays began write at c is = record {
    kind_is = is.kind_is;
    written = written_stays began write c.wrote.entry is.written;
    job = job_of_stays at c.wrote.job c.wrote.entry is.job;
  }
