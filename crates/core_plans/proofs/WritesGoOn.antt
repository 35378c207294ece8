-- A write that is held can go on, whatever was done in between, and after each of its stages.
use Rattle.std.proofs.Common.{◌≡◌, ℕ, true, Bool, List, Option, subst, sym}
use Rattle.std.specs.Prelude.{IfSome}
use Rattle.std.proofs.lemmas.Option.{IfSome_then}
use Rattle.core_model.proofs.StayingJobs.{jobs_stay_owed}
use Rattle.core_model.specs.Consistent.{GoesOn, IsConsistent}
use Rattle.core_model.specs.Fleet.{Fleet}
use Rattle.core_model.specs.Growing.{TablesGoOn}
use Rattle.core_model.specs.Jobs.{CanBeMerged, IsMergedJob, ShardJob, far_shard}
use Rattle.core_model.specs.Pens.{Rise, pens_of}
use Rattle.core_model.specs.Stores.{AreKeptIn}
use Rattle.core_model.specs.Writes.{IsSeenEntry}
use Rattle.core_steps.specs.OtherEnds.{StandsThere}
use Rattle.core_model.specs.Asked.{AuthoredWrite}
use Rattle.core_steps.specs.Writes.{CanBeApplied}
use Rattle.graph_model.specs.Told.{WhereTold}
use Rattle.shard_log.proofs.GrowthLemmas.{grows-trans}
use Rattle.shard_log.specs.View.{View}
use Rattle.shard_tables.specs.StoreView.{Store}
use Rattle.shard_tables.specs.declared.writes.Wrote.{Wrote}
use Rattle.tao_base.specs.Writes.{write_shard}
use Rattle.tao_base.specs.declared.entry.Entry.{Entry}
use Rattle.tao_keeper.specs.Growing.{LogsGrow}
use Rattle.tao_keeper.specs.Table.{Tables}
use Rattle.tao_keeper.specs.declared.jobs.Job.{Job}
use Rattle.topology.specs.Config.{Settings}
use Rattle.write_plan.specs.Plans.{Writing, answered_job}
use Rattle.write_plan.specs.declared.committed.Committed.{Committed}
use Rattle.core_plans.specs.Held.{IsUnderWay}
use Rattle.core_plans.specs.HeldWrites.{IsAnswerTo, IsWriteUnderWay, call_of_plan, job_by}
use Rattle.core_plans.specs.declared.held.HeldPlan.{HeldPlan}
use Rattle.core_plans.specs.declared.held.HeldPlan.TheVariants.{Read, Write}
use Rattle.core_plans.proofs.Standing.{under_way_later}

-- ---- what was seen stays seen, and what is owed stays owed

module _ (old new : List Store) (rise : Rise (pens_of old) (pens_of new)) where
  seen_later : (shard : ℕ) (note : View) (e : Entry) → IsSeenEntry (pens_of old) shard note e → IsSeenEntry (pens_of new) shard note e
  seen_later shard note e is =
      record { seen = grows-trans note (pens_of old shard) (pens_of new shard) is.seen (rise shard); stands = is.stands }

  applied_later : (call : AuthoredWrite) (wrote : Wrote) → CanBeApplied call wrote old → CanBeApplied call wrote new
  applied_later call wrote can = record {
    fits = can.fits;
    has = can.has;
    seen = IfSome_then wrote.entry can.seen (seen_later (write_shard call.write) wrote.note);
    here = can.here;
  }

  answer_later : (s : Settings) (p : Writing) (c : Committed) → IsAnswerTo s old p c → IsAnswerTo s new p c
  answer_later s p c is = record {
    apply = applied_later (call_of_plan p) c.wrote is.apply;
    kind = is.kind;
    passed = is.passed;
    paired = is.paired;
  }

  pub stands_later : (s : Settings) (job : Job) (wrote : Option Wrote) → StandsThere s job wrote old → StandsThere s job wrote new
  stands_later s job wrote is = IfSome_then wrote is
      (λ w stands. IfSome_then w.entry stands (λ e there. (there.0, seen_later (far_shard job) w.note e there.1)))

module _ (tells : Bool) (s : Settings) (tables later : Tables) (grows : LogsGrow tells tables later) where
  told_grows : tells ≡ true → LogsGrow true tables later
  told_grows told = record { begins = λ here. grows.begins told }

  pub owed_later : (j : ShardJob) → CanBeMerged tells s tables j → CanBeMerged tells s later j
  owed_later j can = record {
    given = can.given;
    owed = λ told. (jobs_stay_owed s).owed tables later j (told_grows told) (can.owed told);
  }

  pub merged_later : WhereTold tells (AreKeptIn s later) → (j : ShardJob) → WhereTold tells (IsMergedJob s tables j)
      → WhereTold tells (IsMergedJob s later j)
  merged_later kept j was told = (jobs_stay_owed s).merged tables later j (kept told) (told_grows told) (was told)

-- it can go on
pub write_later : (tells : Bool) (s : Settings) (tables later : Tables) (f g : Fleet) (p : Writing) → IsConsistent tells s later g → GoesOn f g
    → TablesGoOn tells s tables later → IsWriteUnderWay tells s tables f p → IsWriteUnderWay tells s later g p
write_later tells s tables later f g p consistent goes grows is = record {
  follower = is.follower;
  region = is.region;
  changes = is.changes;
  client = is.client;
  begun = is.begun;
  committed = IfSome_then p.committed is.committed (answer_later f.stores g.stores goes.rise s p);
  own = is.own;
  relay = is.relay;
  spare = is.spare;
  job = IfSome_then (answered_job p) is.job (λ job. owed_later tells s tables later grows.logs (job_by p job));
  merged = λ at. IfSome_then (answered_job p) (is.merged at)
      (λ job. merged_later tells s tables later grows.logs consistent.stores.kept (job_by p job));
  other = IfSome_then (answered_job p) is.other (λ job. stands_later f.stores g.stores goes.rise s job p.other);
}

-- also where no log of a master changed
pub same_stores : (tells : Bool) (s : Settings) (tables : Tables) (f g : Fleet) (p : Writing) → g.stores ≡ f.stores
    → IsWriteUnderWay tells s tables f p → IsWriteUnderWay tells s tables g p
same_stores tells s tables f g p same is = record {
  follower = is.follower;
  region = is.region;
  changes = is.changes;
  client = is.client;
  begun = is.begun;
  committed = subst (λ stores. IfSome p.committed (IsAnswerTo s stores p)) (sym same) is.committed;
  own = is.own;
  relay = is.relay;
  spare = is.spare;
  job = is.job;
  merged = is.merged;
  other = subst (λ stores. IfSome (answered_job p) (λ job. StandsThere s job p.other stores)) (sym same) is.other;
}

-- so each plan that is held
pub plan_later : (tells : Bool) (s : Settings) (tables later : Tables) (f g : Fleet) (plan : HeldPlan) → IsConsistent tells s later g → GoesOn f g
    → TablesGoOn tells s tables later → IsUnderWay tells s tables f plan → IsUnderWay tells s later g plan
plan_later tells s tables later f g (Read p) consistent goes grows is = under_way_later tells s tables later f g p is goes grows
plan_later tells s tables later f g (Write p) consistent goes grows is = write_later tells s tables later f g p consistent goes grows is
