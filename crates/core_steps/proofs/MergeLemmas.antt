-- What the stages of a job come to.
use Rattle.std.proofs.Common.{◌≡◌, ◌≢◌, ◌<◌, ℕ, Bool, Option, Some, None, Result, Ok, Err, IfSome, refl, sym, ap, subst, ◌∙◌, inl, inr}
use Rattle.std.specs.Prelude.{IfErr, IfOk, OnErr, OnOk, ⊤}
use Rattle.graph_model.specs.Told.{WhereTold}
use Rattle.node_name.specs.declared.NodeName.{NodeName}
use Rattle.shard_tables.specs.declared.refusal.StoreRefusal.{StoreRefusal}
use Rattle.shard_tables.specs.declared.refusal.StoreRefusal.TheVariants.{KeeperFault, LogFull, ShardFull, StampFull, SeqReused, TooOld, OutOfMemory}
use Rattle.shard_tables.specs.declared.writes.Wrote.{Wrote}
use Rattle.tao_keeper.proofs.Growing.{cuts_stay}
use Rattle.tao_keeper.specs.Given.{IsGivenJob}
use Rattle.tao_keeper.specs.KeeperState.{KeepsTables}
use Rattle.tao_keeper.specs.Growing.{LogsGrow}
use Rattle.tao_keeper.specs.Table.{Changes, Table, Tables, after_end}
use Rattle.tao_keeper.specs.declared.jobs.Job.{Job}
use Rattle.tao_link.specs.Shown.{LinkShown, after_carry}
use Rattle.tao_link.specs.declared.link.LinkFailed.{LinkFailed}
use Rattle.topology.specs.Config.{Settings}
use Rattle.write_plan.specs.declared.results.LeftOpen.{LeftOpen}
use Rattle.write_plan.specs.declared.results.LeftOpen.TheVariants.{Scheduled}
use Rattle.core_model.specs.Growing.{StoresGrow}
use Rattle.core_model.specs.Jobs.{CanBeMerged, IsOwedJob, job_on}
use Rattle.core_model.specs.Stores.{HaveMasterRegions, master_store}
use Rattle.core_nodes.proofs.GrowingLemmas.{becomes_stores}
use Rattle.core_steps.specs.MergeAnswers.{RefusesMerge, merge_answer}
use Rattle.store_replies.specs.Refused.{why_left_open}
use Rattle.core_steps.specs.OtherEnds.{Crosses, FailsToCross, GoesBetween, JobWay, LeavesJob, MayComeBack, MergesAlong, MergesBy, MergesOver, SentJob}
use Rattle.core_steps.specs.OtherEnds.{TakesMerge, merging_leader}
use Rattle.core_steps.specs.Posting.{ChangesNoNode}
use Rattle.core_steps.specs.World.{World}
use Rattle.core_steps.specs.Routes.{FailsCarry}

-- ---- carries between two nodes that may be one

module _ (from to : NodeName) (old mid new : LinkShown) where
  pub goes_between : Crosses from to old mid → Crosses to from mid new → GoesBetween from to old new
  goes_between (inl here) (inl back) = inl (here.0, back.1 ∙ here.1)
  goes_between (inl here) (inr back) = absurd (back.0 (sym here.0))
  goes_between (inr there) (inl back) = absurd (there.0 (sym back.0))
  goes_between (inr there) (inr back) = inr (there.0, back.1 ∙ ap after_carry there.1)

  pub fails_back : Crosses from to old mid → FailsToCross to from mid new → (from ≢ to) × FailsCarry to from (after_carry old) new
  fails_back (inl here) back = absurd (back.0 (sym here.0))
  fails_back (inr there) back = (there.0, subst (λ l. FailsCarry to from l new) there.1 back.1)

-- ---- what a commit owes can be merged

pub can_merge : (tells : Bool) (s : Settings) (tables : Tables) (shard : ℕ) (job : Option Job) → IfSome job IsGivenJob
    → WhereTold tells (IfSome job (λ j. IsOwedJob s tables (job_on shard j))) → IfSome job (λ j. CanBeMerged tells s tables (job_on shard j))
can_merge tells s tables shard None given owed = tt
can_merge tells s tables shard (Some job) given owed = record { given = given; owed = owed }

-- ---- a merge over the link

module _ (tells : Bool) (s : Settings) (way : JobWay) (old new : World) (mid : LinkShown) (there : Crosses way.leader way.merging old.link mid) where
  -- how the carry back went, after a merge that was refused
  may_come_back : (back : Result ⊤ LinkFailed) → OnOk back (Crosses way.merging way.leader mid new.link)
      → OnErr back (FailsToCross way.merging way.leader mid new.link) → MayComeBack way.leader way.merging old.link new.link
  may_come_back (Ok done) crosses fails = inl (goes_between way.leader way.merging old.link mid new.link there crosses)
  may_come_back (Err lost) crosses fails = inr (fails_back way.leader way.merging old.link mid new.link there fails)

  late_merge : (r : StoreRefusal) → RefusesMerge tells s way.job r old.keepers new.keepers → ChangesNoNode tells old new
      → MayComeBack way.leader way.merging old.link new.link → LeavesJob tells s way (Scheduled (why_left_open r) None) old new
  late_merge KeeperFault cause same back = (cause, same, back)
  late_merge (LogFull count) cause same back = ((λ told. (count, cause told)), same, back)
  late_merge OutOfMemory cause same back = (same, back)
  late_merge (TooOld cut at) cause same back = absurd cause
  late_merge (SeqReused at) cause same back = absurd cause
  late_merge (ShardFull serial) cause same back = absurd cause
  late_merge (StampFull number) cause same back = absurd cause

  answered : (merged : Result Wrote StoreRefusal) (back : Result ⊤ LinkFailed) → IfOk merged (λ wrote. TakesMerge tells s way wrote old new)
      → IfErr merged (λ r. RefusesMerge tells s way.job r old.keepers new.keepers) → OnErr merged (ChangesNoNode tells old new)
      → OnOk back (Crosses way.merging way.leader mid new.link) → OnErr back (FailsToCross way.merging way.leader mid new.link)
      → MergesAlong tells s way (merge_answer merged back) old new
  answered (Ok wrote) (Ok done) takes refuses same crosses fails =
      (takes, goes_between way.leader way.merging old.link mid new.link there crosses)
  answered (Ok wrote) (Err lost) takes refuses same crosses fails =
      let back = fails_back way.leader way.merging old.link mid new.link there fails in (back.0, back.1, takes)
  answered (Err r) back takes refuses same crosses fails = late_merge r refuses same (may_come_back back crosses fails)

  pub merges_along : (result : Result Wrote LeftOpen) (merged : Result Wrote StoreRefusal) (back : Result ⊤ LinkFailed) → result ≡ merge_answer merged back
      → IfOk merged (λ wrote. TakesMerge tells s way wrote old new)
      → IfErr merged (λ r. RefusesMerge tells s way.job r old.keepers new.keepers) → OnErr merged (ChangesNoNode tells old new)
      → OnOk back (Crosses way.merging way.leader mid new.link) → OnErr back (FailsToCross way.merging way.leader mid new.link)
      → MergesAlong tells s way result old new
  merges_along result merged back is takes refuses same crosses fails =
      subst (λ r. MergesAlong tells s way r old new) (sym is) (answered merged back takes refuses same crosses fails)

-- by the leader that was chosen
pub merges_by : (tells : Bool) (s : Settings) (sent : SentJob) (chosen : Option NodeName) (result : Result Wrote LeftOpen) (old new : World)
    → chosen ≡ merging_leader s old.states sent → MergesBy tells s chosen sent result old new → MergesOver tells s sent result old new
merges_by tells s sent chosen result old new is by = subst (λ c. MergesBy tells s c sent result old new) is by

-- ---- the end

-- no line changes where a job is ended, or isn't
pub end_grows : (tells : Bool) (s : Settings) (old new : Tables) (shard position : ℕ) (r : Result ⊤ StoreRefusal) → HaveMasterRegions s
    → shard < s.shards → LogsGrow tells old new → WhereTold tells (Changes r old new (master_store s shard) (after_end (old (master_store s shard)) position))
    → StoresGrow tells s old new
end_grows tells s old new shard position (Ok done) regions here logs changes =
    becomes_stores tells s old new (master_store s shard) (after_end (old (master_store s shard)) position)
    (record { region = regions shard; shard = here }) logs refl refl changes
end_grows tells s old new shard position (Err refusal) regions here logs changes = record {
  on = record {
    logs = logs;
    lines = λ told at. ap (λ (t : Table). t.line) (changes told at);
    others = λ told at none. changes told at;
  };
  cuts = cuts_stay tells old new changes;
}
