-- Why a job is left open: by one stage of a write, and by all of them.
use Rattle.std.proofs.Common.{◌≡◌, ◌∙◌, ℕ, Bool, length, Option, Some, None, Result, Ok, Err, refl, sym, ap, subst, inl, inr, arith}
use Rattle.std.specs.Prelude.{◌⊎◌, ⊤, IfSome, IsSome, option_and_then}
use Rattle.core_model.specs.Jobs.{CanBeMerged, ShardJob, far_shard, job_on}
use Rattle.core_model.specs.Stores.{master_log}
use Rattle.core_nodes.specs.Repairs.{FindsNoRoom, owed_entry}
use Rattle.core_nodes.specs.Settling.{IsLaterLink}
use Rattle.core_plans.proofs.HeldWriteStages.{before_commit}
use Rattle.core_plans.proofs.InTurn.{IsSameWrite, write_same}
use Rattle.core_plans.proofs.StageLemmas.{ended_down, merge_refuses_none}
use Rattle.core_plans.proofs.WholeRuns.{OfWrite, write_keeps}
use Rattle.core_plans.specs.HeldWrites.{ComesOfWrite, CommitsBy, DoesWriteStage, job_by, job_sender, write_is_down}
use Rattle.core_plans.specs.LedBy.{Rules}
use Rattle.core_plans.specs.Needs.{leaders_of_write, tier_of_write}
use Rattle.core_plans.specs.WholeCalls.{CarriesOut, PassesStage}
use Rattle.core_plans.specs.declared.held.HeldPlan.{HeldPlan}
use Rattle.core_plans.specs.declared.held.HeldPlan.TheVariants as of
use Rattle.core_plans.specs.declared.leaders.Leaders.{Leaders}
use Rattle.core_steps.specs.OtherEnds.{EndsOver, JobWay, LeavesJob, MergesBy, MergesOver, job_way, master_leader, merging_leader, sent_job}
use Rattle.core_steps.specs.World.{World}
use Rattle.core_steps.specs.declared.routes.TierPlace.{TierPlace}
use Rattle.counts.proofs.Rises.{Rose-earlier, Rose-later}
use Rattle.counts.specs.Count.{Rose}
use Rattle.node_name.specs.declared.NodeName.{NodeName}
use Rattle.replies.specs.declared.calls.ScheduledWhy.{ScheduledWhy}
use Rattle.replies.specs.declared.calls.ScheduledWhy.TheVariants.{KeeperFault, LinkFault, LogFull, Memory, NoServer}
use Rattle.replies.specs.declared.reply.Reply.{Reply}
use Rattle.shard_tables.specs.declared.writes.Wrote.{Wrote}
use Rattle.tao_base.specs.Writes.{write_shard}
use Rattle.tao_base.specs.declared.write.Write.{Write}
use Rattle.tao_keeper.specs.KeeperState.{IsLater, KeeperState}
use Rattle.tao_keeper.specs.Table.{Tables}
use Rattle.tao_keeper.specs.declared.jobs.Job.{Job}
use Rattle.topology.specs.Config.{Settings}
use Rattle.topology.specs.States.{NodeStates}
use Rattle.write_plan.specs.Plans.{Writing, after_stage, answered_job, next_of}
use Rattle.write_plan.specs.Stages.{write_refused}
use Rattle.write_plan.specs.declared.committed.Committed.{Committed}
use Rattle.write_plan.specs.declared.progress.OtherEnd.{OtherEnd}
use Rattle.write_plan.specs.declared.progress.OtherEnd.TheVariants.{Due, Ended, Merged, Open}
use Rattle.write_plan.specs.declared.results.LeftOpen.{LeftOpen}
use Rattle.write_plan.specs.declared.results.LeftOpen.TheVariants as left
use Rattle.write_plan.specs.declared.results.WriteResult.TheVariants as came
use Rattle.write_plan.specs.declared.stage.WriteStage.{WriteStage}
use Rattle.write_plan.specs.declared.stage.WriteStage.TheVariants.{Apply, Commit, Done, End, Inverse, Relay}
use Rattle.headline_kept.specs.Scheduled.{LeavesOpen, OpenCause, OwedJob, owed_job}
use Rattle.headline_kept.proofs.WholeCauses.{Moves, later_trans, link_trans, moves}

-- ---- causes over several stages

-- a log that has no room has none while the tables stay
no_room : (s : Settings) (j : ShardJob) (count : ℕ) (old new : KeeperState) → new.told ≡ old.told → FindsNoRoom s j count old → FindsNoRoom s j count new
no_room s j count old new same full =
    let long = ap (λ (t : Tables). length (master_log s t (far_shard j.job))) same in
    let room = full.full in
    let is = full.count_is in
    record {
      due = subst (λ (t : Tables). IsSome (owed_entry s (record old { told = t }) j)) (sym same) full.due;
      full = omega (arith, long, room);
      count_is = is ∙ sym long;
    }

-- a cause is one from an earlier moment on, while who is up stays so
cause_earlier : (tells : Bool) (s : Settings) (owed : OwedJob) (start old new : World) (why : ScheduledWhy) → IsLater start.keepers old.keepers
    → IsLaterLink start.link old.link → old.states ≡ start.states → OpenCause tells s owed old why new → OpenCause tells s owed start why new
cause_earlier tells s owed start old new LinkFault keepers link states cause = Rose-earlier _ _ _ link.faults cause
cause_earlier tells s owed start old new KeeperFault keepers link states cause = Rose-earlier _ _ _ keepers.faults cause
cause_earlier tells s owed start old new LogFull keepers link states cause = cause
cause_earlier tells s owed start old new NoServer keepers link states cause =
    subst (λ (x : NodeStates). master_leader s x owed.by (far_shard owed.job.job) ≡ None) states cause
cause_earlier tells s owed start old new Memory keepers link states cause = tt

-- and to a later one, while the keepers stay as they are
cause_later : (tells : Bool) (s : Settings) (owed : OwedJob) (start old new : World) (why : ScheduledWhy) → new.keepers ≡ old.keepers
    → IsLaterLink old.link new.link → OpenCause tells s owed start why old → OpenCause tells s owed start why new
cause_later tells s owed start old new LinkFault same link cause = Rose-later _ _ _ cause link.faults
cause_later tells s owed start old new KeeperFault same link cause = subst (λ (k : KeeperState). Rose start.keepers.faults k.faults) (sym same) cause
cause_later tells s owed start old new LogFull same link cause =
    λ told. (let full = cause told in (full.0, subst (FindsNoRoom s owed.job full.0) (sym same) full.1))
cause_later tells s owed start old new NoServer same link cause = cause
cause_later tells s owed start old new Memory same link cause = tt

-- ---- what a stage leaves open

open_one : (why other : ScheduledWhy) → Open why ≡ Open other → why ≡ other
open_one why other is = cc

why_server : (why : ScheduledWhy) (wrote : Option Wrote) (result : Result Wrote LeftOpen) → result ≡ Err (left.Scheduled why wrote)
    → result ≡ Err (left.Scheduled NoServer None) → why ≡ NoServer
why_server why wrote result is none = cc

refused_tier : (at : WriteStage) (reply : Reply) (p : Writing) → (after_stage p (write_refused at reply) 0).tier ≡ p.tier
refused_tier Commit reply p = refl
refused_tier Inverse reply p = refl
refused_tier End reply p = refl
refused_tier Relay reply p = refl
refused_tier Apply reply p = refl
refused_tier Done reply p = refl

module _ (rules : Rules) (p q : Writing) (old new : World) where
  abbrev IsOpened : ScheduledWhy → Type 0
  IsOpened why = LeavesOpen rules.tells rules.settings p old why new

  -- the tier stays; a job that is left open then was so before, and no table changed, or it was left open by the stage
  pub record OpensAs (r : Writing) : Type 0 where
    pub tier : r.tier ≡ p.tier
    pub open_for : (why : ScheduledWhy) → r.job ≡ Open why → ((p.job ≡ Open why) × (new.keepers ≡ old.keepers)) ⊎ IsOpened why

  -- nothing was done of the job, and the keepers stayed
  kept : (r : Writing) → r.tier ≡ p.tier → r.job ≡ p.job → new.keepers ≡ old.keepers → OpensAs r
  kept r tier job same = record { tier = tier; open_for = λ why is. inl (sym job ∙ is, same) }

  -- it isn't left open
  closed : (r : Writing) (at : OtherEnd) → r.tier ≡ p.tier → r.job ≡ at → ((why : ScheduledWhy) → at ≡ Open why → ⊥) → OpensAs r
  closed r at tier job none = record { tier = tier; open_for = λ why is. absurd (none why (sym job ∙ is)) }

  -- it is left open for this reason
  opened : (r : Writing) (why : ScheduledWhy) → r.tier ≡ p.tier → r.job ≡ Open why → IsOpened why → OpensAs r
  opened r why tier job is = record { tier = tier; open_for = λ other at. inr (subst IsOpened (open_one why other (sym job ∙ at)) is) }

  due_closed : (why : ScheduledWhy) → Due ≡ Open why → ⊥
  due_closed why is = absurd (cc)

  merged_closed : (why : ScheduledWhy) → Merged ≡ Open why → ⊥
  merged_closed why is = absurd (cc)

  ended_closed : (why : ScheduledWhy) → Ended ≡ Open why → ⊥
  ended_closed why is = absurd (cc)

  module _ (job : Job) (answered : answered_job p ≡ Some job) where
    abbrev owed : OwedJob
    owed = record { by = tier_of_write p; job = job_by p job }

    abbrev Because : ScheduledWhy → Type 0
    Because why = OpenCause rules.tells rules.settings owed old why new

    left_for : (why : ScheduledWhy) → Because why → IsOpened why
    left_for why cause = record { job = job; answered = answered; cause = cause }

    -- the merge
    left_by : (way : JobWay) (why : ScheduledWhy) (wrote : Option Wrote) → way.job ≡ job_by p job
        → LeavesJob rules.tells rules.settings way (left.Scheduled why wrote) old new → Because why
    left_by way LinkFault None is h = h.1.rose
    left_by way LinkFault (Some wrote) is h = h.1.rose
    left_by way KeeperFault None is h = h.0
    left_by way LogFull None is h = λ told.
        let full = h.0 told in
        let same : new.keepers.told ≡ old.keepers.told = λ i at. h.1.tables told at i in (
          full.0,
          subst (λ j. FindsNoRoom rules.settings j full.0 new.keepers) is
              (no_room rules.settings way.job full.0 old.keepers new.keepers same full.1),
        )
    left_by way Memory None is h = tt
    left_by way NoServer wrote is h = absurd h
    left_by way KeeperFault (Some wrote) is h = absurd h
    left_by way LogFull (Some wrote) is h = absurd h
    left_by way Memory (Some wrote) is h = absurd h

    merge_left : (merging : Option NodeName) (c : Committed) (why : ScheduledWhy) (wrote : Option Wrote)
        → merging_leader rules.settings old.states (sent_job (job_sender p c) (job_by p job)) ≡ merging
        → MergesBy rules.tells rules.settings merging (sent_job (job_sender p c) (job_by p job)) (Err (left.Scheduled why wrote)) old new → Because why
    merge_left (Some merging) c why wrote is merges = left_by (job_way (sent_job (job_sender p c) (job_by p job)) merging) why wrote refl merges
    merge_left None c why wrote is merges =
        subst Because (sym (why_server why wrote (Err (left.Scheduled why wrote)) refl merges.0)) is

    merges : (c : Committed) (result : Result Wrote LeftOpen) (hops : ℕ)
        → MergesOver rules.tells rules.settings (sent_job (job_sender p c) (job_by p job)) result old new
        → q ≡ after_stage p (came.Inverse result) hops → OpensAs q
    merges c (Ok wrote) hops done then = subst OpensAs (sym then) (closed _ Merged refl refl merged_closed)
    merges c (Err (left.Scheduled why wrote)) hops done then = subst OpensAs (sym then)
        (opened _ why refl refl (left_for why (merge_left _ c why wrote refl done)))
    merges c (Err (left.Refused reply)) hops done then =
        absurd (merge_refuses_none _ _ (sent_job (job_sender p c) (job_by p job)) reply old new done)

    -- the end
    ends : (result : Result ⊤ LeftOpen) → EndsOver rules.tells rules.settings (job_by p job) result old new → q ≡ after_stage p (came.End result) 0 → OpensAs q
    ends (Ok it) done then = subst OpensAs (sym then) (closed _ Ended refl refl ended_closed)
    ends (Err (left.Scheduled KeeperFault None)) done then = subst OpensAs (sym then) (opened _ KeeperFault refl refl (left_for KeeperFault done.0))
    ends (Err (left.Scheduled Memory None)) done then = subst OpensAs (sym then) (opened _ Memory refl refl (left_for Memory tt))
    ends (Err (left.Scheduled KeeperFault (Some wrote))) done then = absurd done
    ends (Err (left.Scheduled Memory (Some wrote))) done then = absurd done
    ends (Err (left.Scheduled LinkFault wrote)) done then = absurd done
    ends (Err (left.Scheduled LogFull wrote)) done then = absurd done
    ends (Err (left.Scheduled NoServer wrote)) done then = absurd done
    ends (Err (left.Refused reply)) done then = absurd done

  module _ (begun : p.committed ≡ None → p.job ≡ Due) where
    -- before a commit nothing is done of the job
    commits : (leaders : Option Leaders) → p.committed ≡ None → CommitsBy rules leaders p old q new → OpensAs q
    commits (Some leaders) none (inl done) = subst OpensAs (sym done.then) (closed _ Due refl (begun none) due_closed)
    commits (Some leaders) none (inr refuses) = subst OpensAs (sym refuses.then) (closed _ Due refl (begun none) due_closed)
    commits None none finds = subst OpensAs (sym finds.then) (closed _ Due refl (begun none) due_closed)

    stage_opens : (at : WriteStage) → next_of p ≡ at → DoesWriteStage rules at p old q new → OpensAs q
    stage_opens Commit is does = commits (leaders_of_write rules.settings old.states p) (before_commit p is) does
    stage_opens Inverse is m = merges m.job m.answered m.committed m.result _ m.merges m.then
    stage_opens End is e = ends e.job e.answered e.result e.ends e.then
    stage_opens Relay is (inl relays) = subst OpensAs (sym relays.then) (kept _ refl refl relays.rest.keepers)
    stage_opens Relay is (inr loses) = subst OpensAs (sym loses.then) (kept _ refl refl loses.rest.keepers)
    stage_opens Apply is (inl applies) = subst OpensAs (sym applies.then) (kept _ refl refl applies.rest.keepers)
    stage_opens Apply is (inr loses) = subst OpensAs (sym loses.then) (kept _ refl refl loses.rest.keepers)
    stage_opens Done is does = absurd does

    pub write_opens : ComesOfWrite rules p old q new → OpensAs q
    write_opens (inl next) = stage_opens (next_of p) refl next.does
    write_opens (inr ended) =
        kept q (ap (λ (r : Writing). r.tier) ended.then ∙ refused_tier (next_of p) (write_is_down ended.node p) p) (ended_down p q old new ended).job
        (ap (λ (w : World). w.keepers) ended.same)

-- ---- a write that isn't held

-- a write that began there: where its job is left open, that has its cause since
pub record WriteOpens (rules : Rules) (start : World) (p0 q : Writing) (now : World) : Type 0 where
  pub keepers : IsLater start.keepers now.keepers
  pub link : IsLaterLink start.link now.link
  pub states : now.states ≡ start.states
  pub write : q.write ≡ p0.write
  pub by : tier_of_write q ≡ tier_of_write p0
  pub due : q.committed ≡ None → q.job ≡ Due
  pub can : IfSome (answered_job q) (λ job. CanBeMerged rules.tells rules.settings now.keepers.told (job_on (write_shard p0.write) job))
  pub open_for : (why : ScheduledWhy) → q.job ≡ Open why → (job : Job) × (answered_job q ≡ Some job)
      × OpenCause rules.tells rules.settings (owed_job (tier_of_write p0) (write_shard p0.write) job) start why now

-- what an answer of a commit has of a job
job_same : (p q : Writing) → q.committed ≡ p.committed → answered_job q ≡ answered_job p
job_same p q same = ap (λ (c : Option Committed). option_and_then (λ c. c.wrote.job) c) same

module _ (rules : Rules) (start : World) (p0 : Writing) where
  abbrev So : Writing → World → Type 0
  So q now = WriteOpens rules start p0 q now

  abbrev Owed : Job → OwedJob
  Owed job = owed_job (tier_of_write p0) (write_shard p0.write) job

  module _ (p q : Writing) (old new : World) (so : So p old) (stage : PassesStage rules (of.Write p) old (of.Write q) new) where
    opens : OpensAs rules p q old new q
    opens = write_opens rules p q old new so.due stage.steps

    same : IsSameWrite p q
    same = write_same p q old new rules stage.steps

    by_same : tier_of_write q ≡ tier_of_write p
    by_same = ap (λ n. record { region = n; tier = q.tier }) same.region ∙ ap (λ n. record { region = p.region; tier = n }) opens.tier

    -- a job that is open was answered before the stage
    committed_same : Moves rules p q old new → (p.committed ≡ None → ⊥) → q.committed ≡ p.committed
    committed_same (inl rests) was = rests.committed
    committed_same (inr commits) was = absurd (was commits.none)

    -- what the commit answered may be merged
    can_then : IfSome (answered_job q) (λ job. CanBeMerged rules.tells rules.settings new.keepers.told (job_on (write_shard p0.write) job))
    can_then = subst (λ (w : Write). IfSome (answered_job q) (λ job. CanBeMerged rules.tells rules.settings new.keepers.told (job_on (write_shard w) job)))
        (same.write ∙ so.write) stage.under_way.job

    -- a job that was left open before the stage stays so, for the same reason
    was_open : (why : ScheduledWhy) → p.job ≡ Open why → new.keepers ≡ old.keepers → (job : Job) × (answered_job q ≡ Some job)
        × OpenCause rules.tells rules.settings (Owed job) start why new
    was_open why is kept =
        let was = so.open_for why is in
        let committed = committed_same (moves rules p q old new stage.steps) (λ none. due_closed rules p q old new why (sym (so.due none) ∙ is)) in
        (was.0, job_same p q committed ∙ was.1, cause_later rules.tells rules.settings (Owed was.0) start old new why kept stage.on.link was.2)

    -- one that the stage left open has its cause since the beginning
    now_open : (why : ScheduledWhy) → LeavesOpen rules.tells rules.settings p old why new → (job : Job) × (answered_job q ≡ Some job)
        × OpenCause rules.tells rules.settings (Owed job) start why new
    now_open why is =
        let none : p.committed ≡ None → ⊥ = λ none. absurd (cc (sym (ap (λ (c : Option Committed). option_and_then (λ c. c.wrote.job) c) none) ∙ is.answered)) in
        let owed : record { by = tier_of_write p; job = job_by p is.job } ≡ Owed is.job =
        ap (λ (by : TierPlace). record { by = by; job = job_by p is.job }) so.by
        ∙ ap (λ (w : Write). owed_job (tier_of_write p0) (write_shard w) is.job) so.write in (
          is.job,
          job_same p q (committed_same (moves rules p q old new stage.steps) none) ∙ is.answered,
          cause_earlier rules.tells rules.settings (Owed is.job) start old new why so.keepers so.link so.states
              (subst (λ (o : OwedJob). OpenCause rules.tells rules.settings o old why new) owed is.cause),
        )

    open_then : (why : ScheduledWhy) → ((p.job ≡ Open why) × (new.keepers ≡ old.keepers)) ⊎ LeavesOpen rules.tells rules.settings p old why new
        → (job : Job) × (answered_job q ≡ Some job) × OpenCause rules.tells rules.settings (Owed job) start why new
    open_then why (inl was) = was_open why was.0 was.1
    open_then why (inr is) = now_open why is

    opens_on : So q new
    opens_on = record {
      keepers = later_trans start.keepers old.keepers new.keepers so.keepers stage.on.later;
      link = link_trans start.link old.link new.link so.link stage.on.link;
      states = stage.on.states ∙ so.states;
      write = same.write ∙ so.write;
      by = by_same ∙ so.by;
      due = λ none. (stage.under_way.begun none).0;
      can = can_then;
      open_for = λ why is. open_then why (opens.open_for why is);
    }

  pub write_opened : (q : HeldPlan) (new : World) → p0.committed ≡ None → p0.job ≡ Due → CarriesOut rules (of.Write p0) start q new
      → OfWrite (WriteOpens rules start p0) q new
  write_opened q new none due out =
      write_keeps rules (WriteOpens rules start p0) opens_on out.stages p0 q start new
      (record {
        keepers = record { calls = omega arith; faults = omega arith };
        link = record { carries = omega arith; faults = omega arith; cuts = refl };
        states = refl;
        write = refl;
        by = refl;
        due = λ uncommitted. due;
        can = subst (λ (c : Option Committed). IfSome (option_and_then (λ c. c.wrote.job) c)
            (λ job. CanBeMerged rules.tells rules.settings start.keepers.told (job_on (write_shard p0.write) job))) (sym none) tt;
        open_for = λ why is. absurd (due_closed rules p0 p0 start start why (sym due ∙ is));
      })
      out.passes
