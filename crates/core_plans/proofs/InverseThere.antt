-- Where a write tells its inverse as written, the other end has it.
use Rattle.std.proofs.Common.{◌≡◌, ℕ, ◌<◌, Bool, true, false, List, [], ◌∷◌, Option, Some, None, Ok, Err, IfSome, refl, sym, ap, subst, ◌∙◌, inl, inr}
use Rattle.std.proofs.lemmas.List.Elements.{All-contains, All-contains_itself}
use Rattle.std.proofs.lemmas.Option.{IfSome_then}
use Rattle.std.specs.Option.{option_map}
use Rattle.std.specs.Prelude.{⊤, All, Contains, Result, option_and_then, unwrap_or}
use Rattle.graph_model.specs.Log.{entry_at}
use Rattle.graph_model.specs.Records.{HasStamp}
use Rattle.graph_model.specs.Soundness.{EdgeUpdate, IsSoundOf}
use Rattle.master_tables.proofs.Calls.{tables_are_stores}
use Rattle.replies.specs.declared.calls.CallReply.TheVariants as called
use Rattle.replies.specs.declared.calls.InverseEnd.{InverseEnd}
use Rattle.replies.specs.declared.calls.InverseEnd.TheVariants.{Written}
use Rattle.replies.specs.declared.calls.WriteReply.{WriteReply}
use Rattle.replies.specs.declared.reply.Reply.{Reply}
use Rattle.replies.specs.declared.reply.Reply.TheVariants.{Called}
use Rattle.shard_log.specs.View.{View}
use Rattle.shard_tables.proofs.WriteSteps.{job_edges}
use Rattle.shard_tables.specs.Jobs.{FindsJob, HasOpenJob, OpensJob}
use Rattle.shard_tables.specs.Written.{AskedWrite, StandsIn}
use Rattle.shard_tables.specs.declared.writes.Wrote.{Wrote}
use Rattle.tao_base.specs.EdgeTypes.{EdgeTypes}
use Rattle.tao_base.specs.Ids.{shard_of}
use Rattle.tao_base.specs.Writes.{write_shard}
use Rattle.tao_base.specs.declared.entry.Entry.{Entry}
use Rattle.tao_keeper.specs.Table.{Tables, job_from}
use Rattle.tao_keeper.specs.declared.jobs.Job.{Job}
use Rattle.tao_schema.specs.Schema.{types_of}
use Rattle.topology.specs.Config.{Settings}
use Rattle.write_model.proofs.Covered.{at_place}
use Rattle.write_model.proofs.OpenJobs.{open_jobs_are_owed}
use Rattle.write_model.specs.Merges.{HasJob, Stores, job_of, log_of}
use Rattle.write_model.specs.Steps.{AreSoundAndCovered, opened_job}
use Rattle.write_plan.specs.Plans.{Writing, after_stage, answered_job, back_stage, has_other, inverse_said, job_stage, next_of, stage_from, written_by}
use Rattle.write_plan.specs.Stages.{stage_said}
use Rattle.write_plan.specs.declared.committed.Committed.{Committed}
use Rattle.write_plan.specs.declared.progress.OtherEnd.{OtherEnd}
use Rattle.write_plan.specs.declared.progress.OtherEnd.TheVariants.{Due, Merged, Ended, Open}
use Rattle.write_plan.specs.declared.results.LeftOpen.{LeftOpen}
use Rattle.write_plan.specs.declared.results.LeftOpen.TheVariants.{Refused, Scheduled}
use Rattle.write_plan.specs.declared.results.WriteResult.TheVariants as came
use Rattle.write_plan.specs.declared.stage.WriteStage.{WriteStage}
use Rattle.write_plan.specs.declared.stage.WriteStage.TheVariants.{Apply, Commit, Done, End, Inverse, Relay}
use Rattle.core_model.proofs.KeptStores.{sound_logs}
use Rattle.core_model.specs.Consistent.{IsConsistent}
use Rattle.core_model.specs.Pens.{pens_of}
use Rattle.core_model.specs.Stores.{HaveMasterRegions, master_store, masters_of, stores_in}
use Rattle.core_plans.specs.Held.{IsOver, next_stage, learnt_with}
use Rattle.core_plans.specs.HeldWrites.{ComesOfWrite, CommitsBy, CommitsHeld, DoesWriteStage, IsAnswerTo, IsWriteUnderWay, call_of_plan, job_by}
use Rattle.core_plans.specs.HeldWrites.{job_sender}
use Rattle.core_plans.specs.LedBy.{led_by, rules_of}
use Rattle.core_plans.specs.Needs.{leaders_of_write}
use Rattle.core_plans.specs.declared.leaders.Leaders.{Leaders}
use Rattle.core_plans.specs.WholeCalls.{PassesStage}
use Rattle.core_plans.specs.WholeLaws.{HasOtherEnds, IsBegunWrite, WrittenIsThere}
use Rattle.core_plans.specs.declared.held.HeldPlan.{HeldPlan}
use Rattle.core_plans.specs.declared.held.HeldPlan.TheVariants.{Read, Write}
use Rattle.core_plans.proofs.HeldWriteStages.{at_end, at_inverse, before_commit}
use Rattle.core_plans.proofs.InTurn.{write_same}
use Rattle.core_plans.proofs.StageLemmas.{ended_down, merge_refuses_none}
use Rattle.core_plans.proofs.WholeRuns.{OfWrite, write_keeps}
use Rattle.core_plans.proofs.WriteRefusals.{IsAnswered, IsRefusedSo, answered_write, refused_so}
use Rattle.core_steps.proofs.ReadLemmas.{log_is}
use Rattle.core_steps.proofs.WriteLemmas.{stands_in_log}
use Rattle.core_steps.specs.OtherEnds.{EndsOver, MergesOver, learnt_entry_of, sent_job}
use Rattle.core_steps.specs.World.{World}
use Rattle.core_steps.specs.Writes.{StepsAs, asked_of_log}
use Rattle.core_steps.specs.declared.jobs.LearntEntry.{LearntEntry}

-- ---- an entry whose job isn't open

-- in stores that are covered its records are where they are owed
module _ (types : EdgeTypes) (stores : Stores) (kept : AreSoundAndCovered types stores) (shard : ℕ) (e : Entry)
    (stands : entry_at (log_of stores.logs shard) e.position ≡ Some e) (closed : stores.job shard e.position ≡ None) where
  record_there : (u : EdgeUpdate) → Contains (job_of types e) u → HasStamp (log_of stores.logs (shard_of u.0)) u
  record_there u among =
      let owes = open_jobs_are_owed.owes types stores shard e.position e u kept stands among in
      let all : HasJob types (log_of stores.logs (shard_of u.0)) e =
      open_jobs_are_owed.closed types stores (record { shard = shard; epoch = stores.epochs.of shard; entry = e; other = shard_of u.0 }) kept owes closed in
      All-contains (HasStamp (log_of stores.logs (shard_of u.0))) (job_of types e) u all among

  all_there : All (λ u. HasStamp (log_of stores.logs (shard_of u.0)) u) (job_of types e)
  all_there = λ k d lt. record_there _ (All-contains_itself (job_of types e) k d lt)

-- ---- the job that a commit answers

-- the job that is opened for some records has these
opened_edges : (position : ℕ) (us : List EdgeUpdate) → opened_job us ≡ option_map (λ j. j.edges) (job_from position us)
opened_edges position [] = refl
opened_edges position (u ∷ us) = refl

-- and its position
opened_at : (position : ℕ) (us : List EdgeUpdate) (job : Job) → Some job ≡ job_from position us → job.position ≡ position
opened_at position [] job is = absurd (cc)
opened_at position (u ∷ us) job is =
    let same : job ≡ record { position = position; edges = u ∷ us } = cc in
    ap (λ j. j.position) same

-- it is the open job of the entry, none where none is open
record IsJobThen (stores : Stores) (shard : ℕ) (e : Entry) (job : Option Job) : Type 0 where
  open_is : stores.job shard e.position ≡ option_map (λ j. j.edges) job
  position_is : IfSome job (λ j. j.position ≡ e.position)

module _ (s : Settings) (old new : Tables) (shard : ℕ) (e : Entry) (here : shard < s.shards)
    (sound : IsSoundOf (types_of s.schema) shard (old (master_store s shard)).log) where
  abbrev entry_is_at : (position : ℕ) → entry_at (old (master_store s shard)).log position ≡ Some e → e.position ≡ position
  entry_is_at position stands = (at_place (types_of s.schema) shard (old (master_store s shard)).log position e sound stands).2

  found_position : (job : Option Job) (found : HasOpenJob (old (master_store s shard)) e job) → IfSome job (λ j. j.position ≡ e.position)
  found_position None found = tt
  found_position (Some job) found = found.job_is.0 ∙ sym (entry_is_at found.position found.stands)

  found_job : (job : Option Job) → HasOpenJob (old (master_store s shard)) e job
      → ((stores_in s new).job shard e.position ≡ (stores_in s old).job shard e.position)
      → IsJobThen (stores_in s new) shard e job
  found_job job found same = record {
    open_is = same ∙ (tables_are_stores (masters_of s) old).job_is shard e.position here
        ∙ ap (old (master_store s shard)).jobs (entry_is_at found.position found.stands)
        ∙ job_edges (old (master_store s shard)).jobs found.position job found.job_is;
    position_is = found_position job found;
  }

  new_position : (job : Option Job) → job ≡ job_from e.position (job_of (types_of s.schema) e) → IfSome job (λ j. j.position ≡ e.position)
  new_position None is = tt
  new_position (Some job) is = opened_at e.position (job_of (types_of s.schema) e) job is

  job_then : (asked : AskedWrite) → asked.types ≡ types_of s.schema → (retry : Bool) (job : Option Job) → OpensJob (types_of s.schema) retry (Some e) job
      → FindsJob (old (master_store s shard)) retry (Some e) job → StepsAs asked retry (Some e) shard (stores_in s old) (stores_in s new)
      → IsJobThen (stores_in s new) shard e job
  job_then asked types_are true job opens finds steps = found_job job finds (steps.2 shard e.position)
  job_then asked types_are false job opens finds steps = record {
    open_is = steps.opens.here ∙ ap (λ t. opened_job (job_of t e)) types_are ∙ opened_edges e.position (job_of (types_of s.schema) e)
        ∙ ap (option_map (λ j. j.edges)) (sym opens);
    position_is = new_position job opens;
  }

-- ---- how the job stands from stage to stage

-- without one none is open at the entry; one that isn't ended has the entry's position; one that ended isn't open
abbrev JobStands : Settings → ℕ → Entry → Option Job → OtherEnd → Tables → Type 0
JobStands s shard e None state tables = (stores_in s tables).job shard e.position ≡ None
JobStands s shard e (Some j) Due tables = j.position ≡ e.position
JobStands s shard e (Some j) Merged tables = j.position ≡ e.position
JobStands s shard e (Some j) Ended tables = (stores_in s tables).job shard e.position ≡ None
JobStands s shard e (Some j) (Open why) tables = ⊤

-- so does that of each entry that was committed
abbrev JobsStand : Settings → ℕ → Option Committed → OtherEnd → Tables → Type 0
JobsStand s shard committed state tables = IfSome committed (λ c. IfSome c.wrote.entry (λ e. JobStands s shard e c.wrote.job state tables))

module _ (s : Settings) (shard : ℕ) where
  new_stands : (tables : Tables) (e : Entry) (job : Option Job) → IsJobThen (stores_in s tables) shard e job → JobStands s shard e job Due tables
  new_stands tables e None is = is.open_is
  new_stands tables e (Some j) is = is.position_is

  -- a stage moved it
  moves : (committed : Option Committed) (job : Job) (before after : OtherEnd) (old new : Tables)
      → option_and_then (λ c. c.wrote.job) committed ≡ Some job
      → ((e : Entry) → JobStands s shard e (Some job) before old → JobStands s shard e (Some job) after new)
      → JobsStand s shard committed before old → JobsStand s shard committed after new
  moves None job before after old new is on stands = absurd (cc)
  moves (Some c) job before after old new is on stands =
      IfSome_then c.wrote.entry stands (λ e was. subst (λ o. JobStands s shard e o after new) (sym is)
      (on e (subst (λ o. JobStands s shard e o before old) is was)))

  -- where its job is due
  merges : (p q : Writing) (job : Job) (result : Result Wrote LeftOpen) (hops : ℕ) (old new : Tables) → answered_job p ≡ Some job → p.job ≡ Due
      → ((reply : Reply) → result ≡ Err (Refused reply) → ⊥) → q ≡ after_stage p (came.Inverse result) hops → JobsStand s shard p.committed p.job old
      → JobsStand s shard q.committed q.job new
  merges p q job (Ok wrote) hops old new is due never then stands =
      subst (λ (r : Writing). JobsStand s shard r.committed r.job new) (sym then)
      (moves p.committed job Due Merged old new is (λ e at. at) (subst (λ state. JobsStand s shard p.committed state old) due stands))
  merges p q job (Err (Scheduled why wrote)) hops old new is due never then stands =
      subst (λ (r : Writing). JobsStand s shard r.committed r.job new) (sym then)
      (moves p.committed job Due (Open why) old new is (λ e at. tt) (subst (λ state. JobsStand s shard p.committed state old) due stands))
  merges p q job (Err (Refused reply)) hops old new is due never then stands = absurd (never reply refl)

  -- where it is merged
  ends : (p q : Writing) (job : Job) (result : Result ⊤ LeftOpen) (hops : ℕ) (old new : Tables) → answered_job p ≡ Some job → p.job ≡ Merged
      → ((reply : Reply) → result ≡ Err (Refused reply) → ⊥)
      → (result ≡ Ok tt → (e : Entry) → job.position ≡ e.position → (stores_in s new).job shard e.position ≡ None)
      → q ≡ after_stage p (came.End result) hops → JobsStand s shard p.committed p.job old → JobsStand s shard q.committed q.job new
  ends p q job (Ok tt) hops old new is merged never closes then stands =
      subst (λ (r : Writing). JobsStand s shard r.committed r.job new) (sym then)
      (moves p.committed job Merged Ended old new is (closes refl) (subst (λ state. JobsStand s shard p.committed state old) merged stands))
  ends p q job (Err (Scheduled why wrote)) hops old new is merged never closes then stands =
      subst (λ (r : Writing). JobsStand s shard r.committed r.job new) (sym then)
      (moves p.committed job Merged (Open why) old new is (λ e at. tt) (subst (λ state. JobsStand s shard p.committed state old) merged stands))
  ends p q job (Err (Refused reply)) hops old new is merged never closes then stands = absurd (never reply refl)

-- ---- the stages of a write

-- what is so of it after each
record StandsSoFar (s : Settings) (p : Writing) (now : World) : Type 0 where
  under_way : IsWriteUnderWay true s now.keepers.told now.fleet p
  are : IsConsistent true s now.keepers.told now.fleet
  jobs : JobsStand s (write_shard p.write) p.committed p.job now.keepers.told
  never : IsRefusedSo p.refused

module _ (s : Settings) (p q : Writing) (old new : World) (so : StandsSoFar s p old) where
  abbrev shard : ℕ
  shard = write_shard p.write

  abbrev before : Tables
  before = old.keepers.told

  abbrev after : Tables
  after = new.keepers.told

  module _ (leaders : Leaders) (is : CommitsHeld (led_by (rules_of true s) leaders) p old q new) where
    abbrev answer : Wrote
    answer = is.committed.wrote

    entry_stands : (entry : Option Entry) → answer.entry ≡ entry → IfSome entry (λ e. JobStands s shard e answer.job Due after)
    entry_stands None entry_is = tt
    entry_stands (Some e) entry_is =
        let here = so.under_way.follower.here in
        let asked = asked_of_log s old.keepers (call_of_plan p) in
        new_stands s shard after e answer.job
        (job_then s before after shard e here (sound_logs s before (so.are.stores.kept refl) shard here) asked refl answer.retry answer.job
        (subst (λ o. OpensJob (types_of s.schema) answer.retry o answer.job) entry_is is.commits.opens)
        (subst (λ o. FindsJob (before (master_store s shard)) answer.retry o answer.job) entry_is (is.commits.finds refl))
        (subst (λ o. StepsAs asked answer.retry o shard (stores_in s before) (stores_in s after)) entry_is (is.commits.commits.step refl)))

    commits_stand : next_of p ≡ Commit → JobsStand s shard q.committed q.job after
    commits_stand at =
        let due = (so.under_way.begun (before_commit p at)).0 in
        subst (λ (r : Writing). JobsStand s shard r.committed r.job after) (sym is.then)
        (subst (λ state. IfSome answer.entry (λ e. JobStands s shard e answer.job state after)) (sym due) (entry_stands answer.entry refl))

  -- where the tables stayed
  rests : q.committed ≡ p.committed → q.job ≡ p.job → after ≡ before → JobsStand s shard q.committed q.job after
  rests committed job tables =
      subst (λ c. JobsStand s shard c q.job after) (sym committed) (subst (λ state. JobsStand s shard p.committed state after) (sym job)
      (subst (JobsStand s shard p.committed p.job) (sym tables) so.jobs))

  -- the job that ended is not open
  closes : (job : Job) (e : Entry) → EndsOver true s (job_by p job) (Ok tt) old new → job.position ≡ e.position
      → (stores_in s after).job shard e.position ≡ None
  closes job e ended position =
      let ends = ended.0 refl in
      subst (λ n. (stores_in s after).job n e.position ≡ None) ends.of.shard_is
      (subst (λ at. (stores_in s after).job ends.owed.shard at ≡ None) (ends.of.position_is ∙ position) ends.ends.ends.here)

  commits_so : (leaders : Option Leaders) → next_of p ≡ Commit → CommitsBy (rules_of true s) leaders p old q new
      → JobsStand s shard q.committed q.job after
  commits_so (Some leaders) at (inl commits) = commits_stand leaders commits at
  commits_so (Some leaders) at (inr refuses) =
      subst (λ (r : Writing). JobsStand s shard r.committed r.job after) (sym refuses.then)
      (subst (λ c. JobsStand s shard c p.job after) (sym (before_commit p at)) tt)
  commits_so None at finds =
      subst (λ (r : Writing). JobsStand s shard r.committed r.job after) (sym finds.then)
      (subst (λ c. JobsStand s shard c p.job after) (sym (before_commit p at)) tt)

  stage_stands : (at : WriteStage) → next_of p ≡ at → DoesWriteStage (rules_of true s) at p old q new → JobsStand s shard q.committed q.job after
  stage_stands Commit at does = commits_so (leaders_of_write s old.states p) at does
  stage_stands Inverse at does =
      let sent = sent_job (job_sender p does.committed) (job_by p does.job) in
      merges s shard p q does.job does.result _ before after does.answered (at_inverse p at).1
      (λ reply is. merge_refuses_none true s sent reply old new (subst (λ r. MergesOver true s sent r old new) is does.merges)) does.then so.jobs
  stage_stands End at does =
      ends s shard p q does.job does.result 0 before after does.answered (at_end p at).1
      (λ reply is. subst (λ r. EndsOver true s (job_by p does.job) r old new) is does.ends)
      (λ ok e. closes does.job e (subst (λ r. EndsOver true s (job_by p does.job) r old new) ok does.ends)) does.then so.jobs
  stage_stands Apply at (inl applies) =
      rests (ap (λ (r : Writing). r.committed) applies.then) (ap (λ (r : Writing). r.job) applies.then) (ap (λ k. k.told) applies.rest.keepers)
  stage_stands Apply at (inr loses) =
      rests (ap (λ (r : Writing). r.committed) loses.then) (ap (λ (r : Writing). r.job) loses.then) (ap (λ k. k.told) loses.rest.keepers)
  stage_stands Relay at (inl relays) =
      rests (ap (λ (r : Writing). r.committed) relays.then) (ap (λ (r : Writing). r.job) relays.then) (ap (λ k. k.told) relays.rest.keepers)
  stage_stands Relay at (inr loses) =
      rests (ap (λ (r : Writing). r.committed) loses.then) (ap (λ (r : Writing). r.job) loses.then) (ap (λ k. k.told) loses.rest.keepers)
  stage_stands Done at does = absurd does

  comes_stand : ComesOfWrite (rules_of true s) p old q new → JobsStand s shard q.committed q.job after
  comes_stand (inl does) = stage_stands (next_of p) refl does.does
  comes_stand (inr ends) =
      let is = ended_down p q old new ends in
      rests is.committed is.job (ap (λ (x : World). x.keepers.told) ends.same)

stands_on : (s : Settings) (p q : Writing) (old new : World) → StandsSoFar s p old → PassesStage (rules_of true s) (Write p) old (Write q) new
    → StandsSoFar s q new
stands_on s p q old new so stage = record {
  under_way = stage.under_way;
  are = stage.on.consistent;
  jobs = subst (λ w. JobsStand s (write_shard w) q.committed q.job new.keepers.told) (sym (write_same p q old new (rules_of true s) stage.steps).write)
      (comes_stand s p q old new so stage.steps);
  never = refused_so (rules_of true s) p q old new so.never stage.steps;
}

-- ---- once it is over

abbrev inverse_in : Reply → InverseEnd
inverse_in (Called (called.Write reply)) = reply.written.inverse
inverse_in reply = Written

-- the job isn't open where nothing is left to do and the inverse is said to be written
closed : (s : Settings) (shard : ℕ) (e : Entry) (tables : Tables) (job : Option Job) (state : OtherEnd) (other : Bool) (next : WriteStage)
    → JobStands s shard e job state tables → stage_said (unwrap_or (option_and_then (λ _. job_stage state) job) next) ≡ None
    → Written ≡ inverse_said other state → (stores_in s tables).job shard e.position ≡ None
closed s shard e tables None state other next stands over told = stands
closed s shard e tables (Some j) Ended other next stands over told = stands
closed s shard e tables (Some j) Due other next stands over told = absurd (cc)
closed s shard e tables (Some j) Merged other next stands over told = absurd (cc)
closed s shard e tables (Some j) (Open why) other next stands over told = absurd (cc)

-- an entry, as it is learnt
abbrev as_learnt : ℕ → View → Entry → LearntEntry
as_learnt shard note e = record { shard = shard; entry = e; note = note }

learnt_so : (shard : ℕ) (note : View) (entry : Option Entry) (P : Entry → Type 0) → IfSome entry P
    → IfSome (option_map (as_learnt shard note) entry) (λ t. P t.entry)
learnt_so shard note None P is = tt
learnt_so shard note (Some e) P is = is

module _ (s : Settings) (q : Writing) (now : World) (reply : WriteReply) (regions : HaveMasterRegions s) (so : StandsSoFar s q now)
    (by : IsAnswered q (called.Write reply)) (over : stage_said (next_of q) ≡ None) (told : reply.written.inverse ≡ Written) where
  abbrev its_shard : ℕ
  its_shard = write_shard q.write

  abbrev tables : Tables
  tables = now.keepers.told

  abbrev Logs : Stores
  Logs = stores_in s tables

  abbrev committed : Committed
  committed = by.committed

  -- its entry stands
  stands_then : (e : Entry) → StandsIn (pens_of now.fleet.stores its_shard) e → entry_at (log_of Logs.logs its_shard) e.position ≡ Some e
  stands_then e stands =
      let here = so.under_way.follower.here in
      let log = log_is true s tables now.fleet.stores its_shard regions so.are.stores here in
      subst (λ l. entry_at l e.position ≡ Some e) (sym ((tables_are_stores (masters_of s) tables).log_is its_shard here))
      (subst (λ l. entry_at l e.position ≡ Some e) (log.entries_is refl) (stands log.told_is))

  its_answer : IsAnswerTo s now.fleet.stores q committed
  its_answer = subst (λ o. IfSome o (IsAnswerTo s now.fleet.stores q)) by.answered so.under_way.committed

  entry_there : (entry : Option Entry) → committed.wrote.entry ≡ entry → IfSome entry (HasOtherEnds s tables)
  entry_there None entry_is = tt
  entry_there (Some e) entry_is =
      let wrote = committed.wrote in
      let pens = pens_of now.fleet.stores in
      let stands = subst (λ o. IfSome o (StandsIn (pens its_shard))) entry_is
      (stands_in_log pens its_shard wrote.note wrote.entry its_answer.apply.seen) in
      let jobs = subst (λ o. IfSome o (λ e. JobStands s its_shard e wrote.job q.job tables)) entry_is
      (subst (λ o. JobsStand s its_shard o q.job tables) by.answered so.jobs) in
      let left : stage_said (stage_from None (Some committed) q.job q.back) ≡ None =
      subst (λ o. stage_said (stage_from None o q.job q.back) ≡ None) by.answered
      (subst (λ r. stage_said (stage_from r q.committed q.job q.back) ≡ None) by.unrefused over) in
      let said = ap inverse_in by.reply_is
      ∙ ap (λ o. (written_by wrote.retry (inverse_said (has_other committed) q.job) o).inverse) entry_is in
      all_there (types_of s.schema) Logs (so.are.stores.kept refl) its_shard e (stands_then e stands)
      (closed s its_shard e tables wrote.job q.job (has_other committed) (back_stage committed.passed q.back) jobs left (sym told ∙ said))

  learnt_far : IfSome (learnt_with (Called (called.Write reply)) (Write q)).here (λ t. HasOtherEnds s tables t.entry)
  learnt_far = subst (λ o. IfSome (option_and_then (λ c. learnt_entry_of its_shard c.wrote) o) (λ t. HasOtherEnds s tables t.entry)) (sym by.answered)
      (learnt_so its_shard committed.wrote.note committed.wrote.entry (HasOtherEnds s tables) (entry_there committed.wrote.entry refl))

-- ---- all of its stages

ended_there : (s : Settings) (q : HeldPlan) (now : World) (reply : WriteReply) → HaveMasterRegions s → OfWrite (StandsSoFar s) q now
    → IsOver q (Called (called.Write reply)) → next_stage q ≡ None → reply.written.inverse ≡ Written
    → IfSome (learnt_with (Called (called.Write reply)) q).here (λ t. HasOtherEnds s now.keepers.told t.entry)
ended_there s (Write q) now reply regions so over none told =
    learnt_far s q now reply regions so (answered_write q (called.Write reply) so.never over) none told
ended_there s (Read q) now reply regions so over none told = absurd so

begun_stands : (s : Settings) (p : Writing) (now : World) → IsBegunWrite p → IsWriteUnderWay true s now.keepers.told now.fleet p
    → IsConsistent true s now.keepers.told now.fleet → StandsSoFar s p now
begun_stands s p now begun under_way are = record {
  under_way = under_way;
  are = are;
  jobs = subst (λ c. JobsStand s (write_shard p.write) c p.job now.keepers.told) (sym begun.uncommitted) tt;
  never = subst IsRefusedSo (sym begun.unrefused) tt;
}

pub written_is_there : (s : Settings) (p : Writing) (old : World) (q : HeldPlan) (new : World) → WrittenIsThere s p old q new
written_is_there s p old q new = record {
  there = λ regions begun under_way are out reply over told. ended_there s q new reply regions
      (write_keeps (rules_of true s) (StandsSoFar s) (stands_on s) out.stages p q old new (begun_stands s p old begun under_way are) out.passes)
      over out.over told;
}
