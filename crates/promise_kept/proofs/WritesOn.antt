-- Each stage of a write keeps what is so of it so far.
use Rattle.std.proofs.Common.{◌≡◌, ◌<◌, ◌∙◌, ℕ, true, Option, Some, None, Ok, Err, refl, sym, ap, subst, inl, inr}
use Rattle.std.proofs.lemmas.Option.{IfSome_then}
use Rattle.std.specs.Prelude.{⊤, Contains, IfSome, Result, option_and_then}
use Rattle.core_model.specs.Stores.{master_store, stores_in}
use Rattle.core_plans.proofs.HeldWriteStages.{at_end, at_inverse, before_commit}
use Rattle.core_plans.specs.Held.{learnt_of_write}
use Rattle.core_plans.specs.HeldWrites.{AppliesHeld, CommitsBy, CommitsHeld, ComesOfWrite, DoesWriteStage, EndsWriteDown, IsWriteUnderWay}
use Rattle.core_plans.specs.HeldWrites.{LosesRelay, LosesWayBack, job_sender, write_is_down}
use Rattle.core_plans.specs.HeldWrites.{RefusesHeld, RelaysHeld, call_of_plan, entry_position, job_by, way_given_up, with_notes}
use Rattle.core_plans.specs.LedBy.{led_by, rules_of}
use Rattle.core_plans.specs.Needs.{leaders_of_write}
use Rattle.core_plans.specs.declared.leaders.Leaders.{Leaders}
use Rattle.core_steps.specs.OtherEnds.{EndsOver, MergesOver, SentJob, known_of, merging_leader, sent_job}
use Rattle.core_steps.specs.Routes.{hops_between}
use Rattle.core_steps.specs.World.{World}
use Rattle.core_steps.specs.Writes.{StepsAs, asked_of_log}
use Rattle.node_name.specs.declared.NodeName.{NodeName}
use Rattle.plain_promise.specs.Promise.{Begun, EachGrows, Logs, refused_at}
use Rattle.promise_kept.proofs.Adding.{AddsLearnt, adds_on, adds_same, commit_adds, merge_adds, none_learnt, far_learnt, here_learnt, still_learnt}
use Rattle.promise_kept.proofs.Commits.{commit_job, commit_written, write_of}
use Rattle.promise_kept.proofs.Going.{same_logs}
use Rattle.promise_kept.proofs.Staying.{answered_stays}
use Rattle.promise_kept.proofs.WriteStages.{IsRefusedSo, KeepsStage, Ran, RanBy, RanEntry, RefusesHere, WritesSoFar, commit_ran, end_same, end_writes}
use Rattle.promise_kept.proofs.WriteStages.{ended_there, merges_by, never_refused, open_stage, plan_write, ran_merges, refuses_write, stands_at}
use Rattle.promise_kept.specs.Seen.{HasJobOf, HasWritten, IsAnsweredFor, IsLearnt, OwesNothing}
use Rattle.replies.specs.declared.calls.ScheduledWhy.{ScheduledWhy}
use Rattle.replies.specs.declared.refusals.NodeRefused.TheVariants.{NodeDown}
use Rattle.replies.specs.declared.refusals.Refusal.{Refusal}
use Rattle.replies.specs.declared.refusals.Refusal.TheVariants.{Memory, Node, Store}
use Rattle.replies.specs.declared.refusals.StoreRefused.TheVariants.{LinkFault}
use Rattle.replies.specs.declared.reply.Reply.{Reply}
use Rattle.replies.specs.declared.reply.Reply.TheVariants.{Refused}
use Rattle.request_check.specs.declared.checked.CheckedWrite.{CheckedWrite}
use Rattle.shard_tables.specs.Jobs.{FindsJob}
use Rattle.shard_tables.specs.declared.writes.Wrote.{Wrote}
use Rattle.tao_base.specs.EdgeTypes.{EdgeTypes}
use Rattle.tao_base.specs.Writes.{write_shard}
use Rattle.tao_base.specs.declared.entry.Entry.{Entry}
use Rattle.tao_base.specs.declared.entry.Origin.{Origin}
use Rattle.tao_base.specs.declared.write.Write.{Write}
use Rattle.tao_keeper.specs.KeeperState.{KeeperState}
use Rattle.tao_keeper.specs.declared.jobs.Job.{Job}
use Rattle.tao_schema.specs.Schema.{types_of}
use Rattle.topology.specs.Config.{Settings}
use Rattle.write_model.specs.Machine.{ClientWrite, LeavesEntry, StandsFor}
use Rattle.write_model.specs.Merges.{AreThere, Stores, job_of, log_of}
use Rattle.write_model.specs.Writes.{FitsWrite}
use Rattle.write_plan.specs.Committing.{kind_said}
use Rattle.write_plan.specs.Plans.{Writing, after_stage, answered_entry, answered_job, next_of, when_of, written_there}
use Rattle.write_plan.specs.Stages.{write_refused}
use Rattle.write_plan.specs.declared.committed.Committed.{Committed}
use Rattle.write_plan.specs.declared.progress.OtherEnd.{OtherEnd}
use Rattle.write_plan.specs.declared.progress.OtherEnd.TheVariants.{Due, Ended, Merged, Open}
use Rattle.write_plan.specs.declared.results.LeftOpen.{LeftOpen}
use Rattle.write_plan.specs.declared.results.LeftOpen.TheVariants as left
use Rattle.write_plan.specs.declared.results.WriteResult.TheVariants as came
use Rattle.write_plan.specs.declared.stage.WriteStage.{WriteStage}
use Rattle.write_plan.specs.declared.stage.WriteStage.TheVariants.{Apply, Commit, Done, End, Inverse, Relay}

-- ---- a job in the answer

-- the entry whose job a commit answered, with the job's position
record HasEntryOf (committed : Option Committed) (job : Job) : Type 0 where
  c : Committed
  committed_is : committed ≡ Some c
  e : Entry
  entry_is : c.wrote.entry ≡ Some e
  job_is : c.wrote.job ≡ Some job
  position_is : job.position ≡ e.position

module _ (s : Settings) (stores : Stores) (began : Begun) (call : CheckedWrite) (at : OtherEnd) (job : Job) where
  by_entry : (c : Committed) (entry : Option Entry) → c.wrote.entry ≡ entry → HasJobOf s stores at c.wrote.job entry → c.wrote.job ≡ Some job
      → HasEntryOf (Some c) job
  by_entry c None entry_is none is = (let gone : None ≡ Some job = sym none ∙ is in absurd (cc))
  by_entry c (Some e) entry_is has is = record {
    c = c;
    committed_is = refl;
    e = e;
    entry_is = entry_is;
    job_is = is;
    position_is = subst (λ o. IfSome o (λ (j : Job). j.position ≡ e.position)) is has.position_is;
  }

  entry_of_job : (committed : Option Committed) → IfSome committed (IsAnsweredFor s stores began call at)
      → option_and_then (λ (c : Committed). c.wrote.job) committed ≡ Some job → HasEntryOf committed job
  entry_of_job None answered is = absurd (cc)
  entry_of_job (Some c) answered is = by_entry c c.wrote.entry refl answered.job is

-- the position of an entry, where there is one, is that of the refusal
said_position : (faults : ℕ) (entry : Option Entry) → refused_at (Store (LinkFault faults (when_of entry))) ≡ entry_position entry
said_position faults None = refl
said_position faults (Some e) = refl

down_position : (node : NodeName) (entry : Option Entry) → refused_at (Node (NodeDown node (when_of entry))) ≡ entry_position entry
down_position node None = refl
down_position node (Some e) = refl

-- a write whose stage was refused keeps all but that
pub record RestsRefused (p q : Writing) (reply : Reply) : Type 0 where
  pub write : q.write ≡ p.write
  pub origin : q.origin ≡ p.origin
  pub committed : q.committed ≡ p.committed
  pub job : q.job ≡ p.job
  pub other : q.other ≡ p.other
  pub refused : q.refused ≡ Some reply

pub refused_rests : (at : WriteStage) (p : Writing) (reply : Reply) → RestsRefused p (after_stage p (write_refused at reply) 0) reply
refused_rests Commit p reply = record { write = refl; origin = refl; committed = refl; job = refl; other = refl; refused = refl }
refused_rests Inverse p reply = record { write = refl; origin = refl; committed = refl; job = refl; other = refl; refused = refl }
refused_rests End p reply = record { write = refl; origin = refl; committed = refl; job = refl; other = refl; refused = refl }
refused_rests Relay p reply = record { write = refl; origin = refl; committed = refl; job = refl; other = refl; refused = refl }
refused_rests Apply p reply = record { write = refl; origin = refl; committed = refl; job = refl; other = refl; refused = refl }
refused_rests Done p reply = record { write = refl; origin = refl; committed = refl; job = refl; other = refl; refused = refl }

-- ---- a stage was done

module _ (s : Settings) (p q : Writing) (old new : World) (began : Begun) (call : CheckedWrite) (start : Logs)
    (so : WritesSoFar s began call start p old.keepers) (keeps : KeepsStage s old.keepers new.keepers) where
  abbrev types : EdgeTypes
  types = types_of s.schema

  abbrev Was : Stores
  Was = stores_in s old.keepers.told

  abbrev Now : Stores
  Now = stores_in s new.keepers.told

  abbrev w : ClientWrite
  w = write_of call

  abbrev So : Writing → Type 0
  So r = WritesSoFar s began call start r new.keepers

  abbrev hops : ℕ
  hops = hops_between old.link new.link

  own_write : plan_write p ≡ w
  own_write =
      ap (λ (write : Write). record { shard = write_shard write; epoch = 0; origin = p.origin; asked = write }) so.for_call.write_is
      ∙ ap (λ (origin : Origin). record { shard = write_shard call.write; epoch = 0; origin = origin; asked = call.write }) so.for_call.origin_is

  -- what is learnt of a write then: all that was learnt before, and each entry that the stage added; and of the other end nothing while its job is due
  record LearnsOn (r : Writing) : Type 0 where
    still : (e : Entry) → IsLearnt (learnt_of_write p) e → IsLearnt (learnt_of_write r) e
    adds : AddsLearnt Was.logs Now.logs (learnt_of_write r)
    due : r.job ≡ Due → r.other ≡ None

  -- so it does where nothing was added, and nothing is known that wasn't
  learns_same : (r : Writing) → r.write ≡ p.write → r.committed ≡ p.committed → r.other ≡ written_there p.other None → (r.job ≡ Due → r.other ≡ None)
      → Now.logs ≡ Was.logs → LearnsOn r
  learns_same r write committed other due same = record {
    still = still_learnt p r None write committed other;
    adds = adds_same Was.logs Now.logs (learnt_of_write r) same;
    due = due;
  }

  on_learnt : (r : Writing) → LearnsOn r → (e : Entry) → Contains began.added e → IsLearnt (learnt_of_write r) e
  on_learnt r tells e has = tells.still e (so.for_call.added e has)

  adds_then : (r : Writing) → LearnsOn r → AddsLearnt start Now.logs (learnt_of_write r)
  adds_then r tells = adds_on start Was.logs Now.logs (learnt_of_write p) (learnt_of_write r) keeps.grows tells.still so.adds tells.adds

  same_other : (other : Option Wrote) → other ≡ written_there other None
  same_other None = refl
  same_other (Some w) = refl

  -- no stage is done of a write that was refused
  unrefused : (at : WriteStage) → next_of p ≡ at → (Done ≡ at → ⊥) → (r : Writing) → r.refused ≡ p.refused
      → IfSome r.refused (IsRefusedSo start call Now.logs)
  unrefused at is not r same =
      subst (λ refused. IfSome refused (IsRefusedSo start call Now.logs)) (sym (same ∙ open_stage p.refused p.committed p.job p.back at is not)) tt

  -- ---- commit

  module _ (under : IsWriteUnderWay true s old.keepers.told old.fleet p) (at : next_of p ≡ Commit) where
    none : p.committed ≡ None
    none = before_commit p at

    ran_none : Was.logs ≡ start
    ran_none = subst (λ c. Ran types start w Was.logs c p.job) none so.ran

    module _ (leaders : Leaders) (is : CommitsHeld (led_by (rules_of true s) leaders) p old q new) (grew : EachGrows began.logs Was.logs) where
      abbrev wrote : Wrote
      wrote = is.committed.wrote

      due : p.job ≡ Due
      due = (under.begun none).0

      steps : StepsAs (asked_of_log s old.keepers (call_of_plan p)) wrote.retry wrote.entry (write_shard p.write) Was Now
      steps = is.commits.commits.step refl

      fits : IfSome wrote.entry (λ e. FitsWrite e call.write)
      fits = subst (λ write. IfSome wrote.entry (λ e. FitsWrite e write)) so.for_call.write_is is.answer.apply.fits

      steps_here : StepsAs (asked_of_log s old.keepers (call_of_plan p)) wrote.retry wrote.entry (write_shard call.write) Was Now
      steps_here = subst (λ write. StepsAs (asked_of_log s old.keepers (call_of_plan p)) wrote.retry wrote.entry (write_shard write) Was Now)
          so.for_call.write_is steps

      finds_here : FindsJob (old.keepers.told (master_store s (write_shard call.write))) wrote.retry wrote.entry wrote.job
      finds_here = subst (λ write. FindsJob (old.keepers.told (master_store s (write_shard write))) wrote.retry wrote.entry wrote.job)
          so.for_call.write_is (is.commits.finds refl)

      here : write_shard call.write < s.shards
      here = subst (λ write. write_shard write < s.shards) so.for_call.write_is under.follower.here

      commit_answered : IsAnsweredFor s Now began call Due is.committed
      commit_answered = record {
        kind_is = subst (λ write. kind_said write wrote.entry ≡ Some is.committed.kind) so.for_call.write_is is.answer.kind;
        written = commit_written s old.keepers.told new.keepers.told call began (asked_of_log s old.keepers (call_of_plan p)) refl refl
            so.for_call.origin_is so.for_call.write_is grew wrote.retry wrote.entry fits steps_here;
        job = commit_job s old.keepers.told new.keepers.told call (asked_of_log s old.keepers (call_of_plan p)) here keeps.was wrote.retry wrote.entry
            wrote.job is.commits.opens finds_here steps_here;
      }

      commit_ran_here : RanBy types start w Now.logs wrote.entry Due
      commit_ran_here = subst (λ l. RanBy types l w Now.logs wrote.entry Due) ran_none
          (subst (λ x. RanBy types Was.logs x Now.logs wrote.entry Due) own_write
          (commit_ran s old.keepers new.keepers.told p wrote.retry wrote.entry steps))

      abbrev taken : Writing
      taken = after_stage p (came.Commit (Ok (with_notes is.committed))) hops

      commit_learns : LearnsOn taken
      commit_learns = record {
        still = λ e told. absurd (none_learnt p none e told);
        adds = commit_adds (asked_of_log s old.keepers (call_of_plan p)) (write_shard p.write) Was Now wrote.retry wrote.entry (learnt_of_write taken)
            (λ e entry. here_learnt taken is.committed refl e entry) steps;
        due = so.for_call.due;
      }

      commits_on : So q
      commits_on = subst So (sym is.then) (record {
        for_call = record {
          write_is = so.for_call.write_is;
          origin_is = so.for_call.origin_is;
          answered = subst (λ job. IsAnsweredFor s Now began call job is.committed) (sym due) commit_answered;
          added = on_learnt taken commit_learns;
          due = commit_learns.due;
        };
        ran = subst (λ job. RanBy types start w Now.logs wrote.entry job) (sym due) commit_ran_here;
        adds = adds_then taken commit_learns;
        refused = unrefused Commit at (λ same. absurd (cc)) taken refl;
      })

    -- it was refused at no position, and no log changed
    refused_on : (refusal : Refusal) (took : ℕ) → refused_at refusal ≡ 0 → Now.logs ≡ Was.logs
        → q ≡ after_stage p (came.Commit (Err (Refused refusal))) took → So q
    refused_on refusal took position_is same then =
        let gone = after_stage p (came.Commit (Err (Refused refusal))) took in
        let tells = learns_same gone refl refl (same_other p.other) so.for_call.due same in
        subst So (sym then) (record {
          for_call = record {
            write_is = so.for_call.write_is;
            origin_is = so.for_call.origin_is;
            answered = subst (λ c. IfSome c (IsAnsweredFor s Now began call p.job)) (sym none) tt;
            added = on_learnt gone tells;
            due = tells.due;
          };
          ran = subst (λ c. Ran types start w Now.logs c p.job) (sym none) (same ∙ ran_none);
          adds = adds_then gone tells;
          refused = (refusal, refl, subst (RefusesHere start call Now.logs) (sym position_is) (same ∙ ran_none));
        })

    refuses_on : (leaders : Leaders) → RefusesHeld (led_by (rules_of true s) leaders) p old q new → So q
    refuses_on leaders is =
        let says = refuses_write s leaders p is.refusal old new is.refuses in
        refused_on is.refusal hops says.position_is (same_logs s old.keepers new.keepers says.tables) is.then

    -- by these leaders, or by none
    commit_by : (chosen : Option Leaders) → CommitsBy (rules_of true s) chosen p old q new → EachGrows began.logs Was.logs → So q
    commit_by (Some leaders) (inl commits) grew = commits_on leaders commits grew
    commit_by (Some leaders) (inr refuses) grew = refuses_on leaders refuses
    commit_by None none grew = refused_on _ 0 refl (ap (λ (x : World). (stores_in s x.keepers.told).logs) none.same) none.then

  -- ---- where nothing was written

  -- what is so of the call stays so, with another state of the job
  answered_as : (at : OtherEnd) (c : Committed) → p.committed ≡ Some c → HasJobOf s Now at c.wrote.job c.wrote.entry → IsAnsweredFor s Now began call at c
  answered_as at c is job =
      let was = subst (λ o. IfSome o (IsAnsweredFor s Was began call p.job)) is so.for_call.answered in
      let stays = answered_stays s old.keepers.told new.keepers.told keeps.grows keeps.now began call p.job c was in
      record { kind_is = stays.kind_is; written = stays.written; job = job }

  -- nothing was done of the logs, nor of the job
  rests_on : (r : Writing) → r.write ≡ p.write → r.origin ≡ p.origin → r.committed ≡ p.committed → r.job ≡ p.job → r.other ≡ p.other → Now.logs ≡ Was.logs
      → IfSome r.refused (IsRefusedSo start call Now.logs) → So r
  rests_on r write origin committed job other same refused =
      let tells = learns_same r write committed (other ∙ same_other p.other) (λ is. other ∙ so.for_call.due (sym job ∙ is)) same in record {
        for_call = record {
          write_is = write ∙ so.for_call.write_is;
          origin_is = origin ∙ so.for_call.origin_is;
          answered = subst (λ c. IfSome c (IsAnsweredFor s Now began call r.job)) (sym committed)
              (subst (λ at. IfSome p.committed (IsAnsweredFor s Now began call at)) (sym job)
              (IfSome_then p.committed so.for_call.answered
              (answered_stays s old.keepers.told new.keepers.told keeps.grows keeps.now began call p.job)));
          added = on_learnt r tells;
          due = tells.due;
        };
        ran = subst (λ c. Ran types start w Now.logs c r.job) (sym committed) (subst (λ at. Ran types start w Now.logs p.committed at) (sym job)
            (subst (λ l. Ran types start w l p.committed p.job) (sym same) so.ran));
        adds = adds_then r tells;
        refused = refused;
      }

  -- ---- the job

  -- its entry is in this state then, and what it owed is there where it owes nothing
  moved_on : (job : Job) (own : HasEntryOf p.committed job) (at : OtherEnd) (r : Writing) → r.write ≡ p.write → r.origin ≡ p.origin
      → r.committed ≡ p.committed → r.job ≡ at → r.refused ≡ None → RanEntry types start w Now.logs own.e at → LearnsOn r
      → (OwesNothing (Some job) at → AreThere (log_of Now.logs) (job_of types own.e)) → So r
  moved_on job own at r write origin committed state unrefused ran tells there = record {
    for_call = record {
      write_is = write ∙ so.for_call.write_is;
      origin_is = origin ∙ so.for_call.origin_is;
      answered = subst (λ c. IfSome c (IsAnsweredFor s Now began call r.job)) (sym (committed ∙ own.committed_is))
          (answered_as r.job own.c own.committed_is (subst (HasJobOf s Now r.job own.c.wrote.job) (sym own.entry_is) (record {
            position_is = subst (λ o. IfSome o (λ (j : Job). j.position ≡ own.e.position)) (sym own.job_is) own.position_is;
            there = λ nothing. there (subst (λ o. OwesNothing o at) own.job_is (subst (OwesNothing own.c.wrote.job) state nothing));
          })));
      added = on_learnt r tells;
      due = tells.due;
    };
    ran = subst (λ c. Ran types start w Now.logs c r.job) (sym (committed ∙ own.committed_is))
        (subst (λ entry. RanBy types start w Now.logs entry r.job) (sym own.entry_is)
        (subst (RanEntry types start w Now.logs own.e) (sym state) ran));
    adds = adds_then r tells;
    refused = subst (λ refused. IfSome refused (IsRefusedSo start call Now.logs)) (sym unrefused) tt;
  }

  module _ (job : Job) (answered : answered_job p ≡ Some job) where
    own_job : HasEntryOf p.committed job
    own_job = entry_of_job s Was began call p.job job p.committed so.for_call.answered answered

    abbrev its_entry : Entry
    its_entry = own_job.e

    stood : StandsFor Was.logs w its_entry
    stood = subst (HasWritten s Was began call) own_job.entry_is
        (subst (λ o. IfSome o (IsAnsweredFor s Was began call p.job)) own_job.committed_is so.for_call.answered).written

    same_shard : write_shard p.write ≡ write_shard call.write
    same_shard = ap write_shard so.for_call.write_is

    ran_at : (at : OtherEnd) → p.job ≡ at → RanEntry types start w Was.logs its_entry at
    ran_at at is = subst (RanEntry types start w Was.logs its_entry) is
        (subst (λ entry. RanBy types start w Was.logs entry p.job) own_job.entry_is
        (subst (λ c. Ran types start w Was.logs c p.job) own_job.committed_is so.ran))

    inverse_by : (sent : SentJob) (result : Result Wrote LeftOpen) → sent.job ≡ job_by p job → next_of p ≡ Inverse → MergesOver true s sent result old new
        → q ≡ after_stage p (came.Inverse result) hops → So q
    inverse_by sent result own at merges then = by result merges then
      where
        may : (other : ℕ) × LeavesEntry types start Now.logs w its_entry other
        may =
            let merged = merges_by s w its_entry (job_by p job) old new refl same_shard own_job.position_is stood.stands
            (merging_leader s old.states sent) sent result own merges in
            ran_merges types start w Was.logs Now.logs its_entry merged.0 (ran_at Due (at_inverse p at).1) merged.1

        unrefused_then : p.refused ≡ None
        unrefused_then = open_stage p.refused p.committed p.job p.back Inverse at (λ same. absurd (cc))

        unknown : p.other ≡ None
        unknown = so.for_call.due (at_inverse p at).1

        -- what is known to be written at the other end it tells
        merge_learns : (came_to : Result Wrote LeftOpen) (r : Writing) → r.write ≡ p.write → r.committed ≡ p.committed
            → r.other ≡ written_there p.other (known_of came_to) → (r.job ≡ Due → r.other ≡ None)
            → MergesOver true s sent came_to old new → LearnsOn r
        merge_learns came_to r write committed other due merged = record {
          still = still_learnt p r (known_of came_to) write committed other;
          adds = merge_adds s old new (learnt_of_write r) (merging_leader s old.states sent) sent came_to
              (λ wr known e entry.
              far_learnt r job p.other wr (ap (option_and_then (λ (c : Committed). c.wrote.job)) committed ∙ answered) unknown
              (other ∙ ap (written_there p.other) known) e entry)
              merged;
          due = due;
        }

        by : (came_to : Result Wrote LeftOpen) → MergesOver true s sent came_to old new → q ≡ after_stage p (came.Inverse came_to) hops → So q
        by (Ok wrote) merged is = subst So (sym is)
            (moved_on job own_job Merged (after_stage p (came.Inverse (Ok wrote)) hops) refl refl refl refl unrefused_then may
            (merge_learns (Ok wrote) (after_stage p (came.Inverse (Ok wrote)) hops) refl refl refl (λ is. absurd (cc (is))) merged)
            (λ nothing. absurd nothing))
        by (Err (left.Scheduled why wrote)) merged is = subst So (sym is)
            (moved_on job own_job (Open why) (after_stage p (came.Inverse (Err (left.Scheduled why wrote))) hops) refl refl refl refl unrefused_then may
            (merge_learns (Err (left.Scheduled why wrote)) (after_stage p (came.Inverse (Err (left.Scheduled why wrote))) hops) refl refl refl
            (λ is. absurd (cc (is))) merged)
            (λ nothing. absurd nothing))
        by (Err (left.Refused reply)) merged is = absurd (never_refused s (merging_leader s old.states sent) sent reply old new merged)

    end_by : (result : Result ⊤ LeftOpen) → next_of p ≡ End → EndsOver true s (job_by p job) result old new
        → q ≡ after_stage p (came.End result) 0 → So q
    end_by result at ends then = by result ends then
      where
        may : (other : ℕ) × LeavesEntry types start Now.logs w its_entry other
        may = subst (λ l. (other : ℕ) × LeavesEntry types start l w its_entry other) (sym (end_same s (job_by p job) result old new ends))
            (ran_at Merged (at_end p at).1)

        unrefused_then : p.refused ≡ None
        unrefused_then = open_stage p.refused p.committed p.job p.back End at (λ same. absurd (cc))

        end_learns : (came_to : Result ⊤ LeftOpen) (r : Writing) → r.write ≡ p.write → r.committed ≡ p.committed → r.other ≡ written_there p.other None
            → (r.job ≡ Due → r.other ≡ None) → EndsOver true s (job_by p job) came_to old new → LearnsOn r
        end_learns came_to r write committed other due ended =
            learns_same r write committed other due (end_same s (job_by p job) came_to old new ended)

        -- the end of a job writes nothing at the other end
        none_late : (why : ScheduledWhy) (wrote : Option Wrote) → EndsOver true s (job_by p job) (Err (left.Scheduled why wrote)) old new
            → written_there p.other wrote ≡ written_there p.other None
        none_late why wrote ended = ap (written_there p.other) (end_writes s (job_by p job) why wrote old new ended)

        by : (came_to : Result ⊤ LeftOpen) → EndsOver true s (job_by p job) came_to old new → q ≡ after_stage p (came.End came_to) 0 → So q
        by (Ok tt) ended is = subst So (sym is)
            (moved_on job own_job Ended (after_stage p (came.End (Ok tt)) 0) refl refl refl refl unrefused_then may
            (end_learns (Ok tt) (after_stage p (came.End (Ok tt)) 0) refl refl (same_other p.other) (λ is. absurd (cc (is))) ended)
            (λ nothing. ended_there s w its_entry (job_by p job) old new refl same_shard own_job.position_is stood.stands ended))
        by (Err (left.Scheduled why wrote)) ended is = subst So (sym is)
            (moved_on job own_job (Open why) (after_stage p (came.End (Err (left.Scheduled why wrote))) 0) refl refl refl refl unrefused_then may
            (end_learns (Err (left.Scheduled why wrote)) (after_stage p (came.End (Err (left.Scheduled why wrote))) 0) refl refl
            (none_late why wrote ended) (λ is. absurd (cc (is))) ended)
            (λ nothing. absurd nothing))
        by (Err (left.Refused reply)) ended is = absurd ended

  -- ---- the way back

  module _ (same : Now.logs ≡ Was.logs) where
    ran_now : Ran types start w Now.logs p.committed p.job
    ran_now = subst (λ l. Ran types start w l p.committed p.job) (sym same) so.ran

    answered_now : IfSome p.committed (IsAnsweredFor s Now began call p.job)
    answered_now = IfSome_then p.committed so.for_call.answered
        (answered_stays s old.keepers.told new.keepers.told keeps.grows keeps.now began call p.job)

    said_entry : (entry : Option Entry) → RanBy types start w Now.logs entry p.job → HasWritten s Now began call entry
        → RefusesHere start call Now.logs (entry_position entry)
    said_entry None ran stands = ran
    said_entry (Some e) ran stands = stands_at start call Now.logs e e.position refl stands

    said_commit : (committed : Option Committed) → IfSome committed (IsAnsweredFor s Now began call p.job) → Ran types start w Now.logs committed p.job
        → RefusesHere start call Now.logs (entry_position (option_and_then (λ c. c.wrote.entry) committed))
    said_commit None answered ran = ran
    said_commit (Some c) answered ran = said_entry c.wrote.entry ran answered.written

    said_then : RefusesHere start call Now.logs (entry_position (answered_entry p))
    said_then = said_commit p.committed answered_now ran_now

    -- the refusal of a way back that was lost tells where the write's entry stands
    lost_at : (committed : Committed) → p.committed ≡ Some committed
        → IsRefusedSo start call Now.logs (Refused (Store (LinkFault new.link.faults (when_of committed.wrote.entry))))
    lost_at committed answered =
        let entry = committed.wrote.entry in
        let faults = new.link.faults in
        let position : entry_position (answered_entry p) ≡ refused_at (Store (LinkFault faults (when_of entry))) =
        ap (λ o. entry_position (option_and_then (λ (c : Committed). c.wrote.entry) o)) answered ∙ sym (said_position faults entry) in
        (Store (LinkFault faults (when_of entry)), refl, subst (RefusesHere start call Now.logs) position said_then)

    loses_on : LosesWayBack p old q new → So q
    loses_on loses = subst So (sym loses.then)
        (rests_on (after_stage p (came.Apply (Err (Refused (Store (LinkFault new.link.faults (when_of loses.committed.wrote.entry)))))) hops)
        refl refl refl refl refl same (lost_at loses.committed loses.answered))

    loses_relay_on : LosesRelay p old q new → So q
    loses_relay_on loses = subst So (sym loses.then)
        (rests_on (after_stage p (came.Relay (Err (Refused (Store (LinkFault new.link.faults (when_of loses.committed.wrote.entry)))))) hops)
        refl refl refl refl refl same (lost_at loses.committed loses.answered))

    -- so does the refusal of one that ended since a node is down
    down_on : EndsWriteDown p old q new → So q
    down_on ends =
        let reply = write_is_down ends.node p in
        let rests = refused_rests (next_of p) p reply in
        let entry = answered_entry p in
        subst So (sym ends.then)
        (rests_on (after_stage p (write_refused (next_of p) reply) 0) rests.write rests.origin rests.committed rests.job rests.other same
        (subst (λ r. IfSome r (IsRefusedSo start call Now.logs)) (sym rests.refused)
        (Node (NodeDown ends.node (when_of entry)), refl, subst (RefusesHere start call Now.logs) (sym (down_position ends.node entry)) said_then)))

    -- it ends without its way back
    pub gives_up_on : q ≡ way_given_up p → So q
    gives_up_on then = subst So (sym then)
        (rests_on (after_stage p (came.Apply (Err (Refused (Memory (entry_position (answered_entry p)))))) 0) refl refl refl refl refl same
        (Memory (entry_position (answered_entry p)), refl, said_then))

    relays_on : next_of p ≡ Relay → RelaysHeld s p old q new → So q
    relays_on at relays = subst So (sym relays.then)
        (rests_on (after_stage p (came.Relay (Ok tt)) hops) refl refl refl refl refl same
        (unrefused Relay at (λ same. absurd (cc)) (after_stage p (came.Relay (Ok tt)) hops) refl))

    applies_on : next_of p ≡ Apply → AppliesHeld s p old q new → So q
    applies_on at applies = subst So (sym applies.then)
        (rests_on (after_stage p (came.Apply (Ok tt)) hops) refl refl refl refl refl same
        (unrefused Apply at (λ same. absurd (cc)) (after_stage p (came.Apply (Ok tt)) hops) refl))

  kept_logs : new.keepers ≡ old.keepers → Now.logs ≡ Was.logs
  kept_logs same = ap (λ (k : KeeperState). (stores_in s k.told).logs) same

  -- ---- whatever it was

  stage_on : IsWriteUnderWay true s old.keepers.told old.fleet p → EachGrows began.logs Was.logs → (at : WriteStage) → next_of p ≡ at
      → DoesWriteStage (rules_of true s) at p old q new → So q
  stage_on under grew Commit at does = commit_by under at (leaders_of_write s old.states p) does grew
  stage_on under grew Inverse at does =
      inverse_by does.job does.answered (sent_job (job_sender p does.committed) (job_by p does.job)) does.result refl at does.merges does.then
  stage_on under grew End at does = end_by does.job does.answered does.result at does.ends does.then
  stage_on under grew Relay at (inl relays) = relays_on (kept_logs relays.rest.keepers) at relays
  stage_on under grew Relay at (inr loses) = loses_relay_on (kept_logs loses.rest.keepers) loses
  stage_on under grew Apply at (inl applies) = applies_on (kept_logs applies.rest.keepers) at applies
  stage_on under grew Apply at (inr loses) = loses_on (kept_logs loses.rest.keepers) loses
  stage_on under grew Done at does = absurd does

  pub writes_on : IsWriteUnderWay true s old.keepers.told old.fleet p → EachGrows began.logs Was.logs
      → ComesOfWrite (rules_of true s) p old q new → So q
  writes_on under grew (inl next) = stage_on under grew (next_of p) refl next.does
  writes_on under grew (inr down) = down_on (kept_logs (ap (λ (x : World). x.keepers) down.same)) down
