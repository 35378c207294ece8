-- What each stage of a held write comes to.
use Rattle.std.proofs.Common.{◌≡◌, ℕ, false, true, Bool, List, Option, Some, None, refl, sym, ap, ◌∙◌, subst, inl, inr}
use Rattle.std.proofs.lemmas.Option.{IfSome_then}
use Rattle.std.specs.Option.{option_map}
use Rattle.std.specs.Prelude.{⊤, Err, IfOk, IfSome, IsSome, Ok, OnOk, Result, option_and_then, unwrap_or}
use Rattle.core_model.specs.Fleet.{Fleet}
use Rattle.core_model.specs.Jobs.{CanBeMerged, IsMergedJob, ShardJob, job_on}
use Rattle.core_steps.specs.OtherEnds.{EndsOver, MergesOver, StandsThere, known_of, sent_job}
use Rattle.core_steps.specs.declared.jobs.JobSender.{JobSender}
use Rattle.core_steps.specs.declared.routes.TierPlace.{TierPlace}
use Rattle.core_steps.specs.Posting.{PostsOn}
use Rattle.core_steps.specs.World.{World}
use Rattle.core_steps.specs.Routes.{hops_between}
use Rattle.core_model.specs.Asked.{client_call}
use Rattle.core_steps.specs.Writes.{CanBeApplied, IsCommitted, asked_of_log}
use Rattle.graph_model.proofs.Members.{if_some_at}
use Rattle.graph_model.specs.Told.{WhereTold}
use Rattle.node_name.specs.declared.NodeName.{NodeName}
use Rattle.replies.specs.declared.calls.ScheduledWhy.{ScheduledWhy}
use Rattle.replies.specs.declared.calls.ScheduledWhy.TheVariants.{LinkFault, KeeperFault, LogFull, NoServer, Memory}
use Rattle.replies.specs.declared.refusals.Refusal.{Refusal}
use Rattle.replies.specs.declared.reply.Reply.{Reply}
use Rattle.replies.specs.declared.reply.Reply.TheVariants as replied
use Rattle.shard_log.specs.View.{View}
use Rattle.shard_tables.specs.StoreView.{Store}
use Rattle.shard_tables.specs.Written.{AnswersAs, AskedWrite}
use Rattle.shard_tables.specs.declared.writes.Wrote.{Wrote}
use Rattle.tao_base.specs.Writes.{write_shard}
use Rattle.tao_base.specs.declared.entry.Entry.{Entry}
use Rattle.tao_keeper.specs.Table.{Tables}
use Rattle.tao_keeper.specs.declared.jobs.Job.{Job}
use Rattle.tao_link.specs.Shown.{LinkShown}
use Rattle.tao_schema.specs.Schema.{types_of}
use Rattle.topology.specs.Config.{Settings}
use Rattle.write_model.proofs.NextNumbers.{forward_origin}
use Rattle.write_plan.specs.Committing.{has_inverse, kind_said}
use Rattle.write_plan.specs.Plans.{Writing, after_stage, answered_job, back_stage, job_stage, next_of, stage_from as stage_by, written_there}
use Rattle.write_plan.specs.Stages.{write_refused}
use Rattle.write_plan.specs.declared.committed.Committed.{Committed}
use Rattle.write_plan.specs.declared.progress.OtherEnd.{OtherEnd}
use Rattle.write_plan.specs.declared.progress.OtherEnd.TheVariants.{Due, Merged, Ended, Open}
use Rattle.write_plan.specs.declared.progress.WayBack.{WayBack}
use Rattle.write_plan.specs.declared.progress.WayBack.TheVariants.{Ahead, Relayed, Applied}
use Rattle.write_plan.specs.declared.results.CommitAnswer.{CommitAnswer}
use Rattle.write_plan.specs.declared.results.LeftOpen.{LeftOpen}
use Rattle.write_plan.specs.declared.results.LeftOpen.TheVariants.{Scheduled, Refused}
use Rattle.write_plan.specs.declared.results.WriteResult.{WriteResult}
use Rattle.write_plan.specs.declared.results.WriteResult.TheVariants as came
use Rattle.write_plan.specs.declared.stage.WriteStage.{WriteStage}
use Rattle.write_plan.specs.declared.stage.WriteStage.TheVariants.{Commit, Inverse, End, Relay, Apply, Done}
use Rattle.core_plans.specs.HeldWrites.{ComesOfCommit, CommitsBy, FindsNoLeader, IsAnswerTo, IsBefore, IsWriteUnderWay, PassesWriteStage, job_by}
use Rattle.core_plans.specs.HeldWrites.{call_of_plan, come_past, job_sender, sent_by, taken_as, with_notes}
use Rattle.core_plans.specs.LedBy.{LedBy, Rules, led_by, rules_of}
use Rattle.core_plans.specs.Needs.{tier_of_write}
use Rattle.core_plans.specs.declared.leaders.Leaders.{Leaders}
use Rattle.core_plans.proofs.WritesGoOn.{write_later}

-- ---- where a write stands

-- a stage of the way back
abbrev is_back : WriteStage → Bool
is_back Commit = false
is_back Inverse = false
is_back End = false
is_back Relay = true
is_back Apply = true
is_back Done = true

goes_back : (passed : Option NodeName) (back : WayBack) → is_back (back_stage passed back) ≡ true
goes_back None Ahead = refl
goes_back (Some leader) Ahead = refl
goes_back None Relayed = refl
goes_back (Some leader) Relayed = refl
goes_back None Applied = refl
goes_back (Some leader) Applied = refl

not_back : (passed : Option NodeName) (back : WayBack) (at : WriteStage) → is_back at ≡ false → back_stage passed back ≡ at → ⊥
not_back passed back at never is =
    let way : is_back at ≡ true = ap is_back (sym is) ∙ goes_back passed back in
    absurd (cc)

stage_of_job : (o : Option Job) (passed : Option NodeName) (job : OtherEnd) (back : WayBack) (at : WriteStage) → is_back at ≡ false
    → unwrap_or (option_and_then (λ _. job_stage job) o) (back_stage passed back) ≡ at → IsSome o × (job_stage job ≡ Some at)
stage_of_job None passed job back at never is = absurd (not_back passed back at never is)
stage_of_job (Some j) passed Due back at never is = (refl, ap Some is)
stage_of_job (Some j) passed Merged back at never is = (refl, ap Some is)
stage_of_job (Some j) passed Ended back at never is = absurd (not_back passed back at never is)
stage_of_job (Some j) passed (Open why) back at never is = absurd (not_back passed back at never is)

-- what a job has before it is no commit
not_commit : (job : OtherEnd) → job_stage job ≡ Some Commit → ⊥
not_commit Due is = absurd (cc)
not_commit Merged is = absurd (cc)
not_commit Ended is = absurd (cc)
not_commit (Open why) is = absurd (cc)

is_due : (job : OtherEnd) → job_stage job ≡ Some Inverse → job ≡ Due
is_due Due is = refl
is_due Merged is = absurd (cc)
is_due Ended is = absurd (cc)
is_due (Open why) is = absurd (cc)

is_merged : (job : OtherEnd) → job_stage job ≡ Some End → job ≡ Merged
is_merged Due is = absurd (cc)
is_merged Merged is = refl
is_merged Ended is = absurd (cc)
is_merged (Open why) is = absurd (cc)

none_answered : (refused : Option Reply) (committed : Option Committed) (job : OtherEnd) (back : WayBack) → stage_by refused committed job back ≡ Commit
    → committed ≡ None
none_answered (Some reply) committed job back is = absurd (cc)
none_answered None None job back is = refl
none_answered None (Some c) job back is = absurd (not_commit job (stage_of_job c.wrote.job c.passed job back Commit refl is).1)

-- before its commit nothing was answered
pub before_commit : (p : Writing) → next_of p ≡ Commit → p.committed ≡ None
before_commit p is = none_answered p.refused p.committed p.job p.back is

job_ahead : (refused : Option Reply) (committed : Option Committed) (job : OtherEnd) (back : WayBack) (at : WriteStage) → is_back at ≡ false
    → (Commit ≡ at → ⊥) → stage_by refused committed job back ≡ at → IsSome (option_and_then (λ c. c.wrote.job) committed) × (job_stage job ≡ Some at)
job_ahead (Some reply) committed job back at never not is = (let over : true ≡ false = ap is_back is ∙ never in absurd (cc))
job_ahead None None job back at never not is = absurd (not is)
job_ahead None (Some c) job back at never not is = stage_of_job c.wrote.job c.passed job back at never is

-- at the stage `inverse` its job is due
pub at_inverse : (p : Writing) → next_of p ≡ Inverse → IsSome (answered_job p) × (p.job ≡ Due)
at_inverse p is =
    let at = job_ahead p.refused p.committed p.job p.back Inverse refl (λ same. absurd (cc)) is in
    (at.0, is_due p.job at.1)

-- and at the stage `end` it is merged
pub at_end : (p : Writing) → next_of p ≡ End → IsSome (answered_job p) × (p.job ≡ Merged)
at_end p is =
    let at = job_ahead p.refused p.committed p.job p.back End refl (λ same. absurd (cc)) is in
    (at.0, is_merged p.job at.1)

back_before : (o : Option Job) (passed : Option NodeName) (job : OtherEnd) (back : WayBack)
    → unwrap_or (option_and_then (λ _. job_stage job) o) (back_stage passed back) ≡ Apply → IsBefore back
back_before o passed job Ahead is = tt
back_before o passed job Relayed is = tt
back_before None None job Applied is = absurd (cc)
back_before None (Some leader) job Applied is = absurd (cc)
back_before (Some j) passed Due Applied is = absurd (cc)
back_before (Some j) passed Merged Applied is = absurd (cc)
back_before (Some j) None Ended Applied is = absurd (cc)
back_before (Some j) (Some leader) Ended Applied is = absurd (cc)
back_before (Some j) None (Open why) Applied is = absurd (cc)
back_before (Some j) (Some leader) (Open why) Applied is = absurd (cc)

back_ahead : (refused : Option Reply) (committed : Option Committed) (job : OtherEnd) (back : WayBack) → stage_by refused committed job back ≡ Apply
    → (refused ≡ None) × IsBefore back × IsSome committed
back_ahead (Some reply) committed job back is = absurd (cc)
back_ahead None None job back is = absurd (cc)
back_ahead None (Some c) job back is = (refl, back_before c.wrote.job c.passed job back is, refl)

-- and at the stage `apply` nothing refused it, its way back isn't done, and its commit was answered
pub at_apply : (p : Writing) → next_of p ≡ Apply → (p.refused ≡ None) × IsBefore p.back × IsSome p.committed
at_apply p is = back_ahead p.refused p.committed p.job p.back is

way_ahead : (passed : Option NodeName) (back : WayBack) → back_stage passed back ≡ Relay → (back ≡ Ahead) × IsSome passed
way_ahead None Ahead is = absurd (cc)
way_ahead (Some leader) Ahead is = (refl, refl)
way_ahead None Relayed is = absurd (cc)
way_ahead (Some leader) Relayed is = absurd (cc)
way_ahead None Applied is = absurd (cc)
way_ahead (Some leader) Applied is = absurd (cc)

relay_ahead : (o : Option Job) (passed : Option NodeName) (job : OtherEnd) (back : WayBack)
    → unwrap_or (option_and_then (λ _. job_stage job) o) (back_stage passed back) ≡ Relay → (back ≡ Ahead) × IsSome passed
relay_ahead None passed job back is = way_ahead passed back is
relay_ahead (Some j) passed Due back is = absurd (cc)
relay_ahead (Some j) passed Merged back is = absurd (cc)
relay_ahead (Some j) passed Ended back is = way_ahead passed back is
relay_ahead (Some j) passed (Open why) back is = way_ahead passed back is

-- nothing refused a write, its way back is all ahead, and its commit was answered, by way of a leader that it passed
pub record IsToRelay (refused : Option Reply) (committed : Option Committed) (back : WayBack) : Type 0 where
  pub unrefused : refused ≡ None
  pub ahead : back ≡ Ahead
  pub answered : IsSome committed
  pub passed : IsSome (option_and_then (λ c. c.passed) committed)

to_relay : (refused : Option Reply) (committed : Option Committed) (job : OtherEnd) (back : WayBack) → stage_by refused committed job back ≡ Relay
    → IsToRelay refused committed back
to_relay (Some reply) committed job back is = absurd (cc)
to_relay None None job back is = absurd (cc)
to_relay None (Some c) job back is =
    let at = relay_ahead c.wrote.job c.passed job back is in
    record { unrefused = refl; ahead = at.0; answered = refl; passed = at.1 }

-- and at the stage `relay` it is to be relayed
pub at_relay : (p : Writing) → next_of p ≡ Relay → IsToRelay p.refused p.committed p.back
at_relay p is = to_relay p.refused p.committed p.job p.back is

-- the leader that a write passed, and the note for it
passed_now : {P : Type 0} (passed : Option NodeName) → IsSome passed → IfSome passed (λ _. P) → P
passed_now None some is = absurd (cc)
passed_now (Some leader) some is = is

pub relay_now : (committed : Option Committed) (relay : Option View) → IsSome (option_and_then (λ c. c.passed) committed)
    → IfSome committed (λ c. IfSome c.passed (λ _. relay ≡ Some c.wrote.note)) → IfSome committed (λ c. relay ≡ Some c.wrote.note)
relay_now None relay some is = tt
relay_now (Some c) relay some is = passed_now c.passed some is

-- which is one of the configuration's
pub passed_named : (P : NodeName → Type 0) (committed : Option Committed) (leader : NodeName) → option_and_then (λ c. c.passed) committed ≡ Some leader
    → IfSome committed (λ c. IfSome c.passed P) → P leader
passed_named P None leader is named = absurd (cc)
passed_named P (Some c) leader is named = if_some_at P c.passed leader named is

-- ---- it can go on

answered_none : (p : Writing) (job : Job) → answered_job p ≡ Some job → p.committed ≡ None → ⊥
answered_none p job is none =
    let gone : None ≡ Some job = ap (option_and_then (λ c. c.wrote.job)) (sym none) ∙ is in
    absurd (cc)

-- what was written at the other end stands there, and stays so where more is told
none_there : (s : Settings) (stores : List Store) (o : Option Job) → IfSome o (λ j. StandsThere s j None stores)
none_there s stores None = tt
none_there s stores (Some j) = tt

more_there : (s : Settings) (stores : List Store) (job : Job) (before more : Option Wrote) → StandsThere s job before stores
    → StandsThere s job more stores → StandsThere s job (written_there before more) stores
more_there s stores job (Some w) more was now = was
more_there s stores job None more was now = now

-- what the end of a job writes there
abbrev late_wrote : Result ⊤ LeftOpen → Option Wrote
late_wrote (Ok done) = None
late_wrote (Err (Scheduled why wrote)) = wrote
late_wrote (Err (Refused reply)) = None

no_late_wrote : (tells : Bool) (s : Settings) (j : ShardJob) (why : ScheduledWhy) (w : Wrote) (old new : World)
    → EndsOver tells s j (Err (Scheduled why (Some w))) old new → ⊥
no_late_wrote tells s j LinkFault w old new is = absurd is
no_late_wrote tells s j KeeperFault w old new is = absurd is
no_late_wrote tells s j LogFull w old new is = absurd is
no_late_wrote tells s j NoServer w old new is = absurd is
no_late_wrote tells s j Memory w old new is = absurd is

-- is nothing
end_writes_none : (tells : Bool) (s : Settings) (j : ShardJob) (result : Result ⊤ LeftOpen) (old new : World) → EndsOver tells s j result old new
    → late_wrote result ≡ None
end_writes_none tells s j (Ok done) old new is = refl
end_writes_none tells s j (Err (Scheduled why None)) old new is = refl
end_writes_none tells s j (Err (Scheduled why (Some w))) old new is = absurd (no_late_wrote tells s j why w old new is)
end_writes_none tells s j (Err (Refused reply)) old new is = refl

-- so it does, with what it took
pub taken_on : (tells : Bool) (s : Settings) (tables : Tables) (f : Fleet) (p q : Writing) (result : WriteResult) (hops : ℕ) → q ≡ after_stage p result hops
    → IsWriteUnderWay tells s tables f (after_stage p result hops) → IsWriteUnderWay tells s tables f q
taken_on tells s tables f p q result hops then = subst (IsWriteUnderWay tells s tables f) (sym then)

-- the note for the leader that was passed is there where one was passed
relay_there : (passed : Option NodeName) (note : View) (relay : Option View) → relay ≡ option_map (λ _. note) passed
    → IfSome passed (λ _. relay ≡ Some note)
relay_there None note relay is = tt
relay_there (Some leader) note relay is = is

module _ (tells : Bool) (s : Settings) (tables : Tables) (f : Fleet) (p : Writing) (is : IsWriteUnderWay tells s tables f p) where
  -- what its commit answered stays that
  answer_stays : (q : Writing) → q.write ≡ p.write → q.origin ≡ p.origin → (c : Committed) → IsAnswerTo s f.stores p c → IsAnswerTo s f.stores q c
  answer_stays q write origin c answer = record {
    apply = subst (λ w. CanBeApplied (client_call q.origin w) c.wrote f.stores) (sym write)
        (subst (λ o. CanBeApplied (client_call o p.write) c.wrote f.stores) (sym origin) answer.apply);
    kind = subst (λ w. kind_said w c.wrote.entry ≡ Some c.kind) (sym write) answer.kind;
    passed = answer.passed;
    paired = subst (λ w. c.paired ≡ has_inverse (types_of s.schema) w) (sym write) answer.paired;
  }

  -- whatever became of its job, or of its way back
  moves : (job : OtherEnd) (other : Option Wrote) (back : WayBack) (refused : Option Reply) (relay spare : Option View) (hops : ℕ)
      → (p.committed ≡ None → (job ≡ Due) × (other ≡ None))
      → (job ≡ Merged → IfSome (answered_job p) (λ j. WhereTold tells (IsMergedJob s tables (job_by p j))))
      → IfSome (answered_job p) (λ j. StandsThere s j other f.stores)
      → (refused ≡ None → IsBefore back → IfSome p.committed (λ c. spare ≡ Some c.wrote.note))
      → (refused ≡ None → back ≡ Ahead → IfSome p.committed (λ c. IfSome c.passed (λ _. relay ≡ Some c.wrote.note)))
      → IsWriteUnderWay tells s tables f
      (record p { job = job; other = other; back = back; refused = refused; relay = relay; spare = spare; hops = hops })
  moves job other back refused relay spare hops begun merged stands noted relayed = record {
    follower = is.follower;
    region = is.region;
    changes = is.changes;
    client = is.client;
    begun = begun;
    committed = IfSome_then p.committed is.committed (answer_stays _ refl refl);
    own = is.own;
    spare = noted;
    relay = relayed;
    job = is.job;
    merged = merged;
    other = stands;
  }

  -- it was refused
  refused_still : (reply : Reply) (relay spare : Option View) (hops : ℕ)
      → IsWriteUnderWay tells s tables f (record p { refused = Some reply; relay = relay; spare = spare; hops = hops })
  refused_still reply relay spare hops =
      moves p.job p.other p.back (Some reply) relay spare hops is.begun is.merged is.other (λ none. absurd (cc)) (λ none. absurd (cc))

  -- it was, at whatever stage
  pub ended_still : (at : WriteStage) (reply : Reply) (hops : ℕ) → IsWriteUnderWay tells s tables f (after_stage p (write_refused at reply) hops)
  ended_still Commit reply hops = refused_still reply p.relay p.spare _
  ended_still Inverse reply hops = refused_still reply p.relay p.spare _
  ended_still End reply hops = refused_still reply p.relay p.spare _
  ended_still Relay reply hops = refused_still reply None p.spare _
  ended_still Apply reply hops = refused_still reply p.relay None _
  ended_still Done reply hops = refused_still reply p.relay None _

  -- it came so far on its way back, or not
  pub applied_still : (outcome : Result ⊤ Reply) (hops : ℕ) → IsWriteUnderWay tells s tables f (after_stage p (came.Apply outcome) hops)
  applied_still (Ok done) hops =
      moves p.job p.other Applied p.refused p.relay None _ is.begun is.merged is.other (λ none before. absurd before) (λ none ahead. absurd (cc))
  applied_still (Err reply) hops = refused_still reply p.relay None _

  -- it came to the leader that it passed, or not
  pub relayed_still : (outcome : Result ⊤ Reply) (hops : ℕ) → IsBefore p.back → IsWriteUnderWay tells s tables f (after_stage p (came.Relay outcome) hops)
  relayed_still (Ok done) hops before =
      moves p.job p.other Relayed p.refused None p.spare _ is.begun is.merged is.other (λ none _. is.spare none before) (λ none ahead. absurd (cc))
  relayed_still (Err reply) hops before = refused_still reply None p.spare _

  -- it was committed, or not
  committed_still : (outcome : Result CommitAnswer Reply) (hops : ℕ) → p.committed ≡ None
      → IfOk outcome (λ a. IsAnswerTo s f.stores p a.committed) → IfOk outcome (λ a. a ≡ with_notes a.committed)
      → IfOk outcome (λ a. IfSome a.committed.wrote.job (λ j. CanBeMerged tells s tables (job_by p j)))
      → IfOk outcome (λ a. WhereTold tells (IfSome a.committed.wrote.entry (λ e. e.origin ≡ p.origin)))
      → IsWriteUnderWay tells s tables f (after_stage p (came.Commit outcome) hops)
  committed_still (Ok a) hops none answer noted job own = record {
    follower = is.follower;
    region = is.region;
    changes = is.changes;
    client = is.client;
    begun = λ gone. absurd (cc);
    committed = answer_stays _ refl refl a.committed answer;
    own = own;
    spare = λ unrefused before. ap (λ (x : CommitAnswer). Some x.spare) noted;
    relay = λ unrefused ahead. relay_there a.committed.passed a.committed.wrote.note a.relay (ap (λ (x : CommitAnswer). x.relay) noted);
    job = job;
    merged = λ at. (let due = (is.begun none).0 in absurd (cc));
    other = subst (λ o. IfSome a.committed.wrote.job (λ j. StandsThere s j o f.stores)) (sym (is.begun none).1)
        (none_there s f.stores a.committed.wrote.job);
  }
  committed_still (Err reply) hops none answer noted job own = refused_still reply p.relay p.spare _

  module _ (job : Job) (at : answered_job p ≡ Some job) where
    not_begun : (due : OtherEnd) (other : Option Wrote) → p.committed ≡ None → (due ≡ Due) × (other ≡ None)
    not_begun due other none = absurd (answered_none p job at none)

    there : (more : Option Wrote) → StandsThere s job more f.stores → IfSome (answered_job p) (λ j. StandsThere s j (written_there p.other more) f.stores)
    there more now = subst (λ o. IfSome o (λ j. StandsThere s j (written_there p.other more) f.stores)) (sym at)
        (more_there s f.stores job p.other more (subst (λ o. IfSome o (λ j. StandsThere s j p.other f.stores)) at is.other) now)

    -- its job was merged, or not
    merged_still : (result : Result Wrote LeftOpen) (hops : ℕ) → WhereTold tells (OnOk result (IsMergedJob s tables (job_by p job)))
        → StandsThere s job (known_of result) f.stores → IsWriteUnderWay tells s tables f (after_stage p (came.Inverse result) hops)
    merged_still (Ok wrote) hops merged stands =
        moves Merged (written_there p.other (Some wrote)) p.back p.refused p.relay p.spare _ (not_begun Merged (written_there p.other (Some wrote)))
        (λ now. subst (λ o. IfSome o (λ j. WhereTold tells (IsMergedJob s tables (job_by p j)))) (sym at) merged) (there (Some wrote) stands) is.spare is.relay
    merged_still (Err (Scheduled why wrote)) hops merged stands =
        moves (Open why) (written_there p.other wrote) p.back p.refused p.relay p.spare _ (not_begun (Open why) (written_there p.other wrote))
        (λ now. absurd (cc)) (there wrote stands) is.spare is.relay
    merged_still (Err (Refused reply)) hops merged stands = refused_still reply p.relay p.spare _

    -- it ended, or not
    pub job_ended_still : (result : Result ⊤ LeftOpen) (hops : ℕ) → late_wrote result ≡ None
        → IsWriteUnderWay tells s tables f (after_stage p (came.End result) hops)
    job_ended_still (Ok done) hops none =
        moves Ended p.other p.back p.refused p.relay p.spare _ (not_begun Ended p.other) (λ now. absurd (cc)) is.other is.spare is.relay
    job_ended_still (Err (Scheduled why wrote)) hops none =
        moves (Open why) (written_there p.other wrote) p.back p.refused p.relay p.spare _ (not_begun (Open why) (written_there p.other wrote))
        (λ now. absurd (cc)) (there wrote (subst (λ o. StandsThere s job o f.stores) (sym none) tt)) is.spare is.relay
    job_ended_still (Err (Refused reply)) hops none = refused_still reply p.relay p.spare _

-- ---- its job

-- what answered it
answered_of : (p : Writing) (job : Job) → answered_job p ≡ Some job → (c : Committed) × (p.committed ≡ Some c)
answered_of p job is = by p.committed refl
  where
    by : (found : Option Committed) → p.committed ≡ found → (c : Committed) × (p.committed ≡ Some c)
    by None at = absurd (answered_none p job is at)
    by (Some c) at = (c, at)

pub job_answered : (p : Writing) → IsSome (answered_job p) → IsSome p.committed
job_answered p some = by p.committed some
  where
    by : (found : Option Committed) → IsSome (option_and_then (λ (c : Committed). c.wrote.job) found) → IsSome found
    by None none = absurd (cc)
    by (Some c) has = refl

-- who sends it
abbrev sender_of : NodeName → TierPlace → JobSender
sender_of leader by = record { leader = leader; by = by }

pub sends_job : (p : Writing) (leader : NodeName) (by : TierPlace) → IfSome p.committed (λ c. leader ≡ c.leader) → by ≡ tier_of_write p
    → IfSome p.committed (λ c. sender_of leader by ≡ job_sender p c)
sends_job p leader by leader_is by_is =
    IfSome_then p.committed leader_is (λ c is. ap (λ l. sender_of l by) is ∙ ap (sender_of c.leader) by_is)

pub no_job : (p : Writing) → IsSome (answered_job p) → answered_job p ≡ None → ⊥
no_job p some none =
    let gone : IsSome {T = Job} None = subst IsSome none some in
    absurd (cc)

module _ (P : ShardJob → Type 0) (p : Writing) (job : Job) (shard : ℕ) (shard_is : shard ≡ write_shard p.write) where
  pub of_job : answered_job p ≡ Some job → IfSome (answered_job p) (λ j. P (job_by p j)) → P (job_on shard job)
  of_job at is = subst (λ n. P (job_on n job)) (sym shard_is) (subst (λ o. IfSome o (λ j. P (job_by p j))) at is)

  pub to_job : P (job_on shard job) → P (job_by p job)
  to_job is = subst (λ n. P (job_on n job)) shard_is is

-- what the keepers' calls don't see
abbrev pub no_carries : LinkShown
no_carries = record { cuts = None; carries = 0; faults = 0; failed = None }

pub ended_on : (tells : Bool) (s : Settings) (tables : Tables) (f : Fleet) (p : Writing) (job : Job) (result : Result ⊤ LeftOpen) (old new : World)
    → IsWriteUnderWay tells s tables f p → answered_job p ≡ Some job → EndsOver tells s (job_by p job) result old new
    → IsWriteUnderWay tells s tables f (after_stage p (came.End result) 0)
ended_on tells s tables f p job result old new is at ends =
    job_ended_still tells s tables f p is job at result 0 (end_writes_none tells s (job_by p job) result old new ends)

-- where no leader can be chosen for it
pub unled_still : (tells : Bool) (s : Settings) (tables : Tables) (f : Fleet) (p q : Writing) (old new : World) → IsWriteUnderWay tells s tables f p
    → FindsNoLeader p old q new → IsWriteUnderWay tells s tables f q
unled_still tells s tables f p q old new is finds = subst (IsWriteUnderWay tells s tables f) (sym finds.then) (ended_still tells s tables f p is Commit _ 0)

-- ---- its entry

-- what the log answers to a write is under its origin
answer_own : (asked : AskedWrite) (retry : Bool) (entry : Option Entry) → AnswersAs asked retry entry → IfSome entry (λ e. e.origin ≡ asked.origin)
answer_own asked true (Some e) answers = answers.stands.origin_is
answer_own asked false (Some e) answers = forward_origin asked.types asked.epoch asked.log asked.origin asked.write e answers.next.forward
answer_own asked retry None answers = tt

-- so is the entry of a commit
pub its_own : (led : LedBy) (p : Writing) (wrote : Wrote) (old new : World)
    → IsCommitted led.tells led.settings (sent_by led p) wrote (come_past led old) new
    → WhereTold led.tells (IfSome wrote.entry (λ e. e.origin ≡ p.origin))
its_own led p wrote old new commits told =
    answer_own (asked_of_log led.settings old.keepers (call_of_plan p)) wrote.retry wrote.entry (commits.commits.answers told)

-- ---- a stage was done

-- the one that was next
pub passes_at : (rules : Rules) (at : WriteStage) (p q : Writing) (old new : World) → next_of p ≡ at → PassesWriteStage rules at p old q new
    → PassesWriteStage rules (next_of p) p old q new
passes_at rules at p q old new is = subst (λ next. PassesWriteStage rules next p old q new) (sym is)

module _ (tells : Bool) (s : Settings) (p q : Writing) (old new : World) (is : IsWriteUnderWay tells s old.keepers.told old.fleet p)
    (on : PostsOn tells s old new) where
  abbrev hops : ℕ
  hops = hops_between old.link new.link

  abbrev Goes : Writing → Type 0
  Goes r = IsWriteUnderWay tells s new.keepers.told new.fleet r

  later : Goes p
  later = write_later tells s old.keepers.told new.keepers.told old.fleet new.fleet p on.consistent on.goes on.grows.on is

  module _ (leaders : Leaders) (at : next_of p ≡ Commit) where
    abbrev Commits : Type 0
    Commits = CommitsBy (rules_of tells s) (Some leaders) p old q new

    commits_done : (given : Result CommitAnswer Refusal) → ComesOfCommit (led_by (rules_of tells s) leaders) p given old new
        → q ≡ after_stage p (came.Commit (taken_as given)) hops → Commits × Goes q
    commits_done (Ok answer) comes then = (
      inl (record {
        committed = answer.committed;
        leader = comes.leader;
        passed = comes.passed;
        commits = comes.commits;
        answer = comes.is;
        then = then ∙ ap (λ a. after_stage p (came.Commit (Ok a)) hops) comes.notes;
      }),
      taken_on tells s new.keepers.told new.fleet p q (came.Commit (Ok answer)) hops then
          (committed_still tells s new.keepers.told new.fleet p later (Ok answer) hops (before_commit p at) comes.is comes.notes comes.job
          (its_own (led_by (rules_of tells s) leaders) p answer.committed.wrote old new comes.commits)),
    )
    commits_done (Err refusal) comes then = (
      inr (record { refusal = refusal; refuses = comes; then = then }),
      taken_on tells s new.keepers.told new.fleet p q (came.Commit (Err (replied.Refused refusal))) hops then
          (committed_still tells s new.keepers.told new.fleet p later (Err (replied.Refused refusal)) hops (before_commit p at) tt tt tt tt),
    )

    -- by these leaders, which may lead it
    pub commits_pass : (given : Result CommitAnswer Refusal) (took : ℕ) → ComesOfCommit (led_by (rules_of tells s) leaders) p given old new
        → took ≡ hops → q ≡ after_stage p (came.Commit (taken_as given)) took → Commits × Goes q
    commits_pass given took comes took_is then =
        commits_done given comes (then ∙ ap (after_stage p (came.Commit (taken_as given))) took_is)

  pub merges_pass : (sender : JobSender) (job : Job) (shard : ℕ) (result : Result Wrote LeftOpen) (took : ℕ)
      → IfSome p.committed (λ c. sender ≡ job_sender p c) → answered_job p ≡ Some job → shard ≡ write_shard p.write
      → MergesOver tells s (sent_job sender (job_on shard job)) result old new
      → WhereTold tells (OnOk result (IsMergedJob s new.keepers.told (job_on shard job)))
      → StandsThere s job (known_of result) new.fleet.stores
      → took ≡ hops → q ≡ after_stage p (came.Inverse result) took → PassesWriteStage (rules_of tells s) Inverse p old q new
  merges_pass sender job shard result took sent answered shard_is merges merged stands took_is took_so =
      let tables = new.keepers.told in
      let then = took_so ∙ ap (after_stage p (came.Inverse result)) took_is in
      let by = answered_of p job answered in
      record {
        does = record {
          committed = by.0;
          answer = by.1;
          job = job;
          answered = answered;
          result = result;
          merges = subst (λ from. MergesOver tells s (sent_job from (job_by p job)) result old new)
              (if_some_at (λ c. sender ≡ job_sender p c) p.committed by.0 sent by.1)
              (to_job (λ j. MergesOver tells s (sent_job sender j) result old new) p job shard shard_is merges);
          then = then;
        };
        write = taken_on tells s tables new.fleet p q (came.Inverse result) hops then
            (merged_still tells s tables new.fleet p later job answered result hops
            (to_job (λ j. WhereTold tells (OnOk result (IsMergedJob s tables j))) p job shard shard_is merged) stands);
        on = on;
      }
