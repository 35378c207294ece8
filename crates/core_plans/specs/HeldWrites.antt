-- A write that is held between its stages, and what each stage does.
use Rattle.std.specs.Prelude.{ℕ, ◌≡◌, ◌<◌, ◌⊎◌, ⊤, Bool, Contains, IfSome, IsTrue, List, Option, None, Some, Result, Ok, Err, length, unwrap_or}
use Rattle.std.specs.Option.{option_map}
use Rattle.core_model.specs.Fleet.{Fleet, leader_names}
use Rattle.core_model.specs.Jobs.{CanBeMerged, IsMergedJob, ShardJob, job_on}
use Rattle.core_model.specs.Serving.{IsFollowerFor, IsLeaderIn}
use Rattle.core_model.specs.Stores.{master_of}
use Rattle.core_steps.specs.Routes.{FailsCarry, hops_between}
use Rattle.core_steps.specs.World.{World}
use Rattle.core_steps.specs.OtherEnds.{EndsOver, MergesOver, StandsThere, sent_job}
use Rattle.core_steps.specs.declared.jobs.JobSender.{JobSender}
use Rattle.core_steps.specs.Posting.{AppliesAlone, PostsOn}
use Rattle.core_steps.specs.Relays.{LeaderRelays, RefusesPassing, RelaysAlone, link_past}
use Rattle.core_model.specs.Asked.{AuthoredWrite, client_call}
use Rattle.core_steps.specs.Writes.{CanBeApplied, FollowerTakes, IsCommitted, RefusesCommit, SentWrite, sent_write}
use Rattle.core_steps.specs.declared.routes.Route.{Route}
use Rattle.graph_model.specs.Soundness.{is_client}
use Rattle.graph_model.specs.Told.{WhereTold}
use Rattle.node_name.specs.declared.NodeName.{NodeName}
use Rattle.replies.specs.declared.refusals.Refusal.{Refusal}
use Rattle.replies.specs.declared.refusals.NodeRefused.TheVariants.{NoServer, NodeDown}
use Rattle.replies.specs.declared.refusals.Refusal.TheVariants.{Store, Memory, Node}
use Rattle.replies.specs.declared.refusals.StoreRefused.TheVariants.{LinkFault}
use Rattle.replies.specs.declared.reply.Reply.{Reply}
use Rattle.replies.specs.declared.reply.Reply.TheVariants.{Refused}
use Rattle.shard_tables.specs.StoreView.{Store as StoreSeen}
use Rattle.shard_tables.specs.declared.writes.Wrote.{Wrote}
use Rattle.tao_base.specs.Writes.{ChangesType, write_shard}
use Rattle.tao_base.specs.declared.entry.Entry.{Entry}
use Rattle.tao_keeper.specs.Table.{Tables}
use Rattle.tao_keeper.specs.declared.jobs.Job.{Job}
use Rattle.tao_link.specs.Shown.{after_carry}
use Rattle.tao_schema.specs.Schema.{types_of}
use Rattle.topology.specs.Choices.{master_region}
use Rattle.topology.specs.Config.{Settings}
use Rattle.write_plan.specs.Committing.{has_inverse, kind_said}
use Rattle.write_plan.specs.Plans.{Writing, after_stage, answered_entry, answered_job, next_of, when_of}
use Rattle.write_plan.specs.Stages.{write_refused}
use Rattle.write_plan.specs.declared.committed.Committed.{Committed}
use Rattle.write_plan.specs.declared.progress.OtherEnd.TheVariants.{Due, Merged}
use Rattle.write_plan.specs.declared.progress.WayBack.{WayBack}
use Rattle.write_plan.specs.declared.progress.WayBack.TheVariants.{Ahead, Applied, Relayed}
use Rattle.write_plan.specs.declared.results.CommitAnswer.{CommitAnswer}
use Rattle.write_plan.specs.declared.results.LeftOpen.{LeftOpen}
use Rattle.write_plan.specs.declared.results.WriteResult.TheVariants as came
use Rattle.write_plan.specs.declared.stage.WriteStage.{WriteStage}
use Rattle.write_plan.specs.declared.stage.WriteStage.TheVariants.{Commit, Inverse, End, Relay, Apply, Done}
use Rattle.core_plans.specs.LedBy.{LedBy, Rules, led_by}
use Rattle.core_plans.specs.Needs.{leaders_of_write, tier_of_write, write_down}
use Rattle.write_plan.specs.Plans.{last_leader}
use Rattle.core_plans.specs.declared.leaders.Leaders.{Leaders}

-- the client's write that a plan carries out, under its origin
abbrev pub call_of_plan : Writing → AuthoredWrite
call_of_plan p = client_call p.origin p.write

-- the route of a write, by a leader
abbrev pub way_by : NodeName → Writing → Route
way_by leader p = record { follower = p.follower; leader = leader }

-- the position of an entry, or 0
abbrev pub entry_position : Option Entry → ℕ
entry_position None = 0
entry_position (Some e) = e.position

-- the leaders may lead a write's stages: the one that commits it is of the master's region, and may stand in for another; the one that it passes, where
-- it passes one, is one of the configuration's
pub record LeadWrite (s : Settings) (leaders : Leaders) (p : Writing) : Type 0 where
  pub leader : IsLeaderIn s (master_of s (write_shard p.write)) leaders.leader
  pub passed : IfSome leaders.passed (Contains (leader_names s))

-- what its commit answered: its follower may take it, and so may the leader that it passed, where it passed one, which is one of the configuration's
pub record IsAnswerTo (s : Settings) (stores : List StoreSeen) (p : Writing) (c : Committed) : Type 0 where
  pub apply : CanBeApplied (call_of_plan p) c.wrote stores
  pub kind : kind_said p.write c.wrote.entry ≡ Some c.kind
  pub passed : IfSome c.passed (Contains (leader_names s))
  pub paired : c.paired ≡ has_inverse (types_of s.schema) p.write

-- the job that its commit answered, as one of its shard
abbrev pub job_by : Writing → Job → ShardJob
job_by p job = job_on (write_shard p.write) job

-- the way back of a write isn't done
abbrev pub IsBefore : WayBack → Type 0
IsBefore Ahead = ⊤
IsBefore Relayed = ⊤
IsBefore Applied = ⊥

-- a write of a client, at a follower that serves its shard, from a region of the configuration. Before its commit nothing is done of its other end.
-- What the commit answered can be applied, by a second note that is there until it was, and relayed where a leader was passed, by a third one, and its job
-- merged; a job that was merged can be ended, and what was written at the other end stands there. Its entry is under its own origin
pub record IsWriteUnderWay (tells : Bool) (s : Settings) (tables : Tables) (f : Fleet) (p : Writing) : Type 0 where
  pub follower : IsFollowerFor s (write_shard p.write) p.follower
  pub region : p.region < length s.regions
  pub changes : ChangesType (types_of s.schema) p.write
  pub client : IsTrue (is_client p.origin)
  pub begun : p.committed ≡ None → (p.job ≡ Due) × (p.other ≡ None)
  pub committed : IfSome p.committed (IsAnswerTo s f.stores p)
  pub own : WhereTold tells (IfSome (answered_entry p) (λ e. e.origin ≡ p.origin))
  pub spare : p.refused ≡ None → IsBefore p.back → IfSome p.committed (λ c. p.spare ≡ Some c.wrote.note)
  pub relay : p.refused ≡ None → p.back ≡ Ahead → IfSome p.committed (λ c. IfSome c.passed (λ _. p.relay ≡ Some c.wrote.note))
  pub job : IfSome (answered_job p) (λ job. CanBeMerged tells s tables (job_by p job))
  pub merged : p.job ≡ Merged → IfSome (answered_job p) (λ job. WhereTold tells (IsMergedJob s tables (job_by p job)))
  pub other : IfSome (answered_job p) (λ job. StandsThere s job p.other f.stores)

-- ---- what its stages do

-- the write, as it is sent to the leader that commits it: from its follower, or from the leader that it passes
abbrev pub sent_by : LedBy → Writing → SentWrite
sent_by led p = sent_write (record { follower = unwrap_or led.passed p.follower; leader = led.leader }) (call_of_plan p)

-- the world in which it is sent from there: a leader that it passes is one carry from its follower
abbrev pub come_past : LedBy → World → World
come_past led old = record old { link = link_past led.passed old.link }

-- what a commit answered, with the notes for its way back, which have seen what it wrote
abbrev pub with_notes : Committed → CommitAnswer
with_notes c = record { committed = c; relay = option_map (λ _. c.wrote.note) c.passed; spare = c.wrote.note }

-- `commit`: by one carry from its follower, or by two, where it passes a leader on the way, the write comes to the leader that writes, and the followers
-- are notified. The plan keeps notes of the log for the way back
pub record CommitsHeld (led : LedBy) (p : Writing) (old : World) (q : Writing) (new : World) : Type 0 where
  pub committed : Committed
  pub leader : committed.leader ≡ led.leader
  pub passed : committed.passed ≡ led.passed
  pub commits : IsCommitted led.tells led.settings (sent_by led p) committed.wrote (come_past led old) new
  pub answer : IsAnswerTo led.settings new.fleet.stores p committed
  pub then : q ≡ after_stage p (came.Commit (Ok (with_notes committed))) (hops_between old.link new.link)

-- the write is refused on the way to the leader that it passes
abbrev pub RefusesOnWay : Bool → Option NodeName → Writing → Refusal → World → World → Type 0
RefusesOnWay tells None p refusal old new = ⊥
RefusesOnWay tells (Some leader) p refusal old new = RefusesPassing tells (way_by leader p) refusal old new

-- the write is refused, with nothing changed: on the way to the leader that it passes, or after that as a commit is
abbrev pub RefusesWrite : LedBy → Writing → Refusal → World → World → Type 0
RefusesWrite led p refusal old new =
    RefusesOnWay led.tells led.passed p refusal old new ⊎ RefusesCommit led.tells led.settings (sent_by led p) refusal (come_past led old) new

-- `commit` fails: the write was refused, and no node, inbox or table changed
pub record RefusesHeld (led : LedBy) (p : Writing) (old : World) (q : Writing) (new : World) : Type 0 where
  pub refusal : Refusal
  pub refuses : RefusesWrite led p refusal old new
  pub then : q ≡ after_stage p (came.Commit (Err (Refused refusal))) (hops_between old.link new.link)

-- no leader can be chosen in the region that has the master of the write's shard: the write is refused, and nothing changes
pub record FindsNoLeader (p : Writing) (old : World) (q : Writing) (new : World) : Type 0 where
  pub same : new ≡ old
  pub then : q ≡ after_stage p (came.Commit (Err (Refused (Node (NoServer (master_region old.states (write_shard p.write))))))) 0

-- `commit`, where these leaders are chosen for it, or none can be
abbrev pub CommitsBy : Rules → Option Leaders → Writing → World → Writing → World → Type 0
CommitsBy rules (Some leaders) p old q new = CommitsHeld (led_by rules leaders) p old q new ⊎ RefusesHeld (led_by rules leaders) p old q new
CommitsBy rules None p old q new = FindsNoLeader p old q new

-- who sends the job of a write that was committed: the leader that committed it, for the tier of its session
abbrev pub job_sender : Writing → Committed → JobSender
job_sender p c = record { leader = c.leader; by = tier_of_write p }

-- `inverse`: the job is carried to the leader that is chosen on the other shard, which merges it, and the answer back
pub record MergesHeld (rules : Rules) (p : Writing) (old : World) (q : Writing) (new : World) : Type 0 where
  pub committed : Committed
  pub answer : p.committed ≡ Some committed
  pub job : Job
  pub answered : answered_job p ≡ Some job
  pub result : Result Wrote LeftOpen
  pub merges : MergesOver rules.tells rules.settings (sent_job (job_sender p committed) (job_by p job)) result old new
  pub then : q ≡ after_stage p (came.Inverse result) (hops_between old.link new.link)

-- `end`: the job is ended
pub record EndsHeld (tells : Bool) (s : Settings) (p : Writing) (old : World) (q : Writing) (new : World) : Type 0 where
  pub job : Job
  pub answered : answered_job p ≡ Some job
  pub result : Result ⊤ LeftOpen
  pub ends : EndsOver tells s (job_by p job) result old new
  pub then : q ≡ after_stage p (came.End result) 0

-- `relay`: the answer is carried from the leader that wrote to the one that the write passed, which takes the changes and marks nothing
pub record RelaysHeld (s : Settings) (p : Writing) (old : World) (q : Writing) (new : World) : Type 0 where
  pub committed : Committed
  pub answered : p.committed ≡ Some committed
  pub passed : NodeName
  pub passed_is : committed.passed ≡ Some passed
  pub relays : LeaderRelays s passed (write_shard p.write) committed.wrote.entry old.fleet new.fleet
  pub link : new.link ≡ after_carry old.link
  pub rest : RelaysAlone old new
  pub then : q ≡ after_stage p (came.Relay (Ok tt)) (hops_between old.link new.link)

-- `relay` fails on its way: the write stands, at the position that the reply says where there is an entry
pub record LosesRelay (p : Writing) (old : World) (q : Writing) (new : World) : Type 0 where
  pub committed : Committed
  pub answered : p.committed ≡ Some committed
  pub passed : NodeName
  pub passed_is : committed.passed ≡ Some passed
  pub carry : FailsCarry committed.leader passed old.link new.link
  pub fleet : new.fleet ≡ old.fleet
  pub rest : RelaysAlone old new
  pub then : q ≡ after_stage p (came.Relay (Err (Refused (Store (LinkFault new.link.faults (when_of committed.wrote.entry))))))
      (hops_between old.link new.link)

-- `apply`: the answer is carried from the last leader of its way to the follower, which takes the changes
pub record AppliesHeld (s : Settings) (p : Writing) (old : World) (q : Writing) (new : World) : Type 0 where
  pub committed : Committed
  pub answered : p.committed ≡ Some committed
  pub takes : FollowerTakes (types_of s.schema) (way_by (last_leader committed) p) (write_shard p.write) committed.wrote.entry
      old.fleet new.fleet
  pub link : new.link ≡ after_carry old.link
  pub rest : AppliesAlone old new
  pub then : q ≡ after_stage p (came.Apply (Ok tt)) (hops_between old.link new.link)

-- `apply` fails on the way back: the write stands, at the position that the reply says where there is an entry
pub record LosesWayBack (p : Writing) (old : World) (q : Writing) (new : World) : Type 0 where
  pub committed : Committed
  pub answered : p.committed ≡ Some committed
  pub carry : FailsCarry (last_leader committed) p.follower old.link new.link
  pub fleet : new.fleet ≡ old.fleet
  pub rest : AppliesAlone old new
  pub then : q ≡ after_stage p (came.Apply (Err (Refused (Store (LinkFault new.link.faults (when_of committed.wrote.entry))))))
      (hops_between old.link new.link)

-- what the stage does that follows, where all that it needs are up. Once its entry is written, only the link can refuse the write there
abbrev pub DoesWriteStage : Rules → WriteStage → Writing → World → Writing → World → Type 0
DoesWriteStage rules Commit p old q new = CommitsBy rules (leaders_of_write rules.settings old.states p) p old q new
DoesWriteStage rules Apply p old q new = AppliesHeld rules.settings p old q new ⊎ LosesWayBack p old q new
DoesWriteStage rules Inverse p old q new = MergesHeld rules p old q new
DoesWriteStage rules End p old q new = EndsHeld rules.tells rules.settings p old q new
DoesWriteStage rules Relay p old q new = RelaysHeld rules.settings p old q new ⊎ LosesRelay p old q new
DoesWriteStage rules Done p old q new = ⊥

-- the refusal of a write whose next stage needs a node that is down: at the position of its entry, where that stands
abbrev pub write_is_down : NodeName → Writing → Reply
write_is_down node p = Refused (Node (NodeDown node (when_of (answered_entry p))))

-- a node is down that the write's next stage needs: the write ends, and nothing else changes
pub record EndsWriteDown (p : Writing) (old : World) (q : Writing) (new : World) : Type 0 where
  pub node : NodeName
  pub down : write_down old.states p ≡ Some node
  pub same : new ≡ old
  pub then : q ≡ after_stage p (write_refused (next_of p) (write_is_down node p)) 0

-- all that the write's next stage needs are up, and it does that stage
pub record DoesNextWrite (rules : Rules) (p : Writing) (old : World) (q : Writing) (new : World) : Type 0 where
  pub up : write_down old.states p ≡ None
  pub does : DoesWriteStage rules (next_of p) p old q new

-- what becomes of a write by its next stage: that is done, or a node is down that it needs
abbrev pub ComesOfWrite : Rules → Writing → World → Writing → World → Type 0
ComesOfWrite rules p old q new = DoesNextWrite rules p old q new ⊎ EndsWriteDown p old q new

-- ---- without the last stage

-- a held write ends without its last stage, since there was no memory for what its session is to learn: at the position of its entry, which stands
abbrev pub way_given_up : Writing → Writing
way_given_up p = after_stage p (came.Apply (Err (Refused (Memory (entry_position (answered_entry p)))))) 0

-- ---- what comes of a commit

-- the write was committed, and the answer has the notes for its way back: its follower may take it, and its job may be merged
pub record AnswersCommit (led : LedBy) (p : Writing) (answer : CommitAnswer) (old new : World) : Type 0 where
  pub leader : answer.committed.leader ≡ led.leader
  pub passed : answer.committed.passed ≡ led.passed
  pub commits : IsCommitted led.tells led.settings (sent_by led p) answer.committed.wrote (come_past led old) new
  pub is : IsAnswerTo led.settings new.fleet.stores p answer.committed
  pub notes : answer ≡ with_notes answer.committed
  pub job : IfSome answer.committed.wrote.job (λ job. CanBeMerged led.tells led.settings new.keepers.told (job_by p job))

-- the write was committed, or refused
abbrev pub ComesOfCommit : LedBy → Writing → Result CommitAnswer Refusal → World → World → Type 0
ComesOfCommit led p (Ok answer) old new = AnswersCommit led p answer old new
ComesOfCommit led p (Err refusal) old new = RefusesWrite led p refusal old new

-- what came of a commit, as its plan takes it
abbrev pub taken_as : Result CommitAnswer Refusal → Result CommitAnswer Reply
taken_as (Ok answer) = Ok answer
taken_as (Err refusal) = Err (Refused refusal)

-- ---- what each of them keeps

-- a stage of a held write was done: the write can go on, and so can all else
pub record PassesWriteStage (rules : Rules) (at : WriteStage) (p : Writing) (old : World) (q : Writing) (new : World) : Type 0 where
  pub does : DoesWriteStage rules at p old q new
  pub write : IsWriteUnderWay rules.tells rules.settings new.keepers.told new.fleet q
  pub on : PostsOn rules.tells rules.settings old new
