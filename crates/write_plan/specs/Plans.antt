-- How contracts see the plan of a write: what was taken, which stage is next, and the reply.
use Rattle.std.specs.Prelude.{ℕ, Bool, true, false, ◌||◌, Option, Some, None, is_some, option_and_then, unwrap_or, Result, Ok, Err}
use Rattle.hop_count.specs.Hops.{hops_after}
use Rattle.node_name.specs.declared.NodeName.{NodeName}
use Rattle.replies.specs.declared.calls.CallReply.TheVariants.{Write as OfWrite}
use Rattle.replies.specs.declared.calls.InverseEnd.{InverseEnd}
use Rattle.replies.specs.declared.calls.InverseEnd.TheVariants as inverse
use Rattle.replies.specs.declared.calls.Written.{Written}
use Rattle.replies.specs.declared.refusals.When.{When}
use Rattle.replies.specs.declared.refusals.When.TheVariants.{Before, After}
use Rattle.replies.specs.declared.reply.Reply.{Reply}
use Rattle.replies.specs.declared.reply.Reply.TheVariants.{Called}
use Rattle.shard_log.specs.View.{View}
use Rattle.shard_tables.specs.declared.writes.Wrote.{Wrote}
use Rattle.tao_base.specs.declared.entry.Entry.{Entry}
use Rattle.tao_base.specs.declared.entry.Origin.{Origin}
use Rattle.tao_base.specs.declared.write.Write.{Write}
use Rattle.tao_keeper.specs.declared.jobs.Job.{Job}
use Rattle.write_plan.specs.declared.committed.Committed.{Committed}
use Rattle.write_plan.specs.declared.progress.OtherEnd.{OtherEnd}
use Rattle.write_plan.specs.declared.progress.OtherEnd.TheVariants.{Due, Merged, Ended, Open}
use Rattle.write_plan.specs.declared.progress.WayBack.{WayBack}
use Rattle.write_plan.specs.declared.progress.WayBack.TheVariants.{Ahead, Relayed, Applied}
use Rattle.write_plan.specs.declared.results.LeftOpen.{LeftOpen}
use Rattle.write_plan.specs.declared.results.LeftOpen.TheVariants.{Scheduled, Refused}
use Rattle.write_plan.specs.declared.results.WriteResult.{WriteResult}
use Rattle.write_plan.specs.declared.results.WriteResult.TheVariants as came
use Rattle.write_plan.specs.declared.stage.WriteStage.{WriteStage}
use Rattle.write_plan.specs.declared.stage.WriteStage.TheVariants as stage

-- a write, who asked for it, from which tier, and at which follower; what its commit answered, and the notes that came with that for its way back, one for
-- the leader that was passed and one for the follower, until they are handed out; how far its job has come, and what was written at the other end; how far
-- the way back has come; the reply that refuses it; and the carries so far
pub record Writing : Type 0 where
  pub write : Write
  pub origin : Origin
  pub region : ℕ
  pub tier : ℕ
  pub follower : NodeName
  pub committed : Option Committed
  pub relay : Option View
  pub spare : Option View
  pub job : OtherEnd
  pub other : Option Wrote
  pub back : WayBack
  pub refused : Option Reply
  pub hops : ℕ

-- a plan of which nothing was done
abbrev pub begun_write : Write → Origin → ℕ → ℕ → NodeName → Writing
begun_write write origin region tier follower = record {
  write = write;
  origin = origin;
  region = region;
  tier = tier;
  follower = follower;
  committed = None;
  relay = None;
  spare = None;
  job = Due;
  other = None;
  back = Ahead;
  refused = None;
  hops = 0;
}

-- ---- stages

-- what a job has before it: its merge, and then its end. One that is left open stays as it is
abbrev pub job_stage : OtherEnd → Option WriteStage
job_stage Due = Some stage.Inverse
job_stage Merged = Some stage.End
job_stage Ended = None
job_stage (Open why) = None

-- what the way back has before it: the leader of a slave region, where one was passed, and then the follower
abbrev pub back_stage : Option NodeName → WayBack → WriteStage
back_stage None Ahead = stage.Apply
back_stage (Some leader) Ahead = stage.Relay
back_stage passed Relayed = stage.Apply
back_stage passed Applied = stage.Done

-- the stage after a commit: what its job has before it, where it has one, and then what the way back has
abbrev pub stage_after : Committed → OtherEnd → WayBack → WriteStage
stage_after c job back = unwrap_or (option_and_then (λ _. job_stage job) c.wrote.job) (back_stage c.passed back)

-- the stage that is next: first the commit; none after a refusal
abbrev pub stage_from : Option Reply → Option Committed → OtherEnd → WayBack → WriteStage
stage_from (Some reply) committed job back = stage.Done
stage_from None None job back = stage.Commit
stage_from None (Some c) job back = stage_after c job back

-- the stage that the plan takes next: first the commit, and Done after a refusal or where none is left
abbrev pub next_of : Writing → WriteStage
next_of p = stage_from p.refused p.committed p.job p.back

-- ---- what is taken

-- the plan ends with the reply
abbrev pub refused_by : Writing → Reply → Writing
refused_by p reply = record p { refused = Some reply }

-- what was written at the other end: the first that is known
abbrev pub written_there : Option Wrote → Option Wrote → Option Wrote
written_there (Some before) more = Some before
written_there None more = more

-- the job stays open, or the plan ends
abbrev pub after_left_open : Writing → LeftOpen → Writing
after_left_open p (Scheduled why wrote) = record p { job = Open why; other = written_there p.other wrote }
after_left_open p (Refused reply) = refused_by p reply

-- the way back has come so far, or the plan ends
abbrev pub after_way : {T : Type 0} → Writing → Result T Reply → WayBack → Writing
after_way p (Ok done) back = record p { back = back }
after_way p (Err reply) back = refused_by p reply

-- what the plan keeps of a result
abbrev pub after_result : Writing → WriteResult → Writing
after_result p (came.Commit (Ok answer)) = record p { committed = Some answer.committed; relay = answer.relay; spare = Some answer.spare }
after_result p (came.Commit (Err reply)) = refused_by p reply
after_result p (came.Inverse (Ok wrote)) = record p { job = Merged; other = written_there p.other (Some wrote) }
after_result p (came.Inverse (Err left)) = after_left_open p left
after_result p (came.End (Ok done)) = record p { job = Ended }
after_result p (came.End (Err left)) = after_left_open p left
after_result p (came.Relay answer) = after_way (record p { relay = None }) answer Relayed
after_result p (came.Apply answer) = after_way (record p { spare = None }) answer Applied

-- the plan after a result with its carries
abbrev pub after_stage : Writing → WriteResult → ℕ → Writing
after_stage p came hops = after_result (record p { hops = hops_after p.hops hops }) came

-- ---- what is shown

-- the entry that the commit answered
abbrev pub answered_entry : Writing → Option Entry
answered_entry p = option_and_then (λ c. c.wrote.entry) p.committed

-- the job that the commit answered
abbrev pub answered_job : Writing → Option Job
answered_job p = option_and_then (λ c. c.wrote.job) p.committed

-- the leader that the write passed on the way to its commit
abbrev pub answered_passed : Writing → Option NodeName
answered_passed p = option_and_then (λ c. c.passed) p.committed

-- the last leader on the way back to the follower: the one that the write passed, or else the one that committed it
abbrev pub last_leader : Committed → NodeName
last_leader c = unwrap_or c.passed c.leader

-- whether a refusal comes after an entry stands, and where it does
abbrev pub when_of : Option Entry → When
when_of None = Before
when_of (Some entry) = After entry.position

-- ---- the reply

-- the edge that was written has another end
abbrev pub has_other : Committed → Bool
has_other c = is_some c.wrote.job || c.paired

-- what became of the inverse of an edge that was written: a job that is left open is to write it, else it is written where there is one
abbrev pub inverse_said : Bool → OtherEnd → InverseEnd
inverse_said other (Open why) = inverse.Scheduled why
inverse_said true job = inverse.Written
inverse_said false job = inverse.None

-- what was written: by the entry that the commit answered, where it did
abbrev pub written_by : Bool → InverseEnd → Option Entry → Written
written_by retry said None = record { changed = false; inverse = inverse.None; position = 0; retry = retry }
written_by retry said (Some entry) = record { changed = true; inverse = said; position = entry.position; retry = retry }

-- the reply to a write that was carried out
abbrev pub reply_after : Committed → OtherEnd → ℕ → Reply
reply_after c job hops = Called (OfWrite (record {
  kind = c.kind;
  written = written_by c.wrote.retry (inverse_said (has_other c) job) c.wrote.entry;
  hops = hops;
}))

-- the reply of a plan: the one that refused it, or what was carried out
abbrev pub reply_by : Option Reply → Option Committed → OtherEnd → ℕ → Option Reply
reply_by (Some reply) committed job hops = Some reply
reply_by None None job hops = None
reply_by None (Some c) job hops = Some (reply_after c job hops)

-- the reply that the plan has so far: the one that refused it, or what was carried out; None before the commit
abbrev pub reply_of : Writing → Option Reply
reply_of p = reply_by p.refused p.committed p.job p.hops
