-- What a plan is, over all results that it takes: its stages in order, its carries, and what its reply says.
use Rattle.std.specs.Prelude.{ℕ, ◌≡◌, ◌+◌, ◌≤◌, ◌⊎◌, Bool, true, false, if◌then◌else◌, List, [], ◌∷◌, ◌++◌, length, min, Option, Some, None, IfNone}
use Rattle.std.specs.Prelude.{IfSome, Ok, Err}
use Rattle.hop_count.specs.Hops.{most_hops}
use Rattle.node_name.specs.declared.NodeName.{NodeName}
use Rattle.replies.specs.declared.calls.CallReply.TheVariants.{Write as OfWrite}
use Rattle.replies.specs.declared.calls.InverseEnd.{InverseEnd}
use Rattle.replies.specs.declared.calls.InverseEnd.TheVariants as inverse
use Rattle.replies.specs.declared.calls.ScheduledWhy.{ScheduledWhy}
use Rattle.replies.specs.declared.calls.WriteReply.{WriteReply}
use Rattle.replies.specs.declared.reply.Reply.{Reply}
use Rattle.replies.specs.declared.reply.Reply.TheVariants.{Called}
use Rattle.shard_tables.specs.declared.writes.Wrote.{Wrote}
use Rattle.tao_base.specs.declared.entry.Origin.{Origin}
use Rattle.tao_base.specs.declared.write.Write.{Write}
use Rattle.tao_keeper.specs.declared.jobs.Job.{Job}
use Rattle.write_plan.specs.Plans.{Writing, after_stage, begun_write, next_of, reply_of}
use Rattle.write_plan.specs.Stages.{result_stage}
use Rattle.write_plan.specs.declared.committed.Committed.{Committed}
use Rattle.write_plan.specs.declared.results.CommitAnswer.{CommitAnswer}
use Rattle.write_plan.specs.declared.results.LeftOpen.TheVariants.{Scheduled, Refused}
use Rattle.write_plan.specs.declared.results.WriteResult.{WriteResult}
use Rattle.write_plan.specs.declared.results.WriteResult.TheVariants.{Commit, Inverse, End, Relay, Apply}
use Rattle.write_plan.specs.declared.stage.WriteStage.TheVariants.{Done}

-- what came of a stage, and its carries
pub record Came : Type 0 where
  pub result : WriteResult
  pub hops : ℕ

-- the result of a stage, with the carries that it took
abbrev pub came : WriteResult → ℕ → Came
came result hops = record { result = result; hops = hops }

-- a plan takes these in turn, each of the stage that is next, and becomes the other
abbrev pub TakesResults : Writing → List Came → Writing → Type 0
TakesResults p [] q = q ≡ p
TakesResults p (c ∷ rest) q = (result_stage c.result ≡ next_of p) × TakesResults (after_stage p c.result c.hops) rest q

-- how many carries the stages took in all
abbrev pub carries_of : List Came → ℕ
carries_of [] = 0
carries_of (c ∷ rest) = c.hops + carries_of rest

-- ---- a write that is carried out

-- the job of the write was merged and then removed: the inverse is written
pub record EndsInTime (cs : List Came) (other : Option Wrote) (said : InverseEnd) : Type 0 where
  pub wrote : Wrote
  pub merges : ℕ
  pub ends : ℕ
  pub came_is : cs ≡ came (Inverse (Ok wrote)) merges ∷ came (End (Ok tt)) ends ∷ []
  pub other_is : other ≡ Some wrote
  pub said_is : said ≡ inverse.Written

-- the job of the write was merged and not removed: the inverse is scheduled, for that reason
pub record EndsLeftOpen (cs : List Came) (other : Option Wrote) (said : InverseEnd) : Type 0 where
  pub wrote : Wrote
  pub why : ScheduledWhy
  pub more : Option Wrote
  pub merges : ℕ
  pub ends : ℕ
  pub came_is : cs ≡ came (Inverse (Ok wrote)) merges ∷ came (End (Err (Scheduled why more))) ends ∷ []
  pub other_is : other ≡ Some wrote
  pub said_is : said ≡ inverse.Scheduled why

-- the job of the write was not merged, or its answer lost: the inverse is scheduled, for that reason, and what was written is kept
pub record MergesLeftOpen (cs : List Came) (other : Option Wrote) (said : InverseEnd) : Type 0 where
  pub why : ScheduledWhy
  pub merges : ℕ
  pub came_is : cs ≡ came (Inverse (Err (Scheduled why other))) merges ∷ []
  pub said_is : said ≡ inverse.Scheduled why

-- what came of the job that the commit answered, with what was written at the other end and how the inverse is then said. Without one
-- there is no such stage, and the inverse is written where the write's type has one
abbrev pub CameOfJob : Option Job → Bool → List Came → Option Wrote → InverseEnd → Type 0
CameOfJob None paired cs other said = (cs ≡ []) × (other ≡ None) × (said ≡ (if paired then inverse.Written else inverse.None))
CameOfJob (Some job) paired cs other said = EndsInTime cs other said ⊎ (EndsLeftOpen cs other said ⊎ MergesLeftOpen cs other said)

-- the follower took the changes
pub record Applies (cs : List Came) : Type 0 where
  pub applies : ℕ
  pub came_is : cs ≡ came (Apply (Ok tt)) applies ∷ []

-- the leader that was passed took the changes, and then the follower
pub record RelaysAndApplies (cs : List Came) : Type 0 where
  pub relays : ℕ
  pub applies : ℕ
  pub came_is : cs ≡ came (Relay (Ok tt)) relays ∷ came (Apply (Ok tt)) applies ∷ []

-- what came of the way back
abbrev pub CameBack : Option NodeName → List Came → Type 0
CameBack None cs = Applies cs
CameBack (Some leader) cs = RelaysAndApplies cs

-- the commit answered this, with notes for its way back; then came the stages of its job, and then the way back
pub record CameInOrder (c : Committed) (cs : List Came) (other : Option Wrote) (said : InverseEnd) : Type 0 where
  pub answer : CommitAnswer
  pub answer_is : answer.committed ≡ c
  pub commits : ℕ
  pub of_job : List Came
  pub of_way : List Came
  pub came_is : cs ≡ came (Commit (Ok answer)) commits ∷ (of_job ++ of_way)
  pub job : CameOfJob c.wrote.job c.paired of_job other said
  pub way : CameBack c.passed of_way

-- a reply names the entry that the commit answered, or none where it answered none
pub record SaysWritten (c : Committed) (said : InverseEnd) (hops : ℕ) (w : WriteReply) : Type 0 where
  pub kind_is : w.kind ≡ c.kind
  pub retry_is : w.written.retry ≡ c.wrote.retry
  pub entry : IfSome c.wrote.entry (λ e. (w.written.changed ≡ true) × (w.written.position ≡ e.position) × (w.written.inverse ≡ said))
  pub nothing : IfNone c.wrote.entry ((w.written.changed ≡ false) × (w.written.position ≡ 0) × (w.written.inverse ≡ inverse.None))
  pub hops_is : w.hops ≡ hops

-- the write was carried out: its stages came in order, and its reply says what was committed, what became of the inverse, and all carries
pub record IsCarriedOut (cs : List Came) (p : Writing) : Type 0 where
  pub committed : Committed
  pub said : InverseEnd
  pub reply : WriteReply
  pub answered : p.committed ≡ Some committed
  pub stages : CameInOrder committed cs p.other said
  pub reply_is : reply_of p ≡ Some (Called (OfWrite reply))
  pub says : SaysWritten committed said (min (carries_of cs) most_hops) reply

-- ---- a write that is refused

-- the result refuses the write with the reply
abbrev pub RefusesBy : WriteResult → Reply → Type 0
RefusesBy (Commit (Err refused)) reply = refused ≡ reply
RefusesBy (Inverse (Err (Refused refused))) reply = refused ≡ reply
RefusesBy (End (Err (Refused refused))) reply = refused ≡ reply
RefusesBy (Relay (Err refused)) reply = refused ≡ reply
RefusesBy (Apply (Err refused)) reply = refused ≡ reply
RefusesBy (Commit (Ok answer)) reply = ⊥
RefusesBy (Inverse (Ok answer)) reply = ⊥
RefusesBy (Inverse (Err (Scheduled why wrote))) reply = ⊥
RefusesBy (End (Ok answer)) reply = ⊥
RefusesBy (End (Err (Scheduled why wrote))) reply = ⊥
RefusesBy (Relay (Ok answer)) reply = ⊥
RefusesBy (Apply (Ok answer)) reply = ⊥

-- the last result of the plan refused the write, and is its reply
pub record IsRefusedBy (cs : List Came) (p : Writing) : Type 0 where
  pub reply : Reply
  pub reply_is : reply_of p ≡ Some reply
  pub before : List Came
  pub last : Came
  pub came_is : cs ≡ before ++ (last ∷ [])
  pub refuses : RefusesBy last.result reply

-- ---- laws

-- what a plan is after these results
pub record IsPlanAfter (cs : List Came) (p : Writing) : Type 0 where
  pub few : length cs ≤ 5
  pub hops : p.hops ≡ min (carries_of cs) most_hops
  pub done : next_of p ≡ Done → IsCarriedOut cs p ⊎ IsRefusedBy cs p

-- a plan ends after five stages at most. Its write is then carried out, or refused by the last result
pub record PlanLaws : Type 0 where
  pub ends : (write : Write) (origin : Origin) (region tier : ℕ) (follower : NodeName) (cs : List Came) (p : Writing)
      → TakesResults (begun_write write origin region tier follower) cs p → IsPlanAfter cs p
