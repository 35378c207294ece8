-- What a stage of a write that is refused leaves. A merge refuses no write.
use Rattle.std.proofs.Common.{◌≡◌, ℕ, Bool, Option, Some, None, Err, refl, sym, subst}
use Rattle.std.specs.Prelude.{IsSome}
use Rattle.core_steps.specs.OtherEnds.{MergesBy, MergesOver, SentJob, merging_leader}
use Rattle.core_steps.specs.World.{World}
use Rattle.node_name.specs.declared.NodeName.{NodeName}
use Rattle.read_plan.specs.Readings.{Reading, taken}
use Rattle.read_plan.specs.Standings.{read_refused, stage_named}
use Rattle.read_plan.specs.declared.end.ReadEnd.TheVariants as end
use Rattle.read_plan.specs.declared.stages.ReadStage.{ReadStage}
use Rattle.read_plan.specs.declared.stages.ReadStage.TheVariants as reads
use Rattle.read_plan.specs.declared.standing.Standing.TheVariants.{Ended}
use Rattle.replies.specs.declared.reply.Reply.{Reply}
use Rattle.topology.specs.Config.{Settings}
use Rattle.topology.specs.States.{NodeStates}
use Rattle.write_plan.specs.Plans.{Writing, after_stage, next_of}
use Rattle.write_plan.specs.Stages.{result_stage, stage_said, write_refused}
use Rattle.write_plan.specs.declared.results.LeftOpen.TheVariants.{Refused}
use Rattle.write_plan.specs.declared.stage.WriteStage.{WriteStage}
use Rattle.write_plan.specs.declared.stage.WriteStage.TheVariants.{Commit, Inverse, End, Relay, Apply, Done}
use Rattle.core_plans.specs.HeldWrites.{EndsWriteDown, write_is_down}
use Rattle.core_plans.specs.Needs.{first_down, read_needs, write_needs}

-- ---- a stage that is refused

-- a write was refused with the reply: what it is stays, and what came of its stages before
pub record IsEndedBy (reply : Reply) (p q : Writing) : Type 0 where
  pub refused : q.refused ≡ Some reply
  pub committed : q.committed ≡ p.committed
  pub job : q.job ≡ p.job
  pub write : q.write ≡ p.write
  pub origin : q.origin ≡ p.origin
  pub region : q.region ≡ p.region
  pub follower : q.follower ≡ p.follower

-- so it is at whatever stage
pub ended_by : (at : WriteStage) (reply : Reply) (p : Writing) (hops : ℕ) → IsEndedBy reply p (after_stage p (write_refused at reply) hops)
ended_by Commit reply p hops =
    record { refused = refl; committed = refl; job = refl; write = refl; origin = refl; region = refl; follower = refl }
ended_by Inverse reply p hops =
    record { refused = refl; committed = refl; job = refl; write = refl; origin = refl; region = refl; follower = refl }
ended_by End reply p hops =
    record { refused = refl; committed = refl; job = refl; write = refl; origin = refl; region = refl; follower = refl }
ended_by Relay reply p hops =
    record { refused = refl; committed = refl; job = refl; write = refl; origin = refl; region = refl; follower = refl }
ended_by Apply reply p hops =
    record { refused = refl; committed = refl; job = refl; write = refl; origin = refl; region = refl; follower = refl }
ended_by Done reply p hops =
    record { refused = refl; committed = refl; job = refl; write = refl; origin = refl; region = refl; follower = refl }

-- so a write ends since a node is down
pub ended_down : (p q : Writing) (old new : World) (ends : EndsWriteDown p old q new) → IsEndedBy (write_is_down ends.node p) p q
ended_down p q old new ends =
    let reply = write_is_down ends.node p in
    subst (IsEndedBy reply p) (sym ends.then) (ended_by (next_of p) reply p 0)

-- the plan takes the refusal of its next stage
pub refusal_stage : (at : WriteStage) (reply : Reply) → IsSome (stage_said at) → result_stage (write_refused at reply) ≡ at
refusal_stage Commit reply goes = refl
refusal_stage Inverse reply goes = refl
refusal_stage End reply goes = refl
refusal_stage Relay reply goes = refl
refusal_stage Apply reply goes = refl
refusal_stage Done reply goes = absurd (cc)

-- and where a node is down that it needs, it has one
pub needs_some : (states : NodeStates) (at : WriteStage) (p : Writing) (node : NodeName) → first_down states (write_needs at p) ≡ Some node
    → IsSome (stage_said at)
needs_some states Commit p node down = refl
needs_some states Inverse p node down = refl
needs_some states End p node down = refl
needs_some states Relay p node down = refl
needs_some states Apply p node down = refl
needs_some states Done p node down = absurd (cc)

-- ---- reads

-- a stage of a read that is refused ends it
pub ended_read : (at : ReadStage) (reply : Reply) (p : Reading) (hops : ℕ) (store : Bool)
    → (taken (read_refused at reply) hops store p).at ≡ Ended (end.Refused reply)
ended_read reads.Look reply p hops store = refl
ended_read reads.Ask reply p hops store = refl
ended_read reads.Master reply p hops store = refl
ended_read reads.Keep reply p hops store = refl
ended_read reads.Done reply p hops store = refl

-- where a node is down that its next stage needs, it has one
pub read_needs_some : (states : NodeStates) (at : ReadStage) (p : Reading) (node : NodeName) → first_down states (read_needs at p) ≡ Some node
    → IsSome (stage_named at)
read_needs_some states reads.Look p node down = refl
read_needs_some states reads.Ask p node down = refl
read_needs_some states reads.Master p node down = refl
read_needs_some states reads.Keep p node down = refl
read_needs_some states reads.Done p node down = absurd (cc)

-- ---- at the other end

-- a merge refuses no write
pub merge_refuses_none : (tells : Bool) (s : Settings) (sent : SentJob) (reply : Reply) (old new : World)
    → MergesOver tells s sent (Err (Refused reply)) old new → ⊥
merge_refuses_none tells s sent reply old new = by (merging_leader s old.states sent)
  where
    by : (merging : Option NodeName) → MergesBy tells s merging sent (Err (Refused reply)) old new → ⊥
    by None is = (let no = is.0 in absurd (cc))
    by (Some leader) is = absurd is
