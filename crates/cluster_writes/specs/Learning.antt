-- How a write begins, and what its session learns when it has ended.
use Rattle.std.specs.Prelude.{ℕ, ◌≡◌, ◌≢◌, ◌≤◌, ◌+◌, ◌==◌, ◌||◌, nat_le, Bool, true, false, if◌then◌else◌, List, Option, Some, None, IfSome, slice_get}
use Rattle.std.specs.Prelude.{option_and_then}
use Rattle.core_model.specs.Asked.{AuthoredWrite}
use Rattle.core_model.specs.Jobs.{far_shard}
use Rattle.core_model.specs.Serving.{IsFollowerFor}
use Rattle.locked_nodes.specs.Passes.{IsPassOf, PassGoesOn, SeesNote}
use Rattle.log_names.specs.Names.{LogNames}
use Rattle.replies.specs.declared.reply.Reply.{Reply}
use Rattle.replies.specs.declared.reply.Reply.TheVariants.{Called}
use Rattle.session_pass.specs.Floors.{LearnsTouches, learnt_touches}
use Rattle.session_pass.specs.Passes.{SeenPass, after_meeting}
use Rattle.shard_log.specs.View.{View}
use Rattle.shard_tables.specs.declared.writes.Wrote.{Wrote}
use Rattle.shared_stores.specs.Making.{Making}
use Rattle.tao_base.specs.Writes.{write_shard}
use Rattle.tao_base.specs.declared.entry.Entry.{Entry}
use Rattle.tao_base.specs.declared.id.Key.{Key}
use Rattle.tao_keeper.specs.declared.jobs.Job.{Job}
use Rattle.write_plan.specs.Plans.{Writing, begun_write}
use Rattle.write_plan.specs.declared.committed.Committed.{Committed}

-- ---- how it begins

-- a write of a session that is begun, at a follower that serves its shard
pub record IsBegunWrite (m : Making) (pass : SeenPass) (call : AuthoredWrite) (p : Writing) : Type 0 where
  pub plan_is : p ≡ begun_write call.write call.origin pass.region pass.tier p.follower
  pub serves : IsFollowerFor m.settings (write_shard call.write) p.follower

-- ---- what there is to learn

-- whether the reply carried its call out
abbrev pub carries_out : Reply → Bool
carries_out (Called said) = true
carries_out other = false

-- the entry, where it is told
abbrev pub if_told : Bool → Option Entry → Option Entry
if_told told entry = if told then entry else None

-- the entry that a commit answered
abbrev pub committed_entry : Option Committed → Option Entry
committed_entry committed = option_and_then (λ c. c.wrote.entry) committed

-- what was seen of the shard's log: what the commit had, and of a write that wasn't committed all that it has
abbrev pub committed_view : Option Committed → View → View
committed_view None seen = seen
committed_view (Some c) seen = c.wrote.note

-- the far shard, where it is another one of so many
abbrev pub if_apart : ℕ → ℕ → ℕ → Option ℕ
if_apart near far shards = if far == near || nat_le shards far then None else Some far

-- the shard of the configuration on which a job's records lie, where that is another one
abbrev pub other_shard : Option Job → ℕ → ℕ → Option ℕ
other_shard None near shards = None
other_shard (Some job) near shards = if_apart near (far_shard job) shards

-- ---- what is learnt

-- the floors after what the entry of a shard touches was learnt, where there is one, and nothing else
abbrev pub LearnsIn : ℕ → Option Entry → List (Key × ℕ) → List (Key × ℕ) → Type 0
LearnsIn shard None old new = new ≡ old
LearnsIn shard (Some e) old new = LearnsTouches shard (learnt_touches e) old new

-- the floors after what was written on another shard was learnt, where there is such a shard, and the session is told of it
abbrev pub LearnsThere : Bool → Option ℕ → Option Wrote → List (Key × ℕ) → List (Key × ℕ) → Type 0
LearnsThere told None wrote old new = new ≡ old
LearnsThere told (Some shard) None old new = new ≡ old
LearnsThere told (Some shard) (Some wrote) old new = LearnsIn shard (if_told told wrote.entry) old new

-- a session learns an entry of a shard's log, where there is one, and else nothing. Its pass sees what a note of the log has
pub record LearnsOf (m : Making) (log : LogNames) (shard : ℕ) (entry : Option Entry) (note : View) (old new : SeenPass) : Type 0 where
  pub pass : IsPassOf m log new
  pub on : PassGoesOn old new
  pub notes : new.notes ≡ after_meeting shard note old.notes
  pub sees : SeesNote shard note new.notes
  pub learns : LearnsIn shard entry old.floors new.floors
  pub spare : old.spare ≤ new.spare + 8

-- a pass goes on, sees what a note of a shard's log has, where there is one, and of each other shard what it had seen
pub record SeesThere (m : Making) (log : LogNames) (shard : ℕ) (note : Option View) (old new : SeenPass) : Type 0 where
  pub pass : IsPassOf m log new
  pub on : PassGoesOn old new
  pub sees : IfSome note (λ v. SeesNote shard v new.notes)
  pub met : IfSome note (λ v. new.notes ≡ after_meeting shard v old.notes)
  pub unmet : note ≡ None → new.notes ≡ old.notes
  pub apart : (k : ℕ) → k ≢ shard → slice_get new.notes k ≡ slice_get old.notes k

-- a session learns what was written on another shard, where it is told of it. Its pass sees that, and what was seen of that shard's log; of each other shard
-- what it had seen
pub record LearnsOther (m : Making) (log : LogNames) (told : Bool) (shard : Option ℕ) (other : Option Wrote) (far : Option View) (old new : SeenPass) : Type 0
  where
    pub pass : IsPassOf m log new
    pub on : PassGoesOn old new
    pub wrote : IfSome shard (λ k. IfSome other (λ w. SeesNote k w.note new.notes))
    pub seen : IfSome shard (λ k. IfSome far (λ v. SeesNote k v new.notes))
    pub alone : IfSome shard (λ k. IfSome other (λ w. far ≡ None → new.notes ≡ after_meeting k w.note old.notes))
    pub apart : (k : ℕ) → shard ≢ Some k → slice_get new.notes k ≡ slice_get old.notes k
    pub learns : LearnsThere told shard other old.floors new.floors
