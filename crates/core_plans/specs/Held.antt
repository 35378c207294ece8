-- The plans that are held, by their numbers.
use Rattle.std.specs.Prelude.{ℕ, ◌≡◌, ◌+◌, ◌==◌, ⊤, Bool, true, IsSome, List, Option, Some, None, length, slice_get, if◌then◌else◌, option_and_then}
use Rattle.std.specs.BTreeMap.{is_at}
use Rattle.std.specs.Map.{lookup}
use Rattle.std.specs.Ordering.{nat_cmp}
use Rattle.ask_table.specs.Asks.{Asks}
use Rattle.std.specs.List.{list_any}
use Rattle.core_model.specs.Fleet.{Fleet, named}
use Rattle.core_model.specs.declared.named.Named.{Named}
use Rattle.core_steps.specs.OtherEnds.{learnt_entry_of, learnt_far}
use Rattle.core_steps.specs.World.{World}
use Rattle.core_steps.specs.declared.jobs.LearntEntry.{LearntEntry}
use Rattle.follower_cache.specs.Seen.{FollowerState}
use Rattle.node_name.specs.declared.NodeName.{NodeName}
use Rattle.read_plan.specs.Ends.{EndsWith}
use Rattle.read_plan.specs.Readings.{Reading}
use Rattle.read_plan.specs.Standings.{stage_named, stage_of}
use Rattle.read_plan.specs.declared.stages.ReadStage.{ReadStage}
use Rattle.read_plan.specs.declared.stages.ReadStage.TheVariants as reads
use Rattle.read_plan.specs.declared.standing.Standing.{Standing}
use Rattle.read_plan.specs.declared.standing.Standing.TheVariants.{Looking, Asking, Mastering, Keeping, Ended}
use Rattle.replies.specs.declared.plans.Stage.{Stage}
use Rattle.replies.specs.declared.reply.Reply.{Reply}
use Rattle.replies.specs.declared.reply.Reply.TheVariants.{Called}
use Rattle.tao_base.specs.Writes.{write_shard}
use Rattle.tao_base.specs.declared.entry.Origin.{Origin}
use Rattle.tao_base.specs.declared.entry.Origin.TheVariants.{Client, Merge}
use Rattle.tao_keeper.specs.KeeperState.{KeepsTables}
use Rattle.tao_keeper.specs.Table.{Tables}
use Rattle.topology.specs.Config.{Settings}
use Rattle.write_plan.specs.Plans.{Writing, answered_job, next_of, reply_of}
use Rattle.write_plan.specs.Stages.{stage_said}
use Rattle.write_plan.specs.declared.stage.WriteStage.{WriteStage}
use Rattle.write_plan.specs.declared.stage.WriteStage.TheVariants.{Apply}
use Rattle.core_plans.specs.HeldReads.{EndsRead, IsReadUnderWay, StepsRead, read_has_no_room}
use Rattle.core_plans.specs.HeldWrites.{ComesOfWrite, IsBefore, IsWriteUnderWay, way_given_up}
use Rattle.core_plans.specs.declared.held.HeldPlan.{HeldPlan}
use Rattle.core_plans.specs.declared.held.HeldPlan.TheVariants.{Read, Write}
use Rattle.core_plans.specs.declared.held.LearntEntries.{LearntEntries}
use Rattle.core_plans.specs.declared.plans.HeldPlans.TheInside.{Inside}
use Rattle.core_plans.specs.LedBy.{Rules}

-- ---- one plan

-- the stage that follows; none where it is over
abbrev pub next_stage : HeldPlan → Option Stage
next_stage (Read p) = stage_named (stage_of p.at)
next_stage (Write p) = stage_said (next_of p)

-- the plan is over, with this reply
abbrev pub IsOver : HeldPlan → Reply → Type 0
IsOver (Read p) reply = EndsWith p reply
IsOver (Write p) reply = reply_of p ≡ Some reply

-- the plan is under way, as a read or as a write
abbrev pub IsUnderWay : Bool → Settings → Tables → Fleet → HeldPlan → Type 0
IsUnderWay tells s tables f (Read p) = IsReadUnderWay tells s tables f p
IsUnderWay tells s tables f (Write p) = IsWriteUnderWay tells s tables f p

-- ---- what a session learns of it

-- the entry that was written on its shard, or that stood there
abbrev pub learnt_here : Writing → Option LearntEntry
learnt_here p = option_and_then (λ c. learnt_entry_of (write_shard p.write) c.wrote) p.committed

-- a session learns it, and the entry that was written at the other end
abbrev pub learnt_of_write : Writing → LearntEntries
learnt_of_write p = record { here = learnt_here p; other = learnt_far (answered_job p) p.other }

-- what a session learns where there is no entry to learn, here or at the other end
abbrev pub nothing_learnt : LearntEntries
nothing_learnt = record { here = None; other = None }

-- what is learnt with the reply of a plan: of a write that was carried out, both
abbrev pub learnt_with : Reply → HeldPlan → LearntEntries
learnt_with (Called reply) (Write p) = learnt_of_write p
learnt_with (Called reply) (Read p) = nothing_learnt
learnt_with reply plan = nothing_learnt

-- the session of a write, where only its last stage is left
abbrev pub writer_at : WriteStage → Origin → Option ℕ
writer_at Apply (Client session seq) = Some session
writer_at Apply (Merge shard position) = None
writer_at next origin = None

-- the session of a read before a stage that may answer it: its follower may at `look`, and at `keep` what was given is the answer
abbrev pub reader_at : ReadStage → Option ℕ → Option ℕ
reader_at reads.Look reader = reader
reader_at reads.Keep reader = reader
reader_at reads.Ask reader = None
reader_at reads.Master reader = None
reader_at reads.Done reader = None

-- the session that is to learn of a plan, before a stage that may be its last; None at other stages, and for refills and merges
abbrev pub learner : HeldPlan → Option ℕ
learner (Write p) = writer_at (next_of p) p.origin
learner (Read p) = reader_at (stage_of p.at) p.reader

-- a plan ends in place of a stage that may be its last, since there was no memory for what its session is to learn: a write at the position of its entry,
-- which stands, with nothing changed; and a read, with its ask
abbrev pub GivesUp : HeldPlan → World → HeldPlan → World → Type 0
GivesUp (Write p) old (Write q) new = (q ≡ way_given_up p) × (new ≡ old)
GivesUp (Read p) old (Read q) new = EndsRead read_has_no_room p old q new
GivesUp (Write p) old (Read q) new = ⊥
GivesUp (Read p) old (Write q) new = ⊥

-- ---- all plans

-- the plans with their numbers, in the order of these
abbrev pub Plans : Type 0
Plans = List (ℕ × HeldPlan)

-- the plans that are held, as contracts see them
abbrev pub plans_seen : Inside → Plans
plans_seen p = p.plans.entries

-- the plan of that number
abbrev pub plan_at : Plans → ℕ → Option HeldPlan
plan_at plans number = lookup (is_at (nat_cmp number)) plans

-- how many plans are held
abbrev pub plan_count : Plans → ℕ
plan_count plans = length plans

-- the plan of the number becomes this, or goes, and no other changes
abbrev pub SetsPlan : ℕ → Option HeldPlan → Plans → Plans → Type 0
SetsPlan number plan old new = (other : ℕ) → plan_at new other ≡ (if other == number then plan else plan_at old other)

-- a plan more
pub record AddsPlan (number : ℕ) (plan : HeldPlan) (old new : Plans) : Type 0 where
  pub sets : SetsPlan number (Some plan) old new
  pub count : plan_count new ≡ plan_count old + 1

-- a plan less
pub record TakesPlan (number : ℕ) (old new : Plans) : Type 0 where
  pub sets : SetsPlan number None old new
  pub count : plan_count new + 1 ≡ plan_count old

-- a plan in the place of another
pub record ChangesPlan (number : ℕ) (plan : HeldPlan) (old new : Plans) : Type 0 where
  pub sets : SetsPlan number (Some plan) old new
  pub count : plan_count new ≡ plan_count old

-- ---- one step

-- a plan is there that can go on
pub record IsThere (tells : Bool) (s : Settings) (tables : Tables) (f : Fleet) (plan : HeldPlan) : Type 0 where
  pub under_way : IsUnderWay tells s tables f plan
  pub goes_on : IsSome (next_stage plan)

-- a plan is held there that can go on
abbrev pub CanStep : Bool → Settings → Tables → Fleet → Option HeldPlan → Type 0
CanStep tells s tables f None = ⊥
CanStep tells s tables f (Some plan) = IsThere tells s tables f plan

-- a read's stage changes no table and no message
pub record StepsReadAlone (rules : Rules) (p : Reading) (old : World) (q : Reading) (new : World) : Type 0 where
  pub steps : StepsRead rules p old q new
  pub tables : KeepsTables rules.tells old.keepers new.keepers
  pub inboxes : new.inboxes ≡ old.inboxes

-- one stage of a plan, the one that follows; or a node is down that it needs
abbrev pub StepsHeld : Rules → HeldPlan → World → HeldPlan → World → Type 0
StepsHeld rules (Read p) old (Read q) new = StepsReadAlone rules p old q new
StepsHeld rules (Write p) old (Write q) new = ComesOfWrite rules p old q new
StepsHeld rules (Read p) old (Write q) new = ⊥
StepsHeld rules (Write p) old (Read q) new = ⊥

-- the plan of that number does one stage, and no other
pub record StepsPlan (rules : Rules) (number : ℕ) (plans : Plans) (old : World) (later : Plans) (new : World) : Type 0 where
  pub before : HeldPlan
  pub after : HeldPlan
  pub stands : plan_at plans number ≡ Some before
  pub steps : StepsHeld rules before old after new
  pub changes : ChangesPlan number after plans later

-- the plan of that number ends in place of a stage that may be its last, and no other changes
pub record GivesUpPlan (number : ℕ) (plans : Plans) (old : World) (later : Plans) (new : World) : Type 0 where
  pub before : HeldPlan
  pub after : HeldPlan
  pub stands : plan_at plans number ≡ Some before
  pub last : IsSome (learner before)
  pub gives : GivesUp before old after new
  pub changes : ChangesPlan number after plans later

-- ---- asks

-- an ask of that number is open
abbrev pub is_open_ask : ℕ → Asks → Bool
is_open_ask number t = list_any (λ a. a.number == number) t.asks

-- the ask is open at a follower of that name
pub record IsOpenAt (name : NodeName) (number : ℕ) (followers : List (Named FollowerState)) : Type 0 where
  pub place : ℕ
  pub follower : FollowerState
  pub stands : slice_get followers place ≡ Some (named name follower)
  pub is_open : is_open_ask number follower.node.asks ≡ true

-- no ask is open at a follower that wasn't before
pub record OpensNone (old new : List (Named FollowerState)) : Type 0 where
  pub still : (name : NodeName) (number : ℕ) → IsOpenAt name number new → IsOpenAt name number old

-- the plan holds a read that opened the ask there
abbrev pub HoldsAsk : NodeName → ℕ → Option HeldPlan → Type 0
HoldsAsk name number None = ⊥
HoldsAsk name number (Some (Write p)) = ⊥
HoldsAsk name number (Some (Read p)) = (p.follower ≡ name) × (p.ask ≡ Some number)

-- each open ask is that of one held read, and no two are of the same
pub record AsksAreHeld (plans : Plans) (followers : List (Named FollowerState)) : Type 0 where
  pub held : (name : NodeName) (number : ℕ) → IsOpenAt name number followers → (plan : ℕ) × HoldsAsk name number (plan_at plans plan)
  pub one : (name : NodeName) (number m n : ℕ) → HoldsAsk name number (plan_at plans m) → HoldsAsk name number (plan_at plans n) → m ≡ n

-- a read that hasn't looked yet has opened no ask
abbrev pub HasNoneAt : Standing → Option ℕ → Type 0
HasNoneAt Looking ask = ask ≡ None
HasNoneAt Asking ask = ⊤
HasNoneAt Mastering ask = ⊤
HasNoneAt (Keeping given) ask = ⊤
HasNoneAt (Ended end) ask = ⊤

-- a read opens no ask before it has looked, and of a write that is held the way back isn't done
abbrev pub OpensFirst : HeldPlan → Type 0
OpensFirst (Read p) = HasNoneAt p.at p.ask
OpensFirst (Write p) = IsBefore p.back

-- ---- what is held

-- each plan that is held can go on, and each open ask is that of one of them
pub record ArePlansOf (tells : Bool) (s : Settings) (tables : Tables) (f : Fleet) (plans : Plans) : Type 0 where
  pub under_way : (number : ℕ) (plan : HeldPlan) → plan_at plans number ≡ Some plan → IsUnderWay tells s tables f plan
  pub goes_on : (number : ℕ) (plan : HeldPlan) → plan_at plans number ≡ Some plan → IsSome (next_stage plan)
  pub begun : (number : ℕ) (plan : HeldPlan) → plan_at plans number ≡ Some plan → OpensFirst plan
  pub asks : AsksAreHeld plans f.followers
