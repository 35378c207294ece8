-- What the replies to calls say, held or not, and to `advance`.
use Rattle.std.specs.Prelude.{ℕ, ◌≡◌, ◌⊎◌, ⊤, Bool, true, IfSome, IsSome, List, Option, Some, None}
use Rattle.std.specs.Prelude.{option_and_then}
use Rattle.session_pass.specs.Passes.{IsNoteOf, ReachesIn, SeenPass}
use Rattle.shard_log.specs.View.{as_note}
use Rattle.std.specs.Option.{option_map}
use Rattle.graph_model.specs.Log.{entry_at}
use Rattle.graph_model.specs.Told.{WhereTold}
use Rattle.core_model.specs.Pens.{Pens, pens_of}
use Rattle.core_nodes.specs.Settling.{IsLaterLink}
use Rattle.core_plans.specs.Held.{AddsPlan, ChangesPlan, IsOver, Plans, GivesUp, StepsHeld, TakesPlan, learner, next_stage, plan_at, learnt_of_write}
use Rattle.core_plans.specs.Held.{learnt_with}
use Rattle.core_plans.specs.HeldReads.{at_bound}
use Rattle.core_plans.specs.declared.held.HeldPlan.{HeldPlan}
use Rattle.core_plans.specs.declared.held.HeldPlan.TheVariants as of
use Rattle.core_plans.specs.declared.held.LearntEntries.{LearntEntries}
use Rattle.core_plans.specs.LedBy.{Rules, rules_of}
use Rattle.core_plans.specs.WholeCalls.{CarriesOut}
use Rattle.core_sessions.specs.Sessions.{HasRoom, HasRoomForBoth, Session, is_open, opening_of, session_at, sessions_of}
use Rattle.core_sessions.specs.declared.sessions.CallStart.{CallStart}
use Rattle.core_steps.specs.World.{World}
use Rattle.core_steps.specs.declared.jobs.LearntEntry.{LearntEntry}
use Rattle.node_name.specs.declared.NodeName.{NodeName}
use Rattle.read_plan.specs.Ends.{EndsWith}
use Rattle.read_plan.specs.Readings.{Reading, new_reading, read_by}
use Rattle.replies.specs.declared.calls.CallReply.{CallReply}
use Rattle.replies.specs.declared.calls.CallReply.TheVariants as called
use Rattle.replies.specs.declared.calls.ReadReply.{ReadReply}
use Rattle.replies.specs.declared.plans.PlanReply.TheVariants.{Next, Ended}
use Rattle.replies.specs.declared.plans.Stage.{Stage}
use Rattle.replies.specs.declared.refusals.NodeRefused.TheVariants.{NoServer}
use Rattle.replies.specs.declared.refusals.Refusal.TheVariants.{Node, Memory}
use Rattle.replies.specs.declared.reply.Reply.{Reply}
use Rattle.replies.specs.declared.reply.Reply.TheVariants.{Called, Refused}
use Rattle.replies.specs.declared.reply.Reply.TheVariants as replied
use Rattle.request_check.specs.declared.checked.CheckedCall.{CheckedCall}
use Rattle.request_check.specs.declared.checked.CheckedCall.TheVariants as call
use Rattle.request_check.specs.declared.plans.CheckedPlan.{CheckedPlan}
use Rattle.request_check.specs.declared.plans.CheckedPlan.TheVariants as checked_plan
use Rattle.session_pass.specs.Floors.{floor_at}
use Rattle.tao_base.specs.Queries.{query_key, query_shard}
use Rattle.tao_base.specs.Writes.{write_shard}
use Rattle.tao_base.specs.declared.entry.Origin.TheVariants.{Client}
use Rattle.topology.specs.Config.{Settings}
use Rattle.topology.specs.Choices.{chosen_follower}
use Rattle.topology.specs.States.{NodeStates}
use Rattle.words.specs.declared.PlanWord.{PlanWord}
use Rattle.words.specs.declared.PlanWord.TheVariants as word
use Rattle.write_plan.specs.Plans.{Writing, begun_write, reply_of}
use Rattle.tao_core.specs.Calls.{KeptReaches, LearnsAnswer, LearnsBoth, world_of}
use Rattle.tao_core.specs.Core.{CoreState, Moment, author}
use Rattle.tao_core.specs.declared.teaching.Reader.{Reader}

-- ---- one stage

-- the plans that are held, the sessions, and the logs of the shards as their pens see them
pub record Held : Type 0 where
  pub plans : Plans
  pub sessions : List Session
  pub pens : Pens

-- plans that are held, with sessions and the logs of the shards
abbrev pub held_seen : Plans → List Session → Pens → Held
held_seen plans sessions pens = record { plans = plans; sessions = sessions; pens = pens }

-- the plans and the sessions of a core, with the logs of its shards
abbrev pub held_in : CoreState → Held
held_in core = held_seen core.plans core.sessions (pens_of core.fleet.stores)

-- the reply of a plan that is over: that of its call, with the plan's number, or its refusal
abbrev pub numbered_reply : ℕ → Reply → Reply
numbered_reply number (Called reply) = replied.Plan (Ended number reply)
numbered_reply number reply = reply

-- what the session of a plan learns with that reply: of a write what it wrote, and of a read which version it answers
abbrev pub LearnsOf : Pens → HeldPlan → Reply → List Session → List Session → Type 0
LearnsOf pens (of.Write p) reply old new = LearnsBoth (author p.origin) (learnt_with reply (of.Write p)) old new
LearnsOf pens (of.Read p) reply old new = LearnsAnswer pens p reply old new

-- who is ready to read has room for a version in its pass, and a note of the shard's log
pub record IsReaderOn (pens : Pens) (shard : ℕ) (reader : Reader) (passes : List SeenPass) : Type 0 where
  pub room : HasRoomForBoth reader.session passes
  pub one_log : (pens shard).log ≡ reader.note.log

-- who is ready to read of that shard is the session of that number, where there is one
pub record IsReaderOf (pens : Pens) (shard : ℕ) (number : Option ℕ) (reader : Option Reader) (passes : List SeenPass) : Type 0 where
  pub reader_is : number ≡ option_map (λ (r : Reader). r.session) reader
  pub on : IfSome reader (λ r. IsReaderOn pens shard r passes)

-- the session of a plan has room for what it learns with an Ok reply, once the plan is over
abbrev pub HasRoomFor : Pens → HeldPlan → Option Reader → List SeenPass → Type 0
HasRoomFor pens (of.Write p) reader passes = next_stage (of.Write p) ≡ None → (reply : CallReply) → reply_of p ≡ Some (Called reply)
    → HasRoomForBoth (author p.origin) passes
HasRoomFor pens (of.Read p) reader passes = (reply : ReadReply) → EndsWith p (Called (called.Read reply))
    → IsReaderOf pens (query_shard p.query) p.reader reader passes

-- the session of a plan is ready to learn of it, where the plan's next stage may be its last
abbrev pub IsReady : Pens → HeldPlan → Option Reader → List SeenPass → Type 0
IsReady pens (of.Write p) reader passes = IfSome (learner (of.Write p)) (λ number. HasRoomForBoth number passes)
IsReady pens (of.Read p) reader passes = IsReaderOf pens (query_shard p.query) (learner (of.Read p)) reader passes

-- what is learnt of a shard's log stands in what was seen of that, and the session of that number may learn it
pub record MayLearnThrough (learnt : LearntEntry) (number : ℕ) (sessions : List Session) : Type 0 where
  pub note : IfSome (session_at sessions number) (λ s. IsNoteOf learnt.shard learnt.note s.notes)
  pub stands : WhereTold learnt.note.log.told (entry_at learnt.note.entries learnt.entry.position ≡ Some learnt.entry)

-- each of the entries that a write says stands in what was seen, and the session of that number may learn it
pub record MayLearnBoth (learnt : LearntEntries) (number : ℕ) (sessions : List Session) : Type 0 where
  pub here : IfSome learnt.here (λ t. MayLearnThrough t number sessions)
  pub other : IfSome learnt.other (λ t. MayLearnThrough t number sessions)

-- where anything is learnt, it is so
abbrev pub IfLearnt : LearntEntries → Type 0 → Type 0
IfLearnt learnt P = IfSome learnt.here (λ _. P) × IfSome learnt.other (λ _. P)

-- the session of that number is open, and has room for an entry that it may learn
pub record MayLearnOne (number : ℕ) (learnt : LearntEntry) (passes : List SeenPass) : Type 0 where
  pub author_is : is_open (sessions_of passes) number ≡ true
  pub room : HasRoom number passes
  pub may : MayLearnThrough learnt number (sessions_of passes)

-- the session of that number is open, and has room for both entries that a write says, where it says any
pub record MayLearnNow (number : ℕ) (learnt : LearntEntries) (passes : List SeenPass) : Type 0 where
  pub ready : IfLearnt learnt ((is_open (sessions_of passes) number ≡ true) × HasRoomForBoth number passes)
  pub may : MayLearnBoth learnt number (sessions_of passes)

-- the session of a write is open, and has room for what it wrote, which it may learn
pub record MayLearnOf (p : Writing) (passes : List SeenPass) : Type 0 where
  pub author_is : is_open (sessions_of passes) (author p.origin) ≡ true
  pub room : next_stage (of.Write p) ≡ None → (reply : CallReply) → reply_of p ≡ Some (Called reply) → HasRoomForBoth (author p.origin) passes
  pub may : MayLearnBoth (learnt_of_write p) (author p.origin) (sessions_of passes)

-- who is ready to read is an open session, and may see all of the shard's log
pub record MayHear (pens : Pens) (shard : ℕ) (reader : Reader) (passes : List SeenPass) : Type 0 where
  pub reader_is : is_open (sessions_of passes) reader.session ≡ true
  pub on : IsReaderOn pens shard reader passes
  pub may : IfSome (session_at (sessions_of passes) reader.session) (λ s. IsNoteOf shard (as_note (pens shard)) s.notes)

-- who is ready is the session of the read, and may see all of its shard's log, in which the key has come to the version
pub record MayHearOf (pens : Pens) (p : Reading) (reader : Option Reader) (passes : List SeenPass) (version : ℕ) : Type 0 where
  pub reader_is : p.reader ≡ option_map (λ (r : Reader). r.session) reader
  pub may : IfSome reader (λ r. MayHear pens (query_shard p.query) r passes)
  pub reached : ReachesIn (as_note (pens (query_shard p.query))) (query_key p.query) version

-- the session of a plan may learn of it: of a read where that ends with an answer
abbrev pub MayLearn : Pens → HeldPlan → Option Reader → List SeenPass → Type 0
MayLearn pens (of.Read p) reader passes = (reply : ReadReply) → EndsWith p (Called (called.Read reply)) → MayHearOf pens p reader passes reply.version
MayLearn pens (of.Write p) reader passes = MayLearnOf p passes

-- the reply of a plan that is over is said, the plan is taken out, and its session learns of it
pub record EndsPlan (number : ℕ) (plan : HeldPlan) (old : Held) (reply : Reply) (new : Held) : Type 0 where
  pub ended : Reply
  pub over : IsOver plan ended
  pub said : reply ≡ numbered_reply number ended
  pub takes : TakesPlan number old.plans new.plans
  pub learns : LearnsOf new.pens plan ended old.sessions new.sessions

-- a plan that did a stage is held before the stage that follows, which is said
pub record GoesOnHeld (next : Reply) (number : ℕ) (plan : HeldPlan) (old : Held) (reply : Reply) (new : Held) : Type 0 where
  pub said : reply ≡ next
  pub changes : ChangesPlan number plan old.plans new.plans
  pub sessions : new.sessions ≡ old.sessions

-- a plan and its number
pub record NumberedPlan : Type 0 where
  pub number : ℕ
  pub plan : HeldPlan

-- a plan under that number
abbrev pub numbered_plan : ℕ → HeldPlan → NumberedPlan
numbered_plan number plan = record { number = number; plan = plan }

-- the plan of a number is held before the stage that follows, or over and gone
abbrev pub Leaves : PlanWord → NumberedPlan → Option Stage → Held → Reply → Held → Type 0
Leaves asked by (Some stage) old reply new = GoesOnHeld (replied.Plan (Next asked by.number stage)) by.number by.plan old reply new
Leaves asked by None old reply new = EndsPlan by.number by.plan old reply new

-- the stage of a held plan that follows
abbrev pub next_at : Plans → ℕ → Option Stage
next_at plans number = option_and_then next_stage (plan_at plans number)

-- what a read that ends says is kept has come as far as its follower's mark
abbrev pub HeldReaches : Bool → Settings → HeldPlan → World → Type 0
HeldReaches tells s (of.Read q) new = (reply : ReadReply) → EndsWith q (Called (called.Read reply))
    → KeptReaches tells s q.follower q.query (Called (called.Read reply)) new
HeldReaches tells s (of.Write q) new = ⊤

-- a plan ends in place of a stage that may be its last: there was no memory for what its session is to learn
pub record EndsWithout (before : HeldPlan) (old : World) (after : HeldPlan) (new : World) : Type 0 where
  pub last : IsSome (learner before)
  pub gives : GivesUp before old after new

-- a held plan did the stage that follows, or ends in place of one that may be its last
abbrev pub Advances : Rules → HeldPlan → World → HeldPlan → World → Type 0
Advances rules before old after new = StepsHeld rules before old after new ⊎ EndsWithout before old after new

-- the plan of that number does, and no other
pub record AdvancesPlan (rules : Rules) (number : ℕ) (plans : Plans) (old : World) (later : Plans) (new : World) : Type 0 where
  pub before : HeldPlan
  pub after : HeldPlan
  pub stands : plan_at plans number ≡ Some before
  pub steps : Advances rules before old after new
  pub changes : ChangesPlan number after plans later

-- the plan of that number did the stage that follows, or ended without its last, and is there as it is then
pub record DoesStage (tells : Bool) (number : ℕ) (old new : Moment) : Type 0 where
  pub steps : AdvancesPlan (rules_of tells old.core.settings) number old.core.plans (world_of old) new.core.plans (world_of new)
  pub reaches : HeldReaches tells old.core.settings steps.after (world_of new)
  pub link : IsLaterLink old.link new.link

-- the plan of that number did the stage that follows, or ended without its last, and is held on or gone; no count of the link fell, and what is cut stays
-- so
pub record StepsAt (tells : Bool) (asked : PlanWord) (number : ℕ) (old : Moment) (reply : Reply) (new : Moment) : Type 0 where
  pub before : HeldPlan
  pub after : HeldPlan
  pub stands : plan_at old.core.plans number ≡ Some before
  pub steps : Advances (rules_of tells old.core.settings) before (world_of old) after (world_of new)
  pub reaches : HeldReaches tells old.core.settings after (world_of new)
  pub leaves : Leaves asked (numbered_plan number after) (next_stage after) (held_in old.core) reply (held_in new.core)
  pub link : IsLaterLink old.link new.link
  pub rest : new.core ≡ record old.core { fleet = new.core.fleet; mail = new.core.mail; plans = new.core.plans; sessions = new.core.sessions }

-- ---- advance

-- what the reply to `advance` says: the plan did the stage that follows, or ended without its last
abbrev pub AnswersAdvance : Bool → ℕ → Moment → Reply → Moment → Type 0
AnswersAdvance tells number old reply new = StepsAt tells word.Advance number old reply new

-- ---- the plan of a call

-- the session of a call
abbrev pub call_session : CheckedCall → ℕ
call_session (call.Write write) = write.session
call_session (call.Read read) = read.session

-- the shard of what a call writes or asks
abbrev pub call_shard : CheckedCall → ℕ
call_shard (call.Write write) = write_shard write.write
call_shard (call.Read read) = query_shard read.query

-- the floor of a session's call: for a read that of its key
abbrev pub call_floor : Session → CheckedCall → ℕ
call_floor session (call.Write write) = 0
call_floor session (call.Read read) = floor_at session.floors (query_key read.query)

-- where a session's call begins: at its place, and at its floor
abbrev pub call_start : CheckedCall → Session → CallStart
call_start asked session = record { place = opening_of session; floor = call_floor session asked }

-- the plan of a session's call, of which nothing is done
abbrev pub begun_plan : Settings → Session → NodeName → CheckedCall → HeldPlan
begun_plan s session follower (call.Write write) =
    of.Write (begun_write write.write (Client write.session write.seq) session.region session.tier follower)
begun_plan s session follower (call.Read read) =
    of.Read (read_by read.session
    (at_bound s (new_reading read.query session.region session.tier (call_floor session (call.Read read)) read.critical follower)))

-- the shard of what a plan writes or asks
abbrev pub plan_shard : HeldPlan → ℕ
plan_shard (of.Write p) = write_shard p.write
plan_shard (of.Read p) = query_shard p.query

-- the call's session is open, and the plan begins at the follower that is chosen for it
pub record IsBegun (s : Settings) (states : NodeStates) (sessions : List Session) (asked : CheckedCall) (plan : HeldPlan) : Type 0 where
  pub session : Session
  pub follower : NodeName
  pub found : session_at sessions (call_session asked) ≡ Some session
  pub chosen : chosen_follower states session.region session.tier (call_shard asked) ≡ Some follower
  pub plan_is : plan ≡ begun_plan s session follower asked

-- the call's session is open, its call begins there, and the follower is chosen for it
pub record BeginsAt (states : NodeStates) (sessions : List Session) (asked : CheckedCall) (start : CallStart) (follower : NodeName) : Type 0 where
  pub session : Session
  pub found : session_at sessions (call_session asked) ≡ Some session
  pub start_is : start ≡ call_start asked session
  pub chosen : chosen_follower states session.region session.tier (call_shard asked) ≡ Some follower

-- the session of that number is open, and no follower of its region can be chosen for the shard
pub record HasNoServer (states : NodeStates) (sessions : List Session) (number shard region : ℕ) : Type 0 where
  pub session : Session
  pub found : session_at sessions number ≡ Some session
  pub region_is : region ≡ session.region
  pub none : chosen_follower states session.region session.tier shard ≡ None

-- why no plan of a call was begun: no follower can be chosen for it, or there was no memory
abbrev pub IsNotBegun : NodeStates → List Session → CheckedCall → Reply → Type 0
IsNotBegun states sessions asked (Refused (Node (NoServer region))) = HasNoServer states sessions (call_session asked) (call_shard asked) region
IsNotBegun states sessions asked (Refused (Memory position)) = position ≡ 0
IsNotBegun states sessions asked reply = ⊥

-- a call of which no plan was begun is refused, and nothing changes
pub record RefusesCall (asked : CheckedCall) (old : Moment) (reply : Reply) (new : Moment) : Type 0 where
  pub refused : IsNotBegun old.core.states old.core.sessions asked reply
  pub same : new ≡ old

-- ---- hold

-- a plan of the call is held, and does its first stage
pub record HoldGoes (tells : Bool) (number : ℕ) (asked : CheckedCall) (old : Moment) (reply : Reply) (new : Moment) : Type 0 where
  pub plan : HeldPlan
  pub added : Plans
  pub begun : IsBegun old.core.settings old.core.states old.core.sessions asked plan
  pub adds : AddsPlan number plan old.core.plans added
  pub steps : StepsAt tells word.Hold number (record old { core = record old.core { plans = added } }) reply new

-- what the reply to `hold` says: the plan did its first stage, or none was begun
abbrev pub AnswersHold : Bool → ℕ → CheckedCall → Moment → Reply → Moment → Type 0
AnswersHold tells number asked old reply new = HoldGoes tells number asked old reply new ⊎ RefusesCall asked old reply new

-- ---- calls that aren't held

-- a plan does all of its stages at once. Its session learns of it by its reply
pub record DoesAtOnce (tells : Bool) (plan : HeldPlan) (old : Moment) (reply : Reply) (new : Moment) : Type 0 where
  pub after : HeldPlan
  pub carries : CarriesOut (rules_of tells old.core.settings) plan (world_of old) after (world_of new)
  pub over : IsOver after reply
  pub reaches : HeldReaches tells old.core.settings after (world_of new)
  pub learns : LearnsOf (pens_of new.core.fleet.stores) after reply old.core.sessions new.core.sessions
  pub link : IsLaterLink old.link new.link
  pub rest : new.core ≡ record old.core { fleet = new.core.fleet; mail = new.core.mail; sessions = new.core.sessions }

-- the plan of the call does all of its stages
pub record CallGoes (tells : Bool) (asked : CheckedCall) (old : Moment) (reply : Reply) (new : Moment) : Type 0 where
  pub plan : HeldPlan
  pub begun : IsBegun old.core.settings old.core.states old.core.sessions asked plan
  pub does : DoesAtOnce tells plan old reply new

-- what the reply to a call says that isn't held: its plan did all of its stages, or none was begun
abbrev pub AnswersCall : Bool → CheckedCall → Moment → Reply → Moment → Type 0
AnswersCall tells asked old reply new = CallGoes tells asked old reply new ⊎ RefusesCall asked old reply new

-- ---- plans

-- what the reply to what is asked of a plan says
abbrev pub AnswersPlan : Bool → CheckedPlan → Moment → Reply → Moment → Type 0
AnswersPlan tells (checked_plan.Hold number call) old reply new = AnswersHold tells number call old reply new
AnswersPlan tells (checked_plan.Advance number) old reply new = AnswersAdvance tells number old reply new
