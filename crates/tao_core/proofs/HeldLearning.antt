-- What a session learns of its call that is held: there is room for it, the session may learn it, and is one of the core then.
use Rattle.std.proofs.Common.{◌≡◌, ◌<◌, ℕ, Bool, true, false, List, Option, Some, None, refl, ap, sym, ◌∙◌, subst, inl, inr}
use Rattle.std.proofs.lemmas.Option.{IfSome_then}
use Rattle.std.specs.Prelude.{IfSome, IsSome, IsTrue, option_and_then}
use Rattle.core_model.proofs.Places.{one_some}
use Rattle.core_model.specs.Fleet.{Fleet}
use Rattle.core_model.specs.Jobs.{far_shard}
use Rattle.core_model.specs.Pens.{Pens, Rise, pens_of}
use Rattle.core_model.specs.Stores.{AreStoresOf, HaveMasterRegions}
use Rattle.core_model.specs.Writes.{IsSeenEntry}
use Rattle.core_plans.specs.Held.{
  GivesUp,
  IsOver,
  IsUnderWay,
  OpensFirst,
  StepsHeld,
  learner,
  next_stage,
  nothing_learnt,
  reader_at,
  writer_at,
  learnt_of_write,
  learnt_with,
}
use Rattle.core_plans.proofs.InTurn.{read_same, write_same}
use Rattle.core_plans.proofs.ReadEndings.{answered_last, held_reader}
use Rattle.core_plans.proofs.StageLemmas.{ended_down}
use Rattle.core_plans.specs.HeldWrites.{ComesOfWrite, CommitsBy, DoesWriteStage, IsAnswerTo, IsBefore, IsWriteUnderWay, way_given_up, write_is_down}
use Rattle.core_plans.specs.declared.held.HeldPlan.{HeldPlan}
use Rattle.core_plans.specs.declared.held.HeldPlan.TheVariants.{Read, Write}
use Rattle.core_plans.specs.Needs.{leaders_of_write}
use Rattle.core_plans.specs.declared.held.LearntEntries.{LearntEntries}
use Rattle.core_plans.specs.declared.leaders.Leaders.{Leaders}
use Rattle.core_plans.specs.LedBy.{Rules}
use Rattle.core_sessions.specs.Sessions.{HasRoomForBoth, Session, is_open, sessions_of}
use Rattle.core_steps.specs.OtherEnds.{StandsThere, learnt_far}
use Rattle.core_steps.specs.World.{World}
use Rattle.graph_model.proofs.Members.{if_some_at}
use Rattle.graph_model.specs.Soundness.{is_client}
use Rattle.read_plan.specs.Readings.{Reading}
use Rattle.read_plan.specs.Standings.{stage_of}
use Rattle.read_plan.specs.declared.stages.ReadStage.{ReadStage}
use Rattle.read_plan.specs.declared.stages.ReadStage.TheVariants as reads
use Rattle.replies.specs.declared.calls.CallReply.{CallReply}
use Rattle.replies.specs.declared.reply.Reply.{Reply}
use Rattle.replies.specs.declared.reply.Reply.TheVariants.{Called, Refused}
use Rattle.session_pass.specs.Passes.{SeenPass}
use Rattle.shard_log.specs.View.{View, as_note}
use Rattle.shard_tables.specs.StoreView.{Store as StoreSeen}
use Rattle.shard_tables.specs.declared.writes.Wrote.{Wrote}
use Rattle.tao_base.specs.Queries.{query_shard}
use Rattle.tao_base.specs.Writes.{write_shard}
use Rattle.tao_base.specs.declared.entry.Entry.{Entry}
use Rattle.tao_base.specs.declared.entry.Origin.{Origin}
use Rattle.tao_base.specs.declared.entry.Origin.TheVariants.{Client, Merge}
use Rattle.tao_keeper.specs.Table.{Tables}
use Rattle.tao_keeper.specs.declared.jobs.Job.{Job}
use Rattle.topology.specs.Config.{Settings}
use Rattle.write_plan.specs.Plans.{Writing, answered_job, next_of, reply_by, reply_of}
use Rattle.write_plan.specs.Stages.{stage_said}
use Rattle.write_plan.specs.declared.committed.Committed.{Committed}
use Rattle.write_plan.specs.declared.stage.WriteStage.{WriteStage}
use Rattle.write_plan.specs.declared.stage.WriteStage.TheVariants.{Commit, Inverse, End, Relay, Apply, Done}
use Rattle.tao_core.specs.Calls.{learn_through_note}
use Rattle.tao_core.specs.Core.{IsOfSession, author}
use Rattle.tao_core.specs.HeldCalls.{Advances, HasRoomFor, IsReaderOf, IsReady, LearnsOf, MayLearn, MayLearnNow, MayLearnOf}
use Rattle.tao_core.specs.declared.teaching.Reader.{Reader}
use Rattle.tao_core.proofs.LearningBoth.{AreOurs, AreLearntOf, IsLearntOf, both_open, both_ours, may_both, now_ready}
use Rattle.tao_core.proofs.LearningReads.{ReachesEnd, answer_open, answer_ours, may_hear_of, reader_later, step_reaches}
use Rattle.tao_core.proofs.Reaching.{given_answers_none}
use Rattle.tao_core.proofs.WriteStages.{KeepsOn, end_keeps, inverse_keeps, stage_left, unrefused}

-- ---- the session of a plan

-- a plan stays that of its session
pub author_stays : (rules : Rules) (before after : HeldPlan) (old new : World) (sessions : List Session)
    → StepsHeld rules before old after new → IsOfSession sessions before → IsOfSession sessions after
author_stays rules (Read p) (Read q) old new sessions steps is =
    subst (λ o. IfSome o (λ n. is_open sessions n ≡ true)) (sym (held_reader rules p q old new steps)) is
author_stays rules (Write p) (Write q) old new sessions steps is =
    subst (λ o. is_open sessions (author o) ≡ true) (sym (write_same p q old new rules steps).origin) is
author_stays rules (Read p) (Write q) old new sessions steps is = absurd steps
author_stays rules (Write p) (Read q) old new sessions steps is = absurd steps

-- also of one that ends in place of a stage
given_author : (sessions : List Session) (before after : HeldPlan) (old new : World) → GivesUp before old after new → IsOfSession sessions before
    → IsOfSession sessions after
given_author sessions (Read p) (Read q) old new gives is =
    subst (λ (r : Reading). IfSome r.reader (λ n. is_open sessions n ≡ true)) (sym gives.then) is
given_author sessions (Write p) (Write q) old new gives is =
    subst (λ (w : Writing). is_open sessions (author w.origin) ≡ true) (sym gives.0) is
given_author sessions (Read p) (Write q) old new gives is = absurd gives
given_author sessions (Write p) (Read q) old new gives is = absurd gives

pub author_advances : (rules : Rules) (before after : HeldPlan) (old new : World) (sessions : List Session) → Advances rules before old after new
    → IsOfSession sessions before → IsOfSession sessions after
author_advances rules before after old new sessions (inl steps) is = author_stays rules before after old new sessions steps is
author_advances rules before after old new sessions (inr ends) is = given_author sessions before after old new ends.gives is

learner_author : (at : WriteStage) (o : Origin) (session : ℕ) → writer_at at o ≡ Some session → author o ≡ session
learner_author Apply (Client session seq) found h = one_some session found h
learner_author Apply (Merge shard position) found h = absurd (cc)
learner_author Commit o found h = absurd (cc)
learner_author Inverse o found h = absurd (cc)
learner_author End o found h = absurd (cc)
learner_author Relay o found h = absurd (cc)
learner_author Done o found h = absurd (cc)

learner_reader : (at : ReadStage) (reader : Option ℕ) (session : ℕ) → reader_at at reader ≡ Some session → reader ≡ Some session
learner_reader reads.Look reader session h = h
learner_reader reads.Keep reader session h = h
learner_reader reads.Ask reader session h = absurd (cc)
learner_reader reads.Master reader session h = absurd (cc)
learner_reader reads.Done reader session h = absurd (cc)

-- who is to learn of a plan is open
pub learner_open : (sessions : List Session) (plan : HeldPlan) (session : ℕ) → learner plan ≡ Some session → IsOfSession sessions plan
    → is_open sessions session ≡ true
learner_open sessions (Read p) session h is =
    if_some_at (λ n. is_open sessions n ≡ true) p.reader session is (learner_reader (stage_of p.at) p.reader session h)
learner_open sessions (Write p) session h is = subst (λ n. is_open sessions n ≡ true) (learner_author (next_of p) p.origin session h) is

-- ---- the session is ready

-- where nobody is to learn of the plan
pub ready_none : (pens : Pens) (plan : HeldPlan) (passes : List SeenPass) → learner plan ≡ None → IsReady pens plan None passes
ready_none pens (Read p) passes none = record { reader_is = none; on = tt }
ready_none pens (Write p) passes none = subst (λ o. IfSome o (λ n. HasRoomForBoth n passes)) (sym none) tt

-- a read's, with a note of its shard's log
pub ready_read : (pens : Pens) (p : Reading) (session : ℕ) (reader : Reader) (passes : List SeenPass) → learner (Read p) ≡ Some session
    → (reader.session ≡ session) × (reader.note ≡ as_note (pens (query_shard p.query))) → HasRoomForBoth session passes
    → IsReady pens (Read p) (Some reader) passes
ready_read pens p session reader passes found is room = record {
  reader_is = found ∙ ap Some (sym is.0);
  on = record {
    room = subst (λ n. HasRoomForBoth n passes) (sym is.0) room;
    one_log = ap (λ (v : View). v.log) (sym is.1);
  };
}

-- a write's has room
pub ready_write : (pens : Pens) (p : Writing) (session : ℕ) (passes : List SeenPass) → learner (Write p) ≡ Some session → HasRoomForBoth session passes
    → IsReady pens (Write p) None passes
ready_write pens p session passes found room = subst (λ o. IfSome o (λ n. HasRoomForBoth n passes)) (sym found) room

-- ---- there is room

-- the session of a write has room for what it is told with an Ok reply, once the write is over
abbrev HasRoomOf : Writing → List SeenPass → Type 0
HasRoomOf p passes = next_stage (Write p) ≡ None → (reply : CallReply) → reply_of p ≡ Some (Called reply) → HasRoomForBoth (author p.origin) passes

client_learner : (o : Origin) → IsTrue (is_client o) → writer_at Apply o ≡ Some (author o)
client_learner (Client session seq) client = refl
client_learner (Merge shard position) client = absurd (cc)

learner_room : (p : Writing) (passes : List SeenPass) → next_of p ≡ Apply → IsTrue (is_client p.origin)
    → IfSome (learner (Write p)) (λ n. HasRoomForBoth n passes) → HasRoomForBoth (author p.origin) passes
learner_room p passes is client room =
    if_some_at (λ n. HasRoomForBoth n passes) (learner (Write p)) (author p.origin) room
    (ap (λ at. writer_at at p.origin) is ∙ client_learner p.origin client)

-- what is refused is told with nothing, and needs no room
refused_room : (q : Writing) (reply : Reply) (passes : List SeenPass) → q.refused ≡ Some reply → ((called : CallReply) → reply ≡ Called called → ⊥)
    → HasRoomOf q passes
refused_room q reply passes refused never = λ over called is.
    let told : reply_of q ≡ Some reply = ap (λ r. reply_by r q.committed q.job q.hops) refused in
    absurd (never called (one_some reply (Called called) (sym told ∙ is)))

-- one that has a stage left is told with nothing yet
left_room : (q : Writing) (passes : List SeenPass) → IsSome (next_stage (Write q)) → HasRoomOf q passes
left_room q passes some = λ over called is. (let e : false ≡ true = subst IsSome over some in absurd (cc))

module _ (rules : Rules) (p q : Writing) (old new : World) (passes : List SeenPass) where
  applied_room : next_of p ≡ Apply → IsTrue (is_client p.origin) → IfSome (learner (Write p)) (λ n. HasRoomForBoth n passes) → q.origin ≡ p.origin
      → HasRoomOf q passes
  applied_room is client room same = λ over called told. subst (λ o. HasRoomForBoth (author o) passes) (sym same) (learner_room p passes is client room)

  kept_room : IsSome (next_stage (Write p)) → IsBefore p.back → KeepsOn p q → HasRoomOf q passes
  kept_room some before on =
      left_room q passes (stage_left q on.committed (on.keeps.refused ∙ unrefused p.refused p.committed p.job p.back some) on.answered
      (subst IsBefore (sym on.keeps.back) before))

  commit_room : (leaders : Option Leaders) → IsSome (next_stage (Write p)) → IsBefore p.back → CommitsBy rules leaders p old q new → HasRoomOf q passes
  commit_room (Some leaders) some first (inl commits) =
      left_room q passes (stage_left q commits.committed
      (ap (λ (x : Writing). x.refused) commits.then ∙ unrefused p.refused p.committed p.job p.back some)
      (ap (λ (x : Writing). x.committed) commits.then) (subst IsBefore (sym (ap (λ (x : Writing). x.back) commits.then)) first))
  commit_room (Some leaders) some first (inr refuses) =
      refused_room q (Refused refuses.refusal) passes (ap (λ (x : Writing). x.refused) refuses.then) (λ called same. absurd (cc))
  commit_room None some first finds = refused_room q _ passes (ap (λ (x : Writing). x.refused) finds.then) (λ called same. absurd (cc))

  room_then : (at : WriteStage) → next_of p ≡ at → OpensFirst (Write p) → IsTrue (is_client p.origin) → q.origin ≡ p.origin
      → DoesWriteStage rules at p old q new → IfSome (learner (Write p)) (λ n. HasRoomForBoth n passes) → HasRoomOf q passes
  room_then Commit is first client same does room =
      commit_room (leaders_of_write rules.settings old.states p) (subst (λ x. IsSome (stage_said x)) (sym is) refl) first does
  room_then Apply is first client same does room = applied_room is client room same
  room_then Inverse is first client same does room =
      kept_room (subst (λ x. IsSome (stage_said x)) (sym is) refl) first (inverse_keeps rules p q old new does)
  room_then End is first client same does room =
      kept_room (subst (λ x. IsSome (stage_said x)) (sym is) refl) first (end_keeps rules.tells rules.settings p q old new does)
  room_then Relay is first client same (inl relays) room =
      let some : IsSome (next_stage (Write p)) = subst (λ x. IsSome (stage_said x)) (sym is) refl in
      left_room q passes (stage_left q relays.committed
      (ap (λ (x : Writing). x.refused) relays.then ∙ unrefused p.refused p.committed p.job p.back some)
      (ap (λ (x : Writing). x.committed) relays.then ∙ relays.answered) (subst IsBefore (sym (ap (λ (x : Writing). x.back) relays.then)) tt))
  room_then Relay is first client same (inr loses) room =
      refused_room q _ passes (ap (λ (x : Writing). x.refused) loses.then) (λ called same. absurd (cc))
  room_then Done is first client same does room = absurd does

  -- also where a node is down that the stage needs
  room_comes : OpensFirst (Write p) → IsTrue (is_client p.origin) → ComesOfWrite rules p old q new
      → IfSome (learner (Write p)) (λ n. HasRoomForBoth n passes) → HasRoomOf q passes
  room_comes first client (inl next) room =
      room_then (next_of p) refl first client (write_same p q old new rules (inl next)).origin next.does room
  room_comes first client (inr ends) room =
      refused_room q (write_is_down ends.node p) passes (ended_down p q old new ends).refused (λ called same. absurd (cc))

-- a read is answered only by a stage before which its session got ready, and that stays so while the logs grow
read_room : (pens later : Pens) (p q : Reading) (reader : Option Reader) (passes : List SeenPass) → Rise pens later → q.query ≡ p.query
    → q.reader ≡ p.reader → learner (Read p) ≡ p.reader → IsReady pens (Read p) reader passes → IsReaderOf later (query_shard q.query) q.reader reader passes
read_room pens later p q reader passes rise same own last ready =
    let shard = query_shard p.query in
    subst (λ query. IsReaderOf later (query_shard query) q.reader reader passes) (sym same)
    (subst (λ n. IsReaderOf later shard n reader passes) (sym (own ∙ sym last)) (reader_later pens later shard (learner (Read p)) reader passes rise ready))

module _ (rules : Rules) (tables : Tables) (f : Fleet) (pens later : Pens) (reader : Option Reader) (passes : List SeenPass) where
  pub room_after : (before after : HeldPlan) (old new : World) → Rise pens later → OpensFirst before
      → IsUnderWay rules.tells rules.settings tables f before → StepsHeld rules before old after new → IsReady pens before reader passes
      → HasRoomFor later after reader passes
  room_after (Read p) (Read q) old new rise first under steps ready = λ reply ends.
      read_room pens later p q reader passes rise (read_same p q old new rules steps.steps.does).query (held_reader rules p q old new steps)
      (answered_last rules p q old new reply steps ends) ready
  room_after (Write p) (Write q) old new rise first under steps ready = room_comes rules p q old new passes first under.client steps ready
  room_after (Read p) (Write q) old new rise first under steps ready = absurd steps
  room_after (Write p) (Read q) old new rise first under steps ready = absurd steps

-- a plan that was given up is told with nothing
pub given_up_room : (pens : Pens) (before after : HeldPlan) (reader : Option Reader) (old new : World) (passes : List SeenPass)
    → GivesUp before old after new → HasRoomFor pens after reader passes
given_up_room pens (Read p) (Read q) reader old new passes gives = λ reply ends. absurd (given_answers_none p q old new gives reply ends)
given_up_room pens (Write p) (Write q) reader old new passes gives =
    subst (λ w. HasRoomOf w passes) (sym gives.0) (refused_room (way_given_up p) _ passes refl (λ called same. absurd (cc)))
given_up_room pens (Read p) (Write q) reader old new passes gives = absurd gives
given_up_room pens (Write p) (Read q) reader old new passes gives = absurd gives

-- ---- the version of an answer has come to the log

given_comes : (tells : Bool) (s : Settings) (tables : Tables) (before after : HeldPlan) (old new : World) → GivesUp before old after new
    → ReachesEnd tells s tables after
given_comes tells s tables (Read p) (Read q) old new gives = λ reply ends. absurd (given_answers_none p q old new gives reply ends)
given_comes tells s tables (Write p) (Read q) old new gives = absurd gives
given_comes tells s tables before (Write q) old new gives = tt

pub advance_comes : (rules : Rules) (before after : HeldPlan) (old new : World) → Advances rules before old after new
    → ReachesEnd rules.tells rules.settings new.keepers.told after
advance_comes rules before after old new (inl steps) = step_reaches rules before after old new steps
advance_comes rules before after old new (inr ends) = given_comes rules.tells rules.settings new.keepers.told before after old new ends.gives

-- ---- what is told was seen

here_seen : (tells : Bool) (s : Settings) (tables : Tables) (f : Fleet) (p : Writing) (committed : Option Committed) → IsWriteUnderWay tells s tables f p
    → IfSome committed (IsAnswerTo s f.stores p)
    → IfSome (option_and_then (λ c. learn_through_note (write_shard p.write) c.wrote.note c.wrote.entry) committed) (IsLearntOf s f.stores)
here_seen tells s tables f p None under is = tt
here_seen tells s tables f p (Some c) under is = by c.wrote.entry is.apply.seen
  where
    by : (entry : Option Entry) → IfSome entry (IsSeenEntry (pens_of f.stores) (write_shard p.write) c.wrote.note)
        → IfSome (learn_through_note (write_shard p.write) c.wrote.note entry) (IsLearntOf s f.stores)
    by None seen = tt
    by (Some e) seen = (under.follower.here, seen)

there_seen : (s : Settings) (stores : List StoreSeen) (job : Option Job) (wrote : Option Wrote) → IfSome job (λ j. StandsThere s j wrote stores)
    → IfSome (learnt_far job wrote) (IsLearntOf s stores)
there_seen s stores None wrote stands = tt
there_seen s stores (Some j) None stands = tt
there_seen s stores (Some j) (Some w) stands = by w.entry stands
  where
    by : (entry : Option Entry) → IfSome entry (λ e. (far_shard j < s.shards) × IsSeenEntry (pens_of stores) (far_shard j) w.note e)
        → IfSome (learn_through_note (far_shard j) w.note entry) (IsLearntOf s stores)
    by None seen = tt
    by (Some e) seen = seen

plan_learnt : (tells : Bool) (s : Settings) (tables : Tables) (f : Fleet) (p : Writing) → IsWriteUnderWay tells s tables f p
    → AreLearntOf s f.stores (learnt_of_write p)
plan_learnt tells s tables f p under = record {
  here = here_seen tells s tables f p p.committed under under.committed;
  other = there_seen s f.stores (answered_job p) p.other under.other;
}

with_learnt_of : (tells : Bool) (s : Settings) (tables : Tables) (f : Fleet) (p : Writing) (ended : Reply) → IsWriteUnderWay tells s tables f p
    → AreLearntOf s f.stores (learnt_with ended (Write p))
with_learnt_of tells s tables f p (Called reply) under = plan_learnt tells s tables f p under
with_learnt_of tells s tables f p ended under = record { here = tt; other = tt }

module _ (tells : Bool) (s : Settings) (tables : Tables) (f : Fleet) (masters : HaveMasterRegions s) (are : AreStoresOf tells s tables f.stores) where
  -- the session may learn it
  pub may_learn : (plan : HeldPlan) (reader : Option Reader) (passes : List SeenPass) → IsUnderWay tells s tables f plan
      → IsOfSession (sessions_of passes) plan → HasRoomFor (pens_of f.stores) plan reader passes → ReachesEnd tells s tables plan
      → AreOurs tells s tables f.stores (sessions_of passes) → MayLearn (pens_of f.stores) plan reader passes
  may_learn (Read p) reader passes under found room reaches all =
      may_hear_of tells s tables f.stores masters are p reader passes under.follower.here found room reaches all
  may_learn (Write p) reader passes under found room reaches all = record {
    author_is = found;
    room = room;
    may = may_both tells s tables f.stores (sessions_of passes) (author p.origin) (learnt_of_write p) all (plan_learnt tells s tables f p under);
  }

  -- and is one of the core then
  pub learns_ours : (plan : HeldPlan) (ended : Reply) (old new : List Session) → IsUnderWay tells s tables f plan → IsOver plan ended
      → ReachesEnd tells s tables plan → LearnsOf (pens_of f.stores) plan ended old new → AreOurs tells s tables f.stores old
      → AreOurs tells s tables f.stores new
  learns_ours (Read p) ended old new under over reaches learns all =
      answer_ours tells s tables f.stores masters are p ended old new under.follower.here reaches over learns all
  learns_ours (Write p) ended old new under over reaches learns all =
      both_ours tells s tables f.stores (author p.origin) (learnt_with ended (Write p)) old new masters are
      (with_learnt_of tells s tables f p ended under) learns all

-- each session that is open stays so
pub learns_open : (pens : Pens) (plan : HeldPlan) (ended : Reply) (old new : List Session) → LearnsOf pens plan ended old new → (n : ℕ)
    → is_open new n ≡ is_open old n
learns_open pens (Read p) ended old new learns n = answer_open pens p ended old new learns n
learns_open pens (Write p) ended old new learns n = both_open (author p.origin) (learnt_with ended (Write p)) old new learns n

of_session_by : (old new : List Session) (plan : HeldPlan) → ((n : ℕ) → is_open new n ≡ is_open old n) → IsOfSession old plan → IsOfSession new plan
of_session_by old new (Read p) same is = IfSome_then p.reader is (λ n found. same n ∙ found)
of_session_by old new (Write p) same is = same (author p.origin) ∙ is

pub of_session_still : (pens : Pens) (over : HeldPlan) (ended : Reply) (old new : List Session) (plan : HeldPlan) → LearnsOf pens over ended old new
    → IsOfSession old plan → IsOfSession new plan
of_session_still pens over ended old new plan learns = of_session_by old new plan (learns_open pens over ended old new learns)

-- ---- the end of a plan

-- what is told with nothing may be learnt
none_now : (number : ℕ) (passes : List SeenPass) → MayLearnNow number nothing_learnt passes
none_now number passes = record { ready = (tt, tt); may = record { here = tt; other = tt } }

pub learns_now : (p : Writing) (reply : Reply) (passes : List SeenPass) → next_stage (Write p) ≡ None → IsOver (Write p) reply → MayLearnOf p passes
    → MayLearnNow (author p.origin) (learnt_with reply (Write p)) passes
learns_now p (Called reply) passes over is may = now_ready (author p.origin) (learnt_of_write p) passes may.author_is (may.room over reply is) may.may
learns_now p reply passes over is may = none_now (author p.origin) passes
