-- A read that was said to be kept is answered the same where the next line asks it again.
use Rattle.std.proofs.Common.{arith, max, ◌≡◌, ◌≤◌, ◌||◌, ◌∙◌, ◌⊎◌, ℕ, true, false, List, Some, None, refl, sym, ap, subst, inl, inr}
use Rattle.core_model.proofs.Places.{one_some}
use Rattle.core_model.specs.Pens.{pens_of}
use Rattle.core_plans.proofs.InTurn.{IsSameRead, read_same}
use Rattle.core_plans.proofs.WholeRuns.{OfRead, read_keeps}
use Rattle.core_plans.specs.Held.{IsOver, StepsReadAlone}
use Rattle.core_plans.specs.HeldReads.{ComesOfRead, DoesLook, DoesReadStage, EndsLegally, at_bound, read_is_down}
use Rattle.core_plans.specs.LedBy.{rules_of}
use Rattle.core_plans.specs.Needs.{first_down, read_needs}
use Rattle.core_plans.specs.WholeCalls.{CarriesOut, PassesStage}
use Rattle.core_plans.specs.declared.held.HeldPlan.{HeldPlan}
use Rattle.core_plans.specs.declared.held.HeldPlan.TheVariants as of
use Rattle.core_sessions.specs.Sessions.{Session, SessionLearnsVersion, session_at}
use Rattle.core_steps.specs.Reads.{AnswersAgain}
use Rattle.core_steps.specs.World.{World}
use Rattle.hop_count.specs.Hops.{hops_after}
use Rattle.node_name.specs.declared.NodeName.{NodeName}
use Rattle.plain_promise.specs.Promise.{AreSameReplies}
use Rattle.promise_kept.proofs.Learning.{session_here}
use Rattle.promise_kept.proofs.Refusing.{refused_standing}
use Rattle.promise_kept.proofs.Seeing.{reader_learns}
use Rattle.promise_kept.specs.Lines.{IsLine, KeptAnswersAgain}
use Rattle.read_plan.specs.Ends.{EndsAt, EndsWith}
use Rattle.read_plan.specs.Readings.{Reading, new_reading, read_by}
use Rattle.read_plan.specs.Standings.{after_look, stage_of}
use Rattle.read_plan.specs.declared.end.ReadEnd.{ReadEnd}
use Rattle.read_plan.specs.declared.end.ReadEnd.TheVariants as ended
use Rattle.read_plan.specs.declared.standing.Standing.TheVariants.{Ended, Looking}
use Rattle.replies.specs.declared.calls.CallReply.TheVariants as called
use Rattle.replies.specs.declared.calls.ReadReply.{ReadReply}
use Rattle.replies.specs.declared.nodes.KeptOrNot.TheVariants.{Kept}
use Rattle.replies.specs.declared.refusals.NodeRefused.TheVariants.{NodeDown}
use Rattle.replies.specs.declared.refusals.Refusal.{Refusal}
use Rattle.replies.specs.declared.refusals.Refusal.TheVariants.{Memory, Node}
use Rattle.replies.specs.declared.refusals.When.TheVariants.{Before}
use Rattle.replies.specs.declared.reply.Reply.{Reply}
use Rattle.replies.specs.declared.reply.Reply.TheVariants.{Called, Refused}
use Rattle.request_check.specs.declared.checked.Checked.TheVariants as asks
use Rattle.request_check.specs.declared.checked.CheckedCall.TheVariants as call
use Rattle.request_check.specs.declared.checked.CheckedRead.{CheckedRead}
use Rattle.session_pass.specs.Floors.{floor_at}
use Rattle.shard_log.specs.View.{View, as_note}
use Rattle.tao_base.specs.Keys.{key_shard}
use Rattle.tao_base.specs.Queries.{query_key, query_shard}
use Rattle.tao_core.specs.Calls.{world_of}
use Rattle.tao_core.specs.Core.{CoreState, Moment}
use Rattle.tao_core.specs.HeldCalls.{AnswersCall, CallGoes, LearnsOf}
use Rattle.tao_schema.specs.Schema.{types_of}
use Rattle.topology.specs.Choices.{chosen_follower}
use Rattle.topology.specs.Config.{Settings}
use Rattle.topology.specs.States.{NodeStates}

-- ---- the first line

-- it asks the same at the same follower, and its answer is legal and answers again
record IsFirst (s : Settings) (p q : Reading) (now : World) : Type 0 where
  same : IsSameRead p q
  legal : EndsLegally true s q now

first_on : (s : Settings) (p m q : Reading) (old new : World) → IsFirst s p m old
    → PassesStage (rules_of true s) (of.Read m) old (of.Read q) new → IsFirst s p q new
first_on s p m q old new so stage =
    let next = read_same m q old new (rules_of true s) stage.steps.steps.does in
    record {
      same = record {
        query = next.query ∙ so.same.query;
        region = next.region ∙ so.same.region;
        floor = next.floor ∙ so.same.floor;
        critical = next.critical ∙ so.same.critical;
        follower = next.follower ∙ so.same.follower;
        reader = next.reader ∙ so.same.reader;
      };
      legal = stage.steps.steps.legal;
    }

-- its session learnt the version that it answers, which reaches its floor, and its follower answers again
record FirstDone (s : Settings) (p : Reading) (read : CheckedRead) (a : ReadReply) (sessions : List Session) (mid : Moment) : Type 0 where
  note : View
  told : SessionLearnsVersion read.session (query_key read.query) a.version note sessions mid.core.sessions
  again : AnswersAgain (types_of s.schema) p.follower p.query a mid.core.fleet.followers
  least : p.floor ≤ a.version

first_done : (s : Settings) (p : Reading) (read : CheckedRead) (a : ReadReply) (sessions : List Session) (mid : Moment) (after : HeldPlan)
    → p.query ≡ read.query → p.reader ≡ Some read.session → OfRead (IsFirst s p) after (world_of mid) → IsOver after (Called (called.Read a))
    → LearnsOf (pens_of mid.core.fleet.stores) after (Called (called.Read a)) sessions mid.core.sessions → a.kept ≡ Kept
    → FirstDone s p read a sessions mid
first_done s p read a sessions mid (of.Write q) query reader so over learns kept = absurd so
first_done s p read a sessions mid (of.Read q) query reader so over learns kept =
    let legal = so.legal a over in
    let found = legal.0 refl in
    record {
      note = as_note (pens_of mid.core.fleet.stores (key_shard (query_key read.query)));
      told = reader_learns (pens_of mid.core.fleet.stores) q read a sessions mid.core.sessions (so.same.query ∙ query) (so.same.reader ∙ reader) learns;
      again = subst (λ query. AnswersAgain (types_of s.schema) p.follower query a mid.core.fleet.followers) so.same.query
          (subst (λ name. AnswersAgain (types_of s.schema) name q.query a mid.core.fleet.followers) so.same.follower (legal.1 refl kept));
      least = subst (λ n. n ≤ a.version) so.same.floor found.reached;
    }

-- ---- the second line

record IsHit (a : ReadReply) (q : Reading) : Type 0 where
  at : q.at ≡ Ended (ended.Answered a.answer a.version Kept)
  hops : q.hops ≡ 0
  store : q.store ≡ false

record WasRefused (q : Reading) : Type 0 where
  refusal : Refusal
  at : q.at ≡ Ended (ended.Refused (Refused refusal))

-- nothing was done yet, or it was a hit, or it was refused
abbrev IsSecond : Reading → World → ReadReply → Reading → World → Type 0
IsSecond p start a q now = ((q ≡ p) × (now ≡ start)) ⊎ (IsHit a q ⊎ WasRefused q)

abbrev read_in : ReadReply → Reply → ReadReply
read_in other (Called (called.Read reply)) = reply
read_in other reply = other

module _ (s : Settings) (p : Reading) (start : World) (a : ReadReply) (plain : p.critical ≡ false) (at : p.at ≡ Looking)
    (hops : p.hops ≡ 0) (store : p.store ≡ false)
    (again : AnswersAgain (types_of s.schema) p.follower p.query a start.fleet.followers) (least : p.floor ≤ a.version) where
  hits : (q : Reading) (new : World) → DoesLook s false p start q new → IsHit a q ⊎ WasRefused q
  hits q new (inl looks) =
      let change = looks.looks in
      let look = change.by.look_is ∙ again change.place change.from p.floor change.first change.stands least in
      inl (record {
        at = ap (λ (r : Reading). r.at) looks.then ∙ ap (λ c. after_look c looks.look) plain ∙ ap (after_look false) look;
        hops = ap (λ (r : Reading). r.hops) looks.then ∙ ap (λ n. hops_after n 0) hops;
        store = ap (λ (r : Reading). r.store) looks.then ∙ ap (λ b. b || false) store;
      })
  hits q new (inr vain) = inr (record { refusal = Memory 0; at = ap (λ (r : Reading). r.at) vain.then })

  looks_first : (q : Reading) (new : World) → StepsReadAlone (rules_of true s) p start q new → IsHit a q ⊎ WasRefused q
  looks_first q new steps =
      by steps.steps.does
    where
      by : ComesOfRead (rules_of true s) p start q new → IsHit a q ⊎ WasRefused q
      by (inl next) = hits q new (subst (λ c. DoesLook s c p start q new) plain
          (subst (λ x. DoesReadStage (rules_of true s) x p start q new) at next.does))
      by (inr down) = inr (record {
        refusal = Node (NodeDown down.node Before);
        at = ap (λ (r : Reading). r.at) down.over.then ∙ refused_standing p.critical p.bound p.at (read_is_down down.node);
      })

  -- no stage is done of a read that is over
  over_rests : (m q : Reading) (old new : World) (end : ReadEnd) → m.at ≡ Ended end → ComesOfRead (rules_of true s) m old q new → ⊥
  over_rests m q old new end over (inl next) = absurd (subst (λ x. DoesReadStage (rules_of true s) x m old q new) over next.does)
  over_rests m q old new end over (inr down) =
      let none : None ≡ Some down.node = subst (λ x. first_down old.states (read_needs (stage_of x) m) ≡ Some down.node) over down.down in
      absurd (cc (none))

  second_on : (m q : Reading) (old new : World) → IsSecond p start a m old → PassesStage (rules_of true s) (of.Read m) old (of.Read q) new
      → IsSecond p start a q new
  second_on m q old new (inl none) stage =
      inr (looks_first q new (subst (λ r. StepsReadAlone (rules_of true s) r start q new) none.0
      (subst (λ x. StepsReadAlone (rules_of true s) m x q new) none.1 stage.steps)))
  second_on m q old new (inr (inl hit)) stage =
      absurd (over_rests m q old new _ hit.at stage.steps.steps.does)
  second_on m q old new (inr (inr refused)) stage =
      absurd (over_rests m q old new _ refused.at stage.steps.steps.does)

  second_says : (after : HeldPlan) (end : World) (b : ReadReply) → OfRead (IsSecond p start a) after end → IsOver after (Called (called.Read b))
      → AreSameReplies a b
  second_says (of.Write q) end b so over = absurd so
  second_says (of.Read q) end b (inl none) over =
      absurd (subst (λ x. EndsAt x p (Called (called.Read b))) at (subst (λ r. EndsWith r (Called (called.Read b))) none.0 over))
  second_says (of.Read q) end b (inr (inl hit)) over =
      let told = subst (λ x. EndsAt x q (Called (called.Read b))) hit.at over in
      record {
        answer = ap (λ r. (read_in b r).answer) told;
        version = ap (λ r. (read_in b r).version) told;
        hops = ap (λ r. (read_in b r).hops) told ∙ hit.hops;
        store = ap (λ r. (read_in b r).store) told ∙ hit.store;
      }
  second_says (of.Read q) end b (inr (inr refused)) over =
      let told : Called (called.Read b) ≡ Refused refused.refusal = subst (λ x. EndsAt x q (Called (called.Read b))) refused.at over in
      absurd (cc (told))

  second_reads : (after : HeldPlan) (end : World) (b : ReadReply) → CarriesOut (rules_of true s) (of.Read p) start after end
      → IsOver after (Called (called.Read b)) → AreSameReplies a b
  second_reads after end b carries over =
      second_says after end b
      (read_keeps (rules_of true s) (IsSecond p start a) second_on carries.stages p after start end (inl (refl, refl)) carries.passes) over

-- ---- both

module _ (old mid new : Moment) (read : CheckedRead) (a b : ReadReply) (plain : read.critical ≡ false)
    (settings : mid.core.settings ≡ old.core.settings) (kept : a.kept ≡ Kept)
    (one : CallGoes true (call.Read read) old (Called (called.Read a)) mid) (two : CallGoes true (call.Read read) mid (Called (called.Read b)) new) where
  abbrev key_floor : Session → ℕ
  key_floor session = floor_at session.floors (query_key read.query)

  abbrev begun : Settings → Session → NodeName → Reading
  begun s session follower =
      read_by read.session (at_bound s (new_reading read.query session.region session.tier (key_floor session) read.critical follower))

  abbrev first_read : Reading
  first_read = begun old.core.settings one.begun.session one.begun.follower

  done : FirstDone old.core.settings first_read read a old.core.sessions mid
  done =
      let s = old.core.settings in
      let carries = subst (λ plan. CarriesOut (rules_of true s) plan (world_of old) one.does.after (world_of mid)) one.begun.plan_is one.does.carries in
      first_done s first_read read a old.core.sessions mid one.does.after refl refl
      (read_keeps (rules_of true s) (IsFirst s first_read) (first_on s first_read) carries.stages first_read one.does.after (world_of old)
      (world_of mid) (record {
        same = record { query = refl; region = refl; floor = refl; critical = refl; follower = refl; reader = refl };
        legal = λ reply ends. absurd ends;
      }) carries.passes) one.does.over one.does.learns kept

  states : mid.core.states ≡ old.core.states
  states = ap (λ (c : CoreState). c.states) one.does.rest

  -- the session is the one that began the first line, with what that taught it
  from_first : one.begun.session ≡ done.told.from
  from_first = one_some one.begun.session done.told.from (sym one.begun.found ∙ done.told.found)

  to_second : done.told.to ≡ two.begun.session
  to_second =
      let number : done.told.to.session ≡ done.told.from.session = ap (λ (x : Session). x.session) done.told.learns.rest in
      one_some done.told.to two.begun.session (sym (session_here done.told.to old.core.sessions read.session done.told.from done.told.found number)
      ∙ ap (λ xs. session_at xs read.session) (sym done.told.is) ∙ two.begun.found)

  region_same : one.begun.session.region ≡ two.begun.session.region
  region_same = ap (λ (x : Session). x.region) from_first ∙ sym (ap (λ (x : Session). x.region) done.told.learns.rest)
      ∙ ap (λ (x : Session). x.region) to_second

  tier_same : one.begun.session.tier ≡ two.begun.session.tier
  tier_same = ap (λ (x : Session). x.tier) from_first ∙ sym (ap (λ (x : Session). x.tier) done.told.learns.rest)
      ∙ ap (λ (x : Session). x.tier) to_second

  same_follower : one.begun.follower ≡ two.begun.follower
  same_follower = one_some one.begun.follower two.begun.follower (sym one.begun.chosen
      ∙ ap (λ region. chosen_follower old.core.states region one.begun.session.tier (query_shard read.query)) region_same
      ∙ ap (λ tier. chosen_follower old.core.states two.begun.session.region tier (query_shard read.query)) tier_same
      ∙ ap (λ (n : NodeStates). chosen_follower n two.begun.session.region two.begun.session.tier (query_shard read.query)) (sym states)
      ∙ two.begun.chosen)

  -- its floor is now the greater of what it was and the version that it was answered: no more than that
  floor_reached : key_floor two.begun.session ≤ a.version
  floor_reached =
      let now : key_floor done.told.to ≡ max (key_floor done.told.from) a.version = done.told.learns.floors.here in
      let was : key_floor done.told.from ≤ a.version = subst (λ x. key_floor x ≤ a.version) from_first done.least in
      subst (λ x. key_floor x ≤ a.version) to_second (omega (arith, now, was))

  pub same_replies : AreSameReplies a b
  same_replies =
      let s = mid.core.settings in
      let p = begun s two.begun.session two.begun.follower in
      let carries = subst (λ plan. CarriesOut (rules_of true s) plan (world_of mid) two.does.after (world_of new)) two.begun.plan_is two.does.carries in
      let again = subst (λ (x : Settings). AnswersAgain (types_of x.schema) two.begun.follower read.query a mid.core.fleet.followers) (sym settings)
      (subst (λ name. AnswersAgain (types_of old.core.settings.schema) name read.query a mid.core.fleet.followers) same_follower done.again) in
      second_reads s p (world_of mid) a plain refl refl refl again floor_reached two.does.after (world_of new) b carries two.does.over

pub kept_answers_again : KeptAnswersAgain
kept_answers_again = record {
  same = λ old mid new read a b plain first second kept. by old mid new read a b plain first second kept first.answers second.answers;
}
  where
    by : (old mid new : Moment) (read : CheckedRead) (a b : ReadReply) → read.critical ≡ false
        → IsLine (asks.Call (call.Read read)) old (Called (called.Read a)) mid → IsLine (asks.Call (call.Read read)) mid (Called (called.Read b)) new
        → a.kept ≡ Kept → AnswersCall true (call.Read read) old (Called (called.Read a)) mid
        → AnswersCall true (call.Read read) mid (Called (called.Read b)) new → AreSameReplies a b
    by old mid new read a b plain first second kept (inl one) (inl two) =
        same_replies old mid new read a b plain first.on.after.settings kept one two
    by old mid new read a b plain first second kept (inr refuses) two = absurd refuses.refused
    by old mid new read a b plain first second kept (inl one) (inr refuses) = absurd refuses.refused
