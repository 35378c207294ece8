-- How a read ends: by the stage that may answer it, for its session, and legally in the log as it is then.
use Rattle.std.proofs.Common.{◌≡◌, ◌∙◌, refl, ap, sym, subst, inl, inr}
use Rattle.core_steps.specs.World.{World}
use Rattle.read_plan.specs.Ends.{EndsAt, EndsWith}
use Rattle.read_plan.specs.Readings.{Reading}
use Rattle.read_plan.specs.Standings.{after_ask, after_master, stage_of}
use Rattle.read_plan.specs.declared.end.ReadEnd.TheVariants as ended
use Rattle.read_plan.specs.declared.standing.Standing.{Standing}
use Rattle.read_plan.specs.declared.standing.Standing.TheVariants.{Looking, Asking, Mastering, Keeping, Ended}
use Rattle.replies.specs.declared.calls.CallReply.TheVariants as called
use Rattle.replies.specs.declared.calls.ReadReply.{ReadReply}
use Rattle.replies.specs.declared.reply.Reply.{Reply}
use Rattle.replies.specs.declared.reply.Reply.TheVariants.{Called}
use Rattle.shard_tables.specs.declared.leader_answer.LeaderAnswer.{LeaderAnswer}
use Rattle.shard_tables.specs.declared.leader_answer.LeaderAnswer.TheVariants as leads
use Rattle.shard_tables.specs.declared.read_out.ReadOut.{ReadOut}
use Rattle.shard_tables.specs.declared.read_out.ReadOut.TheVariants as store
use Rattle.core_plans.specs.Held.{StepsHeld, learner, reader_at}
use Rattle.core_plans.specs.HeldLaws.{AnswersAreLearnt}
use Rattle.core_plans.specs.HeldReads.{ComesOfRead, DoesReadStage, EndsLegally}
use Rattle.core_plans.specs.LedBy.{Rules}
use Rattle.core_plans.specs.WholeCalls.{CarriesOut, PassesStage}
use Rattle.core_plans.specs.declared.held.HeldPlan.{HeldPlan}
use Rattle.core_plans.specs.declared.held.HeldPlan.TheVariants.{Read}
use Rattle.core_plans.proofs.InTurn.{IsSameRead, read_same}
use Rattle.core_plans.proofs.ReadRefusals.{NeverCalled, ends_refused, read_never}
use Rattle.core_plans.proofs.WholeRuns.{OfRead, read_keeps}

-- ---- where an answer stands

-- the read stands at the end with that answer
abbrev pub AnswersAt : Standing → ReadReply → Type 0
AnswersAt at reply = at ≡ Ended (ended.Answered reply.answer reply.version reply.kept)

-- a read that ends with an answer stands at the end with it, at the version that it tells
answered_at : (q : Reading) (at : Standing) (reply : ReadReply) → NeverCalled at → EndsAt at q (Called (called.Read reply)) → AnswersAt at reply
answered_at q (Ended (ended.Answered answer version held)) reply never ends =
    ap (λ (r : ReadReply). Ended (ended.Answered r.answer r.version r.kept)) (sym (one_read reply _ ends))
  where
    one_read : (a b : ReadReply) → Called (called.Read a) ≡ Called (called.Read b) → a ≡ b
    one_read a b is = cc
answered_at q (Ended (ended.Refused refused)) reply never ends = absurd (never refused (called.Read reply) refl (sym ends))
answered_at q Looking reply never ends = absurd ends
answered_at q Asking reply never ends = absurd ends
answered_at q Mastering reply never ends = absurd ends
answered_at q (Keeping given) reply never ends = absurd ends

pub answers_there : (rules : Rules) (p q : Reading) (old new : World) (reply : ReadReply) → ComesOfRead rules p old q new
    → EndsWith q (Called (called.Read reply)) → AnswersAt q.at reply
answers_there rules p q old new reply does ends = answered_at q q.at reply (read_never rules p q old new does) ends

-- ---- which stage answers

-- no answer stands there
abbrev NotAnswered : Standing → Type 0
NotAnswered at = (reply : ReadReply) → AnswersAt at reply → ⊥

asked_not : (given : LeaderAnswer) → NotAnswered (after_ask given)
asked_not (leads.Filled fill) reply is = absurd (cc)
asked_not (leads.Past answer version total note) reply is = absurd (cc)
asked_not (leads.Behind version) reply is = absurd (cc)

mastered_not : (out : ReadOut) → NotAnswered (after_master out)
mastered_not (store.Filled fill) reply is = absurd (cc)
mastered_not (store.Past answer version total note) reply is = absurd (cc)

refused_not : (refused : Reply) → NotAnswered (Ended (ended.Refused refused))
refused_not refused reply is = absurd (cc)

module _ (rules : Rules) (p q : Reading) (old new : World) (reply : ReadReply) (answers : AnswersAt q.at reply) where
  -- whoever may answer it learns of it
  abbrev Learns : Standing → Type 0
  Learns at = reader_at (stage_of at) p.reader ≡ p.reader

  not_here : (at : Standing) → NotAnswered at → q.at ≡ at → ⊥
  not_here at never is = never reply (sym is ∙ answers)

  stage_learns : (at : Standing) → DoesReadStage rules at p old q new → Learns at
  stage_learns Looking does = refl
  stage_learns (Keeping given) does = refl
  stage_learns Asking (inl asks) = absurd (not_here _ (asked_not asks.given) (ap (λ (r : Reading). r.at) asks.then))
  stage_learns Asking (inr vain) = absurd (not_here _ (refused_not _) (ap (λ (r : Reading). r.at) vain.then))
  stage_learns Mastering (inl asks) = absurd (not_here _ (mastered_not asks.out) (ap (λ (r : Reading). r.at) asks.then))
  stage_learns Mastering (inr vain) = absurd (not_here _ (refused_not _) (ap (λ (r : Reading). r.at) vain.then))
  stage_learns (Ended end) does = absurd does

  -- the stage that ends a read with an answer is one before which its session is known to be about to learn
  pub answer_is_learnt : ComesOfRead rules p old q new → learner (Read p) ≡ p.reader
  answer_is_learnt (inl next) = stage_learns p.at next.does
  answer_is_learnt (inr ends) = absurd (not_here _ (refused_not _) (ends_refused p q old new ends))

-- the stage that answers a held read is one before which its session is the one that learns
pub answered_last : (rules : Rules) (p q : Reading) (old new : World) (reply : ReadReply) → StepsHeld rules (Read p) old (Read q) new
    → EndsWith q (Called (called.Read reply)) → learner (Read p) ≡ p.reader
answered_last rules p q old new reply steps ends =
    answer_is_learnt rules p q old new reply (answers_there rules p q old new reply steps.steps.does ends) steps.steps.does

-- no stage of a held read changes for whom it is
pub held_reader : (rules : Rules) (p q : Reading) (old new : World) → StepsHeld rules (Read p) old (Read q) new → q.reader ≡ p.reader
held_reader rules p q old new steps = (read_same p q old new rules steps.steps.does).reader

pub answers_are_learnt : (rules : Rules) (p q : Reading) (old new : World) → AnswersAreLearnt rules p old q new
answers_are_learnt rules p q old new = record {
  reader = held_reader rules p q old new;
  learner = λ steps reply ends. answered_last rules p q old new reply steps ends;
}

-- ---- all of its stages

-- two stages leave the same read
pub same_read : (p q r : Reading) → IsSameRead p q → IsSameRead q r → IsSameRead p r
same_read p q r first second = record {
  query = second.query ∙ first.query;
  region = second.region ∙ first.region;
  floor = second.floor ∙ first.floor;
  critical = second.critical ∙ first.critical;
  follower = second.follower ∙ first.follower;
  reader = second.reader ∙ first.reader;
}

-- a read that was carried on from another is the same one; where it ended with an answer, that is legal in the log as it is
pub record EndsSo (rules : Rules) (p q : Reading) (now : World) : Type 0 where
  pub legal : EndsLegally rules.tells rules.settings q now
  pub same : IsSameRead p q
  pub answered : (reply : ReadReply) → EndsWith q (Called (called.Read reply)) → AnswersAt q.at reply

-- a read of which nothing was done has no reply
not_yet : (q : Reading) (at : Standing) (reply : Reply) → at ≡ Looking → EndsAt at q reply → ⊥
not_yet q at reply is ends = subst (λ a. EndsAt a q reply) is ends

module _ (rules : Rules) (p : Reading) where
  ends_on : (m q : Reading) (old new : World) → EndsSo rules p m old → PassesStage rules (Read m) old (Read q) new → EndsSo rules p q new
  ends_on m q old new so stage = record {
    legal = stage.steps.steps.legal;
    same = same_read p m q so.same (read_same m q old new rules stage.steps.steps.does);
    answered = λ reply. answers_there rules m q old new reply stage.steps.steps.does;
  }

  ends_begun : (now : World) → p.at ≡ Looking → EndsSo rules p p now
  ends_begun now at = record {
    legal = λ reply ends. absurd (not_yet p p.at (Called (called.Read reply)) at ends);
    same = record { query = refl; region = refl; floor = refl; critical = refl; follower = refl; reader = refl };
    answered = λ reply ends. absurd (not_yet p p.at (Called (called.Read reply)) at ends);
  }

  -- so is one that does all of its stages
  pub whole_ends : (q : HeldPlan) (old new : World) → p.at ≡ Looking → CarriesOut rules (Read p) old q new → OfRead (EndsSo rules p) q new
  whole_ends q old new at out = read_keeps rules (EndsSo rules p) ends_on out.stages p q old new (ends_begun old at) out.passes

  -- its answer is legal in the log as it is at its end
  pub ended_legally : (q : Reading) (old new : World) → p.at ≡ Looking → CarriesOut rules (Read p) old (Read q) new
      → EndsLegally rules.tells rules.settings q new
  ended_legally q old new at out = (whole_ends (Read q) old new at out).legal

  -- and it is the same read, for the same session
  pub ended_same : (q : Reading) (old new : World) → p.at ≡ Looking → CarriesOut rules (Read p) old (Read q) new → IsSameRead p q
  ended_same q old new at out = (whole_ends (Read q) old new at out).same

  pub ended_reader : (q : Reading) (old new : World) → p.at ≡ Looking → CarriesOut rules (Read p) old (Read q) new → q.reader ≡ p.reader
  ended_reader q old new at out = (ended_same q old new at out).reader
