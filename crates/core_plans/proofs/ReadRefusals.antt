-- A read that is refused gives no answer.
use Rattle.std.proofs.Common.{◌≡◌, refl, Bool, true, false, Option, Some, None, ap, sym, ◌∙◌, subst, inl, inr}
use Rattle.cache_items.specs.declared.look.Look.{Look}
use Rattle.cache_items.specs.declared.look.Look.TheVariants.{Hit, Miss}
use Rattle.core_plans.specs.HeldReads.{ComesOfRead, DoesKeep, DoesLook, DoesReadStage, EndsRead, EndsReadDown, read_is_down}
use Rattle.core_plans.specs.LedBy.{Rules}
use Rattle.core_plans.proofs.StageLemmas.{ended_read}
use Rattle.core_steps.specs.World.{World}
use Rattle.read_plan.specs.Readings.{Reading}
use Rattle.read_plan.specs.Standings.{after_ask, after_keep, after_look, after_master, stage_of}
use Rattle.read_plan.specs.declared.end.ReadEnd.TheVariants as ended
use Rattle.read_plan.specs.declared.standing.Given.{Given}
use Rattle.read_plan.specs.declared.standing.Given.TheVariants.{Fill, HandedOut, Past}
use Rattle.read_plan.specs.declared.standing.Standing.{Standing}
use Rattle.read_plan.specs.declared.standing.Standing.TheVariants.{Looking, Asking, Mastering, Keeping, Ended}
use Rattle.replies.specs.declared.calls.CallReply.{CallReply}
use Rattle.replies.specs.declared.reply.Reply.{Reply}
use Rattle.replies.specs.declared.reply.Reply.TheVariants.{Called}
use Rattle.shard_tables.specs.declared.leader_answer.LeaderAnswer.{LeaderAnswer}
use Rattle.shard_tables.specs.declared.leader_answer.LeaderAnswer.TheVariants as leads
use Rattle.shard_tables.specs.declared.read_out.ReadOut.{ReadOut}
use Rattle.shard_tables.specs.declared.read_out.ReadOut.TheVariants as store
use Rattle.topology.specs.Config.{Settings}

-- a read that ended with a refusal ended with no reply of a call
abbrev pub NeverCalled : Standing → Type 0
NeverCalled at = (reply : Reply) (answered : CallReply) → at ≡ Ended (ended.Refused reply) → reply ≡ Called answered → ⊥

look_never : (critical : Bool) (look : Look) → NeverCalled (after_look critical look)
look_never true look reply answered at is = absurd (cc)
look_never false (Hit answer version) reply answered at is = absurd (cc)
look_never false Miss reply answered at is = absurd (cc)

ask_never : (given : LeaderAnswer) → NeverCalled (after_ask given)
ask_never (leads.Filled fill) reply answered at is = absurd (cc)
ask_never (leads.Past answer version total note) reply answered at is = absurd (cc)
ask_never (leads.Behind version) reply answered at is = absurd (cc)

master_never : (out : ReadOut) → NeverCalled (after_master out)
master_never (store.Filled fill) reply answered at is = absurd (cc)
master_never (store.Past answer version total note) reply answered at is = absurd (cc)

abbrev refusal_in : Standing → Option Reply
refusal_in (Ended (ended.Refused reply)) = Some reply
refusal_in (Ended (ended.Answered answer version held)) = None
refusal_in Looking = None
refusal_in Asking = None
refusal_in Mastering = None
refusal_in (Keeping given) = None

-- where its refusal is known
refused_never : (own : Reply) → ((answered : CallReply) → own ≡ Called answered → ⊥) → NeverCalled (Ended (ended.Refused own))
refused_never own never reply answered at is =
    let same : Some own ≡ Some reply = ap refusal_in at in
    let here : own ≡ reply = cc in
    never answered (here ∙ is)

keep_never : (s : Settings) (p q : Reading) (given : Given) (old new : World) → p.at ≡ Keeping given → DoesKeep s p given old q new → NeverCalled q.at
keep_never s p q (Fill fill) old new at (inl from) =
    subst (λ (r : Reading). NeverCalled r.at) (sym from.then)
    (subst (λ a. NeverCalled (after_keep p.bound a (Some (from.answer, from.kept)))) (sym at) (λ reply answered stands is. absurd (cc)))
keep_never s p q (Fill fill) old new at (inr vain) =
    subst (λ (r : Reading). NeverCalled r.at) (sym vain.then) (refused_never _ (λ answered is. absurd (cc)))
keep_never s p q (Past answer version total seen) old new at on =
    subst (λ (r : Reading). NeverCalled r.at) (sym on.then)
    (subst (λ a. NeverCalled (after_keep p.bound a None)) (sym at) (λ reply answered stands is. absurd (cc)))
keep_never s p q (HandedOut version) old new at on = absurd on

pub stage_never : (rules : Rules) (at : Standing) (p q : Reading) (old new : World) → p.at ≡ at → DoesReadStage rules at p old q new → NeverCalled q.at
stage_never rules Looking p q old new is does = by p.critical does
  where
    by : (critical : Bool) → DoesLook rules.settings critical p old q new → NeverCalled q.at
    by false (inl looks) = subst (λ (r : Reading). NeverCalled r.at) (sym looks.then) (look_never p.critical looks.look)
    by false (inr vain) = subst (λ (r : Reading). NeverCalled r.at) (sym vain.then) (refused_never _ (λ answered is. absurd (cc)))
    by true looks = subst (λ (r : Reading). NeverCalled r.at) (sym looks.then) (look_never p.critical Miss)
stage_never rules Asking p q old new is (inl asks) = subst (λ (r : Reading). NeverCalled r.at) (sym asks.then) (ask_never asks.given)
stage_never rules Asking p q old new is (inr vain) =
    subst (λ (r : Reading). NeverCalled r.at) (sym vain.then) (refused_never _ (λ answered is. absurd (cc)))
stage_never rules Mastering p q old new is (inl asks) = subst (λ (r : Reading). NeverCalled r.at) (sym asks.then) (master_never asks.out)
stage_never rules Mastering p q old new is (inr vain) =
    subst (λ (r : Reading). NeverCalled r.at) (sym vain.then) (refused_never _ (λ answered is. absurd (cc)))
stage_never rules (Keeping given) p q old new is does = keep_never rules.settings p q given old new is does
stage_never rules (Ended end) p q old new is does = absurd does

-- ---- a node is down

-- one that ends in place of its next stage ends with that refusal
pub over_refused : (reply : Reply) (p q : Reading) (old new : World) → EndsRead reply p old q new → q.at ≡ Ended (ended.Refused reply)
over_refused reply p q old new over = ap (λ (r : Reading). r.at) over.then ∙ ended_read (stage_of p.at) reply p 0 false

-- so does one whose next stage needs a node that is down
pub ends_refused : (p q : Reading) (old new : World) (ends : EndsReadDown p old q new) → q.at ≡ Ended (ended.Refused (read_is_down ends.node))
ends_refused p q old new ends = over_refused (read_is_down ends.node) p q old new ends.over

pub read_never : (rules : Rules) (p q : Reading) (old new : World) → ComesOfRead rules p old q new → NeverCalled q.at
read_never rules p q old new (inl next) = stage_never rules p.at p q old new refl next.does
read_never rules p q old new (inr ends) =
    subst NeverCalled (sym (ends_refused p q old new ends)) (refused_never (read_is_down ends.node) (λ answered is. absurd (cc)))
