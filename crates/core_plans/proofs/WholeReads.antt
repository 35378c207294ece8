-- What a read took that did all of its stages, and that it changed no table and no message.
use Rattle.std.proofs.Common.{◌≡◌, ℕ, ◌<◌, Bool, true, false, ◌||◌, Some, None, refl, ap, sym, ◌∙◌, subst, inl, inr, arith}
use Rattle.std.specs.Prelude.{◌⊎◌}
use Rattle.core_plans.specs.Held.{IsOver}
use Rattle.core_plans.specs.HeldReads.{ChangesFollowers, ComesOfRead, DoesKeep, DoesLook, DoesReadStage, read_is_down}
use Rattle.core_plans.specs.LedBy.{Rules}
use Rattle.core_plans.specs.Needs.{first_down, read_needs}
use Rattle.core_plans.specs.WholeCalls.{CarriesOut, PassesStage, read_stages_left}
use Rattle.core_plans.specs.WholeLaws.{IsBegunRead, SaysCost, WholeRead}
use Rattle.core_plans.specs.declared.held.HeldPlan.{HeldPlan}
use Rattle.core_plans.specs.declared.held.HeldPlan.TheVariants.{Read, Write}
use Rattle.core_plans.proofs.ReadEndings.{ended_legally, ended_reader}
use Rattle.core_plans.proofs.ReadRefusals.{NeverCalled, ends_refused, read_never}
use Rattle.core_plans.proofs.StagesLeft.{stage_closer}
use Rattle.core_plans.proofs.Taking.{CarriesFew, HasCalled, HasTaken, both_carried, calls_more, none_between, none_called, none_carried, takes_more}
use Rattle.core_plans.proofs.WholeRuns.{OfRead, read_keeps}
use Rattle.core_steps.specs.World.{World}
use Rattle.core_steps.specs.Routes.{hops_between, was_called}
use Rattle.hop_count.specs.Hops.{hops_after}
use Rattle.read_plan.specs.Ends.{EndsAt}
use Rattle.read_plan.specs.Readings.{Reading}
use Rattle.read_plan.specs.Standings.{stage_of}
use Rattle.read_plan.specs.declared.end.ReadEnd.TheVariants as ended
use Rattle.read_plan.specs.declared.standing.Given.{Given}
use Rattle.read_plan.specs.declared.standing.Given.TheVariants.{Fill, HandedOut, Past}
use Rattle.read_plan.specs.declared.standing.Standing.{Standing}
use Rattle.read_plan.specs.declared.standing.Standing.TheVariants.{Looking, Asking, Mastering, Keeping, Ended}
use Rattle.replies.specs.declared.calls.CallReply.TheVariants as called
use Rattle.replies.specs.declared.calls.ReadReply.{ReadReply}
use Rattle.replies.specs.declared.reply.Reply.{Reply}
use Rattle.replies.specs.declared.refusals.Refusal.TheVariants.{Memory}
use Rattle.replies.specs.declared.reply.Reply.TheVariants.{Called, Refused}
use Rattle.tao_keeper.proofs.Later.{keeps_trans}
use Rattle.tao_keeper.specs.KeeperState.{IsLater, KeepsTables}
use Rattle.topology.specs.Config.{Settings}

-- ---- what its stages took

abbrev left_of : Reading → ℕ
left_of p = read_stages_left (stage_of p.at)

-- a read's hops are the carries since the first scene, and its `store` says whether a keeper was called since
record HasCost (first : World) (p : Reading) (now : World) : Type 0 where
  taken : HasTaken first.link now.link p.hops (left_of p)
  called : HasCalled first.keepers now.keepers p.store

-- it was refused
record IsRefused (p : Reading) : Type 0 where
  reply : Reply
  at : p.at ≡ Ended (ended.Refused reply)

-- it has its cost, or it was refused
abbrev Costs : World → Reading → World → Type 0
Costs first p now = HasCost first p now ⊎ IsRefused p

module _ (first : World) (p q : Reading) (old new : World) (cost : HasCost first p old) (later : IsLater old.keepers new.keepers)
    (closer : left_of q < left_of p) where
  -- a stage over the link
  adds : CarriesFew old.link new.link → q.hops ≡ hops_after p.hops (hops_between old.link new.link) → q.store ≡ (p.store || was_called old.keepers new.keepers)
      → HasCost first q new
  adds few hops store = record {
    taken = subst (λ n. HasTaken first.link new.link n (left_of q)) (sym hops)
        (takes_more first.link old.link new.link p.hops (left_of p) (left_of q) cost.taken few closer);
    called = subst (HasCalled first.keepers new.keepers) (sym store) (calls_more first.keepers old.keepers new.keepers p.store cost.called later.calls);
  }

  -- a stage at its follower
  stays : ChangesFollowers old new → q.hops ≡ hops_after p.hops 0 → q.store ≡ (p.store || false) → HasCost first q new
  stays rest hops store =
      let link : new.link ≡ old.link = ap (λ (x : World). x.link) rest in
      let keepers : new.keepers ≡ old.keepers = ap (λ (x : World). x.keepers) rest in
      adds (none_carried old.link new.link link) (hops ∙ ap (hops_after p.hops) (none_between old.link new.link link))
      (store ∙ ap (λ b. p.store || b) (none_called old.keepers new.keepers keepers))

  -- a stage that failed
  fails : (reply : Reply) → q.at ≡ Ended (ended.Refused reply) → Costs first q new
  fails reply at = inr (record { reply = reply; at = at })

  look_costs : (s : Settings) (critical : Bool) → DoesLook s critical p old q new → Costs first q new
  look_costs s false (inl looks) = inl (stays looks.rest (ap (λ (r : Reading). r.hops) looks.then) (ap (λ (r : Reading). r.store) looks.then))
  look_costs s false (inr vain) = fails (Refused (Memory 0)) (ap (λ (r : Reading). r.at) vain.then)
  look_costs s true looks = inl (stays looks.rest (ap (λ (r : Reading). r.hops) looks.then) (ap (λ (r : Reading). r.store) looks.then))

  keep_costs : (s : Settings) (given : Given) → DoesKeep s p given old q new → Costs first q new
  keep_costs s (Fill fill) (inl from) = inl (stays from.rest (ap (λ (r : Reading). r.hops) from.then) (ap (λ (r : Reading). r.store) from.then))
  keep_costs s (Fill fill) (inr vain) = fails (Refused (Memory 0)) (ap (λ (r : Reading). r.at) vain.then)
  keep_costs s (Past answer version total seen) on =
      inl (stays on.rest (ap (λ (r : Reading). r.hops) on.then) (ap (λ (r : Reading). r.store) on.then))
  keep_costs s (HandedOut version) on = absurd on

  stage_costs : (rules : Rules) (at : Standing) → DoesReadStage rules at p old q new → Costs first q new
  stage_costs rules Looking does = look_costs rules.settings p.critical does
  stage_costs rules Asking (inl asks) =
      inl (adds (both_carried old.link new.link asks.over.gives.link) (ap (λ (r : Reading). r.hops) asks.then) (ap (λ (r : Reading). r.store) asks.then))
  stage_costs rules Asking (inr vain) = fails (Refused vain.refusal) (ap (λ (r : Reading). r.at) vain.then)
  stage_costs rules Mastering (inl asks) =
      inl (adds (both_carried old.link new.link asks.over.link) (ap (λ (r : Reading). r.hops) asks.then) (ap (λ (r : Reading). r.store) asks.then))
  stage_costs rules Mastering (inr vain) = fails (Refused vain.refusal) (ap (λ (r : Reading). r.at) vain.then)
  stage_costs rules (Keeping given) does = keep_costs rules.settings given does
  stage_costs rules (Ended end) does = absurd does

  -- or a node is down that it needs
  read_costs : (rules : Rules) → ComesOfRead rules p old q new → Costs first q new
  read_costs rules (inl next) = stage_costs rules p.at next.does
  read_costs rules (inr ends) = fails (read_is_down ends.node) (ends_refused p q old new ends)

-- a read that was refused does no stage
refused_rests : (rules : Rules) (p q : Reading) (old new : World) → IsRefused p → ComesOfRead rules p old q new → ⊥
refused_rests rules p q old new is (inl next) = subst (λ at. DoesReadStage rules at p old q new) is.at next.does
refused_rests rules p q old new is (inr ends) =
    let none : None ≡ Some ends.node = subst (λ at. first_down old.states (read_needs (stage_of at) p) ≡ Some ends.node) is.at ends.down in
    absurd (cc)

-- what is so after each stage
record CostsSoFar (first : World) (p : Reading) (now : World) : Type 0 where
  costs : Costs first p now
  never : NeverCalled p.at

costs_on : (rules : Rules) (first : World) (p q : Reading) (old new : World) → CostsSoFar first p old → PassesStage rules (Read p) old (Read q) new
    → CostsSoFar first q new
costs_on rules first p q old new so stage =
    let does = stage.steps.steps.does in
    record {
      costs = elim so.costs [
        | inl cost ↦ read_costs first p q old new cost stage.on.later (stage_closer rules (Read p) (Read q) old new stage.steps) rules does
        | inr refused ↦ absurd (refused_rests rules p q old new refused does)
      ];
      never = read_never rules p q old new does;
    }

-- ---- what its reply says

abbrev hops_in : Reply → ℕ
hops_in (Called (called.Read reply)) = reply.hops
hops_in reply = 0

abbrev store_in : Reply → Bool
store_in (Called (called.Read reply)) = reply.store
store_in reply = false

-- its own hops, and its own `store`
record SaysOwn (q : Reading) (reply : ReadReply) : Type 0 where
  hops : reply.hops ≡ q.hops
  store : reply.store ≡ q.store

says_own : (at : Standing) (q : Reading) (reply : ReadReply) → NeverCalled at → EndsAt at q (Called (called.Read reply)) → SaysOwn q reply
says_own (Ended (ended.Answered answer version held)) q reply never ends = record { hops = ap hops_in ends; store = ap store_in ends }
says_own (Ended (ended.Refused own)) q reply never ends = absurd (never own (called.Read reply) refl (sym ends))
says_own Looking q reply never ends = absurd ends
says_own Asking q reply never ends = absurd ends
says_own Mastering q reply never ends = absurd ends
says_own (Keeping given) q reply never ends = absurd ends

-- one that was refused tells none
refused_says : (q : Reading) (reply : ReadReply) → NeverCalled q.at → IsRefused q → EndsAt q.at q (Called (called.Read reply)) → ⊥
refused_says q reply never is ends =
    let own : Called (called.Read reply) ≡ is.reply = subst (λ at. EndsAt at q (Called (called.Read reply))) is.at ends in
    never is.reply (called.Read reply) is.at (sym own)

says_cost : (first : World) (q : HeldPlan) (now : World) (reply : ReadReply) → OfRead (CostsSoFar first) q now → IsOver q (Called (called.Read reply))
    → SaysCost reply first now
says_cost first (Read q) now reply so over =
    let own = says_own q.at q reply so.never over in
    elim so.costs [
      | inl cost ↦ record { hops = own.hops ∙ cost.taken.hops_is; store = own.store ∙ cost.called.store_is }
      | inr refused ↦ absurd (refused_says q reply so.never refused over)
    ]
says_cost first (Write q) now reply so over = absurd so

begun_costs : (p : Reading) (now : World) → IsBegunRead p → CostsSoFar now p now
begun_costs p now is =
    let link = now.link in
    let hops = is.hops in
    let left : left_of p ≡ 4 = ap (λ at. read_stages_left (stage_of at)) is.at in
    record {
      costs = inl (record {
        taken = record { rise = omega arith; hops_is = hops ∙ none_between link link refl; few = omega (arith, hops, left) };
        called = record { rise = omega arith; store_is = is.store ∙ none_called now.keepers now.keepers refl };
      });
      never = subst NeverCalled (sym is.at) (λ reply answered at said. absurd (cc));
    }

-- ---- what it leaves as it was

record LeavesAll (tells : Bool) (first now : World) : Type 0 where
  tables : KeepsTables tells first.keepers now.keepers
  inboxes : now.inboxes ≡ first.inboxes

leaves_on : (rules : Rules) (first : World) (p q : Reading) (old new : World) → LeavesAll rules.tells first old
    → PassesStage rules (Read p) old (Read q) new → LeavesAll rules.tells first new
leaves_on rules first p q old new so stage = record {
  tables = keeps_trans rules.tells first.keepers old.keepers new.keepers so.tables stage.steps.tables;
  inboxes = stage.steps.inboxes ∙ so.inboxes;
}

left_all : (tells : Bool) (first : World) (q : HeldPlan) (now : World) → OfRead (λ r x. LeavesAll tells first x) q now → LeavesAll tells first now
left_all tells first (Read q) now so = so
left_all tells first (Write q) now so = absurd so

-- ---- all of its stages

module _ (rules : Rules) (p : Reading) (old : World) (q : HeldPlan) (new : World) where
  leaves : CarriesOut rules (Read p) old q new → LeavesAll rules.tells old new
  leaves out = left_all rules.tells old q new (read_keeps rules (λ r x. LeavesAll rules.tells old x) (leaves_on rules old) out.stages p q old new
      (record { tables = λ told at. refl; inboxes = refl }) out.passes)

  pub whole_reads : WholeRead rules p old q new
  whole_reads = record {
    cost = λ begun out reply over. says_cost old q new reply
        (read_keeps rules (CostsSoFar old) (costs_on rules old) out.stages p q old new (begun_costs p old begun) out.passes) over;
    tables = λ out. (leaves out).tables;
    inboxes = λ out. (leaves out).inboxes;
    legal = λ at out r is. ended_legally rules p r old new at (subst (λ x. CarriesOut rules (Read p) old x new) is out);
    reader = λ at out r is. ended_reader rules p r old new at (subst (λ x. CarriesOut rules (Read p) old x new) is out);
  }
