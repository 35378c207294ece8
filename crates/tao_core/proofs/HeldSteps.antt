-- What the stage of a held plan does to the asks that are open.
use Rattle.std.proofs.Common.{◌≡◌, ◌⊎◌, ℕ, Bool, true, false, Option, Some, None, Ok, refl, ap, sym, ◌∙◌, subst, inl, inr, arith}
use Rattle.std.specs.Prelude.{⊤, slice_get, slice_set}
use Rattle.cache_items.specs.declared.look.Look.{Look}
use Rattle.cache_items.specs.declared.look.Look.TheVariants.{Hit, Miss}
use Rattle.cache_items.specs.Node.{Node}
use Rattle.core_model.specs.Fleet.{ChangesNode, Fleet, HasAsk, named}
use Rattle.core_model.specs.Reads.{AfterLook, AsksAtOnce, EndsAsk, KeepsFill, LooksFirst, taken_fill, Wanted}
use Rattle.core_model.proofs.Places.{get_set, one_some}
use Rattle.core_plans.specs.Held.{GivesUp, HasNoneAt, HoldsAsk, IsOpenAt, OpensFirst, OpensNone, StepsHeld, is_open_ask, next_stage}
use Rattle.core_plans.specs.HeldLaws.{Followers}
use Rattle.core_plans.specs.HeldReads.{ComesOfRead, DoesLook, DoesReadStage, DoesKeep, EndsItsAsk, EndsRead, read_has_no_room, read_is_down, wanted_by}
use Rattle.core_plans.specs.HeldWrites.{ComesOfWrite, CommitsBy, DoesWriteStage, IsBefore, write_is_down}
use Rattle.core_plans.specs.Needs.{asked_of_read, leaders_of_write}
use Rattle.core_plans.specs.declared.leaders.Leaders.{Leaders}
use Rattle.core_plans.proofs.StageLemmas.{ended_down, ended_read}
use Rattle.core_plans.specs.declared.held.HeldPlan.{HeldPlan}
use Rattle.core_plans.specs.declared.held.HeldPlan.TheVariants.{Read, Write}
use Rattle.core_plans.specs.LedBy.{Rules}
use Rattle.core_plans.proofs.AsksHeld.{
  EndsOpen,
  asks_stay_held,
  change_opens_none,
  ends_open,
  hit_opens_none,
  keeps_open,
  misses_open,
  same_opens_none,
}
use Rattle.core_steps.specs.World.{World}
use Rattle.follower_cache.specs.Seen.{FollowerState}
use Rattle.node_name.specs.declared.NodeName.{NodeName}
use Rattle.read_plan.specs.Readings.{Reading, given_by, taken}
use Rattle.read_plan.specs.Standings.{after_ask, after_keep, after_look, after_master, read_refused, stage_named, stage_of}
use Rattle.read_plan.specs.declared.stages.ReadResult.TheVariants as came
use Rattle.read_plan.specs.declared.standing.Given.{Given}
use Rattle.read_plan.specs.declared.standing.Given.TheVariants.{Fill, HandedOut, Past}
use Rattle.read_plan.specs.declared.standing.Standing.{Standing}
use Rattle.read_plan.specs.declared.standing.Standing.TheVariants.{Looking, Asking, Mastering, Keeping, Ended}
use Rattle.replies.specs.declared.plans.Stage.{Stage}
use Rattle.shard_tables.specs.declared.leader_answer.LeaderAnswer.{LeaderAnswer}
use Rattle.shard_tables.specs.declared.leader_answer.LeaderAnswer.TheVariants as leader
use Rattle.shard_tables.specs.declared.read_out.ReadOut.{ReadOut}
use Rattle.shard_tables.specs.declared.read_out.ReadOut.TheVariants as store
use Rattle.tao_base.specs.EdgeTypes.{EdgeTypes}
use Rattle.core_steps.specs.Routes.{master_node}
use Rattle.tao_base.specs.Queries.{query_key, query_shard}
use Rattle.tao_base.specs.declared.id.Key.{Key}
use Rattle.tao_schema.specs.Schema.{types_of}
use Rattle.topology.specs.Config.{Settings}
use Rattle.replies.specs.declared.reply.Reply.{Reply}
use Rattle.write_plan.specs.Plans.{Writing, next_of, stage_from}
use Rattle.write_plan.specs.Stages.{stage_said}
use Rattle.write_plan.specs.declared.stage.WriteStage.{WriteStage}
use Rattle.write_plan.specs.declared.stage.WriteStage.TheVariants.{Commit, Inverse, End, Relay, Apply, Done}
use Rattle.core_model.proofs.NamesOnce.{StandAlone}
use Rattle.tao_core.proofs.WriteStages.{applied_over, end_keeps, inverse_keeps}
use Rattle.replies.specs.declared.refusals.Refusal.{Refusal}
use Rattle.core_steps.specs.ReadSteps.{IsNotGiven, IsNotRead}
use Rattle.core_steps.specs.declared.routes.Route.{Route}
use Rattle.tao_base.specs.declared.query.Query.{Query}
use Rattle.tao_core.specs.HeldCalls.{Advances}

-- ---- a plan that did a stage

-- it is held on, unless nothing is left to do
abbrev pub kept : Option Stage → HeldPlan → Option HeldPlan
kept (Some stage) plan = Some plan
kept None plan = None

abbrev pub held_after : HeldPlan → Option HeldPlan
held_after plan = kept (next_stage plan) plan

abbrev pub MayHold : Option HeldPlan → Type 0
MayHold None = ⊤
MayHold (Some plan) = OpensFirst plan

-- the plan of a number, and what became of it: each ask that is open now is its own, or was open before and is not its own if it was; and one that
-- it has now it had before, or else nobody had
pub record StepsAsks (was held : Option HeldPlan) (old new : Followers) : Type 0 where
  pub still : (name : NodeName) (number : ℕ) → IsOpenAt name number new
      → HoldsAsk name number held ⊎ (IsOpenAt name number old × (HoldsAsk name number was → HoldsAsk name number held))
  pub fresh : (name : NodeName) (number : ℕ) → HoldsAsk name number held
      → HoldsAsk name number was ⊎ ((key : Key) → HasAsk name number key old → ⊥)
  pub may : MayHold held

-- it has none, before and after
pub holds_none : (was held : Option HeldPlan) (old new : Followers) → OpensNone old new → ((name : NodeName) (number : ℕ) → HoldsAsk name number was → ⊥)
    → ((name : NodeName) (number : ℕ) → HoldsAsk name number held → ⊥) → MayHold held → StepsAsks was held old new
holds_none was held old new opens before after may = record {
  still = λ name number h. inr (opens.still name number h, (λ holds. absurd (before name number holds)));
  fresh = λ name number holds. absurd (after name number holds);
  may = may;
}

kept_holds : (next : Option Stage) (plan : HeldPlan) (name : NodeName) (number : ℕ) → HoldsAsk name number (kept next plan) → HoldsAsk name number (Some plan)
kept_holds (Some stage) plan name number h = h
kept_holds None plan name number h = absurd h

pub kept_may : (next : Option Stage) (plan : HeldPlan) → OpensFirst plan → MayHold (kept next plan)
kept_may (Some stage) plan first = first
kept_may None plan first = tt

no_ask : (p : Reading) (name : NodeName) (number : ℕ) → p.ask ≡ None → HoldsAsk name number (Some (Read p)) → ⊥
no_ask p name number none holds = (let it = holds.1 in absurd (cc))

-- ---- the stages of a read

module _ (p : Reading) (old new : Followers) where
  -- its ask ended, and it is over
  ask_ended : (By : FollowerState → FollowerState → Type 0) → StandAlone old → ChangesNode p.follower By old new
      → ((from to : FollowerState) → By from to → EndsOpen p.ask from.node.asks to.node.asks) → StepsAsks (Some (Read p)) None old new
  ask_ended By alone change ends = record {
    still = λ name number h. inr
        (let at : slice_get (slice_set old change.place (named p.follower change.to)) h.place ≡ Some (named name h.follower) =
        subst (λ xs. slice_get xs h.place ≡ Some (named name h.follower)) change.is h.stands in
        elim (get_set old change.place (named p.follower change.to) h.place (named name h.follower) at) [
          | inl e ↦ (
            record { place = h.place; follower = h.follower; stands = e.1; is_open = h.is_open },
            (λ holds.
                let there = subst (λ (n : NodeName). slice_get old change.place ≡ Some (named n change.from)) holds.0 change.stands in
                absurd (e.0 (alone h.place change.place name h.follower change.from e.1 there))),
          )
          | inr e ↦ (
              let asked = ends change.from change.to change.by number
              (subst (λ (f : FollowerState). is_open_ask number f.node.asks ≡ true) (sym (ap (λ n. n.node) e.1)) h.is_open) in (
                record {
                  place = change.place;
                  follower = change.from;
                  stands = subst (λ (n : NodeName). slice_get old change.place ≡ Some (named n change.from)) (ap (λ n. n.name) e.1) change.stands;
                  is_open = asked.0;
                },
                (λ holds. absurd (asked.1 holds.1)),
              ))
        ]);
    fresh = λ name number holds. absurd holds;
    may = tt;
  }

  -- it goes on with the ask that it had, and no follower changed
  ask_stays : (q : Reading) → new ≡ old → q.follower ≡ p.follower → q.ask ≡ p.ask → HasNoneAt q.at q.ask → StepsAsks (Some (Read p)) (Some (Read q)) old new
  ask_stays q same follower ask first = record {
    still = λ name number h. inr (subst (IsOpenAt name number) same h, (λ holds. (follower ∙ holds.0, ask ∙ holds.1)));
    fresh = λ name number holds. inl (sym follower ∙ holds.0, sym ask ∙ holds.1);
    may = first;
  }

  -- it had none, and opened one
  ask_opened : (Opens : FollowerState → FollowerState → Type 0) (q : Reading) (given : ℕ)
      → ((from to : FollowerState) → Opens from to → AfterLook (query_key p.query) Miss (Some given) from.node to.node)
      → ChangesNode p.follower Opens old new
      → p.ask ≡ None → q.follower ≡ p.follower → q.ask ≡ Some given → HasNoneAt q.at q.ask → StepsAsks (Some (Read p)) (Some (Read q)) old new
  ask_opened Opens q given opens change none follower ask first = record {
    still = λ name number h.
        let at : slice_get (slice_set old change.place (named p.follower change.to)) h.place ≡ Some (named name h.follower) =
        subst (λ xs. slice_get xs h.place ≡ Some (named name h.follower)) change.is h.stands in
        elim (get_set old change.place (named p.follower change.to) h.place (named name h.follower) at) [
          | inl e ↦ inr (
            record { place = h.place; follower = h.follower; stands = e.1; is_open = h.is_open },
            (λ holds. absurd (no_ask p name number none holds)),
          )
          | inr e ↦
              let same_name : p.follower ≡ name = ap (λ n. n.name) e.1 in
              let there = subst (λ (f : FollowerState). is_open_ask number f.node.asks ≡ true) (sym (ap (λ n. n.node) e.1)) h.is_open in
              elim (misses_open (query_key p.query) (Some given) change.from.node change.to.node (opens change.from change.to change.by) number there) [
                | inl was ↦ inr (
                  record {
                    place = change.place;
                    follower = change.from;
                    stands = subst (λ (n : NodeName). slice_get old change.place ≡ Some (named n change.from)) same_name change.stands;
                    is_open = was;
                  },
                  (λ holds. absurd (no_ask p name number none holds)),
                )
                | inr now ↦ inl (follower ∙ same_name, ask ∙ now)
              ]
        ];
    fresh = λ name number holds. inr (λ key has.
        let one = subst (λ (n : NodeName). HasAsk n number key old) (sym (sym follower ∙ holds.0)) has in
        let le = (one change.place change.from change.first change.stands).given in
        let next = (opens change.from change.to change.by).1 in
        let same : given ≡ number = one_some given number (sym ask ∙ holds.1) in
        absurd (omega arith));
    may = first;
  }

-- a look that ends a read, or goes on
miss_goes : (critical : Bool) (plan : HeldPlan) → kept (stage_named (stage_of (after_look critical Miss))) plan ≡ Some plan
miss_goes true plan = refl
miss_goes false plan = refl

looked_first : (critical : Bool) (look : Look) (ask : Option ℕ) → HasNoneAt (after_look critical look) ask
looked_first true look ask = tt
looked_first false (Hit answer version) ask = tt
looked_first false Miss ask = tt

-- one that goes on, with the ask that it opened, where it did
missed_asks : (Opens : FollowerState → FollowerState → Type 0) (p : Reading) (ask : Option ℕ) (old new : Followers)
    → ((from to : FollowerState) → Opens from to → AfterLook (query_key p.query) Miss ask from.node to.node) → p.ask ≡ None
    → ChangesNode p.follower Opens old new
    → StepsAsks (Some (Read p)) (held_after (Read (taken (came.Look (Ok Miss)) 0 false (record p { ask = ask })))) old new
missed_asks Opens p None old new opens none change =
    let q : Reading = taken (came.Look (Ok Miss)) 0 false (record p { ask = None }) in
    holds_none (Some (Read p)) (held_after (Read q)) old new
    (change_opens_none Opens p.follower old new
    (λ from to by number h. subst (λ (n : Node). is_open_ask number n.asks ≡ true) (opens from to by).1 h) change)
    (λ name number. no_ask p name number none)
    (λ name number h. no_ask q name number refl (kept_holds (next_stage (Read q)) (Read q) name number h))
    (kept_may (next_stage (Read q)) (Read q) (looked_first p.critical Miss None))
missed_asks Opens p (Some given) old new opens none change =
    let q : Reading = taken (came.Look (Ok Miss)) 0 false (record p { ask = Some given }) in
    subst (λ held. StepsAsks (Some (Read p)) held old new) (sym (miss_goes p.critical (Read q)))
    (ask_opened p old new Opens q given opens change none refl refl (looked_first p.critical Miss (Some given)))

looks_asks : (types : EdgeTypes) (p : Reading) (look : Look) (ask : Option ℕ) (old new : Followers) → p.ask ≡ None
    → ChangesNode p.follower (LooksFirst types (wanted_by p) look ask) old new
    → StepsAsks (Some (Read p)) (held_after (Read (taken (came.Look (Ok look)) 0 false (record p { ask = ask })))) old new
looks_asks types p (Hit answer version) ask old new none change =
    let q : Reading = taken (came.Look (Ok (Hit answer version))) 0 false (record p { ask = ask }) in
    let gone : ask ≡ None = change.by.node.0 in
    holds_none (Some (Read p)) (held_after (Read q)) old new
    (hit_opens_none p.follower old new types (wanted_by p) answer version ask change)
    (λ name number. no_ask p name number none)
    (λ name number h. no_ask q name number gone (kept_holds (next_stage (Read q)) (Read q) name number h))
    (kept_may (next_stage (Read q)) (Read q) (looked_first p.critical (Hit answer version) ask))
looks_asks types p Miss ask old new none change =
    missed_asks (LooksFirst types (wanted_by p) Miss ask) p ask old new (λ from to looks. looks.node) none change

asked_goes : (given : LeaderAnswer) (plan : HeldPlan) → kept (stage_named (stage_of (after_ask given))) plan ≡ Some plan
asked_goes (leader.Filled fill) plan = refl
asked_goes (leader.Past answer version total note) plan = refl
asked_goes (leader.Behind version) plan = refl

asked_first : (given : LeaderAnswer) (ask : Option ℕ) → HasNoneAt (after_ask given) ask
asked_first (leader.Filled fill) ask = tt
asked_first (leader.Past answer version total note) ask = tt
asked_first (leader.Behind version) ask = tt

mastered_goes : (out : ReadOut) (plan : HeldPlan) → kept (stage_named (stage_of (after_master out))) plan ≡ Some plan
mastered_goes (store.Filled fill) plan = refl
mastered_goes (store.Past answer version total note) plan = refl

mastered_first : (out : ReadOut) (ask : Option ℕ) → HasNoneAt (after_master out) ask
mastered_first (store.Filled fill) ask = tt
mastered_first (store.Past answer version total note) ask = tt

-- nothing was carried back to a read, and no follower changed
not_given_rests : (s : Settings) (route : Route) (read : Wanted) (refusal : Refusal) (old mid : World) → IsNotGiven s route read refusal old mid
    → mid.fleet.followers ≡ old.fleet.followers
not_given_rests s route read refusal old mid (inl lost) = ap (λ (x : World). x.fleet.followers) lost.rest
not_given_rests s route read refusal old mid (inr (inl none)) = ap (λ (x : World). x.fleet.followers) none.rest
not_given_rests s route read refusal old mid (inr (inr lost)) = ap (λ (x : World). x.fleet.followers) lost.rest

not_read_rests : (s : Settings) (follower : NodeName) (query : Query) (refusal : Refusal) (old mid : World) → IsNotRead s follower query refusal old mid
    → mid.fleet.followers ≡ old.fleet.followers
not_read_rests s follower query refusal old mid (inl lost) = ap (λ (x : World). x.fleet.followers) lost.rest
not_read_rests s follower query refusal old mid (inr (inl none)) = ap (λ (x : World). x.fleet.followers) none.rest
not_read_rests s follower query refusal old mid (inr (inr lost)) = ap (λ (f : Fleet). f.followers) lost.same

module _ (rules : Rules) (p q : Reading) (old new : World) (alone : StandAlone old.fleet.followers) where
  abbrev Asks : Reading → Type 0
  Asks r = StepsAsks (Some (Read p)) (held_after (Read r)) old.fleet.followers new.fleet.followers

  ended : ChangesNode p.follower (EndsAsk p.ask) old.fleet.followers new.fleet.followers
      → StepsAsks (Some (Read p)) None old.fleet.followers new.fleet.followers
  ended change = ask_ended p old.fleet.followers new.fleet.followers (EndsAsk p.ask) alone change (ends_open p.ask)

  -- after a stage that left the followers
  ended_after : (mid : World) → mid.fleet.followers ≡ old.fleet.followers → EndsItsAsk p mid new
      → StepsAsks (Some (Read p)) None old.fleet.followers new.fleet.followers
  ended_after mid same ends = ended (subst (λ fs. ChangesNode p.follower (EndsAsk p.ask) fs new.fleet.followers) same ends)

  over_given : (given : Given) → p.at ≡ Keeping given → DoesKeep rules.settings p given old q new → Asks q
  over_given (Fill fill) at (inl from) =
      let r : Reading = taken (came.Keep (Ok (Some (from.answer, from.kept)))) 0 false p in
      let over : held_after (Read r) ≡ None =
      ap (λ a. kept (stage_named (stage_of (after_keep p.bound a (Some (from.answer, from.kept))))) (Read r)) at in
      subst Asks (sym from.then) (subst (λ held. StepsAsks (Some (Read p)) held old.fleet.followers new.fleet.followers) (sym over)
      (ask_ended p old.fleet.followers new.fleet.followers
      (KeepsFill (types_of rules.settings.schema) p.query (taken_fill p.ask fill from.answer from.kept)) alone from.keeps
      (keeps_open (types_of rules.settings.schema) p.query p.ask fill from.answer from.kept)))
  over_given (Fill fill) at (inr vain) = subst Asks (sym vain.then) (ended vain.ends)
  over_given (Past answer version total seen) at on =
      let r : Reading = taken (came.Keep (Ok None)) 0 false p in
      let over : held_after (Read r) ≡ None = ap (λ a. kept (stage_named (stage_of (after_keep p.bound a None))) (Read r)) at in
      subst Asks (sym on.then) (subst (λ held. StepsAsks (Some (Read p)) held old.fleet.followers new.fleet.followers) (sym over) (ended on.ends))
  over_given (HandedOut version) at on = absurd on

  look_asks : (critical : Bool) → p.ask ≡ None → DoesLook rules.settings critical p old q new → Asks q
  look_asks false none (inl looks) =
      subst Asks (sym looks.then) (looks_asks (types_of rules.settings.schema) p looks.look looks.ask old.fleet.followers new.fleet.followers none looks.looks)
  look_asks false none (inr vain) =
      subst Asks (sym vain.then)
      (holds_none (Some (Read p)) None old.fleet.followers new.fleet.followers
      (same_opens_none old.fleet.followers new.fleet.followers (ap (λ (x : World). x.fleet.followers) vain.same))
      (λ name number. no_ask p name number none) (λ name number h. absurd h) tt)
  look_asks true none looks =
      subst Asks (sym looks.then)
      (missed_asks (AsksAtOnce (query_key p.query) looks.ask) p looks.ask old.fleet.followers new.fleet.followers (λ from to asks. asks.node) none looks.asks)

  read_asks : (at : Standing) → p.at ≡ at → HasNoneAt at p.ask → DoesReadStage rules at p old q new → Asks q
  read_asks Looking at none does = look_asks p.critical none does
  read_asks Asking at none (inl asks) =
      let r : Reading = taken (came.Ask (Ok asks.given)) _ _ (given_by (asked_of_read old.states p) p) in
      let same : new.fleet.followers ≡ old.fleet.followers = ap (λ (x : World). x.fleet.followers) asks.over.rest in
      subst Asks (sym asks.then) (subst (λ held. StepsAsks (Some (Read p)) held old.fleet.followers new.fleet.followers) (sym (asked_goes asks.given (Read r)))
      (ask_stays p old.fleet.followers new.fleet.followers r same refl refl (asked_first asks.given p.ask)))
  read_asks Asking at none (inr vain) =
      subst Asks (sym vain.then) (ended_after vain.mid (not_given_rests rules.settings _ _ vain.refusal old vain.mid vain.fails) vain.ends)
  read_asks Mastering at none (inl asks) =
      let r : Reading = taken (came.Master (Ok asks.out)) _ _ (given_by (master_node rules.settings (query_shard p.query)) p) in
      let same : new.fleet.followers ≡ old.fleet.followers = ap (λ (f : Fleet). f.followers) asks.over.same in
      subst Asks (sym asks.then) (subst (λ held. StepsAsks (Some (Read p)) held old.fleet.followers new.fleet.followers) (sym (mastered_goes asks.out (Read r)))
      (ask_stays p old.fleet.followers new.fleet.followers r same refl refl (mastered_first asks.out p.ask)))
  read_asks Mastering at none (inr vain) =
      subst Asks (sym vain.then) (ended_after vain.mid (not_read_rests rules.settings p.follower p.query vain.refusal old vain.mid vain.fails) vain.ends)
  read_asks (Keeping given) at none does = over_given given at does
  read_asks (Ended end) at none does = absurd does

  -- also where it ends in place of the stage
  over_asks : (reply : Reply) → EndsRead reply p old q new → Asks q
  over_asks reply ends =
      let r : Reading = taken (read_refused (stage_of p.at) reply) 0 false p in
      let over : held_after (Read r) ≡ None = ap (λ a. kept (stage_named (stage_of a)) (Read r)) (ended_read (stage_of p.at) reply p 0 false) in
      subst Asks (sym ends.then)
      (subst (λ held. StepsAsks (Some (Read p)) held old.fleet.followers new.fleet.followers) (sym over) (ended ends.ends))

  -- as it does where a node is down that the stage needs
  comes_asks : HasNoneAt p.at p.ask → ComesOfRead rules p old q new → Asks q
  comes_asks none (inl next) = read_asks p.at refl none next.does
  comes_asks none (inr ends) = over_asks (read_is_down ends.node) ends.over

-- ---- the stages of a write

-- one that is held on has its way back before it
same_back : (p q : Writing) → q.back ≡ p.back → IsBefore p.back → MayHold (held_after (Write q))
same_back p q same before = kept_may (next_stage (Write q)) (Write q) (subst IsBefore (sym same) before)

-- and one that was refused isn't held on
refused_may : (q : Writing) (reply : Reply) → q.refused ≡ Some reply → MayHold (held_after (Write q))
refused_may q reply is =
    subst (λ n. MayHold (kept n (Write q))) (sym (ap (λ r. stage_said (stage_from r q.committed q.job q.back)) is)) tt

module _ (rules : Rules) (p q : Writing) (old new : World) (before : IsBefore p.back) where
  commit_may : (leaders : Option Leaders) → CommitsBy rules leaders p old q new → MayHold (held_after (Write q))
  commit_may (Some leaders) (inl commits) = same_back p q (ap (λ (x : Writing). x.back) commits.then) before
  commit_may (Some leaders) (inr refuses) = refused_may q _ (ap (λ (x : Writing). x.refused) refuses.then)
  commit_may None finds = refused_may q _ (ap (λ (x : Writing). x.refused) finds.then)

  write_may : (at : WriteStage) → next_of p ≡ at → DoesWriteStage rules at p old q new → MayHold (held_after (Write q))
  write_may Commit is does = commit_may (leaders_of_write rules.settings old.states p) does
  write_may Apply is (inl applies) = subst (λ n. MayHold (kept n (Write q))) (sym (applied_over p q _ is applies.then)) tt
  write_may Apply is (inr loses) = refused_may q _ (ap (λ (x : Writing). x.refused) loses.then)
  write_may Inverse is does = same_back p q (inverse_keeps rules p q old new does).keeps.back before
  write_may End is does = same_back p q (end_keeps rules.tells rules.settings p q old new does).keeps.back before
  write_may Relay is (inl relays) =
      kept_may (next_stage (Write q)) (Write q) (subst IsBefore (sym (ap (λ (x : Writing). x.back) relays.then)) tt)
  write_may Relay is (inr loses) = refused_may q _ (ap (λ (x : Writing). x.refused) loses.then)
  write_may Done is does = absurd does

  comes_may : ComesOfWrite rules p old q new → MayHold (held_after (Write q))
  comes_may (inl next) = write_may (next_of p) refl next.does
  comes_may (inr ends) = refused_may q (write_is_down ends.node p) (ended_down p q old new ends).refused

-- ---- the stage of a plan

pub steps_asks : (rules : Rules) (before after : HeldPlan) (old new : World) → StandAlone old.fleet.followers
    → OpensFirst before → StepsHeld rules before old after new
    → StepsAsks (Some before) (held_after after) old.fleet.followers new.fleet.followers
steps_asks rules (Read p) (Read q) old new alone first steps = comes_asks rules p q old new alone first steps.steps.does
steps_asks rules (Write p) (Write q) old new alone first steps =
    holds_none (Some (Write p)) (held_after (Write q)) old.fleet.followers new.fleet.followers
    (asks_stay_held.stages rules p q old new steps) (λ name number h. h)
    (λ name number h. kept_holds (next_stage (Write q)) (Write q) name number h)
    (comes_may rules p q old new first steps)
steps_asks rules (Read p) (Write q) old new alone first steps = absurd steps
steps_asks rules (Write p) (Read q) old new alone first steps = absurd steps

-- a plan that ends in place of a stage: of a read its ask ends, and a write opens none
given_asks : (rules : Rules) (before after : HeldPlan) (old new : World) → StandAlone old.fleet.followers → OpensFirst before → GivesUp before old after new
    → StepsAsks (Some before) (held_after after) old.fleet.followers new.fleet.followers
given_asks rules (Read p) (Read q) old new alone first gives = over_asks rules p q old new alone read_has_no_room gives
given_asks rules (Write p) (Write q) old new alone first gives =
    holds_none (Some (Write p)) (held_after (Write q)) old.fleet.followers new.fleet.followers
    (same_opens_none old.fleet.followers new.fleet.followers (ap (λ (x : World). x.fleet.followers) gives.1)) (λ name number h. h)
    (λ name number h. kept_holds (next_stage (Write q)) (Write q) name number h) (same_back p q (ap (λ (x : Writing). x.back) gives.0) first)
given_asks rules (Read p) (Write q) old new alone first gives = absurd gives
given_asks rules (Write p) (Read q) old new alone first gives = absurd gives

pub advance_asks : (rules : Rules) (before after : HeldPlan) (old new : World) → StandAlone old.fleet.followers → OpensFirst before
    → Advances rules before old after new → StepsAsks (Some before) (held_after after) old.fleet.followers new.fleet.followers
advance_asks rules before after old new alone first (inl steps) = steps_asks rules before after old new alone first steps
advance_asks rules before after old new alone first (inr ends) = given_asks rules before after old new alone first ends.gives
