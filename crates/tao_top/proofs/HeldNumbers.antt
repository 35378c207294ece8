-- The plans that are held are those that the replies so far tell.
use Rattle.std.proofs.Common.{◌≡◌, ℕ, Bool, true, false, ◌||◌, ◌&&◌, List, [], ◌∷◌, Option, Some, None, Ok, length, refl, sym, ap, ◌∙◌, ◌+◌, subst}
use Rattle.std.proofs.Common.{inl, inr, arith}
use Rattle.std.proofs.lemmas.Bool.{cases_Bool, cases_eq, eq-eqb, ne_eqb}
use Rattle.std.specs.Prelude.{◌==◌, IfSome, if◌then◌else◌, is_some, not}
use Rattle.core_model.proofs.Places.{one_some}
use Rattle.core_model.specs.Pens.{Pens}
use Rattle.core_plans.specs.Held.{AddsPlan, ChangesPlan, IsOver, Plans, TakesPlan, next_stage, plan_at}
use Rattle.core_plans.specs.HeldReads.{read_has_no_room}
use Rattle.core_plans.specs.HeldWrites.{CommitsBy, ComesOfWrite, DoesWriteStage, write_is_down}
use Rattle.core_plans.specs.LedBy.{Rules}
use Rattle.core_plans.specs.Needs.{leaders_of_write}
use Rattle.core_plans.specs.declared.held.HeldPlan.{HeldPlan}
use Rattle.core_plans.specs.declared.held.HeldPlan.TheVariants as of
use Rattle.core_plans.specs.declared.leaders.Leaders.{Leaders}
use Rattle.core_sessions.specs.Sessions.{Session}
use Rattle.headline_kept.specs.core_steps.World.{World}
use Rattle.headline_kept.proofs.promise_kept_lemmas.HealthLines.{health_so}
use Rattle.headline_kept.proofs.promise_kept_lemmas.ReadLemmas.{IsReadReply, read_reply_is}
use Rattle.headline_kept.proofs.promise_kept_lemmas.Refusing.{end_refuses, stage_refuses}
use Rattle.headline_kept.proofs.promise_kept_lemmas.Settled.{unsettled_keeps}
use Rattle.headline_kept.proofs.promise_kept_lemmas.WritesOn.{refused_rests}
use Rattle.replies.specs.declared.nodes.NodeReply.TheVariants.{Link}
use Rattle.replies.specs.declared.plans.Stage.{Stage}
use Rattle.replies.specs.declared.refusals.Refusal.{Refusal}
use Rattle.replies.specs.declared.refusals.Refusal.TheVariants.{Memory}
use Rattle.replies.specs.declared.reply.Reply.{Reply}
use Rattle.replies.specs.declared.reply.Reply.TheVariants.{Called, Node, Refused, Settled}
use Rattle.request_check.specs.declared.caches.CheckedCache.{CheckedCache}
use Rattle.request_check.specs.declared.caches.CheckedCache.TheVariants as cache
use Rattle.request_check.specs.declared.checked.Checked.{Checked}
use Rattle.request_check.specs.declared.checked.Checked.TheVariants as asks
use Rattle.request_check.specs.declared.checked.CheckedCall.{CheckedCall}
use Rattle.request_check.specs.declared.links.CheckedLink.{CheckedLink}
use Rattle.request_check.specs.declared.links.CheckedLink.TheVariants as over
use Rattle.request_check.specs.declared.links.LinkPlace.{LinkPlace}
use Rattle.request_check.specs.declared.plans.CheckedPlan.{CheckedPlan}
use Rattle.request_check.specs.declared.plans.CheckedPlan.TheVariants.{Advance, Hold}
use Rattle.request_check.specs.declared.stores.CheckedStore.{CheckedStore}
use Rattle.request_check.specs.declared.stores.CheckedStore.TheVariants as stores
use Rattle.tao_core.proofs.WriteStages.{end_keeps, inverse_keeps}
use Rattle.tao_core.specs.Asked.{CanBeDone, PlanCanBeDone}
use Rattle.tao_core.specs.CacheReplies.{AnswersCache}
use Rattle.tao_core.specs.Core.{CoreState, Moment}
use Rattle.tao_core.specs.HeldCalls.{Advances, AnswersCall, AnswersPlan, IsNotBegun, Leaves, NumberedPlan, held_in, held_seen, numbered_plan}
use Rattle.tao_core.specs.HeldCalls.{numbered_reply}
use Rattle.tao_core.specs.LinkReplies.{AnswersLink, AnswersSwitch}
use Rattle.tao_core.specs.Replies.{AnswersAsked}
use Rattle.tao_core.specs.Settling.{AnswersSettle}
use Rattle.tao_core.specs.StoreReplies.{AnswersStore}
use Rattle.tao_top.specs.Promised.{AreApart, ArePlans, has_number, plans_after, says_next, without}
use Rattle.topology.specs.States.{NodeStates}
use Rattle.words.specs.declared.LinkWord.{LinkWord}
use Rattle.words.specs.declared.LinkWord.TheVariants as link
use Rattle.words.specs.declared.PlanWord.{PlanWord}
use Rattle.words.specs.declared.PlanWord.TheVariants as word
use Rattle.write_plan.specs.Plans.{Writing, next_of, reply_by, stage_from as stage_by}
use Rattle.write_plan.specs.declared.committed.Committed.{Committed}
use Rattle.write_plan.specs.declared.progress.OtherEnd.{OtherEnd}
use Rattle.write_plan.specs.declared.stage.WriteStage.{WriteStage}
use Rattle.write_plan.specs.declared.stage.WriteStage.TheVariants.{Apply, Commit, Done, End, Inverse, Relay}

-- ---- numbers

eq_back : (m n : ℕ) → (m == n) ≡ (n == m)
eq_back m n = elim (cases_eq m n) [
  | inl is ↦ eq-eqb m n is ∙ sym (eq-eqb n m (sym is))
  | inr apart ↦ ne_eqb m n apart ∙ sym (ne_eqb n m (λ is. apart (sym is)))
]

-- without a number that isn't there the numbers are the same
without_none : (number : ℕ) (held : List ℕ) → has_number held number ≡ false → without number held ≡ held
without_none number [] none = refl
without_none number (x ∷ xs) none = elim (cases_Bool (x == number)) [
  | inl is ↦ (let e : true ≡ false = rw is at none in absurd (cc))
  | inr isnt ↦ (let rest = rw isnt at none in rw isnt (ap (λ ys. x ∷ ys) (without_none number xs rest)))
]

without_first : (number : ℕ) (held : List ℕ) → has_number held number ≡ false → without number (number ∷ held) ≡ held
without_first number held none = (let own = eq-eqb number number refl in rw own (without_none number held none))

-- each other number stays
without_others : (number n : ℕ) (held : List ℕ) → has_number (without number held) n ≡ (not (number == n) && has_number held n)
without_others number n [] = none (number == n)
  where
    none : (b : Bool) → false ≡ (not b && false)
    none true = refl
    none false = refl
without_others number n (x ∷ xs) = elim (cases_eq x number) [
  | inl is ↦
      let drops = eq-eqb x number is in
      let same : (x == n) ≡ (number == n) = ap (λ k. k == n) is in
      rw drops (rw same (without_others number n xs ∙ gone (number == n) (has_number xs n)))
  | inr apart ↦
      let keeps = ne_eqb x number apart in
      rw keeps (ap (λ b. (x == n) || b) (without_others number n xs) ∙ stays (x == n) (number == n) (has_number xs n) (off apart))
]
  where
    gone : (b rest : Bool) → (not b && rest) ≡ (not b && (b || rest))
    gone true rest = refl
    gone false rest = refl

    stays : (a b rest : Bool) → (b ≡ true → a ≡ false) → (a || (not b && rest)) ≡ (not b && (a || rest))
    stays a false rest other = refl
    stays false true rest other = refl
    stays true true rest other = (let e : true ≡ false = other refl in absurd (cc))

    off : (x ≡ number → ⊥) → (number == n) ≡ true → (x == n) ≡ false
    off apart is = elim (cases_eq number n) [
      | inl at ↦ ne_eqb x n (λ e. apart (e ∙ sym at))
      | inr isnt ↦ (let e : true ≡ false = sym is ∙ ne_eqb number n isnt in absurd (cc))
    ]

-- and it stood there once
without_count : (number : ℕ) (held : List ℕ) → AreApart held → has_number held number ≡ true → length (without number held) + 1 ≡ length held
without_count number [] apart there = absurd (cc)
without_count number (x ∷ xs) apart there = elim (cases_eq x number) [
  | inl is ↦
      let drops = eq-eqb x number is in
      let none : has_number xs number ≡ false = subst (λ k. has_number xs k ≡ false) is apart.0 in
      let rest : length (without number xs) ≡ length xs = ap (λ (ys : List ℕ). length ys) (without_none number xs none) in
      rw drops (omega (arith, rest))
  | inr other ↦
      let keeps = ne_eqb x number other in
      let more : has_number xs number ≡ true = rw keeps at there in
      let rest : length (without number xs) + 1 ≡ length xs = without_count number xs apart.1 more in
      rw keeps (omega (arith, rest))
]

without_apart : (number : ℕ) (held : List ℕ) → AreApart held → AreApart (without number held)
without_apart number [] apart = tt
without_apart number (x ∷ xs) apart = elim (cases_Bool (x == number)) [
  | inl is ↦ (let rest = without_apart number xs apart.1 in rw is rest)
  | inr isnt ↦
      let once : has_number (without number xs) x ≡ false =
      without_others number x xs ∙ ap (λ b. not (number == x) && b) apart.0 ∙ off (not (number == x)) in
      let rest = without_apart number xs apart.1 in
      rw isnt (once, rest)
]
  where
    off : (b : Bool) → (b && false) ≡ false
    off true = refl
    off false = refl

-- ---- a plan more, a plan less, and a plan in the place of another

module _ (number : ℕ) (held : List ℕ) (old new : Plans) (are : ArePlans held old) where
  there_at : (plan : HeldPlan) → plan_at old number ≡ Some plan → has_number held number ≡ true
  there_at plan stands = sym (are.numbers number) ∙ ap (λ (o : Option HeldPlan). is_some o) stands

  free_at : plan_at old number ≡ None → has_number held number ≡ false
  free_at none = sym (are.numbers number) ∙ ap (λ (o : Option HeldPlan). is_some o) none

  one_more : (plan : HeldPlan) → has_number held number ≡ false → AddsPlan number plan old new → ArePlans (number ∷ held) new
  one_more plan free adds = record {
    numbers = λ n. ap (λ (o : Option HeldPlan). is_some o) (adds.sets n)
        ∙ ap (λ b. is_some (if b then Some plan else plan_at old n)) (eq_back n number)
        ∙ more (number == n) (plan_at old n) (has_number held n) (are.numbers n);
    count = (let grew = adds.count in let was = are.count in omega (arith, grew, was));
    apart = (free, are.apart);
  }
    where
      more : (b : Bool) (found : Option HeldPlan) (was : Bool) → is_some found ≡ was → is_some (if b then Some plan else found) ≡ (b || was)
      more true found was is = refl
      more false found was is = is

  one_less : has_number held number ≡ true → TakesPlan number old new → ArePlans (without number held) new
  one_less there takes = record {
    numbers = λ n. ap (λ (o : Option HeldPlan). is_some o) (takes.sets n)
        ∙ ap (λ b. is_some (if b then None else plan_at old n)) (eq_back n number)
        ∙ less (number == n) (plan_at old n) (has_number held n) (are.numbers n) ∙ sym (without_others number n held);
    count =
        let fell = takes.count in
        let was = are.count in
        let left = without_count number held are.apart there in
        omega (arith, fell, was, left);
    apart = without_apart number held are.apart;
  }
    where
      less : (b : Bool) (found : Option HeldPlan) (was : Bool) → is_some found ≡ was → is_some (if b then None else found) ≡ (not b && was)
      less true found was is = refl
      less false found was is = is

  one_changed : (plan : HeldPlan) → has_number held number ≡ true → ChangesPlan number plan old new → ArePlans held new
  one_changed plan there changes = record {
    numbers = λ n. ap (λ (o : Option HeldPlan). is_some o) (changes.sets n) ∙ still n;
    count = changes.count ∙ are.count;
    apart = are.apart;
  }
    where
      still : (n : ℕ) → is_some (if n == number then Some plan else plan_at old n) ≡ has_number held n
      still n = elim (cases_eq n number) [
        | inl is ↦ ap (λ b. is_some (if b then Some plan else plan_at old n)) (eq-eqb n number is)
            ∙ sym (subst (λ k. has_number held k ≡ true) (sym is) there)
        | inr apart ↦ ap (λ b. is_some (if b then Some plan else plan_at old n)) (ne_eqb n number apart) ∙ are.numbers n
      ]

-- ---- the reply of a plan that is over names no stage

-- it is a refusal
abbrev IsRefusal : Reply → Type 0
IsRefusal reply = (refusal : Refusal) × (reply ≡ Refused refusal)

refusal_ends : (reply : Reply) → IsRefusal reply → says_next reply ≡ false
refusal_ends reply is = ap says_next is.1

numbered_ends : (number : ℕ) (reply : Reply) → says_next reply ≡ false → says_next (numbered_reply number reply) ≡ false
numbered_ends number (Called reply) none = refl
numbered_ends number reply none = none

read_ends : (reply : Reply) → IsReadReply reply → says_next reply ≡ false
read_ends reply is = elim is.is [ inl answered ↦ ap says_next answered.1 | inr refused ↦ refusal_ends reply refused ]

written_ends : (refused : Option Reply) (committed : Option Committed) (job : OtherEnd) (hops : ℕ) (reply : Reply) → IfSome refused IsRefusal
    → reply_by refused committed job hops ≡ Some reply → says_next reply ≡ false
written_ends (Some own) committed job hops reply is over = refusal_ends reply (is.0, sym (one_some own reply over) ∙ is.1)
written_ends None None job hops reply is over = absurd (cc)
written_ends None (Some c) job hops reply is over = sym (ap says_next (one_some _ reply over))

module _ (rules : Rules) (old new : World) where
  -- a stage of a write refuses it so, or not at all
  same_refused : (p q : Writing) → p.refused ≡ None → q.refused ≡ p.refused → IfSome q.refused IsRefusal
  same_refused p q none same = subst (λ o. IfSome o IsRefusal) (sym (same ∙ none)) tt

  now_refused : (q : Writing) (refusal : Refusal) → q.refused ≡ Some (Refused refusal) → IfSome q.refused IsRefusal
  now_refused q refusal is = subst (λ o. IfSome o IsRefusal) (sym is) (refusal, refl)

  commit_refusal : (chosen : Option Leaders) (p q : Writing) → p.refused ≡ None → CommitsBy rules chosen p old q new → IfSome q.refused IsRefusal
  commit_refusal (Some leaders) p q none (inl commits) = same_refused p q none (ap (λ (x : Writing). x.refused) commits.then)
  commit_refusal (Some leaders) p q none (inr refuses) = now_refused q _ (ap (λ (x : Writing). x.refused) refuses.then)
  commit_refusal None p q none finds = now_refused q _ (ap (λ (x : Writing). x.refused) finds.then)

  stage_refusal : (at : WriteStage) (p q : Writing) → p.refused ≡ None → DoesWriteStage rules at p old q new → IfSome q.refused IsRefusal
  stage_refusal Commit p q none does = commit_refusal (leaders_of_write rules.settings old.states p) p q none does
  stage_refusal Inverse p q none does = same_refused p q none (inverse_keeps rules p q old new does).keeps.refused
  stage_refusal End p q none does = same_refused p q none (end_keeps rules.tells rules.settings p q old new does).keeps.refused
  stage_refusal Relay p q none (inl relays) = same_refused p q none (ap (λ (x : Writing). x.refused) relays.then)
  stage_refusal Relay p q none (inr loses) = now_refused q _ (ap (λ (x : Writing). x.refused) loses.then)
  stage_refusal Apply p q none (inl applies) = same_refused p q none (ap (λ (x : Writing). x.refused) applies.then)
  stage_refusal Apply p q none (inr loses) = now_refused q _ (ap (λ (x : Writing). x.refused) loses.then)
  stage_refusal Done p q none does = absurd does

  -- one that was refused has no stage that follows
  not_yet : (p q : Writing) (refused : Option Reply) → DoesWriteStage rules (stage_by refused p.committed p.job p.back) p old q new → refused ≡ None
  not_yet p q None does = refl
  not_yet p q (Some reply) does = absurd does

  -- a write that did its next stage, or ended since a node is down
  came_refusal : (p q : Writing) → ComesOfWrite rules p old q new → IfSome q.refused IsRefusal
  came_refusal p q (inl next) = stage_refusal (next_of p) p q (not_yet p q p.refused next.does) next.does
  came_refusal p q (inr down) = now_refused q _
      (ap (λ (x : Writing). x.refused) down.then ∙ (refused_rests (next_of p) p (write_is_down down.node p)).refused)

  over_ends : (before after : HeldPlan) (reply : Reply) → Advances rules before old after new → IsOver after reply → says_next reply ≡ false
  over_ends (of.Read p) (of.Read q) reply (inl steps) over = read_ends reply (read_reply_is q reply (stage_refuses rules p q old new steps.steps.does) over)
  over_ends (of.Write p) (of.Write q) reply (inl steps) over =
      written_ends q.refused q.committed q.job q.hops reply (came_refusal p q steps) over
  over_ends (of.Read p) (of.Write q) reply (inl steps) over = absurd steps
  over_ends (of.Write p) (of.Read q) reply (inl steps) over = absurd steps
  over_ends (of.Read p) (of.Read q) reply (inr without) over =
      read_ends reply (read_reply_is q reply (end_refuses read_has_no_room p q old new without.gives (_, refl)) over)
  over_ends (of.Write p) (of.Write q) reply (inr without) over =
      let given = subst (λ (w : Writing). IsOver (of.Write w) reply) without.gives.0 over in
      sym (ap says_next (one_some _ reply given))
  over_ends (of.Read p) (of.Write q) reply (inr without) over = absurd without.gives
  over_ends (of.Write p) (of.Read q) reply (inr without) over = absurd without.gives

-- ---- each line

module _ (old new : Moment) (held : List ℕ) (are : ArePlans held old.core.plans) where
  abbrev Now : List ℕ → Type 0
  Now numbers = ArePlans numbers new.core.plans

  same : new.core.plans ≡ old.core.plans → Now held
  same is = subst (ArePlans held) (sym is) are

  -- a plan is held on where the reply says so
  leaves_on : (asked : PlanWord) (by : NumberedPlan) (next : Option Stage) (was : List ℕ) (plans : Plans) (pens : Pens) (reply : Reply) → ArePlans was plans
      → has_number was by.number ≡ true → ((ended : Reply) → IsOver by.plan ended → says_next ended ≡ false)
      → Leaves asked by next (held_seen plans old.core.sessions pens) reply (held_in new.core) → Now (if says_next reply then was else without by.number was)
  leaves_on asked by (Some stage) was plans pens reply they there over goes =
      subst (λ b. Now (if b then was else without by.number was)) (sym (ap says_next goes.said))
      (one_changed by.number was plans new.core.plans they by.plan there goes.changes)
  leaves_on asked by None was plans pens reply they there over ends =
      let none = ap says_next ends.said ∙ numbered_ends by.number ends.ended (over ends.ended ends.over) in
      subst (λ b. Now (if b then was else without by.number was)) (sym none) (one_less by.number was plans new.core.plans they there ends.takes)

  unbegun_ends : (states : NodeStates) (sessions : List Session) (asked : CheckedCall) (reply : Reply) → IsNotBegun states sessions asked reply
      → says_next reply ≡ false
  unbegun_ends states sessions asked (Refused refusal) none = refl
  unbegun_ends states sessions asked reply none = absurd none

  after_plan : (asked : CheckedPlan) (reply : Reply) → PlanCanBeDone old.core.settings old.core.sessions old.core.plans asked
      → AnswersPlan true asked old reply new → Now (plans_after held (Some (asks.Plan asked)) reply)
  after_plan (Hold number call) reply can (inl goes) =
      let steps = goes.steps in
      let free = free_at number held old.core.plans new.core.plans are can.0 in
      let more = one_more number held old.core.plans goes.added are goes.plan free goes.adds in
      let there = there_at number (number ∷ held) goes.added new.core.plans more steps.before steps.stands in
      subst (λ xs. Now (if says_next reply then number ∷ held else xs)) (without_first number held free)
      (leaves_on word.Hold (numbered_plan number steps.after) (next_stage steps.after) (number ∷ held) goes.added _ reply more there
      (λ ended over. over_ends _ _ _ steps.before steps.after ended steps.steps over) steps.leaves)
  after_plan (Hold number call) reply can (inr refuses) =
      subst (λ b. Now (if b then number ∷ held else held)) (sym (unbegun_ends old.core.states old.core.sessions call reply refuses.refused))
      (same (ap (λ (m : Moment). m.core.plans) refuses.same))
  after_plan (Advance number) reply can steps =
      let there = there_at number held old.core.plans new.core.plans are steps.before steps.stands in
      leaves_on word.Advance (numbered_plan number steps.after) (next_stage steps.after) held old.core.plans _ reply are there
      (λ ended over. over_ends _ _ _ steps.before steps.after ended steps.steps over) steps.leaves

  after_call : (asked : CheckedCall) (reply : Reply) → AnswersCall true asked old reply new → Now held
  after_call asked reply (inl goes) = same (ap (λ (c : CoreState). c.plans) goes.does.rest)
  after_call asked reply (inr refuses) = same (ap (λ (m : Moment). m.core.plans) refuses.same)

  after_cache : (asked : CheckedCache) (reply : Reply) → AnswersCache true asked old reply new → Now held
  after_cache (cache.Deliver node message) reply answers = same (ap (λ (m : Moment). m.core.plans) answers.1)
  after_cache (cache.Again node message) reply answers = same (ap (λ (m : Moment). m.core.plans) answers.1)
  after_cache (cache.Drop node message) reply answers = same (ap (λ (m : Moment). m.core.plans) answers.1)
  after_cache (cache.Refill node) reply (inl goes) = same (ap (λ (c : CoreState). c.plans) goes.does.rest)
  after_cache (cache.Refill node) reply (inr none) = same (ap (λ (m : Moment). m.core.plans) none.same)
  after_cache (cache.Evict node key) reply answers = same (ap (λ (m : Moment). m.core.plans) answers.1)
  after_cache (cache.Show node key) reply answers = same (ap (λ (m : Moment). m.core.plans) answers.1)
  after_cache (cache.Inbox node) reply answers = same (ap (λ (m : Moment). m.core.plans) answers.1)

  after_settle : (reply : Reply) → AnswersSettle true old reply new → Now held
  after_settle (Settled logs) answers = same (ap (λ (c : CoreState). c.plans) answers.rest)
  after_settle other answers = (let keeps = unsettled_keeps old new answers.0 answers.2 in same keeps.plans)

  after_store : (asked : CheckedStore) (reply : Reply) → AnswersStore true asked old reply new → Now held
  after_store (stores.Repair shard) reply answers = same (ap (λ (c : CoreState). c.plans) answers.rest)
  after_store stores.Settle reply answers = after_settle reply answers
  after_store (stores.Audit call) reply answers = same (ap (λ (m : Moment). m.core.plans) answers.1)
  after_store (stores.Stream region shard position) reply (inl refuses) = same (ap (λ (m : Moment). m.core.plans) refuses.same)
  after_store (stores.Stream region shard position) reply (inr steps) = same (ap (λ (c : CoreState). c.plans) steps.rest)
  after_store (stores.Trim region shard position) reply (inl trims) = same (ap (λ (m : Moment). m.core.plans) trims.rest)
  after_store (stores.Trim region shard position) reply (inr fails) = same (ap (λ (m : Moment). m.core.plans) fails.rest)

  after_switch : (word : LinkWord) (whole : Bool) (place : LinkPlace) (reply : Reply) → AnswersSwitch word whole place old reply new → Now held
  after_switch word whole place (Node (Link told)) answers = same (ap (λ (m : Moment). m.core.plans) answers.2)
  after_switch word whole place (Refused (Memory position)) answers = same (ap (λ (m : Moment). m.core.plans) answers.1)
  after_switch word whole place other answers = absurd answers

  after_link : (asked : CheckedLink) (reply : Reply) → AnswersLink asked old reply new → Now held
  after_link (over.Cut place) reply answers = after_switch link.Cut false place reply answers
  after_link (over.Mend place) reply answers = after_switch link.Mend true place reply answers

  -- whatever it asks
  pub plans_then : (asked : Checked) (reply : Reply) → CanBeDone old.core.settings old.core.sessions old.core.plans asked
      → AnswersAsked true old (Ok asked) reply new → Now (plans_after held (Some asked) reply)
  plans_then (asks.Open session region tier) reply can answers = same (ap (λ (m : Moment). m.core.plans) answers.1)
  plans_then (asks.Call asked) reply can answers = after_call asked reply answers
  plans_then (asks.Plan asked) reply can answers = after_plan asked reply can answers
  plans_then (asks.Cache asked) reply can answers = after_cache asked reply answers
  plans_then (asks.Store asked) reply can answers = after_store asked reply answers
  plans_then (asks.Link asked) reply can answers = after_link asked reply answers
  plans_then (asks.Health asked) reply can answers = same (health_so old new reply asked answers).rests.keeps.plans
