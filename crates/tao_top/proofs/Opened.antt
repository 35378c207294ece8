-- The sessions that are open are those that the replies so far tell.
use Rattle.std.proofs.Common.{◌≡◌, ◌⊎◌, ℕ, suc, ◌<◌, ◌++◌, Bool, true, false, ◌||◌, List, [], ◌∷◌, Option, Some, None, Ok, length, refl, sym, ap, ◌∙◌, subst}
use Rattle.std.proofs.Common.{inl, inr, arith}
use Rattle.std.proofs.lemmas.Bool.{cases_Bool, cases_lt, le-ltb, lt-ltb}
use Rattle.std.proofs.lemmas.Bool.Decides.{nat_tests}
use Rattle.std.proofs.lemmas.List.{length-map}
use Rattle.std.specs.Prelude.{◌==◌, filter, if◌then◌else◌, nat_lt}
use Rattle.core_model.specs.Pens.{Pens, pens_of}
use Rattle.core_plans.specs.Held.{Plans, learnt_with, next_stage}
use Rattle.core_plans.specs.declared.held.HeldPlan.{HeldPlan}
use Rattle.core_plans.specs.declared.held.HeldPlan.TheVariants as of
use Rattle.core_plans.specs.declared.held.LearntEntries.{LearntEntries}
use Rattle.core_sessions.specs.Sessions.{Session, is_open, new_session, with_session}
use Rattle.core_sessions.specs.declared.sessions.OpenSession.{OpenSession}
use Rattle.headline_kept.specs.core_steps.declared.jobs.LearntEntry.{LearntEntry}
use Rattle.headline_kept.proofs.promise_kept_lemmas.HealthLines.{health_so}
use Rattle.headline_kept.proofs.promise_kept_lemmas.Settled.{unsettled_keeps}
use Rattle.replies.specs.declared.calls.CallReply.TheVariants as called
use Rattle.replies.specs.declared.plans.Stage.{Stage}
use Rattle.replies.specs.declared.nodes.NodeReply.TheVariants.{Link}
use Rattle.replies.specs.declared.refusals.Refusal.TheVariants.{Memory}
use Rattle.replies.specs.declared.reply.Reply.{Reply}
use Rattle.replies.specs.declared.reply.Reply.TheVariants.{Called, Node, Opened, Refused, Settled}
use Rattle.request_check.specs.declared.caches.CheckedCache.{CheckedCache}
use Rattle.request_check.specs.declared.caches.CheckedCache.TheVariants as cache
use Rattle.request_check.specs.declared.checked.Checked.{Checked}
use Rattle.request_check.specs.declared.checked.Checked.TheVariants as asks
use Rattle.request_check.specs.declared.checked.CheckedCall.{CheckedCall}
use Rattle.request_check.specs.declared.links.CheckedLink.{CheckedLink}
use Rattle.request_check.specs.declared.links.CheckedLink.TheVariants as over
use Rattle.request_check.specs.declared.links.LinkPlace.{LinkPlace}
use Rattle.request_check.specs.declared.plans.CheckedPlan.{CheckedPlan}
use Rattle.request_check.specs.declared.plans.CheckedPlan.TheVariants.{Advance, Hold}
use Rattle.request_check.specs.declared.stores.CheckedStore.{CheckedStore}
use Rattle.request_check.specs.declared.stores.CheckedStore.TheVariants as stores
use Rattle.tao_base.specs.Queries.{query_key}
use Rattle.tao_base.specs.declared.id.Key.{Key}
use Rattle.tao_core.proofs.HeldLearning.{learns_open}
use Rattle.tao_core.specs.Asked.{CanBeDone}
use Rattle.tao_core.specs.Calls.{LearnsAnswer, LearnsBoth, LearnsThrough, LearnsVersion}
use Rattle.tao_core.specs.Core.{CoreState, Moment, author}
use Rattle.tao_core.specs.HeldCalls.{AnswersCall, AnswersPlan, Leaves, LearnsOf, NumberedPlan, held_in, held_seen, numbered_plan}
use Rattle.tao_core.specs.CacheReplies.{AnswersCache}
use Rattle.tao_core.specs.LinkReplies.{AnswersLink, AnswersSwitch}
use Rattle.tao_core.specs.Replies.{AnswersAsked, AnswersOpen}
use Rattle.tao_core.specs.Settling.{AnswersSettle}
use Rattle.tao_core.specs.StoreReplies.{AnswersStore}
use Rattle.tao_top.specs.Promised.{AreSessions, opened_after}
use Rattle.words.specs.declared.LinkWord.{LinkWord}
use Rattle.words.specs.declared.LinkWord.TheVariants as link
use Rattle.words.specs.declared.PlanWord.{PlanWord}
use Rattle.words.specs.declared.PlanWord.TheVariants as word

-- ---- a session more

module _ (new : Session) where
  abbrev Lower : List Session → List Session
  Lower xs = filter (λ s. nat_lt s.session new.session) xs

  abbrev Greater : List Session → List Session
  Greater xs = filter (λ s. nat_lt new.session s.session) xs

  -- of another number it is on one side
  record IsLower (x : Session) : Type 0 where
    before : nat_lt x.session new.session ≡ true
    after : nat_lt new.session x.session ≡ false

  record IsGreater (x : Session) : Type 0 where
    before : nat_lt x.session new.session ≡ false
    after : nat_lt new.session x.session ≡ true

  side : (x : Session) → (x.session == new.session) ≡ false → IsLower x ⊎ IsGreater x
  side x apart = elim (cases_lt x.session new.session) [
    | inl less ↦
        inl (record { before = lt-ltb x.session new.session less; after = le-ltb new.session x.session (omega (arith, less)) })
    | inr more ↦
        let above : new.session < x.session = grind (arith, nat_tests, more, apart) in
        inr (record { before = le-ltb x.session new.session more; after = lt-ltb new.session x.session above })
  ]

  -- none of the others is of its number
  first_apart : (x : Session) (xs : List Session) → is_open (x ∷ xs) new.session ≡ false → (x.session == new.session) ≡ false
  first_apart x xs closed = elim (cases_Bool (x.session == new.session)) [
    | inl is ↦ (let e : true ≡ false = rw is at closed in absurd (cc))
    | inr isnt ↦ isnt
  ]

  rest_apart : (x : Session) (xs : List Session) → is_open (x ∷ xs) new.session ≡ false → is_open xs new.session ≡ false
  rest_apart x xs closed = (let first = first_apart x xs closed in rw first at closed)

  module _ (n : ℕ) where
    lower_more : (a m t x : Bool) → a ≡ (m || t) → (x || a) ≡ (m || (x || t))
    lower_more a false t false is = is
    lower_more a true t false is = is
    lower_more a false t true is = refl
    lower_more a true t true is = refl

    among : (xs ys : List Session) (x : Session) → is_open (xs ++ new ∷ x ∷ ys) n ≡ ((x.session == n) || is_open (xs ++ new ∷ ys) n)
    among [] ys x = swap (new.session == n) (x.session == n) (is_open ys n)
      where
        swap : (m k t : Bool) → (m || (k || t)) ≡ (k || (m || t))
        swap true true t = refl
        swap true false t = refl
        swap false k t = refl
    among (z ∷ xs) ys x = ap (λ b. (z.session == n) || b) (among xs ys x) ∙ swap (z.session == n) (x.session == n) (is_open (xs ++ new ∷ ys) n)
      where
        swap : (m k t : Bool) → (m || (k || t)) ≡ (k || (m || t))
        swap true true t = refl
        swap true false t = refl
        swap false k t = refl

    -- it is open, and so is each that was
    opened_numbers : (xs : List Session) → is_open xs new.session ≡ false → is_open (with_session new xs) n ≡ ((new.session == n) || is_open xs n)
    opened_numbers [] closed = refl
    opened_numbers (x ∷ xs) closed =
        let before = opened_numbers xs (rest_apart x xs closed) in
        let more = lower_more (is_open (with_session new xs) n) (new.session == n) (is_open xs n) (x.session == n) before in
        by_side (side x (first_apart x xs closed)) more
      where
        by_side : IsLower x ⊎ IsGreater x → ((x.session == n) || is_open (with_session new xs) n) ≡ ((new.session == n) || is_open (x ∷ xs) n)
            → is_open (with_session new (x ∷ xs)) n ≡ ((new.session == n) || is_open (x ∷ xs) n)
        by_side (inl low) more = (let b = low.before in let a = low.after in rw b (rw a more))
        by_side (inr great) more = (let b = great.before in let a = great.after in rw b (rw a (among (Lower xs) (Greater xs) x ∙ more)))

  long_among : (xs ys : List Session) (x : Session) → length (xs ++ new ∷ x ∷ ys) ≡ suc (length (xs ++ new ∷ ys))
  long_among [] ys x = refl
  long_among (z ∷ xs) ys x = ap suc (long_among xs ys x)

  -- and there is one more
  opened_count : (xs : List Session) → is_open xs new.session ≡ false → length (with_session new xs) ≡ suc (length xs)
  opened_count [] closed = refl
  opened_count (x ∷ xs) closed = by_side (side x (first_apart x xs closed)) (ap suc (opened_count xs (rest_apart x xs closed)))
    where
      by_side : IsLower x ⊎ IsGreater x → suc (length (with_session new xs)) ≡ suc (suc (length xs))
          → length (with_session new (x ∷ xs)) ≡ suc (suc (length xs))
      by_side (inl low) more = (let b = low.before in let a = low.after in rw b (rw a more))
      by_side (inr great) more = (let b = great.before in let a = great.after in rw b (rw a (long_among (Lower xs) (Greater xs) x ∙ more)))

-- ---- what is learnt opens none and closes none

through_long : (number : ℕ) (told : Option LearntEntry) (old new : List Session) → LearnsThrough number told old new → length new ≡ length old
through_long number None old new learns = ap length learns
through_long number (Some t) old new learns =
    ap length learns.is ∙ length-map old (λ s. if s.session == learns.to.session then learns.to else s)

both_long : (number : ℕ) (told : LearntEntries) (old new : List Session) → LearnsBoth number told old new → length new ≡ length old
both_long number told old new learns =
    through_long number told.other learns.between new learns.other ∙ through_long number told.here old learns.between learns.here

version_long : (pens : Pens) (reader : Option ℕ) (key : Key) (at : ℕ) (old new : List Session) → LearnsVersion pens reader key at old new
    → length new ≡ length old
version_long pens None key at old new learns = ap length learns
version_long pens (Some number) key at old new learns =
    ap length learns.is ∙ length-map old (λ s. if s.session == learns.to.session then learns.to else s)

learns_long : (pens : Pens) (plan : HeldPlan) (ended : Reply) (old new : List Session) → LearnsOf pens plan ended old new → length new ≡ length old
learns_long pens (of.Read p) ended old new learns = by ended learns
  where
    by : (reply : Reply) → LearnsAnswer pens p reply old new → length new ≡ length old
    by (Called (called.Read reply)) learns = version_long pens p.reader (query_key p.query) reply.version old new learns
    by reply learns = ap length learns
learns_long pens (of.Write p) ended old new learns = both_long (author p.origin) (learnt_with ended (of.Write p)) old new learns

-- ---- each line

module _ (old new : Moment) (opened : List ℕ) (are : AreSessions opened old.core.sessions) where
  abbrev Now : List ℕ → Type 0
  Now numbers = AreSessions numbers new.core.sessions

  same : new.core.sessions ≡ old.core.sessions → Now opened
  same is = subst (AreSessions opened) (sym is) are

  abbrev pens : Pens
  pens = pens_of new.core.fleet.stores

  learnt_on : (plan : HeldPlan) (ended : Reply) → LearnsOf pens plan ended old.core.sessions new.core.sessions → Now opened
  learnt_on plan ended learns = record {
    numbers = λ n. learns_open pens plan ended old.core.sessions new.core.sessions learns n ∙ are.numbers n;
    count = learns_long pens plan ended old.core.sessions new.core.sessions learns ∙ are.count;
  }

  after_open : (session region tier : ℕ) (reply : Reply) → is_open old.core.sessions session ≡ false
      → AnswersOpen (record { session = session; region = region; tier = tier }) old.core.sessions reply new.core.sessions
      → Now (opened_after opened (Some (asks.Open session region tier)) reply)
  after_open session region tier (Opened number) closed answers =
      let place : OpenSession = record { session = session; region = region; tier = tier } in
      let one : Session = new_session place answers.1.0 in
      subst (AreSessions (session ∷ opened)) (sym answers.1.1) (record {
        numbers = λ n. opened_numbers one n old.core.sessions closed ∙ ap (λ b. (session == n) || b) (are.numbers n);
        count = opened_count one old.core.sessions closed ∙ ap suc are.count;
      })
  after_open session region tier (Refused (Memory position)) closed answers = same answers.1
  after_open session region tier reply closed answers = absurd answers

  after_call : (asked : CheckedCall) (reply : Reply) → AnswersCall true asked old reply new → Now opened
  after_call asked reply (inl goes) = learnt_on goes.does.after reply goes.does.learns
  after_call asked reply (inr refuses) = same (ap (λ (m : Moment). m.core.sessions) refuses.same)

  leaves_on : (asked : PlanWord) (by : NumberedPlan) (next : Option Stage) (plans : Plans) (before : Pens) (reply : Reply)
      → Leaves asked by next (held_seen plans old.core.sessions before) reply (held_in new.core) → Now opened
  leaves_on asked by (Some stage) plans before reply goes = same goes.sessions
  leaves_on asked by None plans before reply ends = learnt_on by.plan ends.ended ends.learns

  after_plan : (asked : CheckedPlan) (reply : Reply) → AnswersPlan true asked old reply new → Now opened
  after_plan (Hold number call) reply (inl goes) =
      leaves_on word.Hold (numbered_plan number goes.steps.after) (next_stage goes.steps.after) goes.added _ reply goes.steps.leaves
  after_plan (Hold number call) reply (inr refuses) = same (ap (λ (m : Moment). m.core.sessions) refuses.same)
  after_plan (Advance number) reply steps =
      leaves_on word.Advance (numbered_plan number steps.after) (next_stage steps.after) old.core.plans _ reply steps.leaves

  after_cache : (asked : CheckedCache) (reply : Reply) → AnswersCache true asked old reply new → Now opened
  after_cache (cache.Deliver node message) reply answers = same (ap (λ (m : Moment). m.core.sessions) answers.1)
  after_cache (cache.Again node message) reply answers = same (ap (λ (m : Moment). m.core.sessions) answers.1)
  after_cache (cache.Drop node message) reply answers = same (ap (λ (m : Moment). m.core.sessions) answers.1)
  after_cache (cache.Refill node) reply (inl goes) = learnt_on goes.does.after goes.read goes.does.learns
  after_cache (cache.Refill node) reply (inr none) = same (ap (λ (m : Moment). m.core.sessions) none.same)
  after_cache (cache.Evict node key) reply answers = same (ap (λ (m : Moment). m.core.sessions) answers.1)
  after_cache (cache.Show node key) reply answers = same (ap (λ (m : Moment). m.core.sessions) answers.1)
  after_cache (cache.Inbox node) reply answers = same (ap (λ (m : Moment). m.core.sessions) answers.1)

  after_settle : (reply : Reply) → AnswersSettle true old reply new → Now opened
  after_settle (Settled logs) answers = same (ap (λ (c : CoreState). c.sessions) answers.rest)
  after_settle other answers = let keeps = unsettled_keeps old new answers.0 answers.2 in same keeps.sessions

  after_store : (asked : CheckedStore) (reply : Reply) → AnswersStore true asked old reply new → Now opened
  after_store (stores.Repair shard) reply answers = same (ap (λ (c : CoreState). c.sessions) answers.rest)
  after_store stores.Settle reply answers = after_settle reply answers
  after_store (stores.Audit call) reply answers = same (ap (λ (m : Moment). m.core.sessions) answers.1)
  after_store (stores.Stream region shard position) reply (inl refuses) = same (ap (λ (m : Moment). m.core.sessions) refuses.same)
  after_store (stores.Stream region shard position) reply (inr steps) = same (ap (λ (c : CoreState). c.sessions) steps.rest)
  after_store (stores.Trim region shard position) reply (inl trims) = same (ap (λ (m : Moment). m.core.sessions) trims.rest)
  after_store (stores.Trim region shard position) reply (inr fails) = same (ap (λ (m : Moment). m.core.sessions) fails.rest)

  after_switch : (word : LinkWord) (whole : Bool) (place : LinkPlace) (reply : Reply) → AnswersSwitch word whole place old reply new → Now opened
  after_switch word whole place (Node (Link told)) answers = same (ap (λ (m : Moment). m.core.sessions) answers.2)
  after_switch word whole place (Refused (Memory position)) answers = same (ap (λ (m : Moment). m.core.sessions) answers.1)
  after_switch word whole place other answers = absurd answers

  after_link : (asked : CheckedLink) (reply : Reply) → AnswersLink asked old reply new → Now opened
  after_link (over.Cut place) reply answers = after_switch link.Cut false place reply answers
  after_link (over.Mend place) reply answers = after_switch link.Mend true place reply answers

  -- whatever it asks
  pub sessions_after : (asked : Checked) (reply : Reply) → CanBeDone old.core.settings old.core.sessions old.core.plans asked
      → AnswersAsked true old (Ok asked) reply new → Now (opened_after opened (Some asked) reply)
  sessions_after (asks.Open session region tier) reply can answers = after_open session region tier reply can.0 answers.0
  sessions_after (asks.Call asked) reply can answers = after_call asked reply answers
  sessions_after (asks.Plan asked) reply can answers = after_plan asked reply answers
  sessions_after (asks.Cache asked) reply can answers = after_cache asked reply answers
  sessions_after (asks.Store asked) reply can answers = after_store asked reply answers
  sessions_after (asks.Link asked) reply can answers = after_link asked reply answers
  sessions_after (asks.Health asked) reply can answers = same (health_so old new reply asked answers).rests.keeps.sessions
