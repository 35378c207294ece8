-- The plans that are held stay as they are, but where a line begins one or goes on with it.
use Rattle.std.proofs.Common.{◌≡◌, ◌∙◌, Bool, true, false, Ok, ap, inl, inr}
use Rattle.std.specs.Prelude.{⊤}
use Rattle.core_nodes.specs.declared.settling.SettleStop.{SettleStop}
use Rattle.node_name.specs.declared.NodeName.{NodeName}
use Rattle.replies.specs.declared.nodes.NodeReply.TheVariants.{Link}
use Rattle.replies.specs.declared.refusals.Refusal.TheVariants.{Memory}
use Rattle.replies.specs.declared.reply.Reply.{Reply}
use Rattle.replies.specs.declared.reply.Reply.TheVariants.{Node, Refused, Settled}
use Rattle.request_check.specs.declared.caches.CheckedCache.{CheckedCache}
use Rattle.request_check.specs.declared.caches.CheckedCache.TheVariants as cache
use Rattle.request_check.specs.declared.checked.Checked.{Checked}
use Rattle.request_check.specs.declared.checked.Checked.TheVariants as asks
use Rattle.request_check.specs.declared.checked.CheckedCall.{CheckedCall}
use Rattle.request_check.specs.declared.health.CheckedHealth.{CheckedHealth}
use Rattle.request_check.specs.declared.health.CheckedHealth.TheVariants as health
use Rattle.request_check.specs.declared.health.LeaderPlace.{LeaderPlace}
use Rattle.request_check.specs.declared.links.CheckedLink.{CheckedLink}
use Rattle.request_check.specs.declared.links.CheckedLink.TheVariants as over
use Rattle.request_check.specs.declared.links.LinkPlace.{LinkPlace}
use Rattle.request_check.specs.declared.stores.CheckedStore.{CheckedStore}
use Rattle.request_check.specs.declared.stores.CheckedStore.TheVariants as stores
use Rattle.tao_core.specs.CacheReplies.{AnswersCache}
use Rattle.tao_core.specs.Core.{CoreState, Moment}
use Rattle.tao_core.specs.Health.{AnswersDown, AnswersHealth, AnswersTrust, AnswersUp}
use Rattle.tao_core.specs.HeldCalls.{AnswersCall}
use Rattle.tao_core.specs.LinkReplies.{AnswersLink, AnswersSwitch}
use Rattle.tao_core.specs.Replies.{AnswersAsked}
use Rattle.tao_core.specs.Settling.{AnswersSettle, IsUnsettled}
use Rattle.tao_core.specs.StoreReplies.{AnswersStore}
use Rattle.words.specs.declared.HealthWord.{HealthWord}
use Rattle.words.specs.declared.HealthWord.TheVariants.{Suspect, Trust}
use Rattle.words.specs.declared.LinkWord.{LinkWord}
use Rattle.words.specs.declared.LinkWord.TheVariants as link

module _ (tells : Bool) (old new : Moment) where
  abbrev Stay : Type 0
  Stay = new.core.plans ≡ old.core.plans

  after_call : (asked : CheckedCall) (reply : Reply) → AnswersCall tells asked old reply new → Stay
  after_call asked reply (inl goes) = ap (λ (c : CoreState). c.plans) goes.does.rest
  after_call asked reply (inr refuses) = ap (λ (m : Moment). m.core.plans) refuses.same

  after_cache : (asked : CheckedCache) (reply : Reply) → AnswersCache tells asked old reply new → Stay
  after_cache (cache.Deliver node message) reply answers = ap (λ (m : Moment). m.core.plans) answers.1
  after_cache (cache.Again node message) reply answers = ap (λ (m : Moment). m.core.plans) answers.1
  after_cache (cache.Drop node message) reply answers = ap (λ (m : Moment). m.core.plans) answers.1
  after_cache (cache.Refill node) reply (inl goes) = ap (λ (c : CoreState). c.plans) goes.does.rest
  after_cache (cache.Refill node) reply (inr none) = ap (λ (m : Moment). m.core.plans) none.same
  after_cache (cache.Evict node key) reply answers = ap (λ (m : Moment). m.core.plans) answers.1
  after_cache (cache.Show node key) reply answers = ap (λ (m : Moment). m.core.plans) answers.1
  after_cache (cache.Inbox node) reply answers = ap (λ (m : Moment). m.core.plans) answers.1

  -- a settle that stopped on its way
  unsettled : (given : SettleStop) → IsUnsettled tells given old new → Stay
  unsettled given (inl stops) = ap (λ (c : CoreState). c.plans) stops.rest
  unsettled given (inr (inl stops)) = ap (λ (c : CoreState). c.plans) stops.rest ∙ ap (λ (c : CoreState). c.plans) stops.jobs.rest
  unsettled given (inr (inr (inl stops))) =
      ap (λ (m : Moment). m.core.plans) stops.same ∙ ap (λ (c : CoreState). c.plans) stops.streams.rest ∙ ap (λ (c : CoreState). c.plans) stops.jobs.rest
  unsettled given (inr (inr (inr stops))) =
      ap (λ (c : CoreState). c.plans) stops.rest ∙ ap (λ (c : CoreState). c.plans) stops.streams.rest ∙ ap (λ (c : CoreState). c.plans) stops.jobs.rest

  after_settle : (reply : Reply) → AnswersSettle tells old reply new → Stay
  after_settle (Settled logs) answers = ap (λ (c : CoreState). c.plans) answers.rest
  after_settle other answers = unsettled answers.0 answers.2

  after_store : (asked : CheckedStore) (reply : Reply) → AnswersStore tells asked old reply new → Stay
  after_store (stores.Repair shard) reply answers = ap (λ (c : CoreState). c.plans) answers.rest
  after_store stores.Settle reply answers = after_settle reply answers
  after_store (stores.Audit call) reply answers = ap (λ (m : Moment). m.core.plans) answers.1
  after_store (stores.Stream region shard position) reply (inl refuses) = ap (λ (m : Moment). m.core.plans) refuses.same
  after_store (stores.Stream region shard position) reply (inr steps) = ap (λ (c : CoreState). c.plans) steps.rest
  after_store (stores.Trim region shard position) reply (inl trims) = ap (λ (m : Moment). m.core.plans) trims.rest
  after_store (stores.Trim region shard position) reply (inr fails) = ap (λ (m : Moment). m.core.plans) fails.rest

  after_switch : (word : LinkWord) (whole : Bool) (place : LinkPlace) (reply : Reply) → AnswersSwitch word whole place old reply new → Stay
  after_switch word whole place (Node (Link told)) answers = ap (λ (m : Moment). m.core.plans) answers.2
  after_switch word whole place (Refused (Memory position)) answers = ap (λ (m : Moment). m.core.plans) answers.1
  after_switch word whole place other answers = absurd answers

  after_link : (asked : CheckedLink) (reply : Reply) → AnswersLink asked old reply new → Stay
  after_link (over.Cut place) reply answers = after_switch link.Cut false place reply answers
  after_link (over.Mend place) reply answers = after_switch link.Mend true place reply answers

  after_down : (node : NodeName) (reply : Reply) → AnswersDown node old reply new → Stay
  after_down node reply (inl goes) = ap (λ (m : Moment). m.core.plans) goes.rest
  after_down node reply (inr (inl is)) = ap (λ (m : Moment). m.core.plans) is.so.same
  after_down node reply (inr (inr wants)) = ap (λ (m : Moment). m.core.plans) wants.same

  after_up : (node : NodeName) (reply : Reply) → AnswersUp tells node old reply new → Stay
  after_up node reply (inl comes) = ap (λ (m : Moment). m.core.plans) comes.rest
  after_up node reply (inr (inl is)) = ap (λ (m : Moment). m.core.plans) is.so.same
  after_up node reply (inr (inr stays)) = ap (λ (m : Moment). m.core.plans) stays.rest

  after_trust : (word : HealthWord) (trusted : Bool) (place : LeaderPlace) (reply : Reply) → AnswersTrust word trusted place old reply new → Stay
  after_trust word trusted place reply (inl changes) = ap (λ (m : Moment). m.core.plans) changes.rest
  after_trust word trusted place reply (inr is) = ap (λ (m : Moment). m.core.plans) is.so.same

  after_health : (asked : CheckedHealth) (reply : Reply) → AnswersHealth tells asked old reply new → Stay
  after_health (health.Down node) reply answers = after_down node reply answers
  after_health (health.Up node) reply answers = after_up node reply answers
  after_health (health.Suspect place) reply answers = after_trust Suspect false place reply answers
  after_health (health.Trust place) reply answers = after_trust Trust true place reply answers

  -- what is asked of a plan
  abbrev pub IsOfPlan : Checked → Type 0
  IsOfPlan (asks.Plan asked) = ⊤
  IsOfPlan other = ⊥

  -- whatever else it asks
  pub plans_stay : (asked : Checked) (reply : Reply) → (IsOfPlan asked → ⊥) → AnswersAsked tells old (Ok asked) reply new → Stay
  plans_stay (asks.Open session region tier) reply other answers = ap (λ (m : Moment). m.core.plans) answers.1
  plans_stay (asks.Call asked) reply other answers = after_call asked reply answers
  plans_stay (asks.Plan asked) reply other answers = absurd (other tt)
  plans_stay (asks.Cache asked) reply other answers = after_cache asked reply answers
  plans_stay (asks.Store asked) reply other answers = after_store asked reply answers
  plans_stay (asks.Link asked) reply other answers = after_link asked reply answers
  plans_stay (asks.Health asked) reply other answers = after_health asked reply answers
