-- The lines of cache nodes, of health, of links and of sessions, which touch one node or none.
use Rattle.std.proofs.Common.{◌≡◌, ℕ, Bool, [], ◌-◌, Option, Some, None, refl, ap, inl, inr}
use Rattle.cache_items.specs.Node.{Node}
use Rattle.core_mail.specs.Inboxes.{Inboxes, TakesOut, WaitsAt}
use Rattle.core_model.proofs.ItemsStaying.{items_stay}
use Rattle.core_model.specs.Emptied.{Anew, EmptiesCache}
use Rattle.core_model.specs.Evictions.{Evicts}
use Rattle.core_model.specs.Fleet.{ChangesNode}
use Rattle.core_model.specs.Messages.{Delivers}
use Rattle.core_model.specs.Pens.{Pens}
use Rattle.core_plans.specs.Held.{plan_at}
use Rattle.core_plans.specs.declared.held.HeldPlan.{HeldPlan}
use Rattle.core_plans.specs.declared.held.HeldPlan.TheVariants as of
use Rattle.headline_kept.proofs.Caches.{EachCache, cache_changes, cache_delivers, cache_empties, none_changes, same_fleet}
use Rattle.headline_kept.proofs.ItemOps.{delivered_keeps, evicted_keeps, first_of}
use Rattle.headline_kept.specs.Touches.{LeavesAllItems, LeavesItems, StaysBy, StaysByPlan}
use Rattle.maint_msg.specs.Maints.{SeenMaint}
use Rattle.node_name.specs.declared.NodeName.{NodeName}
use Rattle.replies.specs.declared.nodes.CacheReply.TheVariants.{Delivered, Evicted, Lost}
use Rattle.replies.specs.declared.nodes.NodeReply.TheVariants.{Cache, Link}
use Rattle.replies.specs.declared.refusals.NodeRefused.TheVariants.{NoMessage}
use Rattle.replies.specs.declared.refusals.Refusal.TheVariants.{Memory, Node as OfNode}
use Rattle.replies.specs.declared.reply.Reply.{Reply}
use Rattle.replies.specs.declared.reply.Reply.TheVariants.{Node as Replied, Refused}
use Rattle.request_check.specs.declared.caches.CheckedCache.TheVariants as cache
use Rattle.request_check.specs.declared.checked.Checked.{Checked}
use Rattle.request_check.specs.declared.checked.Checked.TheVariants as asks
use Rattle.request_check.specs.declared.checked.CheckedCall.TheVariants as call
use Rattle.request_check.specs.declared.plans.CheckedPlan.TheVariants as plan
use Rattle.request_check.specs.declared.health.CheckedHealth.{CheckedHealth}
use Rattle.request_check.specs.declared.health.CheckedHealth.TheVariants as health
use Rattle.request_check.specs.declared.health.LeaderPlace.{LeaderPlace}
use Rattle.request_check.specs.declared.links.CheckedLink.{CheckedLink}
use Rattle.request_check.specs.declared.links.CheckedLink.TheVariants as over
use Rattle.request_check.specs.declared.links.LinkPlace.{LinkPlace}
use Rattle.tao_base.specs.declared.id.Key.{Key}
use Rattle.tao_core.specs.CacheReplies.{AnswersEvict}
use Rattle.tao_core.specs.Core.{CoreState, Moment}
use Rattle.tao_core.specs.Deliveries.{AnswersDeliver, AnswersLoss, AnswersSecond, IsProcessed}
use Rattle.tao_core.specs.Health.{AnswersHealth, AnswersTrust}
use Rattle.tao_core.specs.LinkReplies.{AnswersLink, AnswersSwitch}
use Rattle.tao_schema.specs.Schema.{types_of}
use Rattle.words.specs.declared.DeliveryWord.{DeliveryWord}
use Rattle.words.specs.declared.DeliveryWord.TheVariants as word
use Rattle.words.specs.declared.HealthWord.{HealthWord}
use Rattle.words.specs.declared.LinkWord.{LinkWord}

-- items that stay, whatever a plan is
pub plan_self : (plan : Option HeldPlan) (key : Key) (node : Node) → StaysByPlan plan key node node
plan_self (Some (of.Read p)) key node = first_of key (node.most - 1) node.items node.items (λ item is. is)
plan_self (Some (of.Write p)) key node = λ item is. is
plan_self None key node = λ item is. is

-- whatever is asked
pub stays_self : (old : Moment) (asked : Checked) (key : Key) (node : Node) → StaysBy old asked key node node
stays_self old (asks.Call (call.Read read)) key node = first_of key (node.most - 1) node.items node.items (λ item is. is)
stays_self old (asks.Call (call.Write write)) key node = λ item is. is
stays_self old (asks.Plan (plan.Hold number (call.Read read))) key node = first_of key (node.most - 1) node.items node.items (λ item is. is)
stays_self old (asks.Plan (plan.Hold number (call.Write write))) key node = λ item is. is
stays_self old (asks.Plan (plan.Advance number)) key node = plan_self (plan_at old.core.plans number) key node
stays_self old (asks.Open session region tier) key node = λ item is. is
stays_self old (asks.Store asked) key node = λ item is. is
stays_self old (asks.Health asked) key node = λ item is. is
stays_self old (asks.Link asked) key node = λ item is. is
stays_self old (asks.Cache (cache.Refill node_name)) key node = first_of key (node.most - 1) node.items node.items (λ item is. is)
stays_self old (asks.Cache (cache.Evict node_name None)) key node = λ item is. inl is
stays_self old (asks.Cache (cache.Evict node_name (Some evicted))) key node = λ item is. is
stays_self old (asks.Cache (cache.Deliver node_name message)) key node = λ item is. is
stays_self old (asks.Cache (cache.Again node_name message)) key node = λ item is. is
stays_self old (asks.Cache (cache.Drop node_name message)) key node = λ item is. is
stays_self old (asks.Cache (cache.Show node_name shown)) key node = λ item is. is
stays_self old (asks.Cache (cache.Inbox node_name)) key node = λ item is. is

-- a line that brings no entry
pub none_brought : (tells : Bool) (asked : Checked) (old new : Moment)
    → EachCache (λ name from to. LeavesItems old asked [] name from to) old.core.fleet new.core.fleet → LeavesAllItems tells asked old new
none_brought tells asked old new each = record { brought = []; are = tt; leaders = each.leaders; followers = each.followers }

module _ (asked : Checked) (old new : Moment) where
  abbrev R : NodeName → Node → Node → Type 0
  R name from to = LeavesItems old asked [] name from to

  rests : (name : NodeName) (node : Node) → R name node node
  rests name node = record { far = λ away. refl; near = λ key untouched. stays_self old asked key node }

  -- the line changes no leader and no follower
  pub no_node : new.core.fleet.leaders ≡ old.core.fleet.leaders → new.core.fleet.followers ≡ old.core.fleet.followers
      → EachCache R old.core.fleet new.core.fleet
  no_node leaders followers = none_changes R rests old.core.fleet new.core.fleet leaders followers

  pub no_fleet : new.core.fleet ≡ old.core.fleet → EachCache R old.core.fleet new.core.fleet
  no_fleet same = same_fleet R rests old.core.fleet new.core.fleet same

  pub no_change : new ≡ old → EachCache R old.core.fleet new.core.fleet
  no_change same = no_fleet (ap (λ (m : Moment). m.core.fleet) same)

  no_core : new.core ≡ old.core → EachCache R old.core.fleet new.core.fleet
  no_core same = no_fleet (ap (λ (c : CoreState). c.fleet) same)

  module _ (node : NodeName) where
    -- ---- an eviction

    evicts_so : (key : Option Key) → ((from to : Node) (gone : Bool) → Evicts key gone from to → R node from to) → (reply : Reply)
        → AnswersEvict node key old reply new → EachCache R old.core.fleet new.core.fleet
    evicts_so key so (Replied (Cache (Evicted gone))) answers =
        cache_changes R rests old.core.fleet new.core.fleet (Evicts key gone) node (λ from to. so from to gone) answers
    evicts_so key so other answers = absurd answers

    -- ---- a message

    delivers_so : (m : SeenMaint) (asked_as : DeliveryWord) → ((from to : Node) (dropped : ℕ) → Delivers m dropped from to → R node from to)
        → (reply : Reply) → IsProcessed asked_as node m old.core reply new.core → EachCache R old.core.fleet new.core.fleet
    delivers_so m asked_as so (Replied (Cache (Delivered reply))) is =
        cache_delivers R rests old.core.fleet new.core.fleet (types_of old.core.settings.schema) m reply.dropped node
        (λ from to. so from to reply.dropped) is.1.delivers
    delivers_so m asked_as so other is = absurd is

    -- a message that was taken out has waited
    waited : (place : ℕ) (m : SeenMaint) (before after : Inboxes) → ChangesNode node (TakesOut place (Some m)) before after
        → WaitsAt node place (Some m) before
    waited place m before after change = record {
      waiting = change.from;
      inbox = (change.place, change.first, change.stands);
      message_is = change.by.message_is;
    }

    module _ (place : ℕ) (so : (m : SeenMaint) → WaitsAt node place (Some m) old.core.mail → (from to : Node) (dropped : ℕ)
        → Delivers m dropped from to → R node from to) where
      deliver_so : (reply : Reply) → AnswersDeliver node place old.core reply new.core → EachCache R old.core.fleet new.core.fleet
      deliver_so (Replied reply) answers =
          delivers_so answers.0 word.Deliver (so answers.0 (waited place answers.0 old.core.mail new.core.mail answers.1)) (Replied reply) answers.2
      deliver_so (Refused (OfNode (NoMessage told))) answers = no_core answers.2
      deliver_so other answers = absurd answers

      again_so : (reply : Reply) → AnswersSecond node place old.core reply new.core → EachCache R old.core.fleet new.core.fleet
      again_so (Replied reply) answers = delivers_so answers.0 word.Again (so answers.0 answers.1) (Replied reply) answers.3
      again_so (Refused (OfNode (NoMessage told))) answers = no_core answers.2
      again_so (Refused (Memory position)) answers = no_core answers.1
      again_so other answers = absurd answers

    loss_so : (place : ℕ) (reply : Reply) → AnswersLoss node place old.core reply new.core → EachCache R old.core.fleet new.core.fleet
    loss_so place (Replied (Cache (Lost told))) answers = no_fleet answers.0
    loss_so place (Refused (OfNode (NoMessage told))) answers = no_core answers.2
    loss_so place other answers = absurd answers

    -- ---- a node that is emptied

    empties_so : (pens : Pens) (at : Anew) → ((from to : Node) → R node from to) → EmptiesCache node pens at old.core.fleet new.core.fleet
        → EachCache R old.core.fleet new.core.fleet
    empties_so pens at so empties =
        cache_empties R rests old.core.fleet new.core.fleet pens at node (λ from to begins. so from to) empties

  switch_so : (asked_as : LinkWord) (whole : Bool) (place : LinkPlace) (reply : Reply) → AnswersSwitch asked_as whole place old reply new
      → EachCache R old.core.fleet new.core.fleet
  switch_so asked_as whole place (Replied (Link told)) answers = no_fleet (ap (λ (m : Moment). m.core.fleet) answers.2)
  switch_so asked_as whole place (Refused (Memory position)) answers = no_change answers.1
  switch_so asked_as whole place other answers = absurd answers

  trust_so : (asked_as : HealthWord) (trusted : Bool) (place : LeaderPlace) (reply : Reply) → AnswersTrust asked_as trusted place old reply new
      → EachCache R old.core.fleet new.core.fleet
  trust_so asked_as trusted place reply (inl changes) = no_fleet (ap (λ (m : Moment). m.core.fleet) changes.rest)
  trust_so asked_as trusted place reply (inr so) = no_change so.so.same

-- ---- each of these lines

module _ (old new : Moment) (reply : Reply) where
  abbrev Leaves : Checked → Type 0
  Leaves asked = EachCache (λ name from to. LeavesItems old asked [] name from to) old.core.fleet new.core.fleet

  pub evict_leaves : (node : NodeName) (key : Option Key) → AnswersEvict node key old reply new → Leaves (asks.Cache (cache.Evict node key))
  evict_leaves node (Some evicted) answers = evicts_so (asks.Cache (cache.Evict node (Some evicted))) old new node (Some evicted)
      (λ from to gone evicts. record { far = λ away. absurd (away refl); near = λ key apart. evicted_keeps key evicted gone from to evicts apart })
      reply answers
  evict_leaves node None answers = evicts_so (asks.Cache (cache.Evict node None)) old new node None
      (λ from to gone evicts. record { far = λ away. absurd (away refl); near = λ key apart. (items_stay key).evicts_last from to evicts.1 }) reply answers

  pub deliver_leaves : (node : NodeName) (place : ℕ) → AnswersDeliver node place old.core reply new.core → Leaves (asks.Cache (cache.Deliver node place))
  deliver_leaves node place answers = deliver_so (asks.Cache (cache.Deliver node place)) old new node place
      (λ m waits from to dropped delivers.
      record { far = λ away. absurd (away refl); near = λ key apart. delivered_keeps key m dropped from to delivers (apart m waits) }) reply answers

  pub again_leaves : (node : NodeName) (place : ℕ) → AnswersSecond node place old.core reply new.core → Leaves (asks.Cache (cache.Again node place))
  again_leaves node place answers = again_so (asks.Cache (cache.Again node place)) old new node place
      (λ m waits from to dropped delivers.
      record { far = λ away. absurd (away refl); near = λ key apart. delivered_keeps key m dropped from to delivers (apart m waits) }) reply answers

  pub loss_leaves : (node : NodeName) (place : ℕ) → AnswersLoss node place old.core reply new.core → Leaves (asks.Cache (cache.Drop node place))
  loss_leaves node place answers = loss_so (asks.Cache (cache.Drop node place)) old new node place reply answers

  pub health_leaves : (tells : Bool) (asked : CheckedHealth) → AnswersHealth tells asked old reply new → Leaves (asks.Health asked)
  health_leaves tells (health.Down node) (inl goes) = empties_so (asks.Health (health.Down node)) old new node _ _
      (λ from to. record { far = λ away. absurd (away refl); near = λ key apart. absurd apart }) goes.empties
  health_leaves tells (health.Down node) (inr (inl so)) = no_change (asks.Health (health.Down node)) old new so.so.same
  health_leaves tells (health.Down node) (inr (inr wants)) = no_change (asks.Health (health.Down node)) old new wants.same
  health_leaves tells (health.Up node) (inl comes) = empties_so (asks.Health (health.Up node)) old new node _ _
      (λ from to. record { far = λ away. absurd (away refl); near = λ key apart. absurd apart }) comes.empties
  health_leaves tells (health.Up node) (inr (inl so)) = no_change (asks.Health (health.Up node)) old new so.so.same
  health_leaves tells (health.Up node) (inr (inr stays)) =
      no_fleet (asks.Health (health.Up node)) old new (ap (λ (m : Moment). m.core.fleet) stays.rest)
  health_leaves tells (health.Suspect place) answers = trust_so (asks.Health (health.Suspect place)) old new _ _ place reply answers
  health_leaves tells (health.Trust place) answers = trust_so (asks.Health (health.Trust place)) old new _ _ place reply answers

  pub link_leaves : (asked : CheckedLink) → AnswersLink asked old reply new → Leaves (asks.Link asked)
  link_leaves (over.Cut place) answers = switch_so (asks.Link (over.Cut place)) old new _ _ place reply answers
  link_leaves (over.Mend place) answers = switch_so (asks.Link (over.Mend place)) old new _ _ place reply answers
