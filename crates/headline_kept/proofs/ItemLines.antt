-- Each line leaves each item as it was that it doesn't touch.
use Rattle.std.proofs.Common.{◌≡◌, ◌⊎◌, [], ℕ, Bool, List, Option, Some, Result, Ok, Err, refl, sym, ap, ◌∙◌, subst, inl, inr}
use Rattle.std.proofs.lemmas.Bool.{eq-eqb}
use Rattle.std.specs.List.{AllByRecursion}
use Rattle.std.specs.Prelude.{◌<◌, IfSome, if◌then◌else◌, option_and_then}
use Rattle.cache_items.specs.Node.{Node}
use Rattle.core_model.specs.Consistent.{IsConsistent}
use Rattle.core_model.specs.Fleet.{ChangesNode, EachIs, EachNode, Fleet}
use Rattle.core_model.proofs.Places.{one_some}
use Rattle.core_model.specs.Messages.{TakesRefill}
use Rattle.core_model.specs.Pens.{pens_of}
use Rattle.core_model.specs.Stores.{HaveMasterRegions}
use Rattle.core_model.specs.declared.named.Named.{Named}
use Rattle.core_plans.specs.Held.{AddsPlan, IsUnderWay, Plans, plan_at}
use Rattle.core_plans.specs.HeldReads.{StandsSo, read_has_no_room, wanted_by}
use Rattle.core_plans.specs.HeldWrites.{IsAnswerTo, call_of_plan}
use Rattle.core_plans.specs.LedBy.{Rules, rules_of}
use Rattle.core_plans.specs.WholeCalls.{CarriesOut}
use Rattle.core_plans.specs.declared.held.HeldPlan.{HeldPlan}
use Rattle.core_plans.specs.declared.held.HeldPlan.TheVariants as of
use Rattle.core_sessions.specs.Sessions.{Session}
use Rattle.core_steps.specs.World.{World}
use Rattle.follower_cache.specs.Seen.{FollowerState}
use Rattle.follower_cache.specs.declared.queue.Refill.{Refill}
use Rattle.headline_kept.proofs.Caches.{EachCache, caches_so, caches_then, each_of_one, each_rests, each_so, same_fleet}
use Rattle.headline_kept.proofs.ItemReads.{HoldsAt, HoldsOthers, LeavesOthers, NearRead, others_of, over_leaves, stage_leaves, whole_leaves}
use Rattle.headline_kept.proofs.ItemWrites.{TakesAt, TakesEntries, takes_same}
use Rattle.headline_kept.proofs.NamedLeaders.{leaders_are}
use Rattle.headline_kept.proofs.ItemEntries.{IsUnder}
use Rattle.headline_kept.proofs.ItemStages.{Brings, comes_brings, whole_brings}
use Rattle.headline_kept.proofs.NodeLines.{again_leaves, deliver_leaves, evict_leaves, health_leaves, link_leaves, loss_leaves, no_change, no_fleet}
use Rattle.headline_kept.proofs.NodeLines.{none_brought, plan_self}
use Rattle.headline_kept.proofs.ShardLines.{repair_leaves, settle_leaves, stream_leaves, trim_leaves}
use Rattle.headline_kept.specs.Headline.{LinesKeepItems}
use Rattle.headline_kept.specs.Standing.{write_of_plan}
use Rattle.headline_kept.specs.Touches.{IsApartFromPlan, IsAtCall, IsAtPlan, IsLeader, IsOfLine, KeepsAsked, LeavesAllItems, LeavesItems, StaysByPlan}
use Rattle.node_name.specs.declared.NodeName.{NodeName}
use Rattle.read_plan.specs.Readings.{Reading}
use Rattle.replies.specs.declared.refusals.Refusal.{Refusal}
use Rattle.replies.specs.declared.reply.Reply.{Reply}
use Rattle.request_check.specs.declared.caches.CheckedCache.{CheckedCache}
use Rattle.request_check.specs.declared.caches.CheckedCache.TheVariants as cache
use Rattle.request_check.specs.declared.checked.Checked.{Checked}
use Rattle.request_check.specs.declared.checked.Checked.TheVariants as asks
use Rattle.request_check.specs.declared.checked.CheckedCall.{CheckedCall}
use Rattle.request_check.specs.declared.checked.CheckedCall.TheVariants as call
use Rattle.request_check.specs.declared.plans.CheckedPlan.TheVariants as plan
use Rattle.request_check.specs.declared.stores.CheckedStore.{CheckedStore}
use Rattle.request_check.specs.declared.stores.CheckedStore.TheVariants as store
use Rattle.tao_base.specs.Queries.{query_key}
use Rattle.tao_base.specs.Writes.{write_shard}
use Rattle.tao_base.specs.declared.entry.Entry.{Entry}
use Rattle.tao_base.specs.declared.id.Key.{Key}
use Rattle.tao_core.specs.CacheReplies.{AnswersCache}
use Rattle.tao_core.specs.Calls.{world_of}
use Rattle.tao_core.specs.Core.{IsCoreOf, Moment, StaysUsable}
use Rattle.tao_core.specs.Deliveries.{AnswersRefill, refill_plan}
use Rattle.tao_core.specs.Asked.{asked_of}
use Rattle.tao_core.specs.HeldCalls.{Advances, AnswersAdvance, AnswersCall, AnswersHold, IsBegun, begun_plan}
use Rattle.tao_core.specs.Replies.{AnswersAsked}
use Rattle.tao_core.specs.StoreReplies.{AnswersStore}
use Rattle.tao_schema.specs.Schema.{types_of}
use Rattle.topology.specs.Config.{Settings}
use Rattle.topology.specs.States.{NodeStates}
use Rattle.write_plan.specs.Plans.{Writing, answered_entry}
use Rattle.write_plan.specs.declared.committed.Committed.{Committed}

-- ---- a plan that did a stage, or all of them

-- a node at which the plan does nothing holds the same items, and at others each stays that it is apart from
record LeavesAtPlan (states : NodeStates) (plan : Option HeldPlan) (brought : List Entry) (name : NodeName) (old new : Node) : Type 0 where
  far : (IsAtPlan states plan name → ⊥) → new.items ≡ old.items
  near : (key : Key) → IsApartFromPlan plan brought key → StaysByPlan plan key old new

-- so at each leader and follower, by what the plan brings
record LeavesByPlan (tells : Bool) (plan : Option HeldPlan) (old new : Moment) : Type 0 where
  brought : List Entry
  are : AllByRecursion (IsOfLine tells old new (option_and_then write_of_plan plan)) brought
  each : EachCache (λ name from to. LeavesAtPlan old.core.states plan brought name from to) old.core.fleet new.core.fleet

-- a read leaves a node as it was, or is there and leaves what isn't of its key
far_of : (near : NodeName → Type 0) (read : Key) (name : NodeName) (old new : Node) → HoldsAt near read name old new → (near name → ⊥)
    → new.items ≡ old.items
far_of near read name old new (inl same) away = same.items
far_of near read name old new (inr there) away = absurd (away there.0)

near_of : (near : NodeName → Type 0) (read : Key) (name : NodeName) (old new : Node) → HoldsAt near read name old new → HoldsOthers read old new
near_of near read name old new (inl same) = others_of read old new same
near_of near read name old new (inr there) = there.1

-- so a write leaves a follower
far_taken : (follower : NodeName) (brought : List Entry) (name : NodeName) (old new : Node) → TakesAt follower brought name old new
    → (name ≡ follower → ⊥) → new.items ≡ old.items
far_taken follower brought name old new (inl same) away = same
far_taken follower brought name old new (inr takes) away = absurd (away takes.0)

near_taken : (follower : NodeName) (brought : List Entry) (name : NodeName) (old new : Node) → TakesAt follower brought name old new
    → TakesEntries brought old new
near_taken follower brought name old new (inl same) = takes_same brought old new same
near_taken follower brought name old new (inr takes) = takes.1

module _ (tells : Bool) (old new : Moment) where
  by_read : (p : Reading) → LeavesOthers (NearRead old.core.states p) (query_key p.query) old.core.fleet new.core.fleet
      → LeavesByPlan tells (Some (of.Read p)) old new
  by_read p leaves =
      let near = NearRead old.core.states p in
      record {
        brought = [];
        are = tt;
        each = caches_so (λ name from to. HoldsAt near (query_key p.query) name from to)
            (λ name from to. LeavesAtPlan old.core.states (Some (of.Read p)) [] name from to) old.core.fleet new.core.fleet
            (λ name from to there. record {
              far = far_of near (query_key p.query) name from to there;
              near = near_of near (query_key p.query) name from to there;
            }) leaves;
      }

  by_write : (p : Writing) → EachIs (λ name node. IsLeader name) old.core.fleet.leaders
      → Brings tells old.core.settings (call_of_plan p) p.follower (world_of old) (world_of new) → LeavesByPlan tells (Some (of.Write p)) old new
  by_write p leaders brings = record {
    brought = brings.brought;
    are = brings.are;
    each = record {
      leaders = λ place name to at.
          let from = brings.take.leaders place name to at in
          (from.0, from.1, record { far = λ away. absurd (away (inr (leaders place name from.0 from.1))); near = from.2 });
      followers = each_so (λ name from to. TakesAt p.follower brings.brought name from.node to.node)
          (λ name from to. LeavesAtPlan old.core.states (Some (of.Write p)) brings.brought name from.node to.node)
          old.core.fleet.followers new.core.fleet.followers (λ name from to takes. record {
            far = λ away. far_taken p.follower brings.brought name from.node to.node takes (λ is. away (inl is));
            near = near_taken p.follower brings.brought name from.node to.node takes;
          }) brings.take.followers;
    };
  }

  -- the fleet is as it was
  by_none : (plan : Option HeldPlan) → new.core.fleet ≡ old.core.fleet → LeavesByPlan tells plan old new
  by_none plan same = record {
    brought = [];
    are = tt;
    each = same_fleet (λ name from to. LeavesAtPlan old.core.states plan [] name from to)
        (λ name node. record { far = λ away. refl; near = λ key apart. plan_self plan key node }) old.core.fleet new.core.fleet same;
  }

  module _ (usable : IsCoreOf tells old.keepers.told old.core) (after : StaysUsable tells old.keepers new.keepers old.core new.core) where
    abbrev s : Settings
    s = old.core.settings

    abbrev rules : Rules
    rules = rules_of tells old.core.settings

    regions : HaveMasterRegions s
    regions = usable.is_consistent.masters

    before_is : IsConsistent tells s old.keepers.told old.core.fleet
    before_is = usable.is_consistent.consistent

    after_is : IsConsistent tells s new.keepers.told new.core.fleet
    after_is = subst (λ (t : Settings). IsConsistent tells t new.keepers.told new.core.fleet) after.settings after.keepers.is_consistent.consistent

    leaders_named : EachIs (λ name node. IsLeader name) old.core.fleet.leaders
    leaders_named = leaders_are s old.core.fleet before_is.fleet

    -- what a write has before its next stage: what its commit answered, and on a shard that is configured
    record HasAnswer (p : Writing) : Type 0 where
      answer : IfSome p.committed (IsAnswerTo s old.core.fleet.stores p)
      own : IsUnder tells p.origin (answered_entry p)
      placed : (c : Committed) → p.committed ≡ Some c → write_shard p.write < s.shards

    -- what a plan has before its next stage: of a read, what was given to it is right
    abbrev IsReady : HeldPlan → Type 0
    IsReady (of.Read p) = StandsSo (types_of s.schema) (pens_of old.core.fleet.stores) (wanted_by p) p.at
    IsReady (of.Write p) = HasAnswer p

    under_way : (plan : HeldPlan) → IsUnderWay tells s old.keepers.told old.core.fleet plan → IsReady plan
    under_way (of.Read p) under = under.stands
    under_way (of.Write p) under = record { answer = under.committed; own = under.own; placed = λ c is. under.follower.here }

    begun : (session : Session) (follower : NodeName) (asked : CheckedCall) → IsReady (begun_plan s session follower asked)
    begun session follower (call.Read read) = tt
    begun session follower (call.Write write) = record { answer = tt; own = λ told. tt; placed = λ c is. absurd (cc) }

    -- one stage
    stage_by : (plan next : HeldPlan) → IsReady plan → Advances rules plan (world_of old) next (world_of new) → LeavesByPlan tells (Some plan) old new
    stage_by (of.Read p) (of.Read q) ready (inl steps) =
        by_read p (stage_leaves rules p q (world_of old) (world_of new) ready steps.steps.does)
    stage_by (of.Read p) (of.Write q) ready (inl steps) = absurd steps
    stage_by (of.Write p) (of.Write q) ready (inl steps) =
        by_write p leaders_named
        (comes_brings rules p (world_of old) (world_of new) regions before_is after_is ready.answer ready.own ready.placed q steps)
    stage_by (of.Write p) (of.Read q) ready (inl steps) = absurd steps
    stage_by (of.Read p) (of.Read q) ready (inr without) = by_read p (over_leaves s read_has_no_room p q (world_of old) (world_of new) without.gives)
    stage_by (of.Read p) (of.Write q) ready (inr without) = absurd without.gives
    stage_by (of.Write p) (of.Write q) ready (inr without) = by_none (Some (of.Write p)) (ap (λ (w : World). w.fleet) without.gives.1)
    stage_by (of.Write p) (of.Read q) ready (inr without) = absurd without.gives

    -- all stages of a call
    whole_by : (session : Session) (follower : NodeName) (asked : CheckedCall) (later : HeldPlan)
        → CarriesOut rules (begun_plan s session follower asked) (world_of old) later (world_of new)
        → LeavesByPlan tells (Some (begun_plan s session follower asked)) old new
    whole_by session follower (call.Read read) later carries = by_read _ (whole_leaves rules _ later (world_of old) (world_of new) refl carries)
    whole_by session follower (call.Write write) later carries =
        by_write _ leaders_named (whole_brings rules _ later (world_of old) (world_of new) regions before_is refl carries)

    -- ---- calls, held or not

    module _ (session : Session) (follower : NodeName) where
      abbrev Begins : CheckedCall → Type 0
      Begins asked = IsBegun s old.core.states old.core.sessions asked (begun_plan s session follower asked)

      abbrev ByCall : CheckedCall → Type 0
      ByCall asked = LeavesByPlan tells (Some (begun_plan s session follower asked)) old new

      -- where the call does nothing, its plan doesn't
      away_of : (asked : CheckedCall) → Begins asked → (name : NodeName) → (IsAtCall old asked name → ⊥)
          → IsAtPlan old.core.states (Some (begun_plan s session follower asked)) name → ⊥
      away_of asked begins name away at = away (record { plan = begun_plan s session follower asked; begun = begins; at = at })

      call_each : (asked : CheckedCall) → Begins asked → (by : ByCall asked)
          → EachCache (λ name from to. LeavesItems old (asks.Call asked) by.brought name from to) old.core.fleet new.core.fleet
      call_each (call.Read read) begins by = caches_so _ _ old.core.fleet new.core.fleet
          (λ name from to at. record { far = λ away. at.far (away_of (call.Read read) begins name away); near = at.near }) by.each
      call_each (call.Write write) begins by = caches_so _ _ old.core.fleet new.core.fleet
          (λ name from to at. record { far = λ away. at.far (away_of (call.Write write) begins name away); near = at.near }) by.each

      call_so : (asked : CheckedCall) → Begins asked → ByCall asked → LeavesAllItems tells (asks.Call asked) old new
      call_so (call.Read read) begins by =
          let each = call_each (call.Read read) begins by in
          record { brought = by.brought; are = by.are; leaders = each.leaders; followers = each.followers }
      call_so (call.Write write) begins by =
          let each = call_each (call.Write write) begins by in
          record { brought = by.brought; are = by.are; leaders = each.leaders; followers = each.followers }

      hold_each : (number : ℕ) (asked : CheckedCall) → Begins asked → (by : ByCall asked)
          → EachCache (λ name from to. LeavesItems old (asks.Plan (plan.Hold number asked)) by.brought name from to) old.core.fleet new.core.fleet
      hold_each number (call.Read read) begins by = caches_so _ _ old.core.fleet new.core.fleet
          (λ name from to at. record { far = λ away. at.far (away_of (call.Read read) begins name away); near = at.near }) by.each
      hold_each number (call.Write write) begins by = caches_so _ _ old.core.fleet new.core.fleet
          (λ name from to at. record { far = λ away. at.far (away_of (call.Write write) begins name away); near = at.near }) by.each

      hold_so : (number : ℕ) (asked : CheckedCall) → Begins asked → ByCall asked → LeavesAllItems tells (asks.Plan (plan.Hold number asked)) old new
      hold_so number (call.Read read) begins by =
          let each = hold_each number (call.Read read) begins by in
          record { brought = by.brought; are = by.are; leaders = each.leaders; followers = each.followers }
      hold_so number (call.Write write) begins by =
          let each = hold_each number (call.Write write) begins by in
          record { brought = by.brought; are = by.are; leaders = each.leaders; followers = each.followers }

    -- the plan that was begun is that of its session and follower
    begun_so : (asked : CheckedCall) (plan : HeldPlan) (begins : IsBegun s old.core.states old.core.sessions asked plan)
        → Begins begins.session begins.follower asked
    begun_so asked plan begins = record {
      session = begins.session;
      follower = begins.follower;
      found = begins.found;
      chosen = begins.chosen;
      plan_is = refl;
    }

    pub call_leaves : (asked : CheckedCall) (reply : Reply) → AnswersCall tells asked old reply new → LeavesAllItems tells (asks.Call asked) old new
    call_leaves asked reply (inl goes) =
        let begins = goes.begun in
        call_so begins.session begins.follower asked (begun_so asked goes.plan begins) (whole_by begins.session begins.follower asked goes.does.after
        (subst (λ p. CarriesOut rules p (world_of old) goes.does.after (world_of new)) begins.plan_is goes.does.carries))
    call_leaves asked reply (inr refuses) = none_brought tells (asks.Call asked) old new (no_change (asks.Call asked) old new refuses.same)

    -- the plan that was added is there
    added_at : (number : ℕ) (plan before : HeldPlan) (added : Plans) → AddsPlan number plan old.core.plans added → plan_at added number ≡ Some before
        → before ≡ plan
    added_at number plan before added adds stands =
        let there : plan_at added number ≡ Some plan =
        adds.sets number ∙ ap (λ b. if b then Some plan else plan_at old.core.plans number) (eq-eqb number number refl) in
        one_some _ _ (sym stands ∙ there)

    pub hold_leaves : (number : ℕ) (asked : CheckedCall) (reply : Reply) → AnswersHold tells number asked old reply new
        → LeavesAllItems tells (asks.Plan (plan.Hold number asked)) old new
    hold_leaves number asked reply (inl goes) =
        let begins = goes.begun in
        let steps = goes.steps in
        let same = added_at number goes.plan steps.before goes.added goes.adds steps.stands ∙ begins.plan_is in
        hold_so begins.session begins.follower number asked (begun_so asked goes.plan begins)
        (stage_by (begun_plan s begins.session begins.follower asked) steps.after
        (begun begins.session begins.follower asked)
        (subst (λ p. Advances rules p (world_of old) steps.after (world_of new)) same steps.steps))
    hold_leaves number asked reply (inr refuses) =
        none_brought tells (asks.Plan (plan.Hold number asked)) old new (no_change (asks.Plan (plan.Hold number asked)) old new refuses.same)

    pub advance_leaves : (number : ℕ) (reply : Reply) → AnswersAdvance tells number old reply new
        → LeavesAllItems tells (asks.Plan (plan.Advance number)) old new
    advance_leaves number reply steps =
        let ready = under_way steps.before (usable.plans.under_way number steps.before steps.stands) in
        let by = subst (λ o. LeavesByPlan tells o old new) (sym steps.stands) (stage_by steps.before steps.after ready steps.steps) in
        let each = caches_so (λ name from to. LeavesAtPlan old.core.states (plan_at old.core.plans number) by.brought name from to)
        (λ name from to. LeavesItems old (asks.Plan (plan.Advance number)) by.brought name from to) old.core.fleet new.core.fleet
        (λ name from to at. record { far = at.far; near = at.near }) by.each in
        record { brought = by.brought; are = by.are; leaders = each.leaders; followers = each.followers }

    -- ---- a refill

    module _ (node : NodeName) (goes_refill : Refill) (left : List (Named FollowerState))
        (takes : ChangesNode node (TakesRefill (Some goes_refill)) old.core.fleet.followers left) where
      abbrev mid : Fleet
      mid = record old.core.fleet { followers = left }

      -- each follower has its node as it was
      same_nodes : EachNode (λ name (from : FollowerState) (to : FollowerState). to.node ≡ from.node) old.core.fleet.followers left
      same_nodes = each_so (λ name from to. (to ≡ from) ⊎ ((name ≡ node) × TakesRefill (Some goes_refill) from to))
          (λ name from to. to.node ≡ from.node) old.core.fleet.followers left
          (λ name from to is. elim is [
            | inl same ↦ ap (λ (f : FollowerState). f.node) same
            | inr by ↦ ap (λ (f : FollowerState). f.node) by.1.1
          ]) (each_of_one (TakesRefill (Some goes_refill)) node old.core.fleet.followers left takes)

      taken_out : EachCache (λ name from to. to ≡ from) old.core.fleet mid
      taken_out = record {
        leaders = each_rests (λ name from to. to ≡ from) old.core.fleet.leaders old.core.fleet.leaders (λ name leader. refl) refl;
        followers = same_nodes;
      }

      -- and then the read leaves what isn't of its key
      after_refill : (near : NodeName → Type 0) (read : Key) → LeavesOthers near read mid new.core.fleet → LeavesOthers near read old.core.fleet new.core.fleet
      after_refill near read leaves = caches_then (λ name from to. to ≡ from) (λ name from to. HoldsAt near read name from to)
          (λ name from to. HoldsAt near read name from to) old.core.fleet mid new.core.fleet
          (λ name from between to same there. subst (λ (n : Node). HoldsAt near read name n to) same there) taken_out leaves

    pub refill_leaves : (node : NodeName) (reply : Reply) → AnswersRefill tells node old reply new
        → LeavesAllItems tells (asks.Cache (cache.Refill node)) old new
    refill_leaves node reply (inl goes) =
        let start : World = world_of (record old { core = record old.core { fleet = record old.core.fleet { followers = goes.left } } }) in
        let whole = whole_leaves rules _ goes.does.after start (world_of new) refl goes.does.carries in
        let key_read = query_key goes.refill.query in
        let near : NodeName → Type 0 = IsAtPlan old.core.states (Some (refill_plan s node goes.refill)) in
        let leaves = after_refill node goes.refill goes.left goes.takes near key_read whole in
        none_brought tells (asks.Cache (cache.Refill node)) old new
        (caches_so (λ name from to. HoldsAt near key_read name from to)
        (λ name from to. LeavesItems old (asks.Cache (cache.Refill node)) [] name from to) old.core.fleet new.core.fleet
        (λ name from to there. record {
          far = λ away. far_of near key_read name from to there (λ at. away (record { refill = goes.refill; left = goes.left; takes = goes.takes; at = at }));
          near = λ key none. near_of near key_read name from to there key (none goes.refill goes.left goes.takes);
        }) leaves)
    refill_leaves node reply (inr none) =
        none_brought tells (asks.Cache (cache.Refill node)) old new (no_change (asks.Cache (cache.Refill node)) old new none.same)

    -- ---- all lines

    cache_leaves : (asked : CheckedCache) (reply : Reply) → AnswersCache tells asked old reply new → LeavesAllItems tells (asks.Cache asked) old new
    cache_leaves (cache.Deliver node message) reply answers =
        none_brought tells (asks.Cache (cache.Deliver node message)) old new (deliver_leaves old new reply node message answers.0)
    cache_leaves (cache.Again node message) reply answers =
        none_brought tells (asks.Cache (cache.Again node message)) old new (again_leaves old new reply node message answers.0)
    cache_leaves (cache.Drop node message) reply answers =
        none_brought tells (asks.Cache (cache.Drop node message)) old new (loss_leaves old new reply node message answers.0)
    cache_leaves (cache.Refill node) reply answers = refill_leaves node reply answers
    cache_leaves (cache.Evict node key) reply answers =
        none_brought tells (asks.Cache (cache.Evict node key)) old new (evict_leaves old new reply node key answers.0)
    cache_leaves (cache.Show node key) reply answers =
        none_brought tells (asks.Cache (cache.Show node key)) old new (no_change (asks.Cache (cache.Show node key)) old new answers.1)
    cache_leaves (cache.Inbox node) reply answers =
        none_brought tells (asks.Cache (cache.Inbox node)) old new (no_change (asks.Cache (cache.Inbox node)) old new answers.1)

    store_leaves : (asked : CheckedStore) (reply : Reply) → AnswersStore tells asked old reply new → LeavesAllItems tells (asks.Store asked) old new
    store_leaves (store.Stream region shard position) reply answers = stream_leaves tells region shard position old new reply answers
    store_leaves (store.Trim region shard position) reply answers = trim_leaves tells region shard position old new reply answers
    store_leaves (store.Repair shard) reply answers = repair_leaves tells shard old new reply answers
    store_leaves store.Settle reply answers = settle_leaves tells old new after.goes.marks
    store_leaves (store.Audit read) reply answers =
        none_brought tells (asks.Store (store.Audit read)) old new
        (no_fleet (asks.Store (store.Audit read)) old new (ap (λ (m : Moment). m.core.fleet) answers.1))

    line_leaves : (asked : Result Checked Refusal) (reply : Reply) → AnswersAsked tells old asked reply new → KeepsAsked tells asked old new
    line_leaves (Err refused) reply answers = answers.1
    line_leaves (Ok (asks.Open session region tier)) reply answers =
        none_brought tells (asks.Open session region tier) old new
        (no_fleet (asks.Open session region tier) old new (ap (λ (m : Moment). m.core.fleet) answers.1))
    line_leaves (Ok (asks.Call asked)) reply answers = call_leaves asked reply answers
    line_leaves (Ok (asks.Plan (plan.Hold number asked))) reply answers = hold_leaves number asked reply answers
    line_leaves (Ok (asks.Plan (plan.Advance number))) reply answers = advance_leaves number reply answers
    line_leaves (Ok (asks.Cache asked)) reply answers = cache_leaves asked reply answers
    line_leaves (Ok (asks.Store asked)) reply answers = store_leaves asked reply answers
    line_leaves (Ok (asks.Link asked)) reply answers =
        none_brought tells (asks.Link asked) old new (link_leaves old new reply asked answers)
    line_leaves (Ok (asks.Health asked)) reply answers =
        none_brought tells (asks.Health asked) old new (health_leaves old new reply tells asked answers)

-- where there was no memory
wants_leaves : (tells : Bool) (asked : Result Checked Refusal) (old new : Moment) → new ≡ old → KeepsAsked tells asked old new
wants_leaves tells (Err refused) old new same = same
wants_leaves tells (Ok asked) old new same = none_brought tells asked old new (no_change asked old new same)

pub items_are_kept : LinesKeepItems
items_are_kept = record {
  items = λ tells old new request reply line. elim line.answers [
    | inl wants ↦ wants_leaves tells (asked_of old.core.settings old.core.sessions old.core.plans request) old new wants.same
    | inr answers ↦ line_leaves tells old new line.before line.after
        (asked_of old.core.settings old.core.sessions old.core.plans request) reply answers
  ];
}
