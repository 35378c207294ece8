-- Each refusal of a line that is of no call has its cause.
use Rattle.std.proofs.Common.{◌≡◌, ◌∙◌, ℕ, ◌<◌, ◌≤◌, Bool, true, false, Option, Some, None, Result, Ok, Err, refl, sym, ap, subst, inl, inr, arith}
use Rattle.std.specs.Prelude.{◌⊎◌}
use Rattle.core_model.specs.Fleet.{ChangesNode, region_of}
use Rattle.core_model.specs.Jobs.{IsFirstJobOf, job_on}
use Rattle.core_model.specs.Messages.{TakesRefill}
use Rattle.core_model.specs.Stores.{region_store}
use Rattle.core_nodes.specs.Outside.{outside}
use Rattle.core_nodes.specs.Repairs.{FindsNoRoom, MergesFar}
use Rattle.core_nodes.specs.Settling.{StopsCatchUp, StopsLengths}
use Rattle.core_nodes.specs.declared.settling.SettleStop.{SettleStop}
use Rattle.core_nodes.specs.declared.settling.SettleStop.TheVariants as stop
use Rattle.core_plans.specs.HeldReads.{at_bound}
use Rattle.core_plans.specs.declared.held.HeldPlan.TheVariants as of
use Rattle.tao_core.specs.core_repairs.Repairs.{FailsToMerge, FailureHasCause, IsNotRepaired, RepairsFirst}
use Rattle.tao_core.specs.core_repairs.Stops.{StopsAsRefused}
use Rattle.tao_core.specs.core_repairs.Streams.{StreamStopHasCause}
use Rattle.tao_core.specs.core_repairs.declared.repairs.Ran.{Ran}
use Rattle.core_steps.specs.Replies.{refilled_as}
use Rattle.core_steps.specs.ReadSteps.{AskFails}
use Rattle.core_steps.specs.Streams.{FailsToTake, RefusesStream, StreamsOver}
use Rattle.core_steps.specs.World.{World}
use Rattle.counts.proofs.Rises.{Rose-earlier}
use Rattle.counts.specs.Count.{Rose}
use Rattle.edge_repair.specs.declared.refusal.RepairRefusal.TheVariants as why_not
use Rattle.graph_model.specs.Told.{WhereTold}
use Rattle.node_name.specs.declared.NodeName.{NodeName}
use Rattle.read_plan.specs.Readings.{new_reading}
use Rattle.replies.specs.declared.calls.CallReply.TheVariants as called
use Rattle.replies.specs.declared.nodes.Streamed.{Streamed}
use Rattle.replies.specs.declared.refusals.NodeRefused.TheVariants.{IsMaster, NoEntry, NoMessage, NoRefill, NoServer}
use Rattle.replies.specs.declared.refusals.Refusal.{Refusal}
use Rattle.replies.specs.declared.refusals.Refusal.TheVariants.{Memory, Node, Store}
use Rattle.replies.specs.declared.refusals.StoreRefused.TheVariants.{KeeperFault, LinkFault, LogFull}
use Rattle.replies.specs.declared.refusals.UnsettledWhy.{UnsettledWhy}
use Rattle.replies.specs.declared.refusals.UnsettledWhy.TheVariants as why
use Rattle.replies.specs.declared.reply.Reply.{Reply}
use Rattle.replies.specs.declared.reply.Reply.TheVariants.{Called, Refused}
use Rattle.request_check.specs.declared.caches.CheckedCache.{CheckedCache}
use Rattle.request_check.specs.declared.caches.CheckedCache.TheVariants as cache
use Rattle.request_check.specs.declared.checked.Checked.{Checked}
use Rattle.request_check.specs.declared.checked.Checked.TheVariants as asked
use Rattle.request_check.specs.declared.health.CheckedHealth.{CheckedHealth}
use Rattle.request_check.specs.declared.health.CheckedHealth.TheVariants as health
use Rattle.request_check.specs.declared.links.CheckedLink.{CheckedLink}
use Rattle.request_check.specs.declared.links.CheckedLink.TheVariants as link
use Rattle.request_check.specs.declared.stores.CheckedStore.{CheckedStore}
use Rattle.request_check.specs.declared.stores.CheckedStore.TheVariants as store
use Rattle.requests.specs.declared.request.Request.{Request}
use Rattle.tao_core.specs.CacheReplies.{AnswersCache}
use Rattle.tao_core.specs.Calls.{world_of}
use Rattle.tao_core.specs.Core.{Moment, WantsMemory, outside_at}
use Rattle.tao_core.specs.Deliveries.{HasNoRefill, RefillGoes, home_tier}
use Rattle.tao_core.specs.HeldCalls.{DoesAtOnce}
use Rattle.tao_core.specs.Health.{AnswersHealth, AnswersTrust, AnswersUp}
use Rattle.tao_core.specs.LinkReplies.{AnswersLink}
use Rattle.tao_core.specs.core_repairs.Stops.{unsettled_as}
use Rattle.tao_core.specs.Settling.{AnswersRepair, HasRunJobs, HasStreamed, IsUnsettled, repaired_as}
use Rattle.tao_core.specs.StoreReplies.{AnswersStore}
use Rattle.tao_core.specs.Streams.{AnswersStream, asked_stream, streamed_as}
use Rattle.tao_core.specs.Trims.{AnswersTrim}
use Rattle.tao_keeper.specs.KeeperState.{KeeperState, KeepsTables}
use Rattle.topology.specs.Config.{Settings}
use Rattle.topology.specs.States.{is_up}
use Rattle.headline_kept.specs.Causes.{FindsFull, HasCause, HasNoRefills, OwesNowhere, StopCause}
use Rattle.headline_kept.specs.Histories.{stops_settle}
use Rattle.headline_kept.specs.Standing.{Asks, StandsWhen}
use Rattle.headline_kept.proofs.CallCauses.{NoneDown, read_at_once, read_cause}
use Rattle.headline_kept.proofs.NotAsked.{may_write}

-- the refusal has its cause, and where nothing may have been written no table changed
pub record RefusesAs (tells : Bool) (old : Moment) (request : Request) (what : Checked) (refusal : Refusal) (new : Moment) : Type 0 where
  pub cause : HasCause tells old request refusal new
  pub same : may_write what refusal ≡ false → KeepsTables tells old.keepers new.keepers

module _ (tells : Bool) (old : Moment) (request : Request) (new : Moment) where
  abbrev s : Settings
  s = old.core.settings

  abbrev Now : Refusal → Type 0
  Now refusal = HasCause tells old request refusal new

  -- there was no memory before anything was done
  wants : (position : ℕ) → position ≡ 0 → Now (Memory position)
  wants position is = subst (λ n. Now (Memory n)) (sym is) tt

  -- nothing changed but the core
  kept : (mid : Moment) → new ≡ mid → mid.keepers ≡ old.keepers → KeepsTables tells old.keepers new.keepers
  kept mid rest same told at = ap (λ (m : Moment). m.keepers.told at) rest ∙ ap (λ (k : KeeperState). k.told at) same

  -- ---- messages and refills

  module _ (what : Checked) (asks : Asks old request what) where
    by : (refusal : Refusal) → Now refusal → KeepsTables tells old.keepers new.keepers → RefusesAs tells old request what refusal new
    by refusal cause same = record { cause = cause; same = λ small. same }

  deliver_line : (node : NodeName) (place : ℕ) (refusal : Refusal) → Asks old request (asked.Cache (cache.Deliver node place))
      → AnswersCache tells (cache.Deliver node place) old (Refused refusal) new
      → RefusesAs tells old request (asked.Cache (cache.Deliver node place)) refusal new
  deliver_line node place (Node (NoMessage told)) asks h = by _ asks _ (_, asks, (h.0.0, h.0.1)) (kept _ h.1 refl)
  deliver_line node place refusal asks h = absurd h.0

  again_line : (node : NodeName) (place : ℕ) (refusal : Refusal) → Asks old request (asked.Cache (cache.Again node place))
      → AnswersCache tells (cache.Again node place) old (Refused refusal) new
      → RefusesAs tells old request (asked.Cache (cache.Again node place)) refusal new
  again_line node place (Node (NoMessage told)) asks h = by _ asks _ (_, asks, (h.0.0, h.0.1)) (kept _ h.1 refl)
  again_line node place (Memory position) asks h = by _ asks _ (wants position h.0.0) (kept _ h.1 refl)
  again_line node place refusal asks h = absurd h.0

  drop_line : (node : NodeName) (place : ℕ) (refusal : Refusal) → Asks old request (asked.Cache (cache.Drop node place))
      → AnswersCache tells (cache.Drop node place) old (Refused refusal) new
      → RefusesAs tells old request (asked.Cache (cache.Drop node place)) refusal new
  drop_line node place (Node (NoMessage told)) asks h = by _ asks _ (_, asks, (h.0.0, h.0.1)) (kept _ h.1 refl)
  drop_line node place refusal asks h = absurd h.0

  show_line : (node : NodeName) (key : _) (refusal : Refusal) → Asks old request (asked.Cache (cache.Show node key))
      → AnswersCache tells (cache.Show node key) old (Refused refusal) new
      → RefusesAs tells old request (asked.Cache (cache.Show node key)) refusal new
  show_line node key (Memory position) asks h = by _ asks _ (wants position h.0) (kept _ h.1 refl)
  show_line node key refusal asks h = absurd h.0

  inbox_line : (node : NodeName) (refusal : Refusal) → Asks old request (asked.Cache (cache.Inbox node))
      → AnswersCache tells (cache.Inbox node) old (Refused refusal) new → RefusesAs tells old request (asked.Cache (cache.Inbox node)) refusal new
  inbox_line node (Memory position) asks h = by _ asks _ (wants position h.0) (kept _ h.1 refl)
  inbox_line node refusal asks h = absurd h.0

  -- the read of a refill
  refilled : (refusal : Refusal) (read : Reply) → Refused refusal ≡ refilled_as read → read ≡ Refused refusal
  refilled refusal (Called (called.Read reply)) is = absurd (cc)
  refilled refusal reply is = sym is

  refill_line : (node : NodeName) (refusal : Refusal) → Asks old request (asked.Cache (cache.Refill node))
      → RefillGoes tells node old (Refused refusal) new ⊎ HasNoRefill node old (Refused refusal) new
      → RefusesAs tells old request (asked.Cache (cache.Refill node)) refusal new
  refill_line node refusal asks (inl goes) =
      let mid = record old { core = record old.core { fleet = record old.core.fleet { followers = goes.left } } } in
      let p = at_bound s (new_reading goes.refill.query (region_of node) (home_tier node) goes.refill.floor false node) in
      let out = read_at_once tells mid new refusal p (record { at = refl; hops = refl; store = refl }) goes.up
      (subst (λ r. DoesAtOnce tells (of.Read p) mid r new) (refilled refusal goes.read goes.reply_is) goes.does) in
      by _ asks refusal (read_cause tells old request _ new asks NoneDown (λ node when h. absurd h) refusal out.0) out.1
  refill_line node refusal asks (inr none) =
      let said = none.reply_is in
      let is : refusal ≡ Node (NoRefill node) = cc in
      by _ asks refusal (subst Now (sym is) (_, asks, (refl, no_refills none.none))) (kept _ none.same refl)
    where
      no_refills : (is_up old.core.states node ≡ false) ⊎ ChangesNode node (TakesRefill None) old.core.fleet.followers new.core.fleet.followers
          → (is_up old.core.states node ≡ false) ⊎ HasNoRefills node old.core.fleet
      no_refills (inl down) = inl down
      no_refills (inr takes) = inr (record { follower = takes.from; is = (takes.place, takes.first, takes.stands); none = takes.by.0 })

  -- a line of a cache node
  pub cache_line : (made : CheckedCache) (refusal : Refusal) → Asks old request (asked.Cache made) → AnswersCache tells made old (Refused refusal) new
      → RefusesAs tells old request (asked.Cache made) refusal new
  cache_line (cache.Deliver node place) refusal asks h = deliver_line node place refusal asks h
  cache_line (cache.Again node place) refusal asks h = again_line node place refusal asks h
  cache_line (cache.Drop node place) refusal asks h = drop_line node place refusal asks h
  cache_line (cache.Refill node) refusal asks h = refill_line node refusal asks h
  cache_line (cache.Evict node key) refusal asks h = absurd h.0
  cache_line (cache.Show node key) refusal asks h = show_line node key refusal asks h
  cache_line (cache.Inbox node) refusal asks h = inbox_line node refusal asks h

  -- ---- links

  pub link_line : (made : CheckedLink) (refusal : Refusal) → Asks old request (asked.Link made) → AnswersLink made old (Refused refusal) new
      → RefusesAs tells old request (asked.Link made) refusal new
  link_line (link.Cut place) (Memory position) asks h = by _ asks _ (wants position h.0) (kept _ h.1 refl)
  link_line (link.Mend place) (Memory position) asks h = by _ asks _ (wants position h.0) (kept _ h.1 refl)
  link_line (link.Cut place) refusal asks h = absurd h
  link_line (link.Mend place) refusal asks h = absurd h

  -- ---- health

  -- a keeper failed, or there was no memory
  ask_fails : (what : Checked) (refusal : Refusal) → Asks old request what → AskFails refusal old.keepers new.keepers → Now refusal
  ask_fails what (Store (KeeperFault count)) asks h = (what, asks, h)
  ask_fails what (Memory position) asks h = wants position h
  ask_fails what refusal asks h = absurd h

  wants_line : (what : Checked) (refusal : Refusal) → Asks old request what → WantsMemory old (Refused refusal) new
      → RefusesAs tells old request what refusal new
  wants_line what refusal asks w =
      let said = w.reply_is in
      let is : refusal ≡ Memory 0 = cc in
      by what asks refusal (subst Now (sym is) tt) (kept _ w.same refl)

  up_line : (node : NodeName) (refusal : Refusal) → Asks old request (asked.Health (health.Up node)) → AnswersUp tells node old (Refused refusal) new
      → RefusesAs tells old request (asked.Health (health.Up node)) refusal new
  up_line node refusal asks (inl comes) = (let said = comes.reply_is in absurd (cc))
  up_line node refusal asks (inr (inl is)) = (let said = is.so.reply_is in absurd (cc))
  up_line node refusal asks (inr (inr stays)) =
      let said = stays.reply_is in
      let is : stays.refusal ≡ refusal = cc in
      by _ asks refusal (subst Now is (ask_fails _ stays.refusal asks stays.fails)) stays.tables

  trust_line : (what : Checked) (word : _) (trusted : Bool) (place : _) (refusal : Refusal) → AnswersTrust word trusted place old (Refused refusal) new
      → RefusesAs tells old request what refusal new
  trust_line what word trusted place refusal (inl changes) = (let said = changes.reply_is in absurd (cc))
  trust_line what word trusted place refusal (inr so) = (let said = so.so.reply_is in absurd (cc))

  pub health_line : (made : CheckedHealth) (refusal : Refusal) → Asks old request (asked.Health made) → AnswersHealth tells made old (Refused refusal) new
      → RefusesAs tells old request (asked.Health made) refusal new
  health_line (health.Down node) refusal asks (inl goes) = (let said = goes.reply_is in absurd (cc))
  health_line (health.Down node) refusal asks (inr (inl is)) = (let said = is.so.reply_is in absurd (cc))
  health_line (health.Down node) refusal asks (inr (inr w)) = wants_line _ refusal asks w
  health_line (health.Up node) refusal asks h = up_line node refusal asks h
  health_line (health.Suspect place) refusal asks h = trust_line _ _ _ place refusal h
  health_line (health.Trust place) refusal asks h = trust_line _ _ _ place refusal h

  -- ---- streams

  module _ (region shard : ℕ) (position : Option ℕ) (asks : Asks old request (asked.Store (store.Stream region shard position))) where
    abbrev stream : Checked
    stream = asked.Store (store.Stream region shard position)

    stream_fails : (refusal : Refusal) → FailsToTake tells s (region_store region shard) refusal (world_of old) (world_of new)
        → RefusesAs tells old request stream refusal new
    stream_fails (Store (KeeperFault count)) h = by stream asks _ (stream, asks, (h.0, h.1)) h.2.same.tables
    stream_fails (Store (LinkFault count when)) h = by stream asks _
        (stream, asks, (h.0, h.2.rose, subst (StandsWhen tells s new.keepers.told None) (sym h.1) tt)) h.3.tables
    stream_fails (Memory position) h = by stream asks _ (wants position h.0) h.1.same.tables
    stream_fails refusal h = absurd h

    stream_refuses : (refusal : Refusal) → RefusesStream tells s (asked_stream region shard position) refusal (world_of old) (world_of new)
        → RefusesAs tells old request stream refusal new
    stream_refuses (Node (NoEntry count told)) h = by stream asks _ (stream, asks, (h.0, h.1)) h.2.tables
    stream_refuses (Store refused) h = stream_fails (Store refused) h
    stream_refuses (Memory position) h = stream_fails (Memory position) h
    stream_refuses refusal h = absurd h

    streamed : (outcome : Result Streamed Refusal) (refusal : Refusal) → Refused refusal ≡ streamed_as outcome → outcome ≡ Err refusal
    streamed (Ok it) refusal is = absurd (cc)
    streamed (Err r) refusal is = (let same : refusal ≡ r = cc in ap Err (sym same))

    pub stream_line : (refusal : Refusal) → AnswersStream tells (asked_stream region shard position) old (Refused refusal) new
        → RefusesAs tells old request stream refusal new
    stream_line refusal (inl master) =
        let said = master.reply_is in
        let is : refusal ≡ Node (IsMaster (region_store region shard)) = cc in
        by stream asks refusal (subst Now (sym is) (stream, asks, (refl, refl, master.master))) (kept _ master.same refl)
    stream_line refusal (inr into) =
        stream_refuses refusal
        (subst (λ o. StreamsOver tells s (asked_stream region shard position) o (world_of old) (world_of new))
        (streamed into.outcome refusal into.reply_is) into.streams)

  -- ---- trims

  pub trim_line : (region shard position : ℕ) (refusal : Refusal) → Asks old request (asked.Store (store.Trim region shard position))
      → AnswersTrim tells (region_store region shard) position old (Refused refusal) new
      → RefusesAs tells old request (asked.Store (store.Trim region shard position)) refusal new
  trim_line region shard position refusal asks (inl trims) = (let said = trims.reply_is in absurd (cc))
  trim_line region shard position refusal asks (inr fails) =
      let said = fails.reply_is in
      let is : fails.refusal ≡ refusal = cc in
      by _ asks refusal (subst Now is (ask_fails _ fails.refusal asks fails.fails)) fails.tables

-- ---- repairs and settles

-- the log at the other end of a job that was not merged is full still
pub finds_full : (tells : Bool) (s : Settings) (shard count : ℕ) (old new : World) → FailsToMerge tells s shard (why_not.LogFull count) old new
    → WhereTold tells (FindsFull s new.keepers shard count)
finds_full tells s shard count old new h told =
    let same : new.keepers.told ≡ h.found.told = λ i at. h.merges.1 told at i in
    let room = h.merges.0 told in
    record {
      job = h.job;
      first = subst (λ t. IsFirstJobOf s t (job_on shard h.job)) (sym same) (h.finds.first told);
      room = subst (λ t. FindsNoRoom s (job_on shard h.job) count (record new.keepers { told = t })) (sym same)
          (record { due = room.due; full = room.full; count_is = room.count_is });
    }

-- the carry of a job failed, there or back
link_fails : (tells : Bool) (s : Settings) (shard : ℕ) (old new : World) → FailsToMerge tells s shard why_not.LinkFault old new
    → Rose old.link.faults new.link.faults
link_fails tells s shard old new h = by h.merges
  where
    by : MergesFar tells s (job_on shard h.job) (Err why_not.LinkFault) (outside h.found old.link) (outside new.keepers new.link)
        → Rose old.link.faults new.link.faults
    by (inl there) = there.0.rose
    by (inr back) = back.0.rose

module _ (tells : Bool) (old : Moment) (request : Request) (new : Moment) where
  abbrev set : Settings
  set = old.core.settings

  abbrev Because : Refusal → Type 0
  Because refusal = HasCause tells old request refusal new

  module _ (shard : ℕ) (asks : Asks old request (asked.Store (store.Repair shard))) where
    abbrev repairs : Checked
    repairs = asked.Store (store.Repair shard)

    -- what a repair is refused as
    as_said : (refusal own : Refusal) → Refused refusal ≡ Refused own → RefusesAs tells old request repairs own new
        → RefusesAs tells old request repairs refusal new
    as_said refusal own is said =
        let same : own ≡ refusal = cc in
        subst (λ r. RefusesAs tells old request repairs r new) same said

    repair_fails : (refusal : Refusal) → IsNotRepaired tells set shard refusal (world_of old) (world_of new)
        → RefusesAs tells old request repairs refusal new
    repair_fails (Node (NoServer region)) h = record {
      cause = (repairs, asks, (h.0, record { job = h.1.job; first = h.1.finds.first; nowhere = h.1.nowhere }));
      same = λ small. h.1.asks.nodes.tables;
    }
    repair_fails (Store (KeeperFault count)) h = record { cause = (repairs, asks, (h.0, h.1)); same = λ small. absurd (cc) }
    repair_fails (Store (LinkFault count when)) h = record {
      cause = (
        repairs,
        asks,
        (
          h.0,
          link_fails tells set shard (world_of old) (world_of new) h.2,
          subst (StandsWhen tells set new.keepers.told None) (sym h.1) tt,
        ),
      );
      same = λ small. absurd (cc);
    }
    repair_fails (Store (LogFull count)) h = record {
      cause = (repairs, asks, finds_full tells set shard count (world_of old) (world_of new) h);
      same = λ small told at. h.merges.1 told at ∙ h.finds.tables told at;
    }
    repair_fails (Memory position) h = record { cause = subst (λ n. Because (Memory n)) (sym h.0) tt; same = λ small. absurd (cc) }
    repair_fails refusal h = absurd h

    repair_by : (outcome : Result (Option Ran) Refusal) (refusal : Refusal) → Refused refusal ≡ repaired_as outcome
        → RepairsFirst tells set shard outcome (world_of old) (world_of new) → RefusesAs tells old request repairs refusal new
    repair_by (Ok found) refusal is h = absurd (cc)
    repair_by (Err own) refusal is h = as_said refusal own is (repair_fails own h)

    repair_line : (refusal : Refusal) → AnswersRepair tells shard old (Refused refusal) new → RefusesAs tells old request repairs refusal new
    repair_line refusal h = repair_by h.outcome refusal h.reply_is h.repairs

  module _ (asks : Asks old request (asked.Store store.Settle)) where
    abbrev settles : Checked
    settles = asked.Store store.Settle

    abbrev Stopped : ℕ → UnsettledWhy → Type 0
    Stopped shard told = (shard < set.shards) × StopCause tells shard told old new

    -- it stopped at a job
    run_stops : (refusal : Refusal) (at shard : ℕ) (told : UnsettledWhy) (between : World) → at < set.shards
        → StopsAsRefused at refusal (stop.Unsettled shard told) → IsNotRepaired tells set at refusal between (world_of new)
        → FailureHasCause refusal (world_of old) (world_of new) → Stopped shard told
    run_stops (Node (NoServer region)) at shard told between here is h cause = absurd (cc)
    run_stops (Store (KeeperFault count)) at shard told between here is h cause =
        let same : shard ≡ at = cc in
        let why_is : told ≡ why.KeeperFault = cc in
        (subst (λ n. n < set.shards) (sym same) here, subst (λ w. StopCause tells shard w old new) (sym why_is) cause)
    run_stops (Store (LinkFault count when)) at shard told between here is h cause =
        let same : shard ≡ at = cc in
        let why_is : told ≡ why.LinkFault = cc in
        (subst (λ n. n < set.shards) (sym same) here, subst (λ w. StopCause tells shard w old new) (sym why_is) cause)
    run_stops (Store (LogFull count)) at shard told between here is h cause =
        let same : shard ≡ at = cc in
        let why_is : told ≡ why.LogFull = cc in (
          subst (λ n. n < set.shards) (sym same) here,
          subst (λ w. StopCause tells shard w old new) (sym why_is)
              (λ so. (count, subst (λ n. FindsFull set new.keepers n count) (sym same) (finds_full tells set at count between (world_of new) h so))),
        )
    run_stops (Memory position) at shard told between here is h cause = absurd (cc)
    run_stops refusal at shard told between here is h cause = absurd h

    -- or at a stream
    stream_shard : (refusal : Refusal) (at shard : ℕ) (told : UnsettledWhy) → StopsAsRefused at refusal (stop.Unsettled shard told) → shard ≡ at
    stream_shard (Store (KeeperFault count)) at shard told is = cc
    stream_shard (Store (LinkFault count when)) at shard told is = cc
    stream_shard (Store (LogFull count)) at shard told is = cc
    stream_shard (Node (NoServer region)) at shard told is = absurd (cc)
    stream_shard (Memory position) at shard told is = absurd (cc)
    stream_shard refusal at shard told is = absurd is

    stream_cause : (shard : ℕ) (told : UnsettledWhy) (ran : Moment) → HasRunJobs tells old ran
        → StreamStopHasCause (stop.Unsettled shard told) (world_of ran) (world_of new) → StopCause tells shard told old new
    stream_cause shard why.KeeperFault ran jobs cause = Rose-earlier _ _ _ jobs.keepers.faults cause
    stream_cause shard why.LinkFault ran jobs cause = Rose-earlier _ _ _ jobs.link.faults cause
    stream_cause shard why.LogFull ran jobs cause = absurd cause

    -- the counts before the streams were moved
    two_le : (a b c : ℕ) → a ≤ b → b ≤ c → a ≤ c
    two_le a b c p q = omega (arith, p, q)

    lengths_stop : (shard : ℕ) (told : UnsettledWhy) (ran streamed : Moment) → HasRunJobs tells old ran → HasStreamed tells ran streamed
        → StopsLengths set streamed.keepers new.keepers (stop.Unsettled shard told) → Stopped shard told
    lengths_stop shard why.KeeperFault ran streamed jobs streams is =
        (is.0, Rose-earlier _ _ _ (two_le _ _ _ jobs.keepers.faults streams.keepers.faults) is.1)
    lengths_stop shard why.LinkFault ran streamed jobs streams is = absurd is
    lengths_stop shard why.LogFull ran streamed jobs streams is = absurd is

    node_stops : (shard : ℕ) (told : UnsettledWhy) (ran streamed : Moment) → HasRunJobs tells old ran → HasStreamed tells ran streamed
        → StopsCatchUp set (outside_at streamed) (outside_at new) (stop.Unsettled shard told) → Stopped shard told
    node_stops shard why.KeeperFault ran streamed jobs streams is =
        (is.0, Rose-earlier _ _ _ (two_le _ _ _ jobs.keepers.faults streams.keepers.faults) is.1)
    node_stops shard why.LinkFault ran streamed jobs streams is =
        (is.0, Rose-earlier _ _ _ (two_le _ _ _ jobs.link.faults streams.link.faults) is.1)
    node_stops shard why.LogFull ran streamed jobs streams is = absurd is

    unsettled : (shard : ℕ) (told : UnsettledWhy) → IsUnsettled tells (stop.Unsettled shard told) old new → Stopped shard told
    unsettled shard told (inl h) = run_stops h.stops.refusal h.stops.shard shard told h.stops.between h.stops.here h.stops.given_is h.stops.stops h.stops.cause
    unsettled shard told (inr (inl h)) = (
      subst (λ n. n < set.shards) (sym (stream_shard h.stops.refusal h.stops.at.shard shard told h.stops.given_is)) h.stops.slave.here.shard,
      stream_cause shard told h.ran h.jobs h.stops.cause,
    )
    unsettled shard told (inr (inr (inl h))) = lengths_stop shard told h.ran h.streamed h.jobs h.streams h.stops
    unsettled shard told (inr (inr (inr h))) = node_stops shard told h.ran h.streamed h.jobs h.streams h.stops

    -- a job has no other end
    run_nowhere : (refusal : Refusal) (at shard : ℕ) (between : World) → StopsAsRefused at refusal (stop.NoServer shard)
        → IsNotRepaired tells set at refusal between (world_of new) → OwesNowhere tells set new.keepers.told shard
    run_nowhere (Node (NoServer region)) at shard between is h =
        let same : shard ≡ at = cc in
        subst (OwesNowhere tells set new.keepers.told) (sym same) (record { job = h.1.job; first = h.1.finds.first; nowhere = h.1.nowhere })
    run_nowhere (Store (KeeperFault count)) at shard between is h = absurd (cc)
    run_nowhere (Store (LinkFault count when)) at shard between is h = absurd (cc)
    run_nowhere (Store (LogFull count)) at shard between is h = absurd (cc)
    run_nowhere (Memory position) at shard between is h = absurd (cc)
    run_nowhere refusal at shard between is h = absurd h

    nowhere : (shard : ℕ) → IsUnsettled tells (stop.NoServer shard) old new → OwesNowhere tells set new.keepers.told shard
    nowhere shard (inl h) = run_nowhere h.stops.refusal h.stops.shard shard h.stops.between h.stops.given_is h.stops.stops
    nowhere shard (inr (inl h)) = absurd h.stops.cause
    nowhere shard (inr (inr (inl h))) = absurd h.stops
    nowhere shard (inr (inr (inr h))) = absurd h.stops

    settled_as : (refusal own : Refusal) → Refused refusal ≡ Refused own → Because own → stops_settle own ≡ true
        → RefusesAs tells old request settles refusal new
    settled_as refusal own is cause stops =
        let same : own ≡ refusal = cc in
        subst (λ r. RefusesAs tells old request settles r new) same (record { cause = cause; same = λ small. absurd (cc) })

    settle_by : (given : SettleStop) (refusal : Refusal) → Refused refusal ≡ unsettled_as old.core.states given → IsUnsettled tells given old new
        → RefusesAs tells old request settles refusal new
    settle_by (stop.Unsettled shard told) refusal is h = settled_as refusal _ is (settles, asks, unsettled shard told h) refl
    settle_by (stop.NoServer shard) refusal is h = settled_as refusal _ is (settles, asks, (shard, refl, nowhere shard h)) refl
    settle_by stop.OutOfMemory refusal is h = settled_as refusal _ is tt refl

  audit_line : (made : _) (refusal : Refusal) → Asks old request (asked.Store (store.Audit made))
      → AnswersStore tells (store.Audit made) old (Refused refusal) new → RefusesAs tells old request (asked.Store (store.Audit made)) refusal new
  audit_line made (Store (KeeperFault count)) asks h =
      record { cause = (_, asks, (h.0.count_is, h.0.rose)); same = λ small. h.0.tables }
  audit_line made (Memory position) asks h =
      record { cause = subst (λ n. Because (Memory n)) (sym h.0.position_is) tt; same = λ small. h.0.tables }
  audit_line made (Store refused) asks h = absurd h.0
  audit_line made refusal asks h = absurd h.0

  -- a line of a store
  pub store_line : (made : CheckedStore) (refusal : Refusal) → Asks old request (asked.Store made) → AnswersStore tells made old (Refused refusal) new
      → RefusesAs tells old request (asked.Store made) refusal new
  store_line (store.Stream region shard position) refusal asks h = stream_line tells old request new region shard position asks refusal h
  store_line (store.Trim region shard position) refusal asks h = trim_line tells old request new region shard position refusal asks h
  store_line (store.Repair shard) refusal asks h = repair_line shard asks refusal h
  store_line store.Settle refusal asks h = settle_by asks h.0 refusal h.1 h.2
  store_line (store.Audit made) refusal asks h = audit_line made refusal asks h
