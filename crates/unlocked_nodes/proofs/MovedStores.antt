-- Jobs that were run and streams that were moved, while other nodes stand before the stores.
use Rattle.std.proofs.Common.{◌≡◌, ℕ, zero, suc, ◌≤◌, ◌<◌, Bool, List, [], ◌∷◌, IfErr, Result, Ok, Err, true, length, refl, ap, sym, subst, ◌∙◌, arith}
use Rattle.std.specs.List.{AllByRecursion}
use Rattle.std.proofs.Math.Nat.{le_refl}
use Rattle.std.proofs.lemmas.List.Elements.{All-from_recursion}
use Rattle.std.proofs.lemmas.Bool.Decides.{nat_tests}
use Rattle.std.specs.Prelude.{⊤, IsTrue, OnOk}
use Rattle.cache_items.specs.Node.{Node}
use Rattle.core_mail.specs.Inboxes.{AreEmpty, AreInboxesOf, HaveArrived, Inboxes}
use Rattle.core_model.specs.Fleet.{Fleet, named}
use Rattle.core_model.specs.Jobs.{far_shard}
use Rattle.core_model.specs.Messages.{IsOfStore}
use Rattle.core_model.specs.Pens.{Pens, Rise, pens_of}
use Rattle.core_model.specs.States.{AreStatesOf}
use Rattle.core_model.specs.Stores.{AreKeptIn, AreStoresOf, ComeToCuts, master_log, stores_in}
use Rattle.core_model.specs.declared.named.Named.{Named}
use Rattle.core_nodes.proofs.CatchSteps.{lengths_stay}
use Rattle.core_nodes.proofs.FleetBegins.{begun_consistent}
use Rattle.core_nodes.proofs.GrowingLemmas.{stays_stores, stores_in_turn}
use Rattle.core_nodes.proofs.StoreLemmas.{seen_stay}
use Rattle.core_nodes.specs.Beginning.{HaveBegun, MayStand}
use Rattle.core_nodes.specs.Outside.{Outside, outside}
use Rattle.core_nodes.specs.Settling.{IsLaterLink}
use Rattle.core_nodes.specs.declared.settling.SettleStop.{SettleStop}
use Rattle.core_nodes.specs.declared.settling.SettleStop.TheVariants as stop
use Rattle.core_repairs.specs.Repairs.{FailsToMerge, FailureHasCause, IsNotRepaired, RunsAll, SettlesLogs, StopsRun}
use Rattle.core_repairs.specs.Stops.{StopsAsRefused}
use Rattle.core_repairs.specs.Streams.{RunsStreams, StreamStopHasCause}
use Rattle.core_repairs.proofs.core_steps_lemmas.PostsLemmas.{posts_trans}
use Rattle.core_repairs.specs.core_steps.Posting.{CanPost, PostsOn}
use Rattle.core_repairs.specs.core_steps.World.{World, outside_of, world_with}
use Rattle.edge_repair.specs.declared.refusal.RepairRefusal.TheVariants.{LogFull}
use Rattle.follower_cache.specs.Seen.{FollowerState}
use Rattle.graph_model.proofs.Members.{AllPairs-from_recursion}
use Rattle.graph_model.specs.Told.{WhereTold}
use Rattle.maint_msg.specs.Maints.{SeenMaint}
use Rattle.replies.specs.declared.refusals.NodeRefused.TheVariants.{NoServer}
use Rattle.replies.specs.declared.refusals.Refusal.{Refusal}
use Rattle.replies.specs.declared.refusals.Refusal.TheVariants.{Memory, Node as OfNode, Store as OfStore}
use Rattle.replies.specs.declared.refusals.StoreRefused.TheVariants as refused
use Rattle.replies.specs.declared.refusals.UnsettledWhy.TheVariants as why
use Rattle.shard_log.specs.View.{Begins, Grows, View}
use Rattle.shard_tables.specs.StoreView.{Store}
use Rattle.tao_base.specs.declared.entry.Entry.{Entry}
use Rattle.tao_keeper.proofs.Later.{later_trans}
use Rattle.tao_keeper.specs.KeeperState.{IsLater, KeeperState, KeepsTables}
use Rattle.tao_keeper.specs.Table.{Stays, Tables}
use Rattle.tao_link.specs.Shown.{LinkShown}
use Rattle.tao_schema.specs.Schema.{types_of}
use Rattle.topology.specs.Config.{Settings}
use Rattle.topology.specs.Named.{in_range}
use Rattle.topology.specs.States.{NodeStates, all_up}
use Rattle.write_model.specs.Machine.{ComesBefore, Settles}
use Rattle.write_model.specs.Merges.{Stores}
use Rattle.unlocked_nodes.specs.Settling.{HasStopCause, MeetsFullLog, MovesStores, RestsWhole, stores_now}

-- ---- why jobs stop

module _ (tells : Bool) (s : Settings) (old between new : World) (shard : ℕ) (here : shard < s.shards) where
  full_at : (count : ℕ) → FailsToMerge tells s shard (LogFull count) between new → MeetsFullLog tells s shard (outside_of new)
  full_at count fails = record {
    job = fails.job;
    count = count;
    before = outside fails.found between.link;
    first = fails.finds.first;
    merges = fails.merges;
    full = λ told. subst (λ (t : Tables). s.log_max ≤ length (master_log s t (far_shard fails.job))) (λ i at. sym (fails.merges.1 told at) i)
        (fails.merges.0 told).full;
  }

  cause_of : (refusal : Refusal) (given : SettleStop) → StopsAsRefused shard refusal given → IsNotRepaired tells s shard refusal between new
      → FailureHasCause refusal old new → HasStopCause tells s given (outside_of old) (outside_of new)
  cause_of (OfStore (refused.KeeperFault count)) given is stops cause =
      subst (λ g. HasStopCause tells s g (outside_of old) (outside_of new)) (sym is) (here, cause)
  cause_of (OfStore (refused.LinkFault count when)) given is stops cause =
      subst (λ g. HasStopCause tells s g (outside_of old) (outside_of new)) (sym is) (here, cause)
  cause_of (OfStore (refused.LogFull count)) given is stops cause =
      subst (λ g. HasStopCause tells s g (outside_of old) (outside_of new)) (sym is) (here, full_at count stops)
  cause_of (OfNode (NoServer region)) given is stops cause =
      subst (λ g. HasStopCause tells s g (outside_of old) (outside_of new)) (sym is)
      (record { job = stops.1.job; first = stops.1.finds.first; nowhere = stops.1.nowhere })
  cause_of (Memory position) given is stops cause = subst (λ g. HasStopCause tells s g (outside_of old) (outside_of new)) (sym is) tt
  cause_of refusal given is stops cause = absurd is

-- a stream stops at a shard of the configuration, with its cause
stream_cause : (tells : Bool) (s : Settings) (old new : World) (shard : ℕ) (refusal : Refusal) (given : SettleStop) → shard < s.shards
    → StopsAsRefused shard refusal given → StreamStopHasCause given old new → HasStopCause tells s given (outside_of old) (outside_of new)
stream_cause tells s old new shard (OfStore (refused.KeeperFault count)) given here is cause =
    subst (λ g. HasStopCause tells s g (outside_of old) (outside_of new)) (sym is) (here, subst (λ g. StreamStopHasCause g old new) is cause)
stream_cause tells s old new shard (OfStore (refused.LinkFault count when)) given here is cause =
    subst (λ g. HasStopCause tells s g (outside_of old) (outside_of new)) (sym is) (here, subst (λ g. StreamStopHasCause g old new) is cause)
stream_cause tells s old new shard (OfStore (refused.LogFull count)) given here is cause =
    absurd (subst (λ g. StreamStopHasCause g old new) is cause)
stream_cause tells s old new shard (OfNode (NoServer region)) given here is cause = absurd (subst (λ g. StreamStopHasCause g old new) is cause)
stream_cause tells s old new shard (Memory position) given here is cause =
    subst (λ g. HasStopCause tells s g (outside_of old) (outside_of new)) (sym is) tt
stream_cause tells s old new shard refusal given here is cause = absurd is

-- a cause is one from an earlier moment on too
pub earlier_cause : (tells : Bool) (s : Settings) (old mid new : Outside) (given : SettleStop) → IsLater old.keepers mid.keepers
    → IsLaterLink old.link mid.link → HasStopCause tells s given mid new → HasStopCause tells s given old new
earlier_cause tells s old mid new (stop.Unsettled shard why.KeeperFault) later link is =
    (is.0, (let p = later.faults in let q = is.1 in grind (arith, p, q)))
earlier_cause tells s old mid new (stop.Unsettled shard why.LinkFault) later link is = (is.0, (let p = link.faults in let q = is.1 in grind (arith, p, q)))
earlier_cause tells s old mid new (stop.Unsettled shard why.LogFull) later link is = is
earlier_cause tells s old mid new (stop.NoServer shard) later link is = is
earlier_cause tells s old mid new stop.OutOfMemory later link is = tt

-- ---- nothing

-- a log begins itself
pub whole_grows : (v : View) → Grows v v
whole_grows v = record { log_is = refl; begins = whole v.entries }
  where
    whole : (log : List Entry) → Begins log log
    whole [] = refl
    whole (e ∷ es) = ap (λ l. e ∷ l) (whole es)

-- where no table changed no job was merged
pub settles_none : (s : Settings) (old new : Tables) → Stays old new → SettlesLogs s old new
settles_none s old new stays =
    subst (λ (t : Tables). SettlesLogs s old t) (λ i at. sym (stays at) i) (record {
      jobs = [];
      open_jobs = All-from_recursion _ [] tt;
      in_order = AllPairs-from_recursion ComesBefore [] tt;
      merges = refl;
    })

-- stores are a core's over tables that stay
pub stores_stay : (tells : Bool) (s : Settings) (old new : Tables) (stores : List Store) → WhereTold tells (Stays old new) → AreStoresOf tells s old stores
    → AreStoresOf tells s new stores
stores_stay tells s old new stores stays are = record {
  configured = are.configured;
  kept = λ told. subst (AreKeptIn s) (same told) (are.kept told);
  cuts = λ told. subst (ComeToCuts s) (same told) (are.cuts told);
  seen = seen_stay tells old new stores are.seen stays;
  follow = are.follow;
}
  where
    same : tells ≡ true → old ≡ new
    same told = λ i at. sym (stays told at) i

-- ---- both

moves_by : (tells : Bool) (s : Settings) (old new : World) → PostsOn tells s old new → WhereTold tells (SettlesLogs s old.keepers.told new.keepers.told)
    → MovesStores tells s (stores_now old.fleet.stores (outside_of old)) (stores_now new.fleet.stores (outside_of new))
moves_by tells s old new on settles = record {
  stores = on.consistent.stores;
  rise = on.goes.rise;
  grows = on.grows;
  settles = settles;
  later = on.later;
  link = on.link;
}

-- what came of it
pub record MovesBoth (tells : Bool) (s : Settings) (result : Result ⊤ SettleStop) (old new : World) : Type 0 where
  pub moves : MovesStores tells s (stores_now old.fleet.stores (outside_of old)) (stores_now new.fleet.stores (outside_of new))
  pub rests : WhereTold tells (OnOk result (RestsWhole s new.keepers.told))
  pub cause : IfErr result (λ given. HasStopCause tells s given (outside_of old) (outside_of new))

-- the jobs stopped
pub jobs_stop : (tells : Bool) (s : Settings) (given : SettleStop) (old new : World) → StopsRun tells s given old new → PostsOn tells s old new
    → MovesBoth tells s (Err given) old new
jobs_stop tells s given old new stops on = record {
  moves = moves_by tells s old new on stops.settles;
  rests = λ told. tt;
  cause = cause_of tells s old stops.between new stops.shard stops.here stops.refusal given stops.given_is stops.stops stops.cause;
}

-- the jobs were run, and the streams were moved or stopped
pub streams_come : (tells : Bool) (s : Settings) (result : Result ⊤ SettleStop) (old mid new : World) → RunsAll tells s old mid → PostsOn tells s old mid
    → RunsStreams tells s result mid new → PostsOn tells s mid new → MovesBoth tells s result old new
streams_come tells s (Ok done) old mid new runs first streams second = record {
  moves = moves_by tells s old new (posts_trans tells s old mid new first second) (λ told.
      subst (λ (x : Stores). Settles (types_of s.schema) (stores_in s old.keepers.told) x.logs) (sym (streams.shards told)) (runs.settles told));
  rests = λ told. record {
    none = λ shard position. ap (λ (x : Stores). x.job shard position) (streams.shards told) ∙ runs.none told shard position;
    whole = streams.whole told;
  };
  cause = tt;
}
streams_come tells s (Err given) old mid new runs first stops second = record {
  moves = moves_by tells s old new (posts_trans tells s old mid new first second) (λ told.
      subst (λ (x : Stores). Settles (types_of s.schema) (stores_in s old.keepers.told) x.logs) (sym (stops.shards told)) (runs.settles told));
  rests = λ told. tt;
  cause = earlier_cause tells s (outside_of old) (outside_of mid) (outside_of new) given first.later first.link
      (stream_cause tells s mid new stops.at.shard stops.refusal given stops.slave.here.shard stops.given_is stops.cause);
}

-- keepers were only read
pub moves_none : (tells : Bool) (s : Settings) (stores left : List Store) (old new : KeeperState) (link : LinkShown) → left ≡ stores
    → AreStoresOf tells s old.told stores → KeepsTables tells old new → IsLater old new
    → MovesStores tells s (stores_now stores (outside old link)) (stores_now left (outside new link))
moves_none tells s stores left old new link same are stays later =
    subst (λ xs. MovesStores tells s (stores_now stores (outside old link)) (stores_now xs (outside new link))) (sym same) (record {
      stores = stores_stay tells s old.told new.told stores stays are;
      rise = λ shard. whole_grows (pens_of stores shard);
      grows = stays_stores tells s old new stays;
      settles = λ told. settles_none s old.told new.told (stays told);
      later = later;
      link = record { carries = le_refl link.carries; faults = le_refl link.faults; cuts = refl };
    })

-- they were moved, after keepers were only read
pub moves_after : (tells : Bool) (s : Settings) (stores left end : List Store) (old mid : KeeperState) (link : LinkShown) (new : Outside) → left ≡ stores
    → KeepsTables tells old mid → IsLater old mid → MovesStores tells s (stores_now left (outside mid link)) (stores_now end new)
    → MovesStores tells s (stores_now stores (outside old link)) (stores_now end new)
moves_after tells s stores left end old mid link new same stays later moves = record {
  stores = moves.stores;
  rise = subst (λ xs. Rise (pens_of xs) (pens_of end)) same moves.rise;
  grows = stores_in_turn tells s old.told mid.told new.keepers.told (stays_stores tells s old mid stays) moves.grows;
  settles = λ told. subst (λ (t : Tables). SettlesLogs s t new.keepers.told) (λ i at. stays told at i) (moves.settles told);
  later = later_trans old mid new.keepers later moves.later;
  link = moves.link;
}

-- ---- what stands in for the nodes

-- nodes stand before stores on, while keepers are only read
pub stand_stays : (tells : Bool) (s : Settings) (old new : Tables) (stores : List Store) (leaders : List (Named Node)) (followers : List (Named FollowerState))
    → WhereTold tells (Stays old new) → MayStand tells s old stores leaders followers → MayStand tells s new stores leaders followers
stand_stays tells s old new stores leaders followers stays stand = record {
  lengths = stand.lengths;
  are = lengths_stay tells s old new stand.lengths stays stand.are;
  begun = stand.begun;
}

-- inboxes in which no message waits have no message to which a store hasn't come
none_arrive : (tables : Tables) (inboxes : Inboxes) → AreEmpty inboxes → HaveArrived tables inboxes
none_arrive tables [] empty place name waiting at = absurd (cc)
none_arrive tables (i ∷ is) empty zero name waiting at =
    let same : i ≡ named name waiting = cc in
    let none : waiting ≡ [] = ap (λ (n : Named (List SeenMaint)). n.node) (sym same) ∙ empty.0 in
    subst (λ ms. AllByRecursion (IsOfStore tables name) ms) (sym none) tt
none_arrive tables (i ∷ is) empty (suc place) name waiting at = none_arrive tables is empty.1 place name waiting at

-- they may do what writes and repairs do
pub may_post : (tells : Bool) (s : Settings) (f : Fleet) (inboxes : Inboxes) (states : NodeStates) (keepers : KeeperState) (link : LinkShown)
    → HaveBegun tells s keepers.told f.stores f → AreStoresOf tells s keepers.told f.stores → ((pens : Pens) → AreInboxesOf s pens inboxes) → AreEmpty inboxes
    → states ≡ all_up s → CanPost tells s (world_with f inboxes states keepers link)
may_post tells s f inboxes states keepers link begun are of_pens empty up = record {
  consistent = begun_consistent tells s keepers.told f.stores f begun are;
  inboxes = of_pens (pens_of f.stores);
  arrived = λ told. none_arrive keepers.told inboxes empty;
  states = subst (AreStatesOf s) (sym up) (record { regions = refl; masters = refl });
}

-- the nodes that stand in, before these stores
pub stand_before : (tells : Bool) (s : Settings) (tables : Tables) (stores : List Store) (leaders : List (Named Node)) (followers : List (Named FollowerState))
    (f : Fleet) → f.leaders ≡ leaders → f.followers ≡ followers → f.stores ≡ stores → MayStand tells s tables stores leaders followers
    → HaveBegun tells s tables f.stores f
stand_before tells s tables stores leaders followers f lead follow same stand = record {
  nodes = subst (λ xs. MayStand tells s tables xs f.leaders f.followers) (sym same)
      (subst (λ xs. MayStand tells s tables stores xs f.followers) (sym lead) (subst (MayStand tells s tables stores leaders) (sym follow) stand));
  stores_are = refl;
}

-- a configuration has a shard
pub some_shards : (n : ℕ) → IsTrue (in_range 1 64 n) → 1 ≤ n
some_shards n passes = grind (arith, nat_tests)

-- between stores that are the same
pub moves_over : (tells : Bool) (s : Settings) (first start end last : List Store) (before after : Outside) → start ≡ first → last ≡ end
    → MovesStores tells s (stores_now start before) (stores_now end after) → MovesStores tells s (stores_now first before) (stores_now last after)
moves_over tells s first start end last before after from to moves =
    subst (λ xs. MovesStores tells s (stores_now xs before) (stores_now last after)) from
    (subst (λ xs. MovesStores tells s (stores_now start before) (stores_now xs after)) (sym to) moves)
