-- The lines of stores: streams, trims, repairs, settles and audits.
use Rattle.std.proofs.Common.{◌≡◌, ◌∙◌, ℕ, Bool, true, false, List, [], ◌∷◌, Option, Some, None, Result, Ok, Err, refl, ap, inl, inr}
use Rattle.std.proofs.lemmas.Bool.{and_parts, cases_Bool, eqb-true}
use Rattle.std.specs.List.{AllByRecursion}
use Rattle.std.specs.Prelude.{MatchBool, ◌==◌}
use Rattle.cache_items.specs.Node.{Node}
use Rattle.core_model.specs.Consistent.{AllMarksGoOn}
use Rattle.core_model.specs.Emptied.{RegionTables}
use Rattle.core_model.specs.Fleet.{Fleet, region_of, regions_of, serves_in_turn}
use Rattle.core_model.specs.Stores.{region_store}
use Rattle.core_model.specs.declared.named.Named.{Named}
use Rattle.core_nodes.specs.Settling.{lies_behind}
use Rattle.core_nodes.specs.Trimming.{behind_of, is_behind, names_behind}
use Rattle.tao_core.specs.core_repairs.Repairs.{IsNotRepaired, RepairsFirst, StopsRepair}
use Rattle.tao_core.specs.core_repairs.declared.repairs.Ran.{Ran}
use Rattle.core_steps.specs.Streams.{ProcessesEntry, RefusesStream, StreamsOver, TakesAs, region_leader}
use Rattle.core_steps.specs.World.{World}
use Rattle.tao_core.specs.core_trims.Trims.{ResetEach}
use Rattle.edge_repair.specs.declared.refusal.RepairRefusal.{RepairRefusal}
use Rattle.edge_repair.specs.declared.refusal.RepairRefusal.TheVariants.{KeeperFault, OutOfMemory}
use Rattle.follower_cache.specs.Seen.{FollowerState}
use Rattle.headline_kept.proofs.Caches.{EachCache, cache_empties, caches_then, each_so, leader_changes, none_changes, same_fleet}
use Rattle.headline_kept.proofs.ItemOps.{delivered_keeps}
use Rattle.headline_kept.proofs.NamedLeaders.{all_of}
use Rattle.headline_kept.proofs.NodeLines.{no_fleet, no_node, none_brought, stays_self}
use Rattle.headline_kept.specs.Touches.{LeavesAllItems, LeavesItems, ServesIn}
use Rattle.node_name.specs.declared.NodeName.{NodeName}
use Rattle.replies.specs.declared.nodes.StreamVerdict.{StreamVerdict}
use Rattle.replies.specs.declared.nodes.StreamVerdict.TheVariants as verdict
use Rattle.replies.specs.declared.nodes.Streamed.{Streamed}
use Rattle.replies.specs.declared.refusals.NodeRefused.TheVariants.{NoEntry, NoServer}
use Rattle.replies.specs.declared.refusals.Refusal.{Refusal}
use Rattle.replies.specs.declared.refusals.Refusal.TheVariants.{Memory, Node as OfNode, Store as OfStore}
use Rattle.replies.specs.declared.refusals.StoreRefused.TheVariants as refused
use Rattle.replies.specs.declared.reply.Reply.{Reply}
use Rattle.request_check.specs.declared.checked.Checked.{Checked}
use Rattle.request_check.specs.declared.checked.Checked.TheVariants as asks
use Rattle.request_check.specs.declared.stores.CheckedStore.TheVariants as store
use Rattle.served_shards.specs.Served.{low_at}
use Rattle.tao_base.specs.declared.entry.Entry.{Entry}
use Rattle.tao_base.specs.declared.id.StoreName.{StoreName}
use Rattle.tao_core.specs.Calls.{world_of}
use Rattle.tao_core.specs.Core.{Moment}
use Rattle.tao_core.specs.Settling.{AnswersRepair}
use Rattle.tao_core.specs.Streams.{AnswersStream, asked_stream}
use Rattle.tao_core.specs.Trims.{AnswersTrim}
use Rattle.topology.specs.Config.{Settings}
use Rattle.topology.specs.States.{is_up}

-- ---- a step of a stream

module _ (tells : Bool) (region shard : ℕ) (position : Option ℕ) (old new : Moment) where
  abbrev Asked : Checked
  Asked = asks.Store (store.Stream region shard position)

  abbrev at : StoreName
  at = region_store region shard

  abbrev By : List Entry → NodeName → Node → Node → Type 0
  By brought name from to = LeavesItems old Asked brought name from to

  rests : (brought : List Entry) (name : NodeName) (node : Node) → By brought name node node
  rests brought name node = record { far = λ away. refl; near = λ key untouched. stays_self old Asked key node }

  -- the region's leader processes the entry, where it is up
  leader_so : (e : Entry) (up : Bool)
      → MatchBool up (ProcessesEntry (region_leader old.core.states at) shard e old.core.fleet new.core.fleet)
      (new.core.fleet.leaders ≡ old.core.fleet.leaders)
      → new.core.fleet.followers ≡ old.core.fleet.followers → EachCache (By (e ∷ [])) old.core.fleet new.core.fleet
  leader_so e true takes followers = leader_changes (By (e ∷ [])) (rests (e ∷ [])) old.core.fleet new.core.fleet _ (region_leader old.core.states at)
      (λ from to delivers. record { far = λ away. absurd (away refl); near = λ key apart. delivered_keeps key _ takes.dropped from to delivers apart.0 })
      followers takes.processes
  leader_so e false takes followers = none_changes (By (e ∷ [])) (rests (e ∷ [])) old.core.fleet new.core.fleet takes followers

  takes_so : (e : Entry) (said : StreamVerdict) → TakesAs said at e (world_of old) (world_of new) → EachCache (By (e ∷ [])) old.core.fleet new.core.fleet
  takes_so e verdict.Applied takes = leader_so e (is_up old.core.states (region_leader old.core.states at)) takes.leader takes.followers
  takes_so e verdict.Old takes = same_fleet (By (e ∷ [])) (rests (e ∷ [])) old.core.fleet new.core.fleet takes.0
  takes_so e verdict.Gap takes = same_fleet (By (e ∷ [])) (rests (e ∷ [])) old.core.fleet new.core.fleet takes.0
  takes_so e verdict.None takes = same_fleet (By (e ∷ [])) (rests (e ∷ [])) old.core.fleet new.core.fleet takes.0

  same_so : new.core.fleet ≡ old.core.fleet → LeavesAllItems tells Asked old new
  same_so same = none_brought tells Asked old new (same_fleet (By []) (rests []) old.core.fleet new.core.fleet same)

  refused_so : (refusal : Refusal) → RefusesStream tells old.core.settings (asked_stream region shard position) refusal (world_of old) (world_of new)
      → new.core.fleet ≡ old.core.fleet
  refused_so (OfNode (NoEntry count place)) h = ap (λ (w : World). w.fleet) h.2.rest
  refused_so (OfStore (refused.KeeperFault count)) h = h.2.same.fleet
  refused_so (OfStore (refused.LinkFault count when)) h = h.3.fleet
  refused_so (Memory place) h = h.1.same.fleet
  refused_so other h = absurd h

  over_so : (outcome : Result Streamed Refusal) → StreamsOver tells old.core.settings (asked_stream region shard position) outcome (world_of old) (world_of new)
      → LeavesAllItems tells Asked old new
  over_so (Ok streamed) (inl nothing) = same_so (ap (λ (w : World). w.fleet) nothing.rest.rest)
  over_so (Ok streamed) (inr entry) =
      let each = takes_so entry.entry streamed.verdict entry.takes in
      record { brought = entry.entry ∷ []; are = (entry.carried, tt); leaders = each.leaders; followers = each.followers }
  over_so (Err refusal) h = same_so (refused_so refusal h)

  pub stream_leaves : (reply : Reply) → AnswersStream tells (asked_stream region shard position) old reply new → LeavesAllItems tells Asked old new
  stream_leaves reply (inl master) = same_so (ap (λ (m : Moment). m.core.fleet) master.same)
  stream_leaves reply (inr into) = over_so into.outcome into.streams

-- ---- a trim

-- who lies behind in the log of a store is of its region, and serves its shard
module _ (s : Settings) (store_at : StoreName) (least : ℕ) where
  serves_behind : (name : NodeName) (low : ℕ) → is_behind s store_at least name low ≡ true → ServesIn s store_at.region store_at.shard name
  serves_behind name low is =
      let parts = and_parts (region_of name == store_at.region) (lies_behind s name store_at.shard low least) is in
      record {
        region_is = eqb-true (region_of name) store_at.region parts.0;
        serves = (and_parts (serves_in_turn (regions_of s) name store_at.shard) _ parts.1).0;
      }

  all_serve : {N : Type 0} (node : N → Node) (nodes : List (Named N))
      → AllByRecursion (ServesIn s store_at.region store_at.shard) (behind_of node s store_at least nodes)
  all_serve node [] = tt
  all_serve node (n ∷ ns) =
      let low = low_at store_at.shard (node n.node).served in
      elim (cases_Bool (is_behind s store_at least n.name low)) [
        | inl behind ↦ rw behind (serves_behind n.name low behind, all_serve node ns)
        | inr before ↦ rw before (all_serve node ns)
      ]

  pub behind_serve : (f : Fleet) → AllByRecursion (ServesIn s store_at.region store_at.shard) (names_behind s f store_at least)
  behind_serve f =
      all_of (ServesIn s store_at.region store_at.shard) (behind_of (λ (n : Node). n) s store_at least f.leaders)
      (behind_of (λ (n : FollowerState). n.node) s store_at least f.followers)
      (all_serve (λ (n : Node). n) f.leaders) (all_serve (λ (n : FollowerState). n.node) f.followers)

module _ (tells : Bool) (region shard position : ℕ) (old new : Moment) where
  abbrev Trims : Checked
  Trims = asks.Store (store.Trim region shard position)

  abbrev Left : NodeName → Node → Node → Type 0
  Left name from to = LeavesItems old Trims [] name from to

  left_self : (name : NodeName) (node : Node) → Left name node node
  left_self name node = record { far = λ away. refl; near = λ key untouched. absurd untouched }

  left_then : (name : NodeName) (from between to : Node) → Left name from between → Left name between to → Left name from to
  left_then name from between to first second = record {
    far = λ away. second.far away ∙ first.far away;
    near = λ key untouched. absurd untouched;
  }

  -- each node that is reset is one at which a trim may change items
  resets_leave : (over : RegionTables) (names : List NodeName) (start end : World) → AllByRecursion (ServesIn old.core.settings region shard) names
      → ResetEach over names start end → EachCache Left start.fleet end.fleet
  resets_leave over [] start end all same = same_fleet Left left_self start.fleet end.fleet (ap (λ (w : World). w.fleet) same)
  resets_leave over (name ∷ names) start end all each =
      caches_then Left Left Left start.fleet each.0.fleet end.fleet left_then (resets_leave over names start each.0 all.1 each.1)
      (cache_empties Left left_self each.0.fleet end.fleet _ _ name
      (λ from to begins. record { far = λ away. absurd (away all.0); near = λ key untouched. absurd untouched }) each.2.empties)

  pub trim_leaves : (reply : Reply) → AnswersTrim tells (region_store region shard) position old reply new → LeavesAllItems tells Trims old new
  trim_leaves reply (inl trims) =
      let did = trims.trims in
      none_brought tells Trims old new (resets_leave _ _ (record (world_of old) { keepers = new.keepers }) (world_of new)
      (behind_serve old.core.settings (region_store region shard) did.least old.core.fleet) did.resets)
  trim_leaves reply (inr fails) =
      none_brought tells Trims old new (no_fleet Trims old new (ap (λ (m : Moment). m.core.fleet) fails.rest))

-- ---- a repair

-- no leader and no follower changes
record NodesRest (old new : World) : Type 0 where
  leaders : new.fleet.leaders ≡ old.fleet.leaders
  followers : new.fleet.followers ≡ old.fleet.followers

rest_same : (old new : World) → new.fleet ≡ old.fleet → NodesRest old new
rest_same old new same = record { leaders = ap (λ (f : Fleet). f.leaders) same; followers = ap (λ (f : Fleet). f.followers) same }

rest_stores : (old new : World) → new.fleet ≡ record old.fleet { stores = new.fleet.stores } → NodesRest old new
rest_stores old new same = record { leaders = ap (λ (f : Fleet). f.leaders) same; followers = ap (λ (f : Fleet). f.followers) same }

module _ (tells : Bool) (s : Settings) (shard : ℕ) (old new : World) where
  stops_rest : (refusal : RepairRefusal) → StopsRepair tells s shard refusal old new → NodesRest old new
  stops_rest refusal (inl asks) = rest_same old new asks.nodes.fleet
  stops_rest refusal (inr (inl merge)) = rest_stores old new merge.rest.caches.fleet
  stops_rest refusal (inr (inr ends)) = rest_stores old new ends.rest.caches.fleet

  failed_rest : (r : Refusal) → IsNotRepaired tells s shard r old new → NodesRest old new
  failed_rest (OfNode (NoServer region)) h = rest_same old new h.1.asks.nodes.fleet
  failed_rest (OfStore (refused.KeeperFault count)) h = stops_rest KeeperFault h.2
  failed_rest (OfStore (refused.LinkFault count when)) h = rest_stores old new h.2.rest.caches.fleet
  failed_rest (OfStore (refused.LogFull count)) h = rest_stores old new h.rest.caches.fleet
  failed_rest (Memory position) h = stops_rest OutOfMemory h.1
  failed_rest r h = absurd h

  repair_rest : (outcome : Result (Option Ran) Refusal) → RepairsFirst tells s shard outcome old new → NodesRest old new
  repair_rest (Ok None) h = rest_same old new h.asks.nodes.fleet
  repair_rest (Ok (Some ran)) h = rest_stores old new h.caches.fleet
  repair_rest (Err r) h = failed_rest r h

pub repair_leaves : (tells : Bool) (shard : ℕ) (old new : Moment) (reply : Reply) → AnswersRepair tells shard old reply new
    → LeavesAllItems tells (asks.Store (store.Repair shard)) old new
repair_leaves tells shard old new reply answers =
    let rests = repair_rest tells old.core.settings shard (world_of old) (world_of new) answers.outcome answers.repairs in
    none_brought tells (asks.Store (store.Repair shard)) old new (no_node (asks.Store (store.Repair shard)) old new rests.leaders rests.followers)

-- ---- a settle, which may touch everything

pub settle_leaves : (tells : Bool) (old new : Moment) → AllMarksGoOn old.core.fleet new.core.fleet
    → LeavesAllItems tells (asks.Store store.Settle) old new
settle_leaves tells old new marks = record {
  brought = [];
  are = tt;
  leaders = each_so _ _ old.core.fleet.leaders new.core.fleet.leaders
      (λ name from to goes. record { far = λ away. absurd (away tt); near = λ key touched. absurd touched }) marks.leaders;
  followers = each_so _ _ old.core.fleet.followers new.core.fleet.followers
      (λ name from to goes. record { far = λ away. absurd (away tt); near = λ key touched. absurd touched }) marks.followers;
}
