-- Items that stay as they were through a line, unless the line touches them.
use Rattle.std.specs.Prelude.{ℕ, ◌≡◌, ◌≢◌, ◌<◌, ◌⊎◌, ◌-◌, ⊤, Bool, List, length, take, true, Option, Some, None, Result, Ok, Err}
use Rattle.std.specs.List.{AllByRecursion}
use Rattle.cache_items.specs.Node.{Items, Node, item_at}
use Rattle.cache_items.specs.declared.item.Item.{Item}
use Rattle.core_mail.specs.Inboxes.{Inboxes, WaitsAt}
use Rattle.core_model.specs.Fleet.{ChangesNode, EachNode, region_of, regions_of, serves_in_turn}
use Rattle.core_model.specs.Items.{IsNotNamed, KeepsItem, KeepsUnlessLast}
use Rattle.core_model.specs.Messages.{TakesRefill}
use Rattle.core_model.specs.Stores.{master_log, region_store}
use Rattle.core_model.specs.declared.named.Named.{Named}
use Rattle.core_nodes.specs.Streams.{IsToCarry}
use Rattle.core_plans.specs.Held.{plan_at}
use Rattle.core_plans.specs.Needs.{asked_of_read}
use Rattle.core_plans.specs.declared.held.HeldPlan.{HeldPlan}
use Rattle.core_plans.specs.declared.held.HeldPlan.TheVariants as of
use Rattle.core_model.specs.Asked.{AuthoredWrite}
use Rattle.follower_cache.specs.Seen.{FollowerState}
use Rattle.follower_cache.specs.declared.queue.Refill.{Refill}
use Rattle.graph_model.specs.Log.{entry_at}
use Rattle.graph_model.specs.Told.{WhereTold}
use Rattle.maint_msg.specs.KeyVersions.{keys_of}
use Rattle.maint_msg.specs.Maints.{SeenMaint}
use Rattle.node_name.specs.declared.NodeName.{NodeName}
use Rattle.node_name.specs.declared.NodeName.TheVariants.{Store as StoreName_, Leader, Follower}
use Rattle.replies.specs.declared.refusals.Refusal.{Refusal}
use Rattle.request_check.specs.declared.caches.CheckedCache.TheVariants as cache
use Rattle.request_check.specs.declared.checked.Checked.{Checked}
use Rattle.request_check.specs.declared.checked.Checked.TheVariants as asks
use Rattle.request_check.specs.declared.checked.CheckedCall.{CheckedCall}
use Rattle.request_check.specs.declared.checked.CheckedCall.TheVariants as call
use Rattle.request_check.specs.declared.health.CheckedHealth.TheVariants as health
use Rattle.request_check.specs.declared.plans.CheckedPlan.TheVariants as plan
use Rattle.request_check.specs.declared.stores.CheckedStore.TheVariants as store
use Rattle.requests.specs.declared.request.Request.{Request}
use Rattle.tao_base.specs.Queries.{query_key}
use Rattle.tao_base.specs.Writes.{write_shard}
use Rattle.tao_base.specs.declared.entry.Entry.{Entry}
use Rattle.tao_base.specs.declared.entry.Origin.TheVariants.{Merge}
use Rattle.tao_base.specs.declared.id.Key.{Key}
use Rattle.tao_core.specs.Asked.{asked_of}
use Rattle.tao_core.specs.Core.{Moment}
use Rattle.tao_core.specs.Deliveries.{refill_plan}
use Rattle.tao_core.specs.HeldCalls.{IsBegun}
use Rattle.tao_keeper.specs.Table.{Tables}
use Rattle.topology.specs.Choices.{preferred_leader}
use Rattle.topology.specs.Config.{Settings}
use Rattle.topology.specs.States.{NodeStates}
use Rattle.write_model.specs.Writes.{FitsWrite}
use Rattle.headline_kept.specs.Standing.{write_of}

-- ---- entries that a line brings to nodes

-- the entry stands in the log of the shard, where the tables are told
abbrev pub StandsOn : Bool → Settings → Tables → ℕ → Entry → Type 0
StandsOn tells s tables shard e = WhereTold tells (entry_at (master_log s tables shard) e.position ≡ Some e)

-- the entry is the one that the write made on its shard, under its very origin
pub record IsOwnEntry (tells : Bool) (s : Settings) (tables : Tables) (write : AuthoredWrite) (e : Entry) : Type 0 where
  pub fits : FitsWrite e write.write
  pub own : WhereTold tells (e.origin ≡ write.origin)
  pub stands : StandsOn tells s tables (write_shard write.write) e

-- since those tables the log of a shard gained the entry, which merges what an entry of the write's shard owed there
pub record IsMergedEntry (tells : Bool) (s : Settings) (before tables : Tables) (write : AuthoredWrite) (e : Entry) : Type 0 where
  pub shard : ℕ
  pub position : ℕ
  pub gained : WhereTold tells (length (master_log s before shard) < e.position)
  pub stands : StandsOn tells s tables shard e
  pub origin_is : WhereTold tells (e.origin ≡ Merge (write_shard write.write) position)

-- a write brings the entry to nodes: its own, or the one that merges its job at the other end
abbrev pub IsOfWrite : Bool → Settings → Tables → Tables → AuthoredWrite → Entry → Type 0
IsOfWrite tells s before tables write e = IsOwnEntry tells s tables write e ⊎ IsMergedEntry tells s before tables write e

-- the write that a line carries out, where it does one, brings the entry to nodes
abbrev pub IsOfLine : Bool → Moment → Moment → Option AuthoredWrite → Entry → Type 0
IsOfLine tells old new (Some write) e = IsOfWrite tells old.core.settings old.keepers.told new.keepers.told write e
IsOfLine tells old new None e = ⊥

-- the line brings the entry to nodes, by what is asked: a stream does, and a write, held or not, by all of its stages or by one; nothing else does
abbrev pub IsBrought : Bool → Moment → Moment → Checked → Entry → Type 0
IsBrought tells old new (asks.Store (store.Stream region shard position)) e =
    WhereTold tells (IsToCarry old.core.settings old.keepers.told (region_store region shard) position e)
IsBrought tells old new asked e = IsOfLine tells old new (write_of old.core.plans asked) e

-- ---- where a line does anything

-- the name is a leader's
abbrev pub IsLeader : NodeName → Type 0
IsLeader (Leader region index) = ⊤
IsLeader (Follower region tier index) = ⊥
IsLeader (StoreName_ at) = ⊥

-- a plan may change items there: at its follower, a read at the leader that it asks, and a write at any leader
abbrev pub IsAtPlan : NodeStates → Option HeldPlan → NodeName → Type 0
IsAtPlan states (Some (of.Read p)) name = (name ≡ p.follower) ⊎ (name ≡ asked_of_read states p)
IsAtPlan states (Some (of.Write p)) name = (name ≡ p.follower) ⊎ IsLeader name
IsAtPlan states None name = ⊥

-- the plan that a call begins may change items at the node of that name
pub record IsAtCall (old : Moment) (asked : CheckedCall) (name : NodeName) : Type 0 where
  pub plan : HeldPlan
  pub begun : IsBegun old.core.settings old.core.states old.core.sessions asked plan
  pub at : IsAtPlan old.core.states (Some plan) name

-- the plan of the oldest refill of a node may change items at the node of that name
pub record IsAtRefill (old : Moment) (node name : NodeName) : Type 0 where
  pub refill : Refill
  pub left : List (Named FollowerState)
  pub takes : ChangesNode node (TakesRefill (Some refill)) old.core.fleet.followers left
  pub at : IsAtPlan old.core.states (Some (refill_plan old.core.settings node refill)) name

-- the node is one of the region, and serves the shard
pub record ServesIn (s : Settings) (region shard : ℕ) (name : NodeName) : Type 0 where
  pub region_is : region_of name ≡ region
  pub serves : serves_in_turn (regions_of s) name shard ≡ true

-- the line may change items at the node: a call or a stage there, a stream at the leader that its region prefers, a trim at each node of its region that
-- serves the shard, a settle everywhere, and what is asked of a node at that node. Other lines change none
abbrev pub IsAt : Moment → Checked → NodeName → Type 0
IsAt old (asks.Call asked) name = IsAtCall old asked name
IsAt old (asks.Plan (plan.Hold number asked)) name = IsAtCall old asked name
IsAt old (asks.Plan (plan.Advance number)) name = IsAtPlan old.core.states (plan_at old.core.plans number) name
IsAt old (asks.Store (store.Stream region shard position)) name = name ≡ preferred_leader old.core.states region shard
IsAt old (asks.Store (store.Trim region shard position)) name = ServesIn old.core.settings region shard name
IsAt old (asks.Store store.Settle) name = ⊤
IsAt old (asks.Cache (cache.Deliver node message)) name = name ≡ node
IsAt old (asks.Cache (cache.Again node message)) name = name ≡ node
IsAt old (asks.Cache (cache.Refill node)) name = IsAtRefill old node name
IsAt old (asks.Cache (cache.Evict node key)) name = name ≡ node
IsAt old (asks.Health (health.Down node)) name = name ≡ node
IsAt old (asks.Health (health.Up node)) name = name ≡ node
IsAt old asked name = ⊥

-- ---- what a line touches there

-- none of the entries names the key
abbrev pub IsNamedByNone : Key → List Entry → Type 0
IsNamedByNone key entries = AllByRecursion (λ e. IsNotNamed key (keys_of e)) entries

-- the message that waits for the node at the place doesn't name the key
abbrev pub IsNotInMessage : NodeName → ℕ → Key → Inboxes → Type 0
IsNotInMessage node place key inboxes = (m : SeenMaint) → WaitsAt node place (Some m) inboxes → IsNotNamed key m.keys

-- the node's oldest refill isn't of the key
abbrev pub IsNotRefilled : NodeName → Key → List (Named FollowerState) → Type 0
IsNotRefilled node key followers = (refill : Refill) (left : List (Named FollowerState)) → ChangesNode node (TakesRefill (Some refill)) followers left
    → key ≢ query_key refill.query

-- a read is not of the key, or a write brings no entry that names it
abbrev pub IsApartFromCall : CheckedCall → List Entry → Key → Type 0
IsApartFromCall (call.Read call) brought key = key ≢ query_key call.query
IsApartFromCall (call.Write call) brought key = IsNamedByNone key brought

-- the held plan is a read that is not of the key, or a write that brings no entry that names it; or there is none
abbrev pub IsApartFromPlan : Option HeldPlan → List Entry → Key → Type 0
IsApartFromPlan (Some (of.Read p)) brought key = key ≢ query_key p.query
IsApartFromPlan (Some (of.Write p)) brought key = IsNamedByNone key brought
IsApartFromPlan None brought key = ⊤

-- the line, which brings these entries, doesn't touch the key: a call or a stage is apart from it, a stream brings no entry that names it, a message that is
-- processed doesn't name it, a refill isn't of it, and it isn't evicted. A settle, a trim, and a node that goes down or comes up, may touch each key
abbrev pub IsUntouched : Moment → Checked → List Entry → Key → Type 0
IsUntouched old (asks.Call asked) brought key = IsApartFromCall asked brought key
IsUntouched old (asks.Plan (plan.Hold number asked)) brought key = IsApartFromCall asked brought key
IsUntouched old (asks.Plan (plan.Advance number)) brought key = IsApartFromPlan (plan_at old.core.plans number) brought key
IsUntouched old (asks.Store (store.Stream region shard position)) brought key = IsNamedByNone key brought
IsUntouched old (asks.Store (store.Trim region shard position)) brought key = ⊥
IsUntouched old (asks.Store store.Settle) brought key = ⊥
IsUntouched old (asks.Cache (cache.Deliver node message)) brought key = IsNotInMessage node message key old.core.mail
IsUntouched old (asks.Cache (cache.Again node message)) brought key = IsNotInMessage node message key old.core.mail
IsUntouched old (asks.Cache (cache.Refill node)) brought key = IsNotRefilled node key old.core.fleet.followers
IsUntouched old (asks.Cache (cache.Evict node (Some evicted))) brought key = key ≢ evicted
IsUntouched old (asks.Health (health.Down node)) brought key = ⊥
IsUntouched old (asks.Health (health.Up node)) brought key = ⊥
IsUntouched old asked brought key = ⊤

-- ---- what stays

-- each item stays as it was that stands at the key among so many which were used most recently
abbrev pub KeepsFirst : ℕ → Key → Items → Items → Type 0
KeepsFirst n key old new = (item : Item) → item_at (take n old) key ≡ Some item → item_at new key ≡ Some item

-- what a node holds at the key stays as it was, unless as many items as the node may hold but one were used more recently: those make room for a fill
abbrev pub KeepsButLast : Key → Node → Node → Type 0
KeepsButLast key old new = KeepsFirst (old.most - 1) key old.items new.items

-- what stays of a key that the stage of a held plan is apart from: a read may make room for a fill
abbrev pub StaysByPlan : Option HeldPlan → Key → Node → Node → Type 0
StaysByPlan (Some (of.Read p)) key old new = KeepsButLast key old new
StaysByPlan (Some (of.Write p)) key old new = KeepsItem key old.items new.items
StaysByPlan None key old new = KeepsItem key old.items new.items

-- what stays of a key that the line doesn't touch: what was held at it, unless a read makes room for a fill, or it was the last item, which is evicted
abbrev pub StaysBy : Moment → Checked → Key → Node → Node → Type 0
StaysBy before (asks.Call (call.Read read)) key old new = KeepsButLast key old new
StaysBy before (asks.Plan (plan.Hold number (call.Read read))) key old new = KeepsButLast key old new
StaysBy before (asks.Plan (plan.Advance number)) key old new = StaysByPlan (plan_at before.core.plans number) key old new
StaysBy before (asks.Cache (cache.Refill node)) key old new = KeepsButLast key old new
StaysBy before (asks.Cache (cache.Evict node None)) key old new = KeepsUnlessLast key old.items new.items
StaysBy before asked key old new = KeepsItem key old.items new.items

-- the line, which brings these entries, leaves each item of the node as it was that it doesn't touch, and all where it does nothing there
pub record LeavesItems (before : Moment) (asked : Checked) (brought : List Entry) (name : NodeName) (old new : Node) : Type 0 where
  pub far : (IsAt before asked name → ⊥) → new.items ≡ old.items
  pub near : (key : Key) → IsUntouched before asked brought key → StaysBy before asked key old new

-- the line brings some entries to nodes, and leaves each item of every leader and follower as it was that it doesn't touch
pub record LeavesAllItems (tells : Bool) (asked : Checked) (old new : Moment) : Type 0 where
  pub brought : List Entry
  pub are : AllByRecursion (IsBrought tells old new asked) brought
  pub leaders : EachNode (λ name from to. LeavesItems old asked brought name from to) old.core.fleet.leaders new.core.fleet.leaders
  pub followers : EachNode (λ name from to. LeavesItems old asked brought name from.node to.node) old.core.fleet.followers new.core.fleet.followers

-- the line that asks this does so, and one that was refused changes nothing
abbrev pub KeepsAsked : Bool → Result Checked Refusal → Moment → Moment → Type 0
KeepsAsked tells (Err refused) old new = new ≡ old
KeepsAsked tells (Ok asked) old new = LeavesAllItems tells asked old new

-- through the line each item of every leader and follower stays as it was, unless the line touches it
abbrev pub KeepsItems : Bool → Moment → Request → Moment → Type 0
KeepsItems tells old request new = KeepsAsked tells (asked_of old.core.settings old.core.sessions old.core.plans request) old new
