-- Where nodes lie behind their regions' stores, and how a settle meets that: a carry from the store to the node for each shard, in the order of the nodes.
use Rattle.std.specs.Prelude.{ℕ, ◌≡◌, ◌++◌, ⊤, Bool, Contains, List, [], ◌∷◌, Result, Ok, Err, filter, flat_map, if◌then◌else◌, length, map, slice_get}
use Rattle.std.specs.Prelude.{Some}
use Rattle.std.specs.List.{range_with_len}
use Rattle.cache_items.specs.Node.{Node}
use Rattle.edge_repair.specs.Carries.{FailsAt}
use Rattle.follower_cache.specs.Seen.{FollowerState}
use Rattle.graph_model.specs.Told.{WhereTold}
use Rattle.node_name.specs.declared.NodeName.{NodeName}
use Rattle.node_name.specs.declared.NodeName.TheVariants.{Store as StoreName_}
use Rattle.replies.specs.declared.refusals.UnsettledWhy.TheVariants.{KeeperFault, LinkFault, LogFull}
use Rattle.served_shards.specs.Served.{low_at, served_at}
use Rattle.tao_link.specs.Cuts.{between}
use Rattle.tao_link.specs.Shown.{LinkShown, after_carry}
use Rattle.tao_link.specs.declared.link.Carry.{Carry}
use Rattle.topology.specs.Config.{Settings}
use Rattle.topology.specs.States.{NodeStates}
use Rattle.core_model.specs.Fleet.{Fleet, region_of}
use Rattle.core_model.specs.Stores.{region_store}
use Rattle.core_model.specs.declared.named.Named.{Named}
use Rattle.node_stages.specs.Caches.{follower_node, leader_node}
use Rattle.core_nodes.specs.Beginning.{length_in}
use Rattle.core_nodes.specs.Settling.{is_turn, lies_behind}
use Rattle.core_nodes.specs.declared.settling.SettleStop.{SettleStop}
use Rattle.core_nodes.specs.declared.settling.SettleStop.TheVariants.{NoServer, OutOfMemory, Unsettled}

-- ---- what is due

-- a node lies behind its region's store of a shard: a carry from there is due
pub record Due : Type 0 where
  pub name : NodeName
  pub shard : ℕ

-- what is due to the node of that name at the shard
abbrev pub due_at : NodeName → ℕ → Due
due_at name shard = record { name = name; shard = shard }

-- the carry: from the region's store of the shard to the node
abbrev pub carry_of : Due → Carry
carry_of due = between (StoreName_ (region_store (region_of due.name) due.shard)) due.name

-- how far the logs of a configuration's stores go, over keepers that tell them or not
pub record LogEnds : Type 0 where
  pub tells : Bool
  pub settings : Settings
  pub lengths : List ℕ

-- the ends of the logs, given whether they are told, of whose configuration they are, and the lengths of all stores' logs
abbrev pub log_ends : Bool → Settings → List ℕ → LogEnds
log_ends tells s lengths = record { tells = tells; settings = s; lengths = lengths }

-- the node of that name serves the shard, and hasn't processed all that its region's store has
abbrev pub is_due : LogEnds → NodeName → Node → ℕ → Bool
is_due ends name node shard =
    lies_behind ends.settings name shard (low_at shard node.served) (length_in ends.settings ends.lengths (region_of name) shard)

-- what is due to a node at these shards
abbrev pub dues_at : {N : Type 0} → (N → Node) → LogEnds → List ℕ → Named N → List Due
dues_at node ends shards cache = map (due_at cache.name) (filter (is_due ends cache.name (node cache.node)) shards)

-- what is due to a node, shard by shard
abbrev pub dues_of : {N : Type 0} → (N → Node) → LogEnds → Named N → List Due
dues_of node ends cache = dues_at node ends (range_with_len 0 ends.settings.shards) cache

-- what is due to a node, where it is its turn
abbrev pub dues_in_turn : {N : Type 0} → (N → Node) → LogEnds → (NodeName → Bool) → Named N → List Due
dues_in_turn node ends turn cache = if turn cache.name then dues_of node ends cache else []

-- what is due to those of the nodes whose turn it is, one node after another
abbrev pub dues_in : {N : Type 0} → (N → Node) → LogEnds → (NodeName → Bool) → List (Named N) → List Due
dues_in node ends turn caches = flat_map (dues_in_turn node ends turn) caches

-- the leaders and followers of a core
pub record AllCaches : Type 0 where
  pub leaders : List (Named Node)
  pub followers : List (Named FollowerState)

-- these leaders and followers
abbrev pub all_caches : List (Named Node) → List (Named FollowerState) → AllCaches
all_caches leaders followers = record { leaders = leaders; followers = followers }

-- what is due to those of a region that are up: to its leaders, and then to its followers
abbrev pub dues_in_region : LogEnds → NodeStates → ℕ → AllCaches → List Due
dues_in_region ends states region nodes =
    dues_in leader_node ends (is_turn states region) nodes.leaders ++ dues_in follower_node ends (is_turn states region) nodes.followers

-- what is due to those of these regions
abbrev pub dues_in_regions : LogEnds → NodeStates → List ℕ → AllCaches → List Due
dues_in_regions ends states regions nodes = flat_map (λ region. dues_in_region ends states region nodes) regions

-- what is due to all, region by region
abbrev pub dues_of_all : LogEnds → NodeStates → AllCaches → List Due
dues_of_all ends states nodes = dues_in_regions ends states (range_with_len 0 (length ends.settings.regions)) nodes

-- what is due to all leaders and followers of a fleet that are up
abbrev pub dues_of_fleet : LogEnds → NodeStates → Fleet → List Due
dues_of_fleet ends states f = dues_of_all ends states (all_caches f.leaders f.followers)

-- ---- how it is met

-- what a link shows after a carry for each of them
abbrev pub after_carries : List Due → LinkShown → LinkShown
after_carries [] link = link
after_carries (due ∷ dues) link = after_carries dues (after_carry link)

-- a settle stopped at what was due: the carry failed, or it went over and the store then gave nothing of its log. What stopped it names the shard
abbrev pub StopsAtDue : SettleStop → Due → LinkShown → LinkShown → Type 0
StopsAtDue (Unsettled shard LinkFault) due old new = (shard ≡ due.shard) × FailsAt (carry_of due) old new
StopsAtDue (Unsettled shard KeeperFault) due old new = (shard ≡ due.shard) × (new ≡ after_carry old)
StopsAtDue (Unsettled shard LogFull) due old new = ⊥
StopsAtDue (NoServer shard) due old new = ⊥
StopsAtDue OutOfMemory due old new = new ≡ after_carry old

-- what was due was met by its carry, or the settle stopped there
abbrev pub MeetsDue : Due → Result ⊤ SettleStop → LinkShown → LinkShown → Type 0
MeetsDue due (Ok done) old new = new ≡ after_carry old
MeetsDue due (Err stop) old new = StopsAtDue stop due old new

-- nothing is left, or it stopped at the first of what is left
abbrev pub StopsAtFirst : Result ⊤ SettleStop → List Due → LinkShown → LinkShown → Type 0
StopsAtFirst (Ok done) left old new = (left ≡ []) × (new ≡ old)
StopsAtFirst (Err stop) [] old new = ⊥
StopsAtFirst (Err stop) (due ∷ left) old new = StopsAtDue stop due old new

-- what was due was met in order, with one carry each: all of it, or up to where it stopped. What was done to the nodes is told by what was met, and
-- what is left
pub record MeetsDues (dues : List Due) (result : Result ⊤ SettleStop) (old new : LinkShown) (Leaves : List Due → List Due → Type 0) : Type 0 where
  pub met : List Due
  pub left : List Due
  pub dues_are : dues ≡ met ++ left
  pub link : StopsAtFirst result left (after_carries met old) new
  pub leaves : Leaves met left

-- ---- what it leaves

-- what was met isn't the node's at the shard
abbrev pub IsApart : List Due → NodeName → ℕ → Type 0
IsApart met name shard = Contains met (due_at name shard) → ⊥

-- a node of which nothing was met is as it was, and of a shard of which nothing was met it has what it had
pub record KeepsBut {N : Type 0} (node : N → Node) (met : List Due) (old new : Named N) : Type 0 where
  pub name_is : new.name ≡ old.name
  pub others : (shard : ℕ) → IsApart met old.name shard → served_at shard (node new.node).served ≡ served_at shard (node old.node).served
  pub none : ((shard : ℕ) → IsApart met old.name shard) → new ≡ old

-- each node of a list is as it was where nothing of it was met, and has what it had of each shard of which nothing was met
abbrev pub EachKeepsBut : {N : Type 0} → (N → Node) → List Due → List (Named N) → List (Named N) → Type 0
EachKeepsBut {N} node met old new = (place : ℕ) (from to : Named N) → slice_get old place ≡ Some from → slice_get new place ≡ Some to
    → KeepsBut node met from to

-- of all nodes nothing changed but by what was met, and where the logs are told just what is left is still due
pub record LeavesDues (tells : Bool) (due : AllCaches → List Due) (old new : AllCaches) (met left : List Due) : Type 0 where
  pub leaders : EachKeepsBut leader_node met old.leaders new.leaders
  pub followers : EachKeepsBut follower_node met old.followers new.followers
  pub still : WhereTold tells (due new ≡ left)

-- of a fleet's leaders and followers nothing changed but by what was met, and where the logs are told just what is left is still due
abbrev pub LeavesFleet : LogEnds → NodeStates → Fleet → Fleet → List Due → List Due → Type 0
LeavesFleet ends states old new =
    LeavesDues ends.tells (dues_of_all ends states) (all_caches old.leaders old.followers) (all_caches new.leaders new.followers)

-- the node has what it had of each other shard
pub record KeepsOthers (shard : ℕ) (old new : Node) : Type 0 where
  pub others : (other : ℕ) → (other ≡ shard → ⊥) → served_at other new.served ≡ served_at other old.served
