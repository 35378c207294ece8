-- When the nodes of a core are consistent.
use Rattle.std.specs.Prelude.{ℕ, ◌≡◌, ◌≤◌, Bool, true, false, List, [], Option, map}
use Rattle.std.specs.List.{AllByRecursion}
use Rattle.std.specs.Option.{option_map_or}
use Rattle.cache_items.specs.Node.{Node}
use Rattle.follower_cache.specs.cache_node.True.{IsTrueNode}
use Rattle.follower_cache.specs.cache_node.Within.{AreWithin}
use Rattle.follower_cache.specs.Seen.{FollowerState}
use Rattle.graph_model.specs.Told.{WhereTold}
use Rattle.low_water.specs.Marks.{IsWindow, Marks, is_marked, marks}
use Rattle.node_name.specs.declared.NodeName.{NodeName}
use Rattle.served_shards.specs.Served.{ServedShard, log_at, served_at}
use Rattle.shard_log.specs.View.{LogName}
use Rattle.tao_keeper.specs.Table.{Tables}
use Rattle.tao_schema.specs.Schema.{types_of}
use Rattle.topology.specs.Config.{Settings}
use Rattle.core_model.specs.Asks.{AsksGoOn}
use Rattle.core_model.specs.Fleet.{EachIs, EachNode, Fleet, follower_names, leader_names, node_names, region_of, served_by}
use Rattle.core_model.specs.Messages.{AreRefillsFor}
use Rattle.core_model.specs.Pens.{IsSeen, Pens, Rise, SeenRule, pens_of}
use Rattle.core_model.specs.Stores.{AreStoresOf, store_length}
use Rattle.core_model.specs.declared.named.Named.{Named}

-- what was seen of each shard's log is right
abbrev pub AreRight : SeenRule → List ServedShard → Type 0
AreRight Seen served = AllByRecursion (λ s. Seen s.shard s.view) served

-- what was seen of each shard's log begins it
abbrev pub AreSeen : Pens → List ServedShard → Type 0
AreSeen pens served = AreRight (IsSeen pens) served

-- the node serves its shards, what it has seen of their logs is right, it is true of that, and holds no list past the bound of its type
pub record IsRightNode (s : Settings) (Seen : SeenRule) (name : NodeName) (node : Node) : Type 0 where
  pub shards : map (λ t. t.shard) node.served ≡ served_by s name
  pub seen : AreRight Seen node.served
  pub truth : IsTrueNode node
  pub within : AreWithin (types_of s.schema) node.items

-- the node is one of the core: it has seen beginnings of its shards' logs
abbrev pub IsNodeOf : Settings → Pens → NodeName → Node → Type 0
IsNodeOf s pens name node = IsRightNode s (IsSeen pens) name node

-- the follower's node is one of the core, and each of its refills can be asked for
pub record IsFollowerOf (s : Settings) (pens : Pens) (name : NodeName) (f : FollowerState) : Type 0 where
  pub node : IsNodeOf s pens name f.node
  pub refills : AreRefillsFor s pens name f.refills

-- each leader is a node of the core under its name: true of the beginnings of its shards' logs that it has seen
abbrev pub AreLeadersOf : Settings → Pens → List (Named Node) → Type 0
AreLeadersOf s pens leaders = EachIs (IsNodeOf s pens) leaders

-- each follower is a node of the core under its name, and each of its refills can be asked for
abbrev pub AreFollowersOf : Settings → Pens → List (Named FollowerState) → Type 0
AreFollowersOf s pens followers = EachIs (IsFollowerOf s pens) followers

-- the nodes are those of the configuration, and each is one that it should be
pub record IsFleetOf (s : Settings) (f : Fleet) : Type 0 where
  pub leader_names : node_names f.leaders ≡ leader_names s
  pub follower_names : node_names f.followers ≡ follower_names s
  pub leaders : AreLeadersOf s (pens_of f.stores) f.leaders
  pub followers : AreFollowersOf s (pens_of f.stores) f.followers

-- the marks of a shard, none where it isn't served
abbrev pub marks_at : ℕ → List ServedShard → Marks
marks_at shard served = option_map_or (λ s. s.marks) (served_at shard served) (marks 0 [])

-- no position is marked to which the store of the region hasn't come
abbrev pub HasReached : Tables → ℕ → Node → Type 0
HasReached tables region node = (shard position : ℕ) → is_marked (marks_at shard node.served) position ≡ true → position ≤ store_length tables region shard

-- no leader or follower has marked a position to which the store of its own region hasn't come
pub record HaveReached (tables : Tables) (f : Fleet) : Type 0 where
  pub leaders : EachIs (λ name node. HasReached tables (region_of name) node) f.leaders
  pub followers : EachIs (λ name follower. HasReached tables (region_of name) follower.node) f.followers

-- the stores are the configuration's, over keepers that tell these tables, and the nodes before them are consistent with their logs
pub record IsConsistent (tells : Bool) (s : Settings) (tables : Tables) (f : Fleet) : Type 0 where
  pub stores : AreStoresOf tells s tables f.stores
  pub fleet : IsFleetOf s f
  pub reached : WhereTold tells (HaveReached tables f)

-- ---- what each line keeps

-- whether the log of a shard is told that is served
abbrev pub is_told : Option LogName → Bool
is_told log = option_map_or (λ l. l.told) log false

-- the log of a shard that is served is told only where the tables are
abbrev pub AreToldAs : Bool → List ServedShard → Type 0
AreToldAs tells served = (shard : ℕ) → is_told (log_at shard served) ≡ true → tells ≡ true

-- the low-water mark doesn't fall, where the log is told, and those ahead of it stay in the window
pub record MarksRise (told : Bool) (old new : Marks) : Type 0 where
  pub low : WhereTold told (old.low ≤ new.low)
  pub window : IsWindow old → IsWindow new

-- what is had of the shard is of the same log, and its marks rise
pub record ShardGoesOn (shard : ℕ) (old new : List ServedShard) : Type 0 where
  pub log : log_at shard new ≡ log_at shard old
  pub marks : MarksRise (is_told (log_at shard old)) (marks_at shard old) (marks_at shard new)

-- what the node has of each shard is of the same log as before, and its marks rise
abbrev pub MarksGoOn : Node → Node → Type 0
MarksGoOn old new = (shard : ℕ) → ShardGoesOn shard old.served new.served

-- the marks of each leader and follower rise, and are of the same logs as before
pub record AllMarksGoOn (old new : Fleet) : Type 0 where
  pub leaders : EachNode (λ name. MarksGoOn) old.leaders new.leaders
  pub followers : EachNode (λ name from to. MarksGoOn from.node to.node) old.followers new.followers

-- what each line keeps, whatever it does, and whichever nodes it empties: logs and the names of nodes, asks go on, and no low-water mark falls
pub record GoesOn (old new : Fleet) : Type 0 where
  pub rise : Rise (pens_of old.stores) (pens_of new.stores)
  pub leaders : node_names new.leaders ≡ node_names old.leaders
  pub followers : node_names new.followers ≡ node_names old.followers
  pub asks : EachNode (λ name from to. AsksGoOn from.node.asks to.node.asks) old.followers new.followers
  pub marks : AllMarksGoOn old new
