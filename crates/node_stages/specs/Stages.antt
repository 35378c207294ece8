-- What a stage does at the node itself, beside what every node keeps.
use Rattle.std.specs.Prelude.{ℕ, ◌≡◌, Option, None}
use Rattle.std.specs.List.{IsDistinct}
use Rattle.std.specs.Map.{keys_of as keys_held}
use Rattle.ask_table.specs.Asks.{IsTable}
use Rattle.cache_items.specs.Node.{Node}
use Rattle.cache_items.specs.declared.look.Look.{Look}
use Rattle.cache_items.specs.declared.look.Look.TheVariants.{Hit, Miss}
use Rattle.core_model.specs.cache_node.Answered.{LookAnswers}
use Rattle.core_model.specs.cache_node.True.{IsTrueNode}
use Rattle.core_model.specs.follower_cache.Seen.{FollowerState}
use Rattle.tao_base.specs.EdgeTypes.{EdgeTypes}
use Rattle.tao_base.specs.Keys.{same_key}
use Rattle.tao_base.specs.declared.id.Key.{Key}
use Rattle.core_model.specs.Reads.{AfterLook, LooksFirst, Wanted}

-- a node does what is said, and keeps what every node is: no key stands twice among its items, its asks are a table, and it is true of what it has seen
pub record NodeDoes (Done : Type 0) (old new : Node) : Type 0 where
  pub does : Done
  pub apart : IsDistinct same_key (keys_held old.items)
  pub asks : IsTable old.asks
  pub truth : IsTrueNode new

-- a leader or a follower, seen as a node, does what is said, and its node keeps what every node is
abbrev pub CacheDoes : {N : Type 0} → (N → Node) → (N → N → Type 0) → N → N → Type 0
CacheDoes node By old new = NodeDoes (By old new) (node old) (node new)

-- a follower does what is said, and its node keeps what every node is
abbrev pub FollowerDoes : (FollowerState → FollowerState → Type 0) → FollowerState → FollowerState → Type 0
FollowerDoes By old new = NodeDoes (By old new) old.node new.node

-- a leader does what is said, and keeps what every node is
abbrev pub LeaderDoes : (Node → Node → Type 0) → Node → Node → Type 0
LeaderDoes By old new = NodeDoes (By old new) old new

-- a follower looks, and a hit is what it has seen of its logs
pub record LooksTrue (types : EdgeTypes) (read : Wanted) (look : Look) (ask : Option ℕ) (old new : FollowerState) : Type 0 where
  pub looks : LooksFirst types read look ask old new
  pub answers : LookAnswers types old.node.served read.query look

-- what follows a look: after a miss, an ask is opened where there is room
abbrev pub OpensAsk : Key → Look → Option ℕ → Node → Node → Type 0
OpensAsk key (Hit answer version) ask old new = (ask ≡ None) × (new ≡ old)
OpensAsk key Miss ask old new = AfterLook key Miss ask old new
