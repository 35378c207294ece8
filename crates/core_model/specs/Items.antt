-- Items that stay as they were, whatever their node does.
use Rattle.std.specs.Prelude.{ℕ, ◌≡◌, ◌≢◌, ◌≤◌, ◌⊎◌, ⊤, IfSome, Option, Some, List, length}
use Rattle.std.specs.List.{AllByRecursion, IsDistinct}
use Rattle.std.specs.Map.{keys_of as keys_held}
use Rattle.lru.specs.LruCache.{last_entry}
use Rattle.cache_items.specs.Node.{Items, Node, item_at, without, without_last}
use Rattle.cache_items.specs.declared.item.Item.{Item}
use Rattle.cache_items.specs.declared.look.Kept.{Kept}
use Rattle.cache_items.specs.declared.look.Look.{Look}
use Rattle.follower_cache.specs.Seen.{FollowerState}
use Rattle.leader_tier.specs.TakenWrites.{TakesWritten}
use Rattle.maint_msg.specs.KeyVersions.{keys_of}
use Rattle.maint_msg.specs.Maints.{SeenMaint}
use Rattle.maint_msg.specs.declared.key_versions.KeyVersion.{KeyVersion}
use Rattle.cache_items.specs.sealed_item.Fills.{SealedItem}
use Rattle.shard_log.specs.View.{View}
use Rattle.leader_tier.specs.shard_tables.declared.leader_answer.LeaderAnswer.{LeaderAnswer}
use Rattle.leader_tier.specs.shard_tables.declared.leader_answer.LeaderAnswer.TheVariants as leader
use Rattle.tao_base.specs.EdgeTypes.{EdgeTypes}
use Rattle.tao_base.specs.Keys.{same_key}
use Rattle.tao_base.specs.Queries.{query_key}
use Rattle.tao_base.specs.declared.entry.Entry.{Entry}
use Rattle.tao_base.specs.declared.id.Key.{Key}
use Rattle.tao_base.specs.declared.query.Answer.{Answer}
use Rattle.core_model.specs.Messages.{Delivers, Processes}
use Rattle.core_model.specs.Reads.{EndsAsk, KeepsFill, LeaderAnswers, LooksFirst, StoreCalls, Wanted, taken_fill}
use Rattle.core_model.specs.Writes.{AppliesTo}

-- the key is none of those that the list names
abbrev pub IsNotNamed : Key → List KeyVersion → Type 0
IsNotNamed key keys = AllByRecursion (λ k. key ≢ k.key) keys

-- what is held at the key stays as it was
abbrev pub KeepsItem : Key → Items → Items → Type 0
KeepsItem key old new = (item : Item) → item_at old key ≡ Some item → item_at new key ≡ Some item

-- what is held at the key stays as it was, unless it was the item that was used least recently
abbrev pub KeepsUnlessLast : Key → Items → Items → Type 0
KeepsUnlessLast key old new = (item : Item) → item_at old key ≡ Some item → (item_at new key ≡ Some item) ⊎ (last_entry old ≡ Some (key, item))

-- no key stands twice among the items
abbrev pub AreApart : Items → Type 0
AreApart items = IsDistinct same_key (keys_held items)

-- no key stands twice among the node's items, and there are no more of them than there may be
pub record AreWellHeld (node : Node) : Type 0 where
  pub apart : AreApart node.items
  pub few : length node.items ≤ node.most

-- what was given is of the read's key, where it is a fill
abbrev pub IsOfRead : Wanted → LeaderAnswer → Type 0
IsOfRead read (leader.Filled fill) = fill.key ≡ query_key read.query
IsOfRead read (leader.Past answer version total note) = ⊤
IsOfRead read (leader.Behind version) = ⊤

-- what a node holds at a key stays as it was, unless the stage is of the key
pub record ItemsStay (key : Key) : Type 0 where
  pub looks : (types : EdgeTypes) (read : Wanted) (look : Look) (ask : Option ℕ) (old new : FollowerState) → LooksFirst types read look ask old new
      → AreApart old.node.items → KeepsItem key old.node.items new.node.items
  pub ends : (ask : Option ℕ) (old new : FollowerState) → EndsAsk ask old new → KeepsItem key old.node.items new.node.items
  -- a fill of another key pushes out the last item at most
  pub keeps : (types : EdgeTypes) (read : Wanted) (ask : Option ℕ) (fill : SealedItem) (answer : Answer) (kept : Kept) (old new : FollowerState)
      → KeepsFill types read.query (taken_fill ask fill answer kept) old new → key ≢ fill.key → AreWellHeld old.node
      → KeepsUnlessLast key old.node.items new.node.items
  pub evicts : (other : Key) (old new : Node) → new ≡ record old { items = without other old.items } → key ≢ other → AreApart old.items
      → KeepsItem key old.items new.items
  pub evicts_last : (old new : Node) → new ≡ record old { items = without_last old.items } → KeepsUnlessLast key old.items new.items
  -- a leader that answers keeps a copy of what its store read, as a follower keeps a fill
  pub answers : (types : EdgeTypes) (read : Wanted) (given : LeaderAnswer) (calls : StoreCalls) (old new : Node)
      → LeaderAnswers types read given calls old new → IsOfRead read given → key ≢ query_key read.query → AreWellHeld old
      → KeepsUnlessLast key old.items new.items
  pub writes : (types : EdgeTypes) (shard : ℕ) (entry : Option Entry) (note : View) (old new : Node) → TakesWritten types shard entry note old new
      → IfSome entry (λ e. IsNotNamed key (keys_of e)) → AreApart old.items → KeepsItem key old.items new.items
  pub applies : (types : EdgeTypes) (shard : ℕ) (entry : Entry) (note : View) (old new : FollowerState) → AppliesTo types shard entry note old new
      → IsNotNamed key (keys_of entry) → AreApart old.node.items → KeepsItem key old.node.items new.node.items
  pub processes : (shard : ℕ) (entries : List Entry) (note : View) (old new : Node) → Processes shard entries note old new
      → AllByRecursion (λ e. IsNotNamed key (keys_of e)) entries → AreApart old.items → KeepsItem key old.items new.items
  pub delivers : (m : SeenMaint) (dropped : ℕ) (old new : Node) → Delivers m dropped old new → IsNotNamed key m.keys → AreApart old.items
      → KeepsItem key old.items new.items
