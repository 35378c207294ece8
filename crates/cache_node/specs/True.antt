-- A node is true of the logs that it has seen: what its type keeps.
use Rattle.std.specs.Prelude.{◌≡◌, ℕ, ◌<◌, ◌≤◌, true, if◌then◌else◌, List, [], ◌∷◌, length, Option, Some, None, IsSome}
use Rattle.std.specs.List.{AllByRecursion}
use Rattle.std.specs.Option.{option_map_or}
use Rattle.tao_base.specs.declared.entry.Entry.{Entry}
use Rattle.tao_base.specs.declared.id.Key.{Key}
use Rattle.tao_base.specs.Keys.{key_shard, same_key}
use Rattle.graph_model.specs.Log.{version, entry_at}
use Rattle.graph_model.specs.Soundness.{IsSound}
use Rattle.low_water.specs.Marks.{is_marked}
use Rattle.ask_table.specs.declared.ask.Ask.{Ask}
use Rattle.cache_items.specs.maint_msg.KeyVersions.{keys_of}
use Rattle.cache_items.specs.maint_msg.declared.key_versions.KeyVersion.{KeyVersion}
use Rattle.cache_items.specs.sealed_item.Fills.{IsExactContent}
use Rattle.cache_items.specs.declared.item.Item.{Item}
use Rattle.cache_items.specs.Node.{Node, item_at}
use Rattle.served_shards.specs.Served.{ServedShard, served_at}

-- the version that a touch of the key gives it, if there is one
abbrev pub version_among : List KeyVersion → Key → Option ℕ
version_among [] key = None
version_among (k ∷ ks) key = if same_key key k.key then Some k.version else version_among ks key

-- the version that the entry at the position gives the key, where it touches it
abbrev pub touched : List Entry → ℕ → Key → Option ℕ
touched log position key = option_map_or (λ e. version_among (keys_of e) key) (entry_at log position) None

-- what was seen of the log is sound, and no position past it is marked
pub record IsTrueServed (s : ServedShard) : Type 0 where
  pub sound : IsSound s.view.entries
  pub within : (p : ℕ) → is_marked s.marks p ≡ true → p ≤ length s.view.entries

-- the item is exact at its version, and has at least the version of each touch of its key at a marked position
pub record IsTrueItem (s : ServedShard) (key : Key) (item : Item) : Type 0 where
  pub exact : IsExactContent s.view.entries key item.version item.content
  pub reaches : (p v : ℕ) → is_marked s.marks p ≡ true → touched s.view.entries p key ≡ Some v → v ≤ item.version

-- the ask began at the low-water mark or below, its key has reached its floor, and each touch of its key at a marked position since has at most its floor
pub record IsTrueAsk (s : ServedShard) (a : Ask) : Type 0 where
  pub begun : a.mark ≤ s.marks.low
  pub known : a.floor ≤ version s.view.entries a.key
  pub since : (p v : ℕ) → is_marked s.marks p ≡ true → a.mark < p → touched s.view.entries p a.key ≡ Some v → v ≤ a.floor

-- the logs of the served shards are told
abbrev pub AreTold : List ServedShard → Type 0
AreTold served = (shard : ℕ) (s : ServedShard) → served_at shard served ≡ Some s → s.view.log.told ≡ true

-- the logs of the served shards are told all, or none
abbrev pub AreAlike : List ServedShard → Type 0
AreAlike served = (i j : ℕ) (s t : ServedShard) → served_at i served ≡ Some s → served_at j served ≡ Some t → s.view.log.told ≡ t.view.log.told

-- the shard is one that the node serves
abbrev pub IsServed : List ServedShard → ℕ → Type 0
IsServed served shard = IsSome (served_at shard served)

-- the ask is true of what was seen of its key's shard
abbrev pub IsTrueAskOf : List ServedShard → Ask → Type 0
IsTrueAskOf served a = (s : ServedShard) → served_at (key_shard a.key) served ≡ Some s → IsTrueAsk s a

-- marks, items and asks are true of what was seen of the logs
pub record IsTrueOfLogs (n : Node) : Type 0 where
  pub served : (shard : ℕ) (s : ServedShard) → served_at shard n.served ≡ Some s → IsTrueServed s
  pub items : (key : Key) (item : Item) (s : ServedShard) → item_at n.items key ≡ Some item → served_at (key_shard key) n.served ≡ Some s
      → IsTrueItem s key item
  pub asks : AllByRecursion (IsTrueAskOf n.served) n.asks.asks

-- each item and each open ask is of a served shard, the logs are told all or none, and where the logs are told, all is true of them
pub record IsTrueNode (n : Node) : Type 0 where
  pub items_here : (key : Key) (item : Item) → item_at n.items key ≡ Some item → IsServed n.served (key_shard key)
  pub asks_here : AllByRecursion (λ a. IsServed n.served (key_shard a.key)) n.asks.asks
  pub alike : AreAlike n.served
  pub told : AreTold n.served → IsTrueOfLogs n
