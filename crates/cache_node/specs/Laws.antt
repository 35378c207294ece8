-- What follows of a true node, for callers to cite.
use Rattle.std.specs.List.{IsDistinct}
use Rattle.std.specs.Map.{keys_of as keys_held}
use Rattle.std.specs.Option.{option_map}
use Rattle.std.specs.Prelude.{◌≡◌, ℕ, ⊤, ◌+◌, ◌≤◌, ◌==◌, true, false, List, [], ◌∷◌, take, length, Some}
use Rattle.tao_base.specs.EdgeTypes.{EdgeTypes}
use Rattle.tao_base.specs.declared.entry.Entry.{Entry}
use Rattle.tao_base.specs.declared.id.Key.{Key}
use Rattle.tao_base.specs.declared.query.Answer.{Answer}
use Rattle.tao_base.specs.declared.query.Query.{Query}
use Rattle.graph_model.specs.Log.{version}
use Rattle.graph_model.specs.Legal.{IsLegal}
use Rattle.tao_base.specs.Keys.{same_key}
use Rattle.shard_log.specs.View.{Begins}
use Rattle.low_water.specs.Marks.{IsWindow}
use Rattle.lru.specs.LruCache.{promoted}
use Rattle.cache_items.specs.changeset.Changes.{SeenChange}
use Rattle.cache_items.specs.maint_msg.declared.key_versions.KeyVersion.{KeyVersion}
use Rattle.cache_items.specs.sealed_item.Decided.{IsExactAnswer, IsWithinBound, content_answer, content_decides}
use Rattle.cache_items.specs.Kept.{item_of, kept_items, stays}
use Rattle.cache_items.specs.Look.{look_of}
use Rattle.cache_items.specs.Node.{Items, Node, caught_up as node_caught_up, dropped, item_at, without, without_last}
use Rattle.served_shards.specs.Served.{ServedShard, changed_at, served_at}
use Rattle.cache_items.specs.Taken.{ChangesItems}
use Rattle.cache_node.specs.True.{IsTrueItem, IsTrueServed}
use Rattle.cache_node.specs.Within.{AreFewer, AreWithin}
use Rattle.cache_items.specs.declared.item.Item.{Item}
use Rattle.cache_items.specs.declared.look.Look.TheVariants.{Hit}
use Rattle.cache_items.specs.sealed_item.Fills.{IsExactContent, SealedItem}
use Rattle.tao_base.specs.Queries.{query_key}

-- an answer of what was seen of a log is a legal one of each log that it begins, for each floor that its version has reached
pub record AnswersAreLegal : Type 0 where
  pub legal : (types : EdgeTypes) (seen log : List Entry) (query : Query) (given : Answer) (at least : ℕ) → Begins seen log
      → IsExactAnswer types seen query given at → least ≤ at → IsLegal types log query least given at

-- a true item has at least the version that its key has in the entries up to the low-water mark
pub record ItemsReachTheMark : Type 0 where
  pub reaches : (s : ServedShard) (key : Key) (item : Item) → IsTrueServed s → IsTrueItem s key item
      → version (take s.marks.low s.view.entries) key ≤ item.version

-- a node holds no other items after a call, but for one that it kept or changed
pub record ItemsAreFewer (items : Items) (distinct : IsDistinct same_key (keys_held items)) : Type 0 where
  pub without_one : (key : Key) → AreFewer items (without key items)
  pub without_the_last : AreFewer items (without_last items)
  pub used : (key : Key) → AreFewer items (promoted (same_key key) items)
  pub left : (keys : List KeyVersion) → AreFewer items (dropped items keys)

-- the items of a node stay no longer than the bounds of their types, while a fill that is kept is no longer than the bound of its own
pub record ItemsStayWithin (types : EdgeTypes) (items : Items) : Type 0 where
  pub fewer : (new : Items) → AreFewer items new → AreWithin types items → AreWithin types new
  pub kept : (most : ℕ) (key : Key) (item : Item) → IsDistinct same_key (keys_held items) → IsWithinBound types key item.content → AreWithin types items
      → AreWithin types (kept_items items most key item)
  pub changed : (c : SeenChange) (new : Items) → IsDistinct same_key (keys_held items) → ChangesItems types c items new → AreWithin types items
      → AreWithin types new
  pub caught : (shard : ℕ) (entries : List Entry) (n : Node) → n.items ≡ items → IsDistinct same_key (keys_held items) → AreWithin types items
      → AreWithin types (node_caught_up shard entries n).items

-- a change to what a node has of a shard leaves the shard's number as it was
abbrev pub KeepsShard : (ServedShard → ServedShard) → Type 0
KeepsShard f = (s : ServedShard) → (f s).shard ≡ s.shard

-- what the node has of a shard that changed is changed so, and what it has of another stays
pub record ServedChanges (shard : ℕ) (f : ServedShard → ServedShard) (served : List ServedShard) : Type 0 where
  pub there : KeepsShard f → served_at shard (changed_at shard f served) ≡ option_map f (served_at shard served)
  pub elsewhere : KeepsShard f → (k : ℕ) → (k == shard) ≡ false → served_at k (changed_at shard f served) ≡ served_at k served

-- positions that follow each other from one on
abbrev pub FollowFrom : ℕ → List Entry → Type 0
FollowFrom low [] = ⊤
FollowFrom low (e ∷ es) = (e.position ≡ low + 1) × FollowFrom (low + 1) es

-- what the node has of the shard after it caught up: the view stays, and the low-water mark is at least the last position
pub record CaughtUp (shard : ℕ) (entries : List Entry) (s : ServedShard) (after : List ServedShard) : Type 0 where
  pub reached : ServedShard
  pub at : served_at shard after ≡ Some reached
  pub view_is : reached.view ≡ s.view
  pub low : s.marks.low + length entries ≤ reached.marks.low

-- entries that follow the low-water mark raise it over them
pub record CatchingUpReaches : Type 0 where
  pub caught_up : (shard : ℕ) (entries : List Entry) (n : Node) (s : ServedShard) → served_at shard n.served ≡ Some s → IsWindow s.marks
      → FollowFrom s.marks.low entries → CaughtUp shard entries s (node_caught_up shard entries n).served

-- what is held at a key is exact in the log
abbrev pub IsExactAt : List Entry → Items → Key → Type 0
IsExactAt log items key = (item : Item) → item_at items key ≡ Some item → IsExactContent log key item.version item.content

-- a query that a node just answered from an item it answers again, with each floor that the item's version has reached
pub record AnswersRepeat : Type 0 where
  -- after a hit
  pub hit : (types : EdgeTypes) (items : Items) (query : Query) (floor again at : ℕ) (given : Answer)
      → look_of types (item_at items (query_key query)) query floor ≡ Hit given at → again ≤ at
      → look_of types (item_at (promoted (same_key (query_key query)) items) (query_key query)) query again ≡ Hit given at
  -- after a fill that decides it was kept
  pub kept : (types : EdgeTypes) (items : Items) (most : ℕ) (query : Query) (again : ℕ) (fill : SealedItem) → content_decides types fill.content query ≡ true
      → stays (item_at items (query_key query)) (item_of fill) ≡ false → again ≤ fill.version
      → look_of types (item_at (kept_items items most (query_key query) (item_of fill)) (query_key query)) query again
      ≡ Hit (content_answer types fill.content query) fill.version
  -- also where a longer list of its version was held, which stays: in a log in which both are exact
  pub kept_beside : (types : EdgeTypes) (log : List Entry) (items : Items) (most : ℕ) (query : Query) (again : ℕ) (fill : SealedItem)
      → IsExactAt log items (query_key query) → IsExactContent log (query_key query) fill.version fill.content
      → content_decides types fill.content query ≡ true → again ≤ fill.version
      → look_of types (item_at (kept_items items most (query_key query) (item_of fill)) (query_key query)) query again
      ≡ Hit (content_answer types fill.content query) fill.version
