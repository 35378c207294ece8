-- What is read off an item.
use Rattle.std.specs.Prelude.{ℕ, Bool, true, false, ◌&&◌, nat_le, if◌then◌else◌, Option, Some, None}
use Rattle.tao_base.specs.EdgeTypes.{EdgeTypes}
use Rattle.tao_base.specs.declared.query.Query.{Query}
use Rattle.tao_base.specs.declared.id.Key.{Key}
use Rattle.tao_base.specs.Keys.{same_key}
use Rattle.lru.specs.LruCache.{promoted}
use Rattle.sealed_item.specs.Decided.{content_answer, content_decides}
use Rattle.cache_items.specs.declared.item.Item.{Item}
use Rattle.cache_items.specs.Node.{Node}
use Rattle.cache_items.specs.declared.look.Look.{Look}
use Rattle.cache_items.specs.declared.look.Look.TheVariants.{Hit, Miss}

-- a hit exactly where the version is the floor or more, and the content decides
abbrev pub item_look : EdgeTypes → Item → Query → ℕ → Look
item_look types item query floor =
    if nat_le floor item.version && content_decides types item.content query then Hit (content_answer types item.content query) item.version else Miss

-- a miss where no item is held
abbrev pub look_of : EdgeTypes → Option Item → Query → ℕ → Look
look_of types None query floor = Miss
look_of types (Some item) query floor = item_look types item query floor

-- whether the look found an answer
abbrev pub is_hit : Look → Bool
is_hit Miss = false
is_hit (Hit answer version) = true

-- the node after a look at a key: a hit brings the key's item to the front, a miss leaves all
abbrev pub looked_at : Key → Look → Node → Node
looked_at key look n = record n { items = if is_hit look then promoted (same_key key) n.items else n.items }
