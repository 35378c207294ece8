-- A node that processes the rest of a store's log.
use Rattle.std.specs.Prelude.{ℕ, ◌≡◌, All, Bool, IfSome, List, drop}
use Rattle.cache_items.specs.Node.{Node}
use Rattle.core_model.specs.follower_cache.declared.queue.Refill.{Refill}
use Rattle.graph_model.specs.Told.{WhereTold}
use Rattle.served_shards.specs.Served.{IsLowWater, low_at, served_at}
use Rattle.shard_tables.specs.StoreView.{Store}
use Rattle.shard_tables.specs.Stores.{note_of}
use Rattle.tao_base.specs.Keys.{key_shard}
use Rattle.tao_base.specs.declared.entry.Entry.{Entry}
use Rattle.core_model.specs.Messages.{Processes}
use Rattle.node_stages.specs.Caches.{ChangesAlone}
use Rattle.node_stages.specs.Stages.{CacheDoes}

-- all that the entries touch lies on the shard
abbrev pub TouchShard : ℕ → List Entry → Type 0
TouchShard shard entries = All (λ e. All (λ t. key_shard t.key ≡ shard) e.touches) entries

-- a leader or a follower processes what follows its low-water mark in the log of the store, with a note that has seen all that the store has
pub record ProcessesRest {N : Type 0} (node : N → Node) (refills : N → List Refill) (tells : Bool) (log : List Entry) (store : Store)
    (old new : N) : Type 0 where
  pub entries : List Entry
  pub marked : IfSome (served_at store.name.shard (node old).served) (λ s. IsLowWater s.marks)
  pub entries_are : WhereTold tells (entries ≡ drop (low_at store.name.shard (node old).served) log)
  pub does : CacheDoes node (ChangesAlone node refills (Processes store.name.shard entries (note_of store))) old new
