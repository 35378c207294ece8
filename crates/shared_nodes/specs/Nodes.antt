-- What is known of a cache node whenever its lock is free.
use Rattle.std.specs.Prelude.{◌≤◌, ◌<◌, ⊤, length}
use Rattle.cache_items.specs.Node.{Node}
use Rattle.cache_items.specs.declared.look.Kept.{Kept}
use Rattle.cache_items.specs.declared.look.Kept.TheVariants.{Yes, Asks, Lost, Mark, Floor, Memory}
use Rattle.cache_items.specs.declared.look.Look.{Look}
use Rattle.cache_items.specs.declared.look.Look.TheVariants.{Hit, Miss}
use Rattle.core_model.specs.Consistent.{IsRightNode}
use Rattle.core_model.specs.Reads.{Wanted}
use Rattle.graph_model.specs.Log.{version}
use Rattle.graph_model.specs.Told.{WhereTold}
use Rattle.log_names.specs.Names.{IsOfLog, LogNames}
use Rattle.node_name.specs.declared.NodeName.{NodeName}
use Rattle.shard_log.specs.GrowthLaws.{IsLegalIn}
use Rattle.shard_log.specs.View.{View}
use Rattle.shared_stores.specs.Making.{Making}
use Rattle.tao_base.specs.EdgeTypes.{EdgeTypes}
use Rattle.tao_base.specs.declared.id.Key.{Key}

-- the node serves the shards of its name's turn, has seen beginnings of their logs, is true of these, and holds no list past the bound of its type
abbrev pub IsSharedNode : Making → LogNames → NodeName → Node → Type 0
IsSharedNode m log name node = IsRightNode m.settings (IsOfLog log) name node

-- a hit is legal in what was seen of the shard's log
abbrev pub IsLegalHit : EdgeTypes → View → Wanted → Look → Type 0
IsLegalHit types view read (Hit answer version) = IsLegalIn types view read.query read.floor answer version
IsLegalHit types view read Miss = ⊤

-- why a fill of the key isn't kept is so in what was seen of its shard's log: a mark that is needed is at most its length, and a floor at most the key's
-- version there. No ask was lost
abbrev pub IsKeptAsSeen : View → Key → Kept → Type 0
IsKeptAsSeen view key Yes = ⊤
IsKeptAsSeen view key Asks = ⊤
IsKeptAsSeen view key Lost = ⊥
IsKeptAsSeen view key (Mark have need) = (have < need) × WhereTold view.log.told (need ≤ length view.entries)
IsKeptAsSeen view key (Floor have need) = (have < need) × WhereTold view.log.told (need ≤ version view.entries key)
IsKeptAsSeen view key Memory = ⊤
