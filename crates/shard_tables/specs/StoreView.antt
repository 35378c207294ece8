-- What contracts see of a store.
use Rattle.std.specs.Prelude.{ℕ}
use Rattle.tao_base.specs.declared.id.StoreName.{StoreName}
use Rattle.shard_log.specs.View.{View}
use Rattle.shard_tables.specs.declared.store.Held.{Held}
use Rattle.shard_tables.specs.declared.store.Held.TheVariants.{Whole, Seen}
use Rattle.shard_tables.specs.declared.store.StoreRole.{StoreRole}
use Rattle.shard_tables.specs.declared.store.StoreRole.TheVariants.{Master, Slave}
use Rattle.shard_tables.specs.declared.store.StoreNode.TheInside.{Inside}

-- a store: its name, how many entries its log may have, the epoch of its stamps, its role, and what it has seen of the log: a master the whole
pub record Store : Type 0 where
  pub name : StoreName
  pub log_max : ℕ
  pub epoch : ℕ
  pub role : StoreRole
  pub view : View

-- who has the pen is the master
abbrev pub role_of : Held → StoreRole
role_of (Whole pen) = Master
role_of (Seen note) = Slave

-- what the store has seen of the log, by its pen or its note
abbrev pub held_view : Held → View
held_view (Whole pen) = pen
held_view (Seen note) = note

-- what contracts see of a store's fields
abbrev pub shown_store : Inside → Store
shown_store s = record { name = s.name; log_max = s.log_max; epoch = s.epoch; role = role_of s.held; view = held_view s.held }
