-- What a leader takes of what was written through it.
use Rattle.std.specs.Prelude.{ℕ, ◌≡◌, Bool, if◌then◌else◌, Option, Some, None, IfSome, Result, Ok, Err}
use Rattle.tao_base.specs.EdgeTypes.{EdgeTypes}
use Rattle.tao_base.specs.declared.entry.Entry.{Entry}
use Rattle.shard_log.specs.View.{View, as_note}
use Rattle.cache_node.specs.cache_items.Node.{Node}
use Rattle.cache_node.specs.cache_items.TakenEntry.{TakesEntry}
use Rattle.shard_tables.specs.StoreView.{Store}
use Rattle.shard_tables.specs.Written.{LiesOn, StandsIn}
use Rattle.shard_tables.specs.declared.refusal.StoreRefusal.{StoreRefusal}
use Rattle.shard_tables.specs.declared.writes.Wrote.{Wrote}

-- the entry that a leader takes: that of the answer, also of a retry, where it is the preferred leader
abbrev pub taken_entry : Bool → Result Wrote StoreRefusal → Option Entry
taken_entry preferred (Ok wrote) = if preferred then wrote.entry else None
taken_entry preferred (Err refusal) = None

-- the node takes all changesets of the entry and marks its position; without an entry it stays
abbrev pub TakesWritten : EdgeTypes → ℕ → Option Entry → View → Node → Node → Type 0
TakesWritten types shard None note old new = new ≡ old
TakesWritten types shard (Some e) note old new = TakesEntry types shard e note old new

-- what was written at the store may be taken: the entry stands in what the store has seen, and touches keys of its shard
pub record MayBeTaken (store : Store) (wrote : Wrote) : Type 0 where
  pub note_is : wrote.note ≡ as_note store.view
  pub stands : IfSome wrote.entry (StandsIn wrote.note)
  pub here : IfSome wrote.entry (LiesOn wrote.note store.name.shard)
