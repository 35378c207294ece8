-- The stores of the regions, the logs of the shards as their masters' pens see them, and what was seen of them.
use Rattle.std.specs.Prelude.{ℕ, ◌≡◌, ◌==◌, ◌&&◌, Bool, true, false, List, [], Option, Some, None, find, length, slice_get}
use Rattle.shard_log.specs.View.{View, Grows, longer_view}
use Rattle.leader_tier.specs.shard_tables.StoreView.{Store}
use Rattle.leader_tier.specs.shard_tables.declared.store.StoreRole.{StoreRole}
use Rattle.leader_tier.specs.shard_tables.declared.store.StoreRole.TheVariants.{Master, Slave}
use Rattle.tao_base.specs.declared.id.StoreName.{StoreName}

-- ---- stores

-- whether a store of that role makes the writes of its shard
abbrev pub is_master : StoreRole → Bool
is_master Master = true
is_master Slave = false

-- the store makes the writes of the shard
abbrev pub is_master_for : ℕ → Store → Bool
is_master_for shard store = (store.name.shard == shard) && is_master store.role

-- the store that makes the writes of a shard
abbrev pub master_in : List Store → ℕ → Option Store
master_in stores shard = find (is_master_for shard) stores

-- the store has that name
abbrev pub is_called : StoreName → Store → Bool
is_called at store = (store.name.region == at.region) && (store.name.shard == at.shard)

-- the store of a region and a shard
abbrev pub store_in : List Store → StoreName → Option Store
store_in stores at = find (is_called at) stores

-- ---- logs

-- the pen's view of each shard's log, which is the whole log
abbrev pub Pens : Type 0
Pens = ℕ → View

-- what was seen of the shard's log begins it
abbrev pub IsSeen : Pens → ℕ → View → Type 0
IsSeen pens shard view = Grows view (pens shard)

-- what is right to have seen of a shard's log: a beginning of what its pen has, or, where nobody has the pen, any beginning of the log of its name
abbrev pub SeenRule : Type 1
SeenRule = ℕ → View → Type 0

-- where two views of a shard's log are right, the longer of them is right too
abbrev pub KeepsMeets : SeenRule → Type 0
KeepsMeets Seen = (shard : ℕ) (view note : View) → Seen shard view → Seen shard note → Seen shard (longer_view view note)

-- no log is cut back or taken away: each goes on from what it was
abbrev pub Rise : Pens → Pens → Type 0
Rise old new = (shard : ℕ) → Grows (old shard) (new shard)

-- the view of no log
abbrev pub no_view : View
no_view = record {
  log = record { table = record { words = 0; slots = 0; views_name = 0; atom = 0; block = 0; offset = 0; slot_names = [] }; told = false; pins = [] };
  entries = [];
  stored = [];
  floors = [];
}

-- what the store has seen of its shard's log; without a store the view of no log
abbrev pub view_or_none : Option Store → View
view_or_none None = no_view
view_or_none (Some store) = store.view

-- each shard's pen is that of its master's store
abbrev pub pens_of : List Store → Pens
pens_of stores shard = view_or_none (master_in stores shard)

-- the notes are of the first shards' logs, so many, in order, and have seen beginnings of these
pub record AreFirstNotes (pens : Pens) (count : ℕ) (notes : List View) : Type 0 where
  pub long : length notes ≡ count
  pub seen : (shard : ℕ) (note : View) → slice_get notes shard ≡ Some note → IsSeen pens shard note
