-- The opening of a cluster, over one keeper a store.
use Rattle.std.specs.Prelude.{ℕ, ◌≡◌, ◌<◌, Bool, List, [], Some, length, slice_get, unwrap_or}
use Rattle.core_model.specs.Consistent.{IsConsistent}
use Rattle.core_model.specs.Fleet.{EachIs, Fleet}
use Rattle.core_model.specs.Pens.{Pens, pens_of}
use Rattle.core_model.specs.Stores.{IsConfiguredStore, master_store}
use Rattle.locked_nodes.specs.core_nodes.Opening.{RefusesOpening}
use Rattle.graph_model.specs.Told.{WhereTold}
use Rattle.keepers.specs.Shown.{told_in, total}
use Rattle.cluster_opening.specs.declared.opening.Noted.{Noted}
use Rattle.log_names.specs.Names.{LogNames}
use Rattle.replies.specs.declared.opening.OpenRefusal.{OpenRefusal}
use Rattle.shard_log.specs.View.{View}
use Rattle.shard_tables.specs.StoreView.{Store}
use Rattle.shard_tables.specs.declared.store.StoreRole.{StoreRole}
use Rattle.shard_tables.specs.declared.store.StoreRole.TheVariants.{Master, Slave}
use Rattle.locked_nodes.specs.shared_nodes.Nodes.{IsSharedNode}
use Rattle.shared_stores.specs.Making.{Making}
use Rattle.tao_base.specs.declared.id.StoreName.{StoreName}
use Rattle.tao_keeper.specs.KeeperState.{KeeperState}
use Rattle.tao_keeper.specs.Table.{Tables}
use Rattle.tao_schema.specs.Schema.{types_of}
use Rattle.topology.specs.Config.{Settings}
use Rattle.write_model.specs.Merges.{HasItsJobs}

-- the log of each shard, by the name that its pen has
abbrev pub logs_of : List Store → LogNames
logs_of stores shard = (pens_of stores shard).log

-- what a cluster is made with: its configuration, and of each shard how many entries its log has, and the cut that was found
abbrev pub making_of : Settings → List Store → List ℕ → Making
making_of s stores cuts = record {
  settings = s;
  begun = λ shard. length (pens_of stores shard).entries;
  cut = λ shard. unwrap_or (slice_get cuts shard) 0;
}

-- each store's jobs, a slave's too, are those of the entries of its log
abbrev pub HaveTheirJobs : Settings → Tables → Type 0
HaveTheirJobs s tables = (at : StoreName) → IsConfiguredStore s at → HasItsJobs (types_of s.schema) (tables at).log (tables at).jobs

-- the cuts are those of the masters' logs, shard by shard
pub record AreCuts (tells : Bool) (s : Settings) (tables : Tables) (cuts : List ℕ) : Type 0 where
  pub long : length cuts ≡ s.shards
  pub each : WhereTold tells ((shard : ℕ) → shard < s.shards → slice_get cuts shard ≡ Some (tables (master_store s shard)).cut)

-- the nodes of a cluster stand before its stores, as those of a core do, with the cuts of the masters' logs
pub record IsOpenedOver (tells : Bool) (s : Settings) (tables : Tables) (f : Fleet) (cuts : List ℕ) : Type 0 where
  pub consistent : IsConsistent tells s tables f
  pub cuts_are : AreCuts tells s tables cuts
  pub jobs : WhereTold tells (HaveTheirJobs s tables)

-- ---- one keeper a store

-- what the keepers show together, in order of region, then of shard, with so many shards in each region, and after so many calls on stores that none stands
-- for
abbrev pub shown_in : {M : Type 0} → (M → KeeperState) → ℕ → ℕ → List M → KeeperState
shown_in state shards strays keepers = record {
  told = told_in state shards keepers;
  calls = total (λ keeper. (state keeper).calls) strays keepers;
  faults = total (λ keeper. (state keeper).faults) strays keepers;
}

-- the stores could not be opened, and the keepers then show what they do after any number of such calls
pub record RefusesOver (tells : Bool) (s : Settings) (line : List ℕ) (old : KeeperState) (after : ℕ → KeeperState) (why : OpenRefusal) : Type 0 where
  pub strays : ℕ
  pub refused : RefusesOpening tells s line old (after strays) why

-- ---- the values of the locks

-- the note has seen all of the shard's log
pub record IsWholeNote (pens : Pens) (shard : ℕ) (note : View) : Type 0 where
  pub log_is : note.log ≡ (pens shard).log
  pub whole : note.entries ≡ (pens shard).entries

-- the notes are of the first shards' logs, so many, in order, and have seen all of these
pub record AreWholeNotes (pens : Pens) (count : ℕ) (notes : List View) : Type 0 where
  pub long : length notes ≡ count
  pub each : (shard : ℕ) (note : View) → slice_get notes shard ≡ Some note → IsWholeNote pens shard note

-- the notes of a store of that role: a master has one of each shard's log, a slave none
abbrev pub AreNotesFor : Pens → ℕ → StoreRole → List View → Type 0
AreNotesFor pens count Master notes = AreWholeNotes pens count notes
AreNotesFor pens count Slave notes = notes ≡ []

-- these are the notes of the first stores, so many, in order
pub record HaveNotes (pens : Pens) (shards : ℕ) (stores : List Store) (count : ℕ) (noted : List Noted) : Type 0 where
  pub long : length noted ≡ count
  pub each : (place : ℕ) (store : Store) (notes : Noted) → slice_get stores place ≡ Some store → slice_get noted place ≡ Some notes
      → AreNotesFor pens shards store.role notes.notes.items

-- each store is such, with the keeper and the notes at its place
pub record AreEach {M : Type 0} (Is : Store → M → List View → Type 0) (stores : List Store) (keepers : List M) (noted : List Noted) : Type 0 where
  pub keepers_long : length keepers ≡ length stores
  pub notes_long : length noted ≡ length stores
  pub each : (place : ℕ) (store : Store) (keeper : M) (notes : Noted) → slice_get stores place ≡ Some store → slice_get keepers place ≡ Some keeper
      → slice_get noted place ≡ Some notes → Is store keeper notes.notes.items

-- the leaders and followers may lie behind locks
pub record MayBeShared (m : Making) (log : LogNames) (f : Fleet) : Type 0 where
  pub leaders : EachIs (λ name node. IsSharedNode m log name node) f.leaders
  pub followers : EachIs (λ name follower. IsSharedNode m log name follower.node) f.followers
