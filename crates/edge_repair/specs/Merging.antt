-- What a repair does to the tables of the two stores, and to the other store's log.
use Rattle.std.specs.Prelude.{◌≡◌, ◌≤◌, ◌<◌, ◌⊎◌, ℕ, length, Option, Some, None, IfSome, IsSome, Result, Ok, Err}
use Rattle.edge_repair.specs.JobBetween.{JobBetween, way_back, way_there}
use Rattle.edge_repair.specs.declared.refusal.RepairRefusal.{RepairRefusal}
use Rattle.edge_repair.specs.declared.refusal.RepairRefusal.TheVariants.{KeeperFault, LinkFault, LogFull, OutOfMemory}
use Rattle.edge_repair.specs.declared.repairs.RepairOutcome.{RepairOutcome}
use Rattle.shard_tables.specs.StoreView.{Store}
use Rattle.shard_tables.specs.Stores.{store_with}
use Rattle.shard_tables.specs.Written.{TableGains}
use Rattle.tao_base.specs.declared.entry.Entry.{Entry}
use Rattle.tao_keeper.specs.Table.{Changes, Stays, Tables, after_end}
use Rattle.tao_link.specs.declared.link.Carry.{Carry}
use Rattle.write_model.specs.Merges.{merge_of}

-- the entry that merges the job at the other store; none where all of its records are there
abbrev pub due_entry : JobBetween → Tables → Option Entry
due_entry j tables = merge_of (tables j.to.name).log j.from.shard j.job.position j.job.edges

-- the other store's log gains that entry, and nothing else changes
abbrev pub MergesDue : JobBetween → Tables → Tables → Type 0
MergesDue j old new = TableGains old new j.to.name (due_entry j old) None

-- the entry was written, and had room
pub record WritesDue (j : JobBetween) (old new : Tables) (wrote : Option Entry) : Type 0 where
  pub wrote_is : wrote ≡ due_entry j old
  pub room : IfSome wrote (λ e. length (old j.to.name).log < j.to.log_max)
  pub merges : MergesDue j old new

-- the due entry has no room in the other store's log, which is full at that many entries; nothing changes
pub record LacksRoom (j : JobBetween) (old new : Tables) (count : ℕ) : Type 0 where
  pub due : IsSome (due_entry j old)
  pub full : j.to.log_max ≤ length (old j.to.name).log
  pub count_is : count ≡ length (old j.to.name).log
  pub stays : Stays old new

-- the merge at the other store, by the answer and the last carry that failed; a job that wasn't merged changes nothing
abbrev pub MergesBy : JobBetween → Option Carry → Tables → Tables → Result RepairOutcome RepairRefusal → Type 0
MergesBy j failed old new (Ok repaired) = WritesDue j old new repaired.wrote
MergesBy j failed old new (Err (LogFull count)) = LacksRoom j old new count
MergesBy j failed old new (Err LinkFault) = ((failed ≡ Some (way_there j)) × Stays old new) ⊎ ((failed ≡ Some (way_back j)) × MergesDue j old new)
MergesBy j failed old new (Err KeeperFault) = Stays old new ⊎ MergesDue j old new
MergesBy j failed old new (Err OutOfMemory) = Stays old new ⊎ MergesDue j old new

-- a repair over one keeper: the merge at the other store, and after it the end of the job at its own, which no refusal ends
pub record RepairsAs (j : JobBetween) (failed : Option Carry) (old new : Tables) (result : Result RepairOutcome RepairRefusal) : Type 0 where
  pub between : Tables
  pub merges : MergesBy j failed old between result
  pub ends : Changes result between new j.from (after_end (between j.from) j.job.position)

-- the other store's log gained an entry, or none
abbrev pub MayGain : Store → Store → Type 0
MayGain old new = (added : Option Entry) × (new ≡ store_with old added)

-- the other store has what was written, by the answer
abbrev pub GainsBy : Store → Store → Result RepairOutcome RepairRefusal → Type 0
GainsBy old new (Ok repaired) = new ≡ store_with old repaired.wrote
GainsBy old new (Err (LogFull count)) = new ≡ old
GainsBy old new (Err LinkFault) = MayGain old new
GainsBy old new (Err KeeperFault) = MayGain old new
GainsBy old new (Err OutOfMemory) = MayGain old new
