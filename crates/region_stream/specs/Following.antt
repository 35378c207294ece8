-- What a step does to a master's store and a slave's that follows it.
use Rattle.std.specs.Prelude.{ℕ, ◌≡◌, ◌<◌, ◌⊎◌, List, length, Option, Some, None, Result, Ok, Err, IsErrOf}
use Rattle.counts.specs.Count.{Counted, Rose}
use Rattle.tao_base.specs.declared.entry.Entry.{Entry}
use Rattle.shard_log.specs.View.{Grows, View}
use Rattle.shard_tables.specs.Slaves.{IsNextIn}
use Rattle.shard_tables.specs.StoreView.{Store}
use Rattle.shard_tables.specs.declared.refusal.StoreRefusal.{StoreRefusal}
use Rattle.shard_tables.specs.declared.refusal.StoreRefusal.TheVariants.{KeeperFault}
use Rattle.tao_keeper.specs.KeeperState.{IsLater, KeeperState}

-- the entry that a slave's log lacks next of its master's: none exactly where both are equally long
abbrev pub IsNextOf : List Entry → List Entry → Option Entry → Type 0
IsNextOf log slave None = length slave ≡ length log
IsNextOf log slave (Some e) = (length slave < length log) × IsNextIn log slave e

-- the entry that was moved
abbrev pub entry_moved : Result (Option Entry) StoreRefusal → Option Entry
entry_moved (Ok found) = found
entry_moved (Err refusal) = None

-- the slave's store has seen more of the master's log, and is else as it was
pub record FollowsTo (whole : View) (old new : Store) : Type 0 where
  pub is : new ≡ record old { view = new.view }
  pub grows : Grows old.view new.view
  pub within : Grows new.view whole

-- where an entry was moved, the slave's store has seen more of the master's log; where none was, the store is as it was
abbrev pub StepsTo : View → Option Entry → Store → Store → Type 0
StepsTo whole None old new = new ≡ old
StepsTo whole (Some e) old new = FollowsTo whole old new

-- a step is counted where there was nothing to move, and nowhere else
abbrev pub CountsEmpties : ℕ → ℕ → Result (Option Entry) StoreRefusal → Type 0
CountsEmpties before now (Ok None) = Counted before now
CountsEmpties before now (Ok (Some e)) = now ≡ before
CountsEmpties before now (Err refusal) = now ≡ before

-- calls of two keepers: no count fell, and one of the counts of faults rose where the answer is that a keeper failed
pub record CallsBoth {T : Type 0} (from_old from_new to_old to_new : KeeperState) (result : Result T StoreRefusal) : Type 0 where
  pub from : IsLater from_old from_new
  pub to : IsLater to_old to_new
  pub failed : IsErrOf result KeeperFault → Rose from_old.faults from_new.faults ⊎ Rose to_old.faults to_new.faults
