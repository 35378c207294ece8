-- What a repair asks of the other store, and what its calls do to keepers.
use Rattle.std.specs.Prelude.{◌≡◌, ◌<◌, ◌⊎◌, Bool, Result, IsErrOf, ⊤}
use Rattle.counts.specs.Count.{Rose}
use Rattle.edge_repair.specs.JobBetween.{JobBetween}
use Rattle.tao_keeper.specs.KeeperState.{IsLater, KeeperState}
use Rattle.edge_repair.specs.declared.refusal.RepairRefusal.{RepairRefusal}
use Rattle.edge_repair.specs.declared.refusal.RepairRefusal.TheVariants as repair
use Rattle.graph_model.specs.Told.{WhereTold}
use Rattle.shard_tables.specs.Stores.{IsStoreOf}
use Rattle.shard_tables.specs.declared.refusal.StoreRefusal.{StoreRefusal}
use Rattle.shard_tables.specs.declared.refusal.StoreRefusal.TheVariants as refusal
use Rattle.shard_tables.specs.declared.store.StoreRole.TheVariants.{Master}
use Rattle.tao_keeper.specs.Given.{HaveSmallRecords}
use Rattle.tao_keeper.specs.Table.{Tables}
use Rattle.write_model.specs.MergeLaws.{MayBeMerged}

-- the other store is a master over these tables, and may merge the job
pub record MayTakeJob (tells : Bool) (tables : Tables) (j : JobBetween) : Type 0 where
  pub master : j.to.role ≡ Master
  pub store : IsStoreOf tells tables j.to
  pub position : 0 < j.job.position
  pub stamps : HaveSmallRecords j.job.edges
  pub may : WhereTold tells (MayBeMerged j.to.name.shard (tables j.to.name).log j.from.shard j.job.position j.job.edges)

-- a merge or the end of a job was refused, and so is the repair
abbrev pub PassesOn : StoreRefusal → RepairRefusal → Type 0
PassesOn refusal.KeeperFault passed = passed ≡ repair.KeeperFault
PassesOn (refusal.LogFull length) passed = passed ≡ repair.LogFull length
PassesOn refusal.OutOfMemory passed = passed ≡ repair.OutOfMemory
PassesOn (refusal.ShardFull serial) passed = ⊥
PassesOn (refusal.StampFull number) passed = ⊥
PassesOn (refusal.TooOld cut position) passed = ⊥
PassesOn (refusal.SeqReused position) passed = ⊥

-- the end of a job is refused for a failure of the keeper or as out of memory alone
abbrev pub IsOfEnds : RepairRefusal → Type 0
IsOfEnds repair.KeeperFault = ⊤
IsOfEnds repair.OutOfMemory = ⊤
IsOfEnds repair.LinkFault = ⊥
IsOfEnds (repair.LogFull length) = ⊥

-- calls of two keepers: no count fell, and one of the counts of faults rose where the answer is that a keeper failed
pub record CallsEither {T : Type 0} (from_old from_new to_old to_new : KeeperState) (result : Result T RepairRefusal) : Type 0 where
  pub from : IsLater from_old from_new
  pub to : IsLater to_old to_new
  pub failed : IsErrOf result repair.KeeperFault → Rose from_old.faults from_new.faults ⊎ Rose to_old.faults to_new.faults
