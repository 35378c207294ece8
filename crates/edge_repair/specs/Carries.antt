-- What a repair does to the link: a carry to the other store, and one back.
use Rattle.std.specs.Prelude.{◌≡◌, ◌⊎◌, Some, Result, Ok, Err}
use Rattle.counts.specs.Count.{Counted, Rose}
use Rattle.edge_repair.specs.JobBetween.{JobBetween, way_back, way_there}
use Rattle.edge_repair.specs.declared.refusal.RepairRefusal.{RepairRefusal}
use Rattle.edge_repair.specs.declared.refusal.RepairRefusal.TheVariants.{KeeperFault, LinkFault, LogFull, OutOfMemory}
use Rattle.edge_repair.specs.declared.repairs.RepairOutcome.{RepairOutcome}
use Rattle.tao_link.specs.Shown.{LinkShown, after_carry}
use Rattle.tao_link.specs.declared.link.Carry.{Carry}

-- a carry was counted, and failed as the last one that did
pub record FailsAt (at : Carry) (old new : LinkShown) : Type 0 where
  pub counted : Counted old.carries new.carries
  pub rose : Rose old.faults new.faults
  pub failed : new.failed ≡ Some at
  pub cuts : new.cuts ≡ old.cuts

-- the carry there and the carry back, which may have failed
abbrev pub CarriesBack : JobBetween → LinkShown → LinkShown → Type 0
CarriesBack j old new = (new ≡ after_carry (after_carry old)) ⊎ FailsAt (way_back j) (after_carry old) new

-- the two carries of a repair, by its answer
abbrev pub CarriesBy : JobBetween → LinkShown → LinkShown → Result RepairOutcome RepairRefusal → Type 0
CarriesBy j old new (Ok repaired) = new ≡ after_carry (after_carry old)
CarriesBy j old new (Err LinkFault) = FailsAt (way_there j) old new ⊎ FailsAt (way_back j) (after_carry old) new
CarriesBy j old new (Err KeeperFault) = CarriesBack j old new
CarriesBy j old new (Err (LogFull count)) = CarriesBack j old new
CarriesBy j old new (Err OutOfMemory) = CarriesBack j old new
