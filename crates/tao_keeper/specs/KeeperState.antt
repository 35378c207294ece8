-- What a keeper shows, and what calls do to it.
use Rattle.std.specs.Prelude.{ℕ, ◌≤◌, Bool, Result, IsErrOf}
use Rattle.counts.specs.Count.{Counted, Rose}
use Rattle.graph_model.specs.Told.{WhereTold}
use Rattle.tao_keeper.specs.Table.{Tables, Stays}
use Rattle.tao_keeper.specs.declared.keeper.KeepFail.{KeepFail}
use Rattle.tao_keeper.specs.declared.keeper.KeepFail.TheVariants.{Failed}

-- the tables that a keeper tells, how often it was called, and how often it failed
pub record KeeperState : Type 0 where
  pub told : Tables
  pub calls : ℕ
  pub faults : ℕ

-- no count fell
pub record IsLater (old new : KeeperState) : Type 0 where
  pub calls : old.calls ≤ new.calls
  pub faults : old.faults ≤ new.faults

-- no table changed, where they are told
abbrev pub KeepsTables : Bool → KeeperState → KeeperState → Type 0
KeepsTables tells old new = WhereTold tells (Stays old.told new.told)

-- one call of a keeper: it was counted, the count of faults didn't fall, and a call that failed made it rise; out of memory needs no cause
pub record IsCall {T : Type 0} (old new : KeeperState) (result : Result T KeepFail) : Type 0 where
  pub counted : Counted old.calls new.calls
  pub faults : old.faults ≤ new.faults
  pub failed : IsErrOf result Failed → Rose old.faults new.faults

-- calls of a keeper, one after another: no count fell, and that of faults rose where the answer is this fault
pub record CallsKeeper {T E : Type 0} (fault : E) (old new : KeeperState) (result : Result T E) : Type 0 where
  pub calls : old.calls ≤ new.calls
  pub faults : old.faults ≤ new.faults
  pub failed : IsErrOf result fault → Rose old.faults new.faults
