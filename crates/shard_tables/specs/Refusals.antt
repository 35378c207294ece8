-- Why a store may give no answer.
use Rattle.std.specs.Prelude.{⊤}
use Rattle.shard_tables.specs.declared.refusal.StoreRefusal.{StoreRefusal}
use Rattle.shard_tables.specs.declared.refusal.StoreRefusal.TheVariants as refusal
use Rattle.tao_keeper.specs.declared.keeper.KeepFail.{KeepFail}
use Rattle.tao_keeper.specs.declared.keeper.KeepFail.TheVariants as keep
use Rattle.write_touches.specs.declared.refusal.TouchRefusal.{TouchRefusal}
use Rattle.write_touches.specs.declared.refusal.TouchRefusal.TheVariants as touch

-- what a store answers where its keeper gave no answer
abbrev pub keeper_refused : KeepFail → StoreRefusal
keeper_refused keep.Failed = refusal.KeeperFault
keeper_refused keep.OutOfMemory = refusal.OutOfMemory

-- what a store answers where a write has no touches for this reason
abbrev pub write_refused : TouchRefusal → StoreRefusal
write_refused touch.KeeperFault = refusal.KeeperFault
write_refused (touch.ShardFull serial) = refusal.ShardFull serial
write_refused (touch.StampFull number) = refusal.StampFull number
write_refused touch.OutOfMemory = refusal.OutOfMemory

-- a call that writes nothing is refused for a failure of the keeper or as out of memory alone
abbrev pub IsOfReads : StoreRefusal → Type 0
IsOfReads refusal.KeeperFault = ⊤
IsOfReads refusal.OutOfMemory = ⊤
IsOfReads (refusal.LogFull length) = ⊥
IsOfReads (refusal.ShardFull serial) = ⊥
IsOfReads (refusal.StampFull number) = ⊥
IsOfReads (refusal.TooOld cut position) = ⊥
IsOfReads (refusal.SeqReused position) = ⊥
