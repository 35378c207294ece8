-- How a failure of the keeper is answered.
use Rattle.tao_keeper.specs.declared.keeper.KeepFail.{KeepFail}
use Rattle.tao_keeper.specs.declared.keeper.KeepFail.TheVariants as keep
use Rattle.write_touches.specs.declared.refusal.TouchRefusal.{TouchRefusal}
use Rattle.write_touches.specs.declared.refusal.TouchRefusal.TheVariants as refusal

-- what is answered in place of touches where the keeper gave no answer
abbrev pub touches_refused : KeepFail → TouchRefusal
touches_refused keep.Failed = refusal.KeeperFault
touches_refused keep.OutOfMemory = refusal.OutOfMemory
