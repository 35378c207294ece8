-- How the failure of a call of a keeper is printed.
use Rattle.std.specs.Prelude.{ℕ, List, codes}
use Rattle.tao_keeper.specs.declared.keeper.KeepFail.{KeepFail}
use Rattle.tao_keeper.specs.declared.keeper.KeepFail.TheVariants.{Failed, OutOfMemory}

-- the text that a keeper's failure is printed as
abbrev pub fail_text : KeepFail → List ℕ
fail_text Failed = codes "the keeper failed"
fail_text OutOfMemory = codes "out of memory"
