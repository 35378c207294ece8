use Rattle.std.proofs.Common.{List, ◌++◌, take}
use Rattle.tao_base.specs.declared.entry.Touch.{Touch}
use Rattle.log_index.specs.KeyIndex.{KeysTell}
use Rattle.log_index.proofs.key_index.KeyIndex.add.Given as goal

abbrev pub invariant-loop-touch : goal.invariant-loop-touch
invariant-loop-touch l = (touches : List Touch) → KeysTell touches l.initial.self.keys → KeysTell (touches ++ take l.touch-index l.touch-items) l.self.keys
