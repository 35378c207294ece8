-- The index of a log.
use Rattle.std.specs.Prelude.{List}
use Rattle.tao_base.specs.declared.entry.Entry.{Entry}
use Rattle.tao_base.specs.declared.entry.Origin.{Origin}
use Rattle.tao_keeper.specs.Table.{StandsAt}
use Rattle.log_index.specs.KeyIndex.{KeysTell, all_touches}
use Rattle.log_index.specs.Positions.{kept_position}
use Rattle.log_index.specs.declared.index.Index.{Index}
use Rattle.log_index.specs.declared.positions.Positions.{Positions}

-- each origin stands where the positions have it, or nowhere
abbrev pub ArePositionsOf : List Entry → Positions → Type 0
ArePositionsOf log positions = (origin : Origin) → StandsAt log origin (kept_position positions origin)

-- the index is that of the log: at each key it has what the log's touches leave there, and each origin's position
pub record IsIndexOf (log : List Entry) (index : Index) : Type 0 where
  pub keys : KeysTell (all_touches log) index.keys.keys
  pub origins : ArePositionsOf log index.positions
