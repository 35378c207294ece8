use Rattle.std.proofs.Common.{take}
use Rattle.tao_schema.specs.AssocTypes.{names_of}
use Rattle.tao_schema.specs.Index.{IsIndex}
use Rattle.tao_schema.proofs.lines.index_of.Given as goal

abbrev pub invariant-loop-place : goal.invariant-loop-place
invariant-loop-place l = IsIndex (take l.place (names_of l.lines)) l.places
