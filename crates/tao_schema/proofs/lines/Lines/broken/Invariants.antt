use Rattle.std.proofs.Common.{◌≡◌, drop}
use Rattle.tao_schema.specs.AssocTypes.{keeps_assoc_rules}
use Rattle.tao_schema.specs.Rules.{broken_from}
use Rattle.tao_schema.proofs.lines.Lines.broken.Given as goal

abbrev pub invariant-loop-place : goal.invariant-loop-place
invariant-loop-place l = broken_from (keeps_assoc_rules l.self) l.place (drop l.place l.self) ≡ broken_from (keeps_assoc_rules l.self) 0 l.self
