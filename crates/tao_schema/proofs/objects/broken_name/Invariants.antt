use Rattle.std.proofs.Common.{◌≡◌, drop}
use Rattle.tao_schema.specs.ObjectTypes.{keeps_object_rules}
use Rattle.tao_schema.specs.Rules.{broken_from}
use Rattle.tao_schema.proofs.objects.broken_name.Given as goal

abbrev pub invariant-loop-place : goal.invariant-loop-place
invariant-loop-place l = broken_from (keeps_object_rules l.names) l.place (drop l.place l.names) ≡ broken_from (keeps_object_rules l.names) 0 l.names
