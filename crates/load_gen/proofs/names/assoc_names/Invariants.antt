use Rattle.std.proofs.Common.{◌≡◌, ◌++◌, drop}
use Rattle.tao_schema.specs.AssocTypes.{names_of}
use Rattle.load_gen.proofs.names.assoc_names.Given as goal

-- the names so far, with those of the lines that are left, are all
abbrev pub invariant-loop-line : goal.invariant-loop-line
invariant-loop-line l = l.names.items ++ names_of (drop l.line-index l.lines) ≡ names_of l.lines
