-- What a call of the workload is.
use Rattle.std.specs.Prelude.{ℕ, ◌==◌, nat_le, if◌then◌else◌}
use Rattle.load_gen.specs.declared.kind.Kind.{Kind}
use Rattle.load_gen.specs.declared.kind.Kind.TheVariants.{ObjAdd, AssocAdd, AssocDelete, AssocRange, AssocCount, Deliver, Stream}

-- the kind of a call by a number below 10: 0 adds an object, 1 to 4 add an edge, and each other number has a kind of its own
abbrev pub kind_of : ℕ → Kind
kind_of n = if n == 0 then ObjAdd else if nat_le n 4 then AssocAdd else if n == 5 then AssocDelete else if n == 6 then AssocRange
    else if n == 7 then AssocCount else if n == 8 then Deliver else Stream
