-- Examples of cached lists and of marks compute.
use Rattle.std.proofs.Common.{refl}
use Rattle.worked_examples.specs.MarkedPositions.{MarksByExample}
use Rattle.worked_examples.specs.Prefixes.{PrefixesByExample}

pub examples_of_prefixes : PrefixesByExample
examples_of_prefixes = record { part = refl; whole = refl }

pub examples_of_marks : MarksByExample
examples_of_marks = record { ahead = refl; forgotten = refl; again = refl; not_forgotten = refl }
