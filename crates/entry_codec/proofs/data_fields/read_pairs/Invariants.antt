-- what is read of the rest after the pairs so far is what is read of all
use Rattle.std.proofs.Common.{◌≡◌, ◌-◌, []}
use Rattle.entry_codec.specs.Reading.{spelled_pairs}
use Rattle.entry_codec.proofs.data_fields.read_pairs.Given as goal

abbrev pub invariant-loop : goal.invariant-loop
invariant-loop l = spelled_pairs l.end (l.count - l.counter) l.pairs.items l.reader ≡ spelled_pairs l.end l.count [] l.fn.reader
