-- what is read of the rest after the touches so far is what is read of all
use Rattle.std.proofs.Common.{◌≡◌, ◌-◌, []}
use Rattle.entry_codec.specs.Reading.{spelled_touches}
use Rattle.entry_codec.proofs.entry_fields.read_touches.Given as goal

abbrev pub invariant-loop : goal.invariant-loop
invariant-loop l = spelled_touches (l.count - l.counter) l.touches.items l.reader ≡ spelled_touches l.count [] l.fn.reader
