use Rattle.std.proofs.Common.{◌≡◌, ◌++◌, take, drop}
use Rattle.std.specs.Prelude.{map}
use Rattle.ask_table.specs.Open.{raised_ask}
use Rattle.ask_table.proofs.AskTable.raise.Given as goal

abbrev pub invariant-loop-ask : goal.invariant-loop-ask
invariant-loop-ask l = l.ask-items ≡ map (raised_ask l.key l.version) (take l.ask-index l.initial.ask-items) ++ drop l.ask-index l.initial.ask-items
