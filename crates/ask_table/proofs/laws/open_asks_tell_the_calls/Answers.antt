use Rattle.ask_table.proofs.Calls.{asks_open}
use Rattle.ask_table.proofs.laws.open_asks_tell_the_calls.Goals as goal

pub returns : goal.returns
returns c = asks_open
