use Rattle.command_words.proofs.Faults.{asked_of, not_asked_of}
use Rattle.command_words.proofs.asked.asked_text.Goals as goal

pub returns-in-Err-clause-asked : goal.returns-in-Err-clause-asked
returns-in-Err-clause-asked c = asked_of c.text_of.result c.in-Err.error.kind _ c.in-Err.ensures.faults c.text_of.ensures.memory c.text_of.ensures.asked

pub returns-in-Err-clause-not_asked : goal.returns-in-Err-clause-not_asked
returns-in-Err-clause-not_asked c = not_asked_of c.text_of.result c.in-Err.error.kind _ c.in-Err.ensures.faults c.text_of.ensures.memory c.text_of.ensures.asked
