use Rattle.first_line.proofs.FirstLemmas.{ends_alone, ends_unread, given_alone, long_input, refuses_alone, takes_counted, takes_none}
use Rattle.first_line.proofs.first.read_first_alone.Goals as goal

pub returns-in_err-reader-clause-taken : goal.returns-in_err-reader-clause-taken
returns-in_err-reader-clause-taken g c = takes_none (g.R.Source.left c.args.input.now)

pub returns-in_err-reader-clause-err : goal.returns-in_err-reader-clause-err
returns-in_err-reader-clause-err g c = ends_unread _ (g.R.Source.left c.args.input.now) (g.S.Sink.taken c.args.output.now)

pub returns-clause-line : goal.returns-clause-line
returns-clause-line g c = given_alone c.in_ok-reader.reader c.read_first.new.reader (g.R.Source.left c.args.input.now)
    (g.R.Source.left c.read_first.new.input) c.in_ok-reader.ensures.ahead c.read_first.ensures.near c.read_first.result (λ first. first.line.items)
    c.read_first.ensures.line

pub returns-clause-err : goal.returns-clause-err
returns-clause-err g c = ends_alone c.in_ok-reader.reader c.read_first.new.reader (g.R.Source.left c.args.input.now) (g.R.Source.left c.read_first.new.input)
    c.in_ok-reader.ensures.ahead c.read_first.ensures.near c.read_first.result (g.S.Sink.taken c.args.output.now) (g.S.Sink.taken c.read_first.new.output)
    c.read_first.ensures.err

pub returns-clause-refused : goal.returns-clause-refused
returns-clause-refused g c = λ e. refuses_alone c.in_ok-reader.reader c.read_first.new.reader (g.R.Source.left c.args.input.now)
    (g.R.Source.left c.read_first.new.input) c.in_ok-reader.ensures.ahead c.read_first.ensures.near (g.S.Sink.taken c.args.output.now)
    (g.S.Sink.taken c.read_first.new.output) (c.read_first.ensures.refused e)

pub returns-clause-long : goal.returns-clause-long
returns-clause-long g c = λ e. long_input _ _ _ _ c.in_ok-reader.ensures.taken c.read_first.ensures.counted (c.read_first.ensures.long e)

pub returns-clause-taken : goal.returns-clause-taken
returns-clause-taken g c = takes_counted _ _ _ _ c.in_ok-reader.ensures.taken c.read_first.ensures.counted c.read_first.ensures.limited
