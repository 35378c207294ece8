use Rattle.std.proofs.Common.{◌≡◌, inl, inr}
use Rattle.std.proofs.KnownBytes.{Appends-nil}
use Rattle.std.specs.Io.KnownBytes.{Appends}
use Rattle.first_line.proofs.FirstLemmas.{ends_at_of, line_of, refuses_line, refuses_long, refuses_none}
use Rattle.first_line.specs.Interrupts.{AppendsPart}
use Rattle.first_line.specs.declared.first.FirstStop.TheVariants.{Configuration}
use Rattle.first_line.proofs.first.read_first.Goals as goal

pub returns-in-Ok-Line-clause-err : goal.returns-in-Ok-Line-clause-err
returns-in-Ok-Line-clause-err g c =
    ends_at_of _ _ _ _ c.take_line.result c.next.new.line.items (line_of _ _ _ _ c.in-Ok-Line.ensures.next c.in-Ok-Line.field-0-is) c.take_line.ensures.err

pub returns-in-Ok-Line-clause-refused : goal.returns-in-Ok-Line-clause-refused
returns-in-Ok-Line-clause-refused g c = λ e.
    refuses_line _ _ (Appends (g.S.Sink.taken c.args.output.now) (g.S.Sink.taken c.take_line.new.output)) c.next.new.line.items
    (line_of _ _ _ _ c.in-Ok-Line.ensures.next c.in-Ok-Line.field-0-is) (c.take_line.ensures.refused e)

pub returns-in-Ok-TooLong-clause-err : goal.returns-in-Ok-TooLong-clause-err
returns-in-Ok-TooLong-clause-err g c =
    inr (refuses_long _ _ _ _ c.in-Ok-TooLong.ensures.next (AppendsPart (g.S.Sink.taken c.args.output.now) (g.S.Sink.taken c.refuse.new.output))
    c.in-Ok-TooLong.field-0-is c.refuse.ensures.part)

pub returns-in-Ok-TooLong-clause-refused : goal.returns-in-Ok-TooLong-clause-refused
returns-in-Ok-TooLong-clause-refused g c = λ e.
    let whole : c.refuse.result ≡ Configuration = cc e in
    refuses_long _ _ _ _ c.in-Ok-TooLong.ensures.next (Appends (g.S.Sink.taken c.args.output.now) (g.S.Sink.taken c.refuse.new.output))
    c.in-Ok-TooLong.field-0-is (c.refuse.ensures.whole whole)

pub returns-in-Ok-End-clause-err : goal.returns-in-Ok-End-clause-err
returns-in-Ok-End-clause-err g c =
    inr (refuses_none _ _ _ _ c.in-Ok-End.ensures.next (AppendsPart (g.S.Sink.taken c.args.output.now) (g.S.Sink.taken c.refuse-in-Ok-End.new.output))
    c.in-Ok-End.field-0-is c.refuse-in-Ok-End.ensures.part)

pub returns-in-Ok-End-clause-refused : goal.returns-in-Ok-End-clause-refused
returns-in-Ok-End-clause-refused g c = λ e.
    let whole : c.refuse-in-Ok-End.result ≡ Configuration = cc e in
    refuses_none _ _ _ _ c.in-Ok-End.ensures.next (Appends (g.S.Sink.taken c.args.output.now) (g.S.Sink.taken c.refuse-in-Ok-End.new.output))
    c.in-Ok-End.field-0-is (c.refuse-in-Ok-End.ensures.whole whole)

pub returns-in-Err-clause-err : goal.returns-in-Err-clause-err
returns-in-Err-clause-err g c = inl (Appends-nil (g.S.Sink.taken c.args.output.now))
