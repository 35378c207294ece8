use Rattle.std.proofs.Common.{[], ◌∷◌, ◌++◌, OnErr, OnOk, subst}
use Rattle.std.specs.Io.KnownBytes.{Appends}
use Rattle.first_line.specs.Interrupts.{AppendsPart}
use Rattle.first_line.proofs.FirstLemmas.{no_settings}
use Rattle.first_line.proofs.lines.say_refusal.Goals as goal

pub returns-clause-ok : goal.returns-clause-ok
returns-clause-ok g c =
    let taken = g.S.Sink.taken in
    subst (λ text. OnOk c.write_line.result (Appends (taken c.args.output.now) (taken c.write_line.new.output) (text ++ 10 ∷ [])))
    (c.in_ok-text.ensures.text no_settings) c.write_line.ensures.ok

pub returns-clause-err : goal.returns-clause-err
returns-clause-err g c =
    let taken = g.S.Sink.taken in
    subst (λ text. OnErr c.write_line.result (AppendsPart (taken c.args.output.now) (taken c.write_line.new.output) (text ++ 10 ∷ [])))
    (c.in_ok-text.ensures.text no_settings) c.write_line.ensures.err
