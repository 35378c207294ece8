use Rattle.std.proofs.Common.{Ok, ap, arith}
use Rattle.tao_io.proofs.GivenLines.{CountsTaken-nil, CountsTaken-trans}
use Rattle.tao_top.proofs.Keeping.{leaves_same, leaves_then}
use Rattle.tao_top.proofs.OneLine.{OnErr-any, part_shown}
use Rattle.tao_top.proofs.GoingOn.{served_all, served_none, served_shown, served_then_part, served_trans}
use Rattle.tao_top.proofs.serve.serve.Goals as goal

pub lines-init : goal.lines-init
lines-init g c = record {
  served = served_none _ _ _ _;
  serving = c.requires.serving;
  counted = CountsTaken-nil _ _;
  limited = λ before. before;
  tables = leaves_same _ _;
  later = record { source = omega arith; sink = omega arith };
}

pub returns-in_err-show_replies-clause-err : goal.returns-in_err-show_replies-clause-err
returns-in_err-show_replies-clause-err g c =
    OnErr-any _ _ (served_then_part _ _ _ _ _ _ _ _ _ c.lines.invariant.served (part_shown _ _ _ _ _ c.show_replies.ensures.taken))

pub returns-in_err-show_replies-clause-limited : goal.returns-in_err-show_replies-clause-limited
returns-in_err-show_replies-clause-limited g c = c.lines.invariant.limited

pub returns-in_err-serve_line-clause-err : goal.returns-in_err-serve_line-clause-err
returns-in_err-serve_line-clause-err g c = OnErr-any _ _ (served_then_part _ _ _ _ _ _ _ _ _
    (served_trans _ _ _ _ _ _ _ _ _ _ c.lines.invariant.served (served_shown _ _ _ _ _ c.show_replies.ensures.taken)) c.in_err-serve_line.ensures.err)

pub returns-in_err-serve_line-clause-limited : goal.returns-in_err-serve_line-clause-limited
returns-in_err-serve_line-clause-limited g c = λ _. c.serve_line.ensures.limited

pub returns-in_err-serve_line-clause-counted : goal.returns-in_err-serve_line-clause-counted
returns-in_err-serve_line-clause-counted g c = CountsTaken-trans _ _ _ _ _ _ c.lines.invariant.counted c.serve_line.ensures.counted

pub returns-in_err-serve_line-clause-tables : goal.returns-in_err-serve_line-clause-tables
returns-in_err-serve_line-clause-tables g c = leaves_then _ _ _ _ c.lines.invariant.tables c.serve_line.ensures.tables

pub returns-then-not-branch-clause-tables : goal.returns-then-not-branch-clause-tables
returns-then-not-branch-clause-tables g c = leaves_then _ _ _ _ c.lines.invariant.tables c.serve_line.ensures.tables

pub returns-then-not-branch-clause-ok : goal.returns-then-not-branch-clause-ok
returns-then-not-branch-clause-ok g c =
    served_all _ _ _ _ _ _ _ (served_trans _ _ _ _ _ _ _ _ _ _
    (served_trans _ _ _ _ _ _ _ _ _ _ c.lines.invariant.served (served_shown _ _ _ _ _ c.show_replies.ensures.taken)) c.in_ok-serve_line.ensures.ok)
    (c.in_ok-serve_line.ensures.end (ap (λ b. Ok b) c.if-not-branch.true))

pub returns-then-not-branch-clause-limited : goal.returns-then-not-branch-clause-limited
returns-then-not-branch-clause-limited g c = λ _. c.serve_line.ensures.limited

pub returns-then-not-branch-clause-counted : goal.returns-then-not-branch-clause-counted
returns-then-not-branch-clause-counted g c = CountsTaken-trans _ _ _ _ _ _ c.lines.invariant.counted c.serve_line.ensures.counted

pub lines-preserved : goal.lines-preserved
lines-preserved g c = record {
  served = served_trans _ _ _ _ _ _ _ _ _ _
      (served_trans _ _ _ _ _ _ _ _ _ _ c.lines.invariant.served (served_shown _ _ _ _ _ c.show_replies.ensures.taken)) c.in_ok-serve_line.ensures.ok;
  serving = c.serve_line.ensures.serving;
  counted = CountsTaken-trans _ _ _ _ _ _ c.lines.invariant.counted c.serve_line.ensures.counted;
  limited = λ _. c.serve_line.ensures.limited;
  tables = leaves_then _ _ _ _ c.lines.invariant.tables c.serve_line.ensures.tables;
  later = record { source = omega arith; sink = omega arith };
}
