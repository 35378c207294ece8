use Rattle.std.proofs.Common.{Ok, ap, arith}
use Rattle.tao_io.proofs.GivenLines.{CountsTaken-nil, CountsTaken-trans}
use Rattle.cluster_talks.proofs.TalkedLemmas.{OnErr-any, part_shown, talked_all, talked_none, talked_shown, talked_then_part, talked_trans}
use Rattle.cluster_talks.proofs.host.Host.serve.Goals as goal

pub lines-init : goal.lines-init
lines-init g c = record {
  talked = talked_none _ _ _ _;
  may = c.requires.may;
  counted = CountsTaken-nil _ _;
  limited = λ before. before;
  later = record { source = omega arith; sink = omega arith };
}

pub returns-in_err-show_replies-clause-err : goal.returns-in_err-show_replies-clause-err
returns-in_err-show_replies-clause-err g c =
    OnErr-any _ _ (talked_then_part _ _ _ _ _ _ _ _ _ c.lines.invariant.talked (part_shown _ _ _ _ _ c.show_replies.ensures.taken))

pub returns-in_err-show_replies-clause-limited : goal.returns-in_err-show_replies-clause-limited
returns-in_err-show_replies-clause-limited g c = c.lines.invariant.limited

pub returns-in_err-serve_line-clause-err : goal.returns-in_err-serve_line-clause-err
returns-in_err-serve_line-clause-err g c = OnErr-any _ _ (talked_then_part _ _ _ _ _ _ _ _ _
    (talked_trans _ _ _ _ _ _ _ _ _ _ c.lines.invariant.talked (talked_shown _ _ _ _ _ c.show_replies.ensures.taken)) c.in_err-serve_line.ensures.err)

pub returns-in_err-serve_line-clause-limited : goal.returns-in_err-serve_line-clause-limited
returns-in_err-serve_line-clause-limited g c = λ _. c.serve_line.ensures.limited

pub returns-in_err-serve_line-clause-counted : goal.returns-in_err-serve_line-clause-counted
returns-in_err-serve_line-clause-counted g c = CountsTaken-trans _ _ _ _ _ _ c.lines.invariant.counted c.serve_line.ensures.counted

pub returns-then-not-branch-clause-ok : goal.returns-then-not-branch-clause-ok
returns-then-not-branch-clause-ok g c =
    talked_all _ _ _ _ _ _ _ (talked_trans _ _ _ _ _ _ _ _ _ _
    (talked_trans _ _ _ _ _ _ _ _ _ _ c.lines.invariant.talked (talked_shown _ _ _ _ _ c.show_replies.ensures.taken)) c.in_ok-serve_line.ensures.ok)
    (c.in_ok-serve_line.ensures.end (ap (λ b. Ok b) c.if-not-branch.true))

pub returns-then-not-branch-clause-limited : goal.returns-then-not-branch-clause-limited
returns-then-not-branch-clause-limited g c = λ _. c.serve_line.ensures.limited

pub returns-then-not-branch-clause-counted : goal.returns-then-not-branch-clause-counted
returns-then-not-branch-clause-counted g c = CountsTaken-trans _ _ _ _ _ _ c.lines.invariant.counted c.serve_line.ensures.counted

pub lines-preserved : goal.lines-preserved
lines-preserved g c = record {
  talked = talked_trans _ _ _ _ _ _ _ _ _ _
      (talked_trans _ _ _ _ _ _ _ _ _ _ c.lines.invariant.talked (talked_shown _ _ _ _ _ c.show_replies.ensures.taken)) c.in_ok-serve_line.ensures.ok;
  may = c.serve_line.ensures.may;
  counted = CountsTaken-trans _ _ _ _ _ _ c.lines.invariant.counted c.serve_line.ensures.counted;
  limited = λ _. c.serve_line.ensures.limited;
  later = record { source = omega arith; sink = omega arith };
}
