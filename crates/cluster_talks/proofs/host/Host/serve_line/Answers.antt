use Rattle.cluster_talks.proofs.TalkedLemmas.{OnErr-any, line_of_Line, line_of_TooLong, part_answered, part_refused, part_unread, talked_answered, talked_refused}
use Rattle.cluster_talks.proofs.host.Host.serve_line.Goals as goal

pub returns-in_err-next-clause-err : goal.returns-in_err-next-clause-err
returns-in_err-next-clause-err g c = OnErr-any _ _ (part_unread _ _ _ _)

pub returns-in_err-refuse_line-in-TooLong-clause-err : goal.returns-in_err-refuse_line-in-TooLong-clause-err
returns-in_err-refuse_line-in-TooLong-clause-err g c =
    OnErr-any _ _ (part_refused _ _ _ _ _ _ (line_of_TooLong _ _ _ _ c.in_ok-next.ensures.next c.in-TooLong.is) c.in_err-refuse_line-in-TooLong.ensures.err)

pub returns-in_err-answer_line-in-Line-clause-err : goal.returns-in_err-answer_line-in-Line-clause-err
returns-in_err-answer_line-in-Line-clause-err g c =
    OnErr-any _ _ (part_answered _ _ _ _ _ _ _ _ _
    (line_of_Line _ _ _ _ c.in_ok-next.ensures.next c.in-Line.is) c.deref.ensures.value c.in_err-answer_line-in-Line.ensures.err)

pub returns-in-TooLong-clause-ok : goal.returns-in-TooLong-clause-ok
returns-in-TooLong-clause-ok g c = talked_refused _ _ _ _ _ _
    (line_of_TooLong _ _ _ _ c.in_ok-next.ensures.next c.in-TooLong.is) c.in_ok-refuse_line-in-TooLong.ensures.ok

pub returns-clause-ok : goal.returns-clause-ok
returns-clause-ok g c =
    talked_answered _ _ _ _ _ _ _ _ _ (line_of_Line _ _ _ _ c.in_ok-next.ensures.next c.in-Line.is) c.deref.ensures.value
    c.in_ok-answer_line-in-Line.ensures.ok
