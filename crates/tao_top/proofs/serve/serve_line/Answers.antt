use Rattle.tao_top.proofs.OneLine.{OnErr-any, line_of_Line, line_of_TooLong, part_answered, part_refused, part_unread, served_answered, served_refused}
use Rattle.core_nodes.specs.Outside.{outside}
use Rattle.tao_top.specs.Served.{serves}
use Rattle.tao_top.proofs.serve.serve_line.Goals as goal

pub returns-in_err-next-clause-err : goal.returns-in_err-next-clause-err
returns-in_err-next-clause-err g c = OnErr-any _ _
    (part_unread _ (serves c.args.serving.now (outside (g.K.Keeper.state c.args.keepers.now) (g.L.Link.shown c.args.link.now))) _ _)

pub returns-in_err-refuse_line-in-TooLong-clause-err : goal.returns-in_err-refuse_line-in-TooLong-clause-err
returns-in_err-refuse_line-in-TooLong-clause-err g c =
    OnErr-any _ _ (part_refused _ _ _ _ _ _ _ (line_of_TooLong _ _ _ _ c.in_ok-next.ensures.next c.in-TooLong.is) c.in_err-refuse_line-in-TooLong.ensures.err)

pub returns-in_err-answer_line-in-Line-clause-err : goal.returns-in_err-answer_line-in-Line-clause-err
returns-in_err-answer_line-in-Line-clause-err g c =
    OnErr-any _ _ (part_answered _ _ _ _ _ _ _ _ _ _ _
    (line_of_Line _ _ _ _ c.in_ok-next.ensures.next c.in-Line.is) c.deref.ensures.value c.in_err-answer_line-in-Line.ensures.err)

pub returns-in-TooLong-clause-ok : goal.returns-in-TooLong-clause-ok
returns-in-TooLong-clause-ok g c = served_refused _ _ _ _ _ _ _
    (line_of_TooLong _ _ _ _ c.in_ok-next.ensures.next c.in-TooLong.is) c.in_ok-refuse_line-in-TooLong.ensures.ok

pub returns-clause-ok : goal.returns-clause-ok
returns-clause-ok g c =
    served_answered _ _ _ _ _ _ _ _ _ _ _ (line_of_Line _ _ _ _ c.in_ok-next.ensures.next c.in-Line.is) c.deref.ensures.value
    c.in_ok-answer_line-in-Line.ensures.ok
