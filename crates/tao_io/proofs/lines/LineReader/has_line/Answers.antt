use Rattle.std.proofs.Common.{◌∙◌, sym}
use Rattle.tao_io.proofs.LineLaws.{holds_line, holds_no_line, holds_none}
use Rattle.tao_io.proofs.lines.LineReader.has_line.Goals as goal

pub returns-in-Some-clause-whole : goal.returns-in-Some-clause-whole
returns-in-Some-clause-whole c =
    let starts = rw c.deref.ensures.value at c.in-Some.ensures in
    let ends = rw c.deref.ensures.value at c.line_end.ensures in
    λ says. rw (← c.self.view_is) (holds_line _ _ starts _ ends (sym c.is_some.ensures ∙ says))

pub returns-in-Some-clause-none : goal.returns-in-Some-clause-none
returns-in-Some-clause-none c =
    let starts = rw c.deref.ensures.value at c.in-Some.ensures in
    let ends = rw c.deref.ensures.value at c.line_end.ensures in
    λ says. rw (← c.self.view_is) (holds_no_line _ _ starts _ ends (sym c.is_some.ensures ∙ says))

pub returns-in-None-clause-none : goal.returns-in-None-clause-none
returns-in-None-clause-none c =
    let all = rw c.deref.ensures.value at c.in-None.ensures in
    λ _. rw (← c.self.view_is) (holds_none _ all)
