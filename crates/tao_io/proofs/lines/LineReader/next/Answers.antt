use Rattle.std.proofs.Common.{◌≡◌, ◌<◌, length, Ok, ap, ◌∙◌, arith}
use Rattle.std.proofs.lemmas.Grind.{common_steps}
use Rattle.std.proofs.lemmas.List.{nil_from_length}
use Rattle.tao_io.proofs.GivenLines.{CountsTaken-trans, CountsTaken-nil}
use Rattle.tao_io.proofs.Reading.{Reading-start, Reading-kept, Reading-all, Reading-skip, Reading-line, Reading-end}
use Rattle.tao_io.proofs.lines.LineReader.next.Goals as goal
use Rattle.tao_io.proofs.lines.LineReader.next.Goals.{else-branch-via-then-branch+else-not-is_empty, else-branch-via-else-branch}

pub chunks-init : goal.chunks-init
chunks-init g c = record {
  reading = rw c.clear.ensures.items (Reading-start _ _);
  bounded = omega (arith, c.clear.ensures.len);
  counted = CountsTaken-nil _ _;
  later = omega arith;
}

pub returns-in_err-look_ahead-clause-counted : goal.returns-in_err-look_ahead-clause-counted
returns-in_err-look_ahead-clause-counted g c = CountsTaken-trans _ _ _ _ _ _ c.chunks.invariant.counted c.look_ahead.ensures.counted

pub returns-then-not-branch-clause-next : goal.returns-then-not-branch-clause-next
returns-then-not-branch-clause-next g c =
    let end = c.look_ahead.ensures.end (c.in_ok-look_ahead.was ∙ ap Ok c.if-not-branch.true) in
    rw (c.kind_of.ensures, c.deref.ensures.value) (Reading-end _ _ _ _ _
    (Reading-kept _ _ _ _ _ _ _ c.chunks.invariant.reading c.look_ahead.ensures.same c.look_ahead.ensures.may) end).0

pub returns-then-not-branch-clause-uses : goal.returns-then-not-branch-clause-uses
returns-then-not-branch-clause-uses g c =
    let end = c.look_ahead.ensures.end (c.in_ok-look_ahead.was ∙ ap Ok c.if-not-branch.true) in
    rw (c.kind_of.ensures, c.deref.ensures.value) (Reading-end _ _ _ _ _
    (Reading-kept _ _ _ _ _ _ _ c.chunks.invariant.reading c.look_ahead.ensures.same c.look_ahead.ensures.may) end).1

pub returns-then-not-branch-clause-counted : goal.returns-then-not-branch-clause-counted
returns-then-not-branch-clause-counted g c = CountsTaken-trans _ _ _ _ _ _ c.chunks.invariant.counted c.look_ahead.ensures.counted

pub returns-in_err-go_on-clause-counted : goal.returns-in_err-go_on-clause-counted
returns-in_err-go_on-clause-counted g c = rw c.go_on.ensures.taken (CountsTaken-trans _ _ _ _ _ _ c.chunks.invariant.counted c.look_ahead.ensures.counted)

pub returns-then-not-is_empty-clause-next : goal.returns-then-not-is_empty-clause-next
returns-then-not-is_empty-clause-next g c =
    let ends = c.go_on.ensures.found (c.in_ok-go_on.was ∙ ap Ok c.if-branch.true) in
    let some : 0 < length c.go_on.new.line.items = grind (arith, common_steps) in
    rw (c.kind_of-then-not-is_empty.ensures, c.deref-then-not-is_empty.ensures.value)
    (Reading-line _ _ _ _ _ _ _ _ (Reading-kept _ _ _ _ _ _ _ c.chunks.invariant.reading c.look_ahead.ensures.same c.look_ahead.ensures.may) ends some).0

pub returns-then-not-is_empty-clause-uses : goal.returns-then-not-is_empty-clause-uses
returns-then-not-is_empty-clause-uses g c =
    let ends = c.go_on.ensures.found (c.in_ok-go_on.was ∙ ap Ok c.if-branch.true) in
    let some : 0 < length c.go_on.new.line.items = grind (arith, common_steps) in
    rw (c.kind_of-then-not-is_empty.ensures, c.deref-then-not-is_empty.ensures.value, c.go_on.ensures.taken)
    (Reading-line _ _ _ _ _ _ _ _ (Reading-kept _ _ _ _ _ _ _ c.chunks.invariant.reading c.look_ahead.ensures.same c.look_ahead.ensures.may) ends some).1

pub returns-then-not-is_empty-clause-counted : goal.returns-then-not-is_empty-clause-counted
returns-then-not-is_empty-clause-counted g c = rw c.go_on.ensures.taken (CountsTaken-trans _ _ _ _ _ _ c.chunks.invariant.counted c.look_ahead.ensures.counted)

pub chunks-preserved : goal.chunks-preserved
chunks-preserved g c =
    let before = Reading-kept _ _ _ _ _ _ _ c.chunks.invariant.reading c.look_ahead.ensures.same c.look_ahead.ensures.may in
    record {
      reading = elim c.else-branch.branch [
        | else-branch-via-then-branch+else-not-is_empty w ↦
            let ends = c.go_on.ensures.found (c.in_ok-go_on.was ∙ ap Ok w.if-branch.true) in
            let none : length c.go_on.new.line.items ≡ 0 = grind (arith, common_steps) in
            rw c.go_on.ensures.taken (Reading-skip _ _ _ _ _ _ _ _ before ends (nil_from_length _ none))
        | else-branch-via-else-branch w ↦ rw c.go_on.ensures.taken
            (Reading-all _ _ _ _ _ _ _ _ before (c.go_on.ensures.none (c.in_ok-go_on.was ∙ ap Ok w.if-branch.false)))
      ];
      bounded = c.go_on.ensures.bounded;
      counted = rw c.go_on.ensures.taken (CountsTaken-trans _ _ _ _ _ _ c.chunks.invariant.counted c.look_ahead.ensures.counted);
      later = omega arith;
    }
