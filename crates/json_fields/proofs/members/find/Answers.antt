use Rattle.std.proofs.Common.{◌≡◌, ◌∙◌, ◌+◌, ◌∷◌, drop, sym, ap, arith}
use Rattle.std.proofs.lemmas.List.{drop_more}
use Rattle.json_fields.proofs.MemberPlaces.{found_at}
use Rattle.json_fields.proofs.members.find.Goals as goal

pub returns-then-is_same : goal.returns-then-is_same
returns-then-is_same c =
    let ms = c.args.members.now in
    let i = c.loop-member.member-index in
    let m = c.member-item.result in
    let here : drop i ms ≡ m ∷ drop (i + 1) ms = drop_more ms i m (omega arith) ∙ ap (λ n. n ∷ drop (i + 1) ms) (sym c.member-item.is) in
    let step = found_at c.args.name.now c.is_same.result m (drop (i + 1) ms) (drop i ms) here c.is_same.ensures in
    rw c.if-is_same.true at step ∙ c.loop-member.invariant

pub loop-member-preserved : goal.loop-member-preserved
loop-member-preserved c =
    let ms = c.args.members.now in
    let i = c.loop-member.member-index in
    let m = c.member-item.result in
    let here : drop i ms ≡ m ∷ drop (i + 1) ms = drop_more ms i m (omega arith) ∙ ap (λ n. n ∷ drop (i + 1) ms) (sym c.member-item.is) in
    let step = found_at c.args.name.now c.is_same.result m (drop (i + 1) ms) (drop i ms) here c.is_same.ensures in
    rw c.if-is_same.false at step ∙ c.loop-member.invariant
