use Rattle.std.proofs.Common.{◌≡◌, ◌∙◌, ◌+◌, ◌∷◌, drop, map, sym, ap, arith}
use Rattle.std.proofs.lemmas.List.{drop_more}
use Rattle.json_fields.proofs.Strange.{at_member}
use Rattle.json_fields.proofs.fields.first_strange.Goals as goal

pub returns-then-not-is_among : goal.returns-then-not-is_among
returns-then-not-is_among c =
    let ms = c.args.members.now in
    let i = c.loop-member.member-index in
    let m = c.member-item.result in
    let here : drop i ms ≡ m ∷ drop (i + 1) ms = drop_more ms i m (omega arith) ∙ ap (λ n. n ∷ drop (i + 1) ms) (sym c.member-item.is) in
    let step = at_member (map (λ n. n.now) c.args.names.now) c.is_among.result m (drop (i + 1) ms) (drop i ms) here c.is_among.ensures in
    rw c.if-not-is_among.true at step ∙ c.loop-member.invariant

pub loop-member-preserved : goal.loop-member-preserved
loop-member-preserved c =
    let ms = c.args.members.now in
    let i = c.loop-member.member-index in
    let m = c.member-item.result in
    let here : drop i ms ≡ m ∷ drop (i + 1) ms = drop_more ms i m (omega arith) ∙ ap (λ n. n ∷ drop (i + 1) ms) (sym c.member-item.is) in
    let step = at_member (map (λ n. n.now) c.args.names.now) c.is_among.result m (drop (i + 1) ms) (drop i ms) here c.is_among.ensures in
    rw c.if-not-is_among.false at step ∙ c.loop-member.invariant
