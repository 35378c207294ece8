use Rattle.std.proofs.Common.{◌∙◌, nat_cmp, sym, ap, arith}
use Rattle.std.specs.Cmp.Lexicographic.{slice_cmp}
use Rattle.json_fields.proofs.MemberPlaces.{Named, meets, passes}
use Rattle.json_fields.proofs.members.place_of.Goals as goal

pub loop-place-preserved : goal.loop-place-preserved
loop-place-preserved c =
    let read = ap (λ (m : Named). slice_cmp nat_cmp c.args.name.now m.0.now) c.index-members-place.is in
    let above = read ∙ sym c.name_order.ensures ∙ c.in-Greater.is in (
      omega arith,
      λ d. c.loop-place.invariant.1 d ∙ passes c.args.name.now d c.args.members.now c.loop-place.place c.index-members-place.result (omega arith)
          c.index-members-place.is above,
    )

pub returns-in-Equal-clause-put : goal.returns-in-Equal-clause-put
returns-in-Equal-clause-put c d =
    let read = ap (λ (m : Named). slice_cmp nat_cmp c.args.name.now m.0.now) c.index-members-place.is in
    c.loop-place.invariant.1 d ∙ meets c.args.name.now d c.args.members.now c.loop-place.place c.index-members-place.result (omega arith)
    c.index-members-place.is (read ∙ sym c.name_order.ensures ∙ c.in-Equal.is)
