use Rattle.std.proofs.Common.{◌<◌, length, ap, ◌∙◌, sym, arith}
use Rattle.std.proofs.lemmas.List.{length-map}
use Rattle.std.proofs.Math.ListN.{get_or-map}
use Rattle.tao_schema.proofs.Places.{IsIndex_more}
use Rattle.tao_schema.specs.AssocTypes.{names_of}
use Rattle.tao_schema.proofs.lines.index_of.Goals as goal

pub loop-place-preserved : goal.loop-place-preserved
loop-place-preserved c =
    let lines = c.args.lines.now in
    let line = c.index-lines-place in
    let within : c.loop-place.place < length lines = omega arith in
    IsIndex_more (names_of lines) c.loop-place.place _ c.loop-place.places c.add.new.index (simp length-map within)
    (rw c.as_str.ensures (ap (λ l. l.name) line.is ∙ sym (get_or-map (λ l. l.name) lines c.loop-place.place line.result))) c.loop-place.invariant
    c.in_ok-add.ensures
