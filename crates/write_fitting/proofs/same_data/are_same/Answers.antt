use Rattle.std.proofs.Common.{length, sym, ◌∙◌}
use Rattle.std.proofs.lemmas.List.{length_push}
use Rattle.std.proofs.lemmas.Slice.Zip.{zip_end, zip_turn}
use Rattle.write_fitting.proofs.FitLemmas.{agree_more, differ_at, same_at_all}
use Rattle.write_fitting.proofs.same_data.are_same.Goals as goal

pub returns-then-not-is_same_pair : goal.returns-then-not-is_same_pair
returns-then-not-is_same_pair c =
    let t = zip_turn c.args.pairs.now c.args.others.now c.loop-pair.yielded _ _ c.next.new.self _ (cc) (cc) c.loop-pair.yielded_by
    (c.in-Some.pair, c.in-Some.other) c.in-Some.is c.next.ensures.steps in
    sym (differ_at c.args.pairs.now c.args.others.now (length c.loop-pair.yielded) _ _ t.2 t.3 (sym c.is_same_pair.ensures ∙ c.if-not-is_same_pair.true))

pub loop-pair-preserved : goal.loop-pair-preserved
loop-pair-preserved c =
    let t = zip_turn c.args.pairs.now c.args.others.now c.loop-pair.yielded _ _ c.next.new.self _ (cc) (cc) c.loop-pair.yielded_by
    (c.in-Some.pair, c.in-Some.other) c.in-Some.is c.next.ensures.steps in
    agree_more c.args.pairs.now c.args.others.now _ _ _ _ c.loop-pair.invariant t.2 t.3 (sym c.is_same_pair.ensures ∙ c.if-not-is_same_pair.false)
    (length_push c.loop-pair.yielded _)

pub returns : goal.returns
returns c =
    sym (same_at_all c.args.pairs.now c.args.others.now _ c.if-pairs-others.false
    (zip_end c.args.pairs.now c.args.others.now c.loop-pair.yielded _ _ c.next.new.self _ (cc) (cc) c.loop-pair.yielded_by c.in-None.is c.next.ensures.steps)
    c.loop-pair.invariant)
