use Rattle.log_index.proofs.IndexLemmas.{index_all, index_more, index_none}
use Rattle.log_index.proofs.index.Index.of.Goals as goal

pub loop-place-init : goal.loop-place-init
loop-place-init c = index_none c.args.entries.now c.new-index.result c.new-index.ensures

pub loop-place-preserved : goal.loop-place-preserved
loop-place-preserved c =
    index_more c.args.entries.now c.loop-place.place c.index-entries-place.result c.loop-place.index c.in_ok-index.index c.loop-place-test.true
    c.index-entries-place.is
    c.in_ok-index.ensures c.loop-place.invariant

pub returns : goal.returns
returns c = index_all c.args.entries.now c.loop-place.place c.loop-place.index c.loop-place-test.false c.loop-place.invariant
