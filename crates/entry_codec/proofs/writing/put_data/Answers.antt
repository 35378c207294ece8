use Rattle.std.proofs.Common.{All, subst, length, [], ◌∷◌, ◌++◌}
use Rattle.tao_base.specs.Data.{pair_bytes}
use Rattle.entry_codec.specs.Values.{PairFits}
use Rattle.entry_codec.proofs.Sizes.{all_fit, one_more, texts_fit}
use Rattle.entry_codec.proofs.writing.put_data.Goals as goal

pub put_pair-requires : goal.put_pair-requires
put_pair-requires c = texts_fit c.pairs-pairs.result.now c.loop-pair.pair-index c.pair-item.result
    (rw c.pairs-pairs.ensures.value c.pairs-pairs.ensures.limits) c.loop-pair-test.true c.pair-item.is

pub loop-pair-preserved : goal.loop-pair-preserved
loop-pair-preserved c = one_more pair_bytes PairFits c.pairs-pairs.result.now c.loop-pair.pair-index c.pair-item.result
    (c.args.out.now.items ++ length c.pairs-pairs.result.now ∷ []) c.loop-pair.out.items c.put_pair.new.out.items
    c.loop-pair-test.true c.pair-item.is c.loop-pair.invariant c.in_ok-put_pair.ensures.bytes c.in_ok-put_pair.ensures.fits

pub returns-clause-fits : goal.returns-clause-fits
returns-clause-fits c = (
  c.pairs-pairs.ensures.limits,
  subst (All PairFits) c.pairs-pairs.ensures.value (all_fit PairFits c.pairs-pairs.result.now c.loop-pair.pair-index c.loop-pair-test.false
      c.loop-pair.invariant.1),
)
