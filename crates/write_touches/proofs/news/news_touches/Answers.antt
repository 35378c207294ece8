use Rattle.std.proofs.Common.{◌∙◌, arith}
use Rattle.write_touches.proofs.NewsLemmas.{all_news, news_more}
use Rattle.write_touches.proofs.news.news_touches.Goals as goal

pub loop-update-preserved : goal.loop-update-preserved
loop-update-preserved g c = record {
  touches = λ told.
      news_more _ _ c.args.updates.now c.loop-update.update-index c.update-item.result _ _
      (c.loop-update.invariant.stays told c.args.at) c.loop-update-test.true
      c.update-item.is (c.loop-update.invariant.touches told) (c.in_ok-add_news.ensures.touches told);
  small = c.in_ok-add_news.ensures.small c.loop-update.invariant.small;
  stays = λ told s. c.in_ok-add_news.ensures.stays told s ∙ c.loop-update.invariant.stays told s;
  calls = omega (arith, c.in_ok-add_news.ensures.calls.calls);
  faults = omega (arith, c.in_ok-add_news.ensures.calls.faults);
}

pub returns-clause-touches : goal.returns-clause-touches
returns-clause-touches g c = λ told.
    all_news ((g.M.Keeper.state c.args.keeper.now).told c.args.at).log c.args.updates.now c.loop-update.update-index c.loop-update.touches.items (omega arith)
    (c.loop-update.invariant.touches told)
