use Rattle.std.proofs.Common.{sym, subst, ◌∙◌, arith, ◌<◌}
use Rattle.std.proofs.lemmas.List.Elements.{All-push}
use Rattle.graph_model.specs.Edges.{number_of, state_left}
use Rattle.tao_keeper.specs.Given.{HaveSmallStamps}
use Rattle.write_touches.proofs.RecordLemmas.{records_done}
use Rattle.write_touches.proofs.TouchLemmas.{touch_more}
use Rattle.write_touches.proofs.edge_writes.edge_touches.Goals as goal

pub loop-update-preserved : goal.loop-update-preserved
loop-update-preserved g c = record {
  touches = λ told.
      touch_more _ _ c.args.updates.now c.loop-update.update-index c.update-item.result _ _ _
      (c.loop-update.invariant.stays told c.args.at) c.loop-update-test.true
      c.update-item.is (c.loop-update.invariant.touches told) (c.in_ok-edge_touch.ensures.touch told) c.in_ok-push.ensures.items;
  write =
      records_done c.args.updates.now c.loop-update.update-index c.update-item.result _ _ _ c.loop-update-test.true c.update-item.is
      c.loop-update.invariant.write
      c.in_ok-edge_touch.ensures.writes c.in_ok-push.ensures.items;
  small =
      subst HaveSmallStamps (sym c.in_ok-push.ensures.items)
      (All-push (λ t. number_of (state_left t.change) < 4611686018427387904) _ _ c.loop-update.invariant.small c.in_ok-edge_touch.ensures.small);
  stays = λ told s. c.in_ok-edge_touch.ensures.stays told s ∙ c.loop-update.invariant.stays told s;
  calls = omega (arith, c.in_ok-edge_touch.ensures.calls.calls);
  faults = omega (arith, c.in_ok-edge_touch.ensures.calls.faults);
}
