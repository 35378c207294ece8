use Rattle.std.proofs.Common.{ap, arith, length}
use Rattle.topology.specs.Config.{Settings}
use Rattle.tao_busy.proofs.SessionPasses.{many_all, many_next}
use Rattle.tao_busy.proofs.sessions.open_passes.Goals as goal

pub loop-region-preserved : goal.loop-region-preserved
loop-region-preserved g c = record {
  passes = c.in_ok-add_passes.ensures.passes;
  numbered = c.in_ok-add_passes.ensures.numbered;
  many = many_next g.J.Sharing.making.settings c.loop-region.region (length c.loop-region.passes.items) (length c.add_passes.new.passes.items)
      (omega (arith, c.loop-region-test.true, c.region_count-region-end.ensures, ap (λ (s : Settings). length s.regions) c.config.ensures))
      c.loop-region.invariant.many c.in_ok-add_passes.ensures.more;
  few = c.in_ok-add_passes.ensures.few;
}

pub returns-clause-sessions : goal.returns-clause-sessions
returns-clause-sessions g c = record {
  many = many_all g.J.Sharing.making.settings c.loop-region.region (length c.loop-region.passes.items)
      (omega (
        arith,
        c.loop-region-test.false,
        c.loop-region.auto.region-end,
        c.region_count-region-end.ensures,
        ap (λ (s : Settings). length s.regions) c.config.ensures,
      )) c.loop-region.invariant.many;
  numbered = c.loop-region.invariant.numbered;
}
