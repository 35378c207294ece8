use Rattle.std.proofs.Common.{arith}
use Rattle.std.proofs.lemmas.Grind.{common_steps}
use Rattle.tao_io.proofs.Known.{Appends-more}
use Rattle.tao_io.proofs.writing.write_all.Goals as goal

pub loop-at-preserved : goal.loop-at-preserved
loop-at-preserved g c = record {
  within = grind (arith, common_steps);
  written = Appends-more _ _ _ _ _ _ c.loop-at.invariant.written c.in_ok-count.ensures.bytes;
  later = grind (arith, common_steps);
}
