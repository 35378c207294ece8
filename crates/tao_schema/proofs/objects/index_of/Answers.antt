use Rattle.std.proofs.Common.{arith}
use Rattle.tao_schema.proofs.Places.{IsIndex_more}
use Rattle.tao_schema.proofs.objects.index_of.Goals as goal

pub loop-place-preserved : goal.loop-place-preserved
loop-place-preserved c = IsIndex_more c.args.names.now c.loop-place.place _ c.loop-place.places c.add.new.index (omega arith)
    (rw c.as_str.ensures c.index-names-place.is) c.loop-place.invariant c.in_ok-add.ensures
