use Rattle.follower_cache.proofs.Queued.{row_queued}
use Rattle.tao_schema.specs.Schema.{types_of}
use Rattle.follower_cache.proofs.queue.RefillQueue.queue_all.Goals as goal

pub loop-row-preserved : goal.loop-row-preserved
loop-row-preserved c = record {
  rest = λ new more. row_queued (types_of c.args.schema.now) c.args.dropped.now c.loop-row.row-index c.row-item.result c.args.self.now c.loop-row.self
      c.queue_row.new.self new c.loop-row-test.true c.row-item.is
      c.loop-row.invariant.rest c.queue_row.ensures more;
}
