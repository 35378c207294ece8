use Rattle.std.proofs.Common.{drop}
use Rattle.std.specs.Prelude.{List}
use Rattle.follower_cache.specs.Refills.{Queues}
use Rattle.follower_cache.specs.declared.queue.Refill.{Refill}
use Rattle.tao_schema.specs.Schema.{types_of}
use Rattle.follower_cache.proofs.queue.RefillQueue.queue_all.Given as goal

-- what queues the rest has queued all
abbrev pub invariant-loop-row : goal.invariant-loop-row
invariant-loop-row l = record {
  rest : (new : List Refill) → Queues (types_of l.schema) (drop l.row-index l.dropped) l.self new → Queues (types_of l.schema) l.dropped l.initial.self new;
}
