use Rattle.std.proofs.Common.{◌∙◌, ap, arith}
use Rattle.topology.specs.Config.{Settings}
use Rattle.unlocked_nodes.proofs.StampNumbers.{sum_next}
use Rattle.unlocked_nodes.proofs.numbers.entries_in_all.Goals as goal

pub loop-shard-preserved : goal.loop-shard-preserved
loop-shard-preserved g c =
    let state = g.K.Keeper.state in
    let was = c.loop-shard.invariant in
    record {
      sum = λ told. sum_next c.args.config.now (state c.args.keepers.now).told (state c.loop-shard.keepers).told c.loop-shard.shard c.loop-shard.sum
          c.in_ok-length.length c.saturating_add-sum.result
          (let shards = ap (λ (n : Settings). n.shards) c.config.view_is in omega (arith, shards)) (was.stays told) (c.in_ok-length.ensures.length told)
          (omega arith) (was.sum told);
      stays = λ told at. c.in_ok-length.ensures.stays told at ∙ was.stays told at;
      later = record { calls = omega arith; faults = omega arith };
    }
