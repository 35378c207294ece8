use Rattle.std.proofs.Common.{ap, subst}
use Rattle.core_model.specs.leader_tier.TakenWrites.{TakesWritten, taken_entry}
use Rattle.shard_log.specs.View.{as_note}
use Rattle.tao_schema.specs.Schema.{types_of}
use Rattle.topology.specs.Config.{Settings}
use Rattle.node_stages.proofs.writes.merge_of.Goals as goal

pub returns-clause-node : goal.returns-clause-node
returns-clause-node g c =
    let made = c.merge-wrote in
    record {
      does = subst (λ k. TakesWritten (types_of k) c.args.store.now.name.shard (taken_entry c.args.preferred made.result) (as_note made.new.store.view)
          c.args.leader.now made.new.self) (ap (λ (s : Settings). s.schema) c.config.view_is) made.ensures.node;
      apart = c.leaders_are_true.ensures.apart;
      asks = c.leaders_are_true.ensures.asks;
      truth = c.leaders_are_true-2.ensures.truth;
    }
