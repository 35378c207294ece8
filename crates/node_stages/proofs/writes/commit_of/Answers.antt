use Rattle.std.proofs.Common.{ap, subst, sym}
use Rattle.graph_model.specs.Soundness.{IsSoundOf}
use Rattle.graph_model.specs.Told.{WhereTold}
use Rattle.core_model.specs.leader_tier.TakenWrites.{TakesWritten, taken_entry}
use Rattle.shard_log.specs.View.{as_note}
use Rattle.shard_tables.specs.WriteDone.{WriteDone, asked_at}
use Rattle.tao_base.specs.Writes.{ChangesType}
use Rattle.tao_schema.specs.Schema.{types_of}
use Rattle.topology.specs.Config.{Settings}
use Rattle.node_stages.proofs.writes.commit_of.Goals as goal

pub write-wrote-requires-clause-changes : goal.write-wrote-requires-clause-changes
write-wrote-requires-clause-changes g c =
    subst (λ k. ChangesType (types_of k) c.args.call.now.write.now) (sym (ap (λ (s : Settings). s.schema) c.config.view_is)) c.requires.changes

pub write-wrote-requires-clause-sound : goal.write-wrote-requires-clause-sound
write-wrote-requires-clause-sound g c =
    let x = c.args.store.now in
    subst (λ k. WhereTold g.K.Keeper.TELLS (IsSoundOf (types_of k) x.name.shard ((g.K.Keeper.state c.args.keepers.now).told x.name).log))
    (sym (ap (λ (s : Settings). s.schema) c.config.view_is)) c.requires.sound

pub returns-clause-node : goal.returns-clause-node
returns-clause-node g c =
    let made = c.write-wrote in
    record {
      does = subst (λ k. TakesWritten (types_of k) c.args.store.now.name.shard (taken_entry c.args.preferred made.result) (as_note made.new.store.view)
          c.args.leader.now made.new.self) (ap (λ (s : Settings). s.schema) c.config.view_is) made.ensures.node;
      apart = c.leaders_are_true.ensures.apart;
      asks = c.leaders_are_true.ensures.asks;
      truth = c.leaders_are_true-2.ensures.truth;
    }

pub returns-clause-done : goal.returns-clause-done
returns-clause-done g c =
    let state = g.K.Keeper.state in
    let made = c.write-wrote in
    let x = c.args.store.now in
    subst (λ k. WriteDone g.K.Keeper.TELLS x.name
    (asked_at (types_of k) (state c.args.keepers.now).told x c.args.call.now.origin c.args.call.now.write.now) (state c.args.keepers.now)
    (state made.new.keeper) made.result) (ap (λ (s : Settings). s.schema) c.config.view_is) made.ensures.done
