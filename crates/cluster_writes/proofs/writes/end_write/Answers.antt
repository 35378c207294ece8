use Rattle.std.proofs.Common.{ap, ◌∙◌}
use Rattle.locked_nodes.proofs.Seeing.{goes_trans}
use Rattle.cluster_writes.proofs.WholeWrites.{ends_write, learnt_at, other_views_at}
use Rattle.cluster_writes.specs.Learning.{carries_out}
use Rattle.locked_nodes.specs.Cluster.{on_cluster}
use Rattle.tao_base.specs.Writes.{write_shard}
use Rattle.cluster_writes.proofs.writes.end_write.Goals as goal

pub learn_other-requires-clause-here : goal.learn_other-requires-clause-here
learn_other-requires-clause-here g c =
    (other_views_at (on_cluster g.K.Keeper.TELLS g.K.Keeper.state g.J.Sharing.making g.J.Logs.log) c.args.write c.requires.write
    c.shard_of_other-other_shard.result c.shard_of_other-other_shard.ensures c.into_parts-reply.result.other c.into_parts-reply.ensures.other).here

pub learn_other-requires-clause-log : goal.learn_other-requires-clause-log
learn_other-requires-clause-log g c =
    (other_views_at (on_cluster g.K.Keeper.TELLS g.K.Keeper.state g.J.Sharing.making g.J.Logs.log) c.args.write c.requires.write
    c.shard_of_other-other_shard.result c.shard_of_other-other_shard.ensures c.into_parts-reply.result.other c.into_parts-reply.ensures.other).log

pub learn_other-requires-clause-seen : goal.learn_other-requires-clause-seen
learn_other-requires-clause-seen g c =
    (other_views_at (on_cluster g.K.Keeper.TELLS g.K.Keeper.state g.J.Sharing.making g.J.Logs.log) c.args.write c.requires.write
    c.shard_of_other-other_shard.result c.shard_of_other-other_shard.ensures c.into_parts-reply.result.other c.into_parts-reply.ensures.other).seen

pub returns-clause-on : goal.returns-clause-on
returns-clause-on g c =
    goes_trans c.args.pass.now c.learn_committed.new.pass c.learn_other.new.pass c.learn_committed.ensures.on c.learn_other.ensures.on

pub returns-clause-replies : goal.returns-clause-replies
returns-clause-replies g c =
    let on = on_cluster g.K.Keeper.TELLS g.K.Keeper.state g.J.Sharing.making g.J.Logs.log in
    let said = c.into_parts-reply.result.reply in
    ends_write on c.args.write c.args.pass.now c.learn_committed.new.pass c.learn_other.new.pass c.requires.write.done said c.into_parts-reply.ensures.reply
    (learnt_at on c.args.write c.args.pass.now c.learn_committed.new.pass c.learn_other.new.pass c.shard-shard.result
    (c.shard-shard.ensures ∙ ap write_shard c.write.ensures) c.is_carried_out-told.result (carries_out said) c.is_carried_out-told.ensures
    c.into_parts-reply.result.committed c.into_parts-reply.ensures.committed c.shard_of_other-other_shard.result c.shard_of_other-other_shard.ensures
    c.into_parts-reply.result.other c.into_parts-reply.ensures.other c.learn_committed.ensures c.learn_other.ensures)
