use Rattle.cluster_talks.specs.TalkStates.{talk_state}
use Rattle.cluster_talks.proofs.TalkedLemmas.{says_ok, says_part}
use Rattle.shared_tiers.specs.Calls.{calling}
use Rattle.shared_tiers.specs.locked_nodes.Cluster.{on_cluster}
use Rattle.cluster_talks.proofs.host.Host.answer_line.Goals as goal

pub returns-clause-ok : goal.returns-clause-ok
returns-clause-ok g c =
    let shown = g.L.Link.shown in
    says_ok (on_cluster g.K.Keeper.TELLS g.K.Keeper.state g.J.Sharing.making g.J.Logs.log)
    (talk_state c.args.opened.now (calling c.args.pass.now (shown c.args.link.now)))
    (talk_state c.answer.new.opened (calling c.answer.new.pass (shown c.answer.new.link))) c.args.line.now c.in_ok-reply.reply c.config.result.now c.config.ensures
    (record { replied = c.in_ok-reply.ensures.replied; goes = c.answer.ensures.on.goes }) _ _ c.say-said.result c.say-said.ensures.ok

pub returns-clause-err : goal.returns-clause-err
returns-clause-err g c =
    let shown = g.L.Link.shown in
    says_part (on_cluster g.K.Keeper.TELLS g.K.Keeper.state g.J.Sharing.making g.J.Logs.log)
    (talk_state c.args.opened.now (calling c.args.pass.now (shown c.args.link.now)))
    (talk_state c.answer.new.opened (calling c.answer.new.pass (shown c.answer.new.link))) c.args.line.now c.in_ok-reply.reply c.config.result.now c.config.ensures
    (record { replied = c.in_ok-reply.ensures.replied; goes = c.answer.ensures.on.goes }) _ _ c.say-said.result c.say-said.ensures.err
