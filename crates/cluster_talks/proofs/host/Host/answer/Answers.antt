use Rattle.cluster_talks.specs.TalkStates.{talk_state}
use Rattle.cluster_talks.proofs.AnswerLemmas.{talk_asked}
use Rattle.shared_tiers.specs.Calls.{calling}
use Rattle.shared_tiers.specs.locked_nodes.Cluster.{on_cluster}
use Rattle.talk_lines.specs.Talk.{talk_in}
use Rattle.cluster_talks.proofs.host.Host.answer.Goals as goal

pub returns-in-Ok-clause-replied : goal.returns-in-Ok-clause-replied
returns-in-Ok-clause-replied g c =
    let shown = g.L.Link.shown in
    talk_asked (on_cluster g.K.Keeper.TELLS g.K.Keeper.state g.J.Sharing.making g.J.Logs.log)
    (talk_state c.args.opened.now (calling c.args.pass.now (shown c.args.link.now)))
    (talk_state c.answer_talk.new.opened (calling c.answer_talk.new.pass (shown c.answer_talk.new.link)))
    (talk_in c.args.line.now) c.in-Ok.asked c.answer_talk.result c.in-Ok.ensures.reads c.answer_talk.ensures.replied
