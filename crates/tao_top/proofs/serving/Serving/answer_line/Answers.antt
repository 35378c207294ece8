use Rattle.tao_top.proofs.OneLine.{replies_err, replies_ok}
use Rattle.core_nodes.specs.Outside.{outside}
use Rattle.tao_top.specs.Served.{serves}
use Rattle.tao_top.specs.Step.{line_read}
use Rattle.tao_top.proofs.serving.Serving.answer_line.Goals as goal

pub returns-clause-ok : goal.returns-clause-ok
returns-clause-ok g c =
    let state = g.K.Keeper.state in
    let shown = g.L.Link.shown in
    replies_ok c.say-said.result g.K.Keeper.TELLS (serves c.args.self.now (outside (state c.args.keepers.now) (shown c.args.link.now)))
    (serves c.answer.new.self (outside (state c.answer.new.keepers) (shown c.answer.new.link))) (line_read c.args.line.now) c.in_ok-reply.reply _ _
    (record { does = c.in_ok-reply.ensures.does; later = c.in_ok-reply.ensures.later }) c.say-said.ensures.ok

pub returns-clause-err : goal.returns-clause-err
returns-clause-err g c =
    let state = g.K.Keeper.state in
    let shown = g.L.Link.shown in
    replies_err c.say-said.result g.K.Keeper.TELLS (serves c.args.self.now (outside (state c.args.keepers.now) (shown c.args.link.now)))
    (serves c.answer.new.self (outside (state c.answer.new.keepers) (shown c.answer.new.link))) (line_read c.args.line.now) c.in_ok-reply.reply _ _
    (record { does = c.in_ok-reply.ensures.does; later = c.in_ok-reply.ensures.later }) c.say-said.ensures.err
