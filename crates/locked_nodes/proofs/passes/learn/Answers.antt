use Rattle.locked_nodes.proofs.Seeing.{learnt_seen, note_there}
use Rattle.tao_base.specs.Keys.{key_shard}
use Rattle.locked_nodes.proofs.passes.learn.Goals as goal

pub learn-requires-clause-shard : goal.learn-requires-clause-shard
learn-requires-clause-shard g c =
    note_there g.J.Sharing.making g.J.Logs.log c.args.pass.now (key_shard c.args.key.now) c.args.note c.requires.pass c.requires.here c.requires.log

pub returns : goal.returns
returns g c =
    let done = learnt_seen g.J.Sharing.making g.J.Logs.log c.args.key.now c.args.version c.args.note c.args.pass.now c.learn.new.self c.requires.pass
    c.requires.here c.requires.log c.learn.ensures.learnt c.learn.ensures.rise c.learn.ensures.meets in
    record { pass = done.pass; on = done.on; sees = done.sees; learns = c.learn.ensures.floors }
