use Rattle.std.proofs.Common.{arith}
use Rattle.keepers.specs.Shown.{told_in}
use Rattle.tao_busy.proofs.Meets.{begin_all}
use Rattle.tao_busy.proofs.meeting.meet_pass.Goals as goal

pub returns-clause-begins : goal.returns-clause-begins
returns-clause-begins g c = λ told.
    let m = g.J.Sharing.making in
    begin_all m.settings (told_in g.K.Keeper.state m.settings.shards c.args.closed.now.keepers.items) c.args.pass.notes c.requires.pass.long
    (λ shard below. c.loop-shard.invariant.begins told shard (omega (arith, below, c.requires.shards, c.loop-shard-test.false, c.loop-shard.auto.shard-end)))
