use Rattle.std.proofs.Common.{arith}
use Rattle.tao_busy.proofs.SessionPasses.{numbered_next}
use Rattle.tao_busy.proofs.sessions.add_pass.Goals as goal

pub returns-clause-numbered : goal.returns-clause-numbered
returns-clause-numbered g c =
    numbered_next c.args.passes.now.items c.push.new.self.items c.in_ok-pass.pass c.in_ok-push.ensures.items
    (omega (arith, c.in_ok-pass.ensures.session, c.len.ensures)) c.requires.numbered
