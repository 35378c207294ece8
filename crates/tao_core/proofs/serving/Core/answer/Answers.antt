use Rattle.std.proofs.Common.{sym}
use Rattle.tao_core.specs.Core.{core_state}
use Rattle.tao_core.proofs.AnsweredAtOnce.{refused_call}
use Rattle.tao_core.proofs.serving.Core.answer.Goals as goal

pub returns-in-Err : goal.returns-in-Err
returns-in-Err g c =
    let done =
    refused_call g.K.Keeper.TELLS c.args.call (core_state c.self.inside) c.args.self.now c.args.self.now c.self.view_is (sym c.self.view_is) (g.K.Keeper.state c.args.keepers.now)
    (g.L.Link.shown c.args.link.now) c.in-Err.reply c.requires.keepers c.in-Err.ensures.refused in
    record { does = done.does; usable = done.usable }
