use Rattle.std.proofs.Common.{sym}
use Rattle.cluster_talks.proofs.host.Host.answer_other.Goals as goal

pub returns-in-Open-clause-on : goal.returns-in-Open-clause-on
returns-in-Open-clause-on g c =
    c.open.ensures.on g.J.Sharing.making g.J.Logs.log (g.L.Link.shown c.args.link.now) (sym c.config.ensures) c.requires.may
