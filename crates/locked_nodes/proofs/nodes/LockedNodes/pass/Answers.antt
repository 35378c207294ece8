use Rattle.locked_nodes.proofs.PassNotes.{pass_of}
use Rattle.locked_nodes.proofs.nodes.LockedNodes.pass.Goals as goal

pub returns-clause-pass : goal.returns-clause-pass
returns-clause-pass g c =
    pass_of g.J.Sharing.making g.J.Logs.log c.args.session c.args.region c.args.tier c.in_ok-notes.notes.items c.make.result c.requires.home
    c.requires.tier c.in_ok-notes.ensures.long c.in_ok-notes.ensures.notes c.make.ensures.made
