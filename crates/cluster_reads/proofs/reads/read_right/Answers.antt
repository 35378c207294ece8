use Rattle.cluster_reads.proofs.TakenSteps.{grown_master, right_out}
use Rattle.cluster_reads.proofs.reads.read_right.Goals as goal

pub returns-clause-read : goal.returns-clause-read
returns-clause-read g c =
    grown_master g.J.Sharing.making g.J.Logs.log g.begun c.args.read.now.seen c.read_over.new.seen c.args.read.now.plan c.requires.1.1.1.1.0
    c.read_over.ensures.grows c.requires.1.1.1.1.1

pub returns-clause-given : goal.returns-clause-given
returns-clause-given g c =
    right_out g.J.Sharing.making g.J.Logs.log g.begun c.args.read.now.seen c.args.read.now.plan c.read_over.result c.requires.1.1.1.1.0
    c.read_over.ensures.given
