use Rattle.std.proofs.Common.{ℕ, subst, sym}
use Rattle.std.specs.Prelude.{Option}
use Rattle.cluster_writes.proofs.LearntNotes.{both_there}
use Rattle.cluster_writes.specs.Learning.{LearnsOther}
use Rattle.cluster_writes.proofs.learning.learn_other.Goals as goal

pub returns-in-Some : goal.returns-in-Some
returns-in-Some g c =
    subst (λ (o : Option ℕ). LearnsOther g.J.Sharing.making g.J.Logs.log c.args.told o c.args.wrote c.args.seen c.args.pass.now c.see_there.new.pass)
    (sym c.in-Some.is)
    (both_there g.J.Sharing.making g.J.Logs.log c.args.told c.in-Some.shard c.args.wrote c.args.seen c.args.pass.now c.learn_there.new.pass
    c.see_there.new.pass c.learn_there.ensures.sees c.learn_there.ensures.learns c.see_there.ensures.sees c.see_there.ensures.nothing)
