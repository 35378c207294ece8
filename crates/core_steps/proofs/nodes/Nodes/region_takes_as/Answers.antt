use Rattle.std.proofs.Common.{subst, sym}
use Rattle.core_steps.specs.Streams.{TakesAs}
use Rattle.core_steps.specs.World.{world}
use Rattle.core_steps.proofs.nodes.Nodes.region_takes_as.Goals as goal

pub returns-in-Applied-clause-takes : goal.returns-in-Applied-clause-takes
returns-in-Applied-clause-takes c = λ keepers link.
    subst (λ v. TakesAs v c.args.at c.args.entry.now (world c.args.self.now keepers link) (world c.region_takes.new.self keepers link)) (sym c.in-Applied.is)
    (c.region_takes.ensures.takes keepers link)
