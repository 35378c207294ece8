use Rattle.std.proofs.lemmas.Iterator.{YieldsList-from_take}
use Rattle.std.proofs.lemmas.Iterator.Adapters.{YieldsList-from_skip}
use Rattle.std.proofs.lemmas.Iterator.Consumers.{YieldsList-from_rest, map_from_collect}
use Rattle.list_index.proofs.edges.EdgesInOrder.part.Goals as goal

pub returns : goal.returns
returns c =
    map_from_collect _ c.collect.ensures.ran
    (YieldsList-from_take c.args.most (YieldsList-from_skip c.args.pos (YieldsList-from_rest c.args.self.now cc) cc) cc)
