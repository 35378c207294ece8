use Rattle.core_model.proofs.FirstNamed.{none_named}
use Rattle.core_model.proofs.named.find_node.Goals as goal

pub returns-in-None : goal.returns-in-None
returns-in-None g c = none_named c.args.nodes.now c.args.name c.in-None.ensures
