use Rattle.core_nodes.proofs.NodesOfNames.{first_within}
use Rattle.core_nodes.proofs.places.place_of.Goals as goal

pub returns-clause-within : goal.returns-clause-within
returns-clause-within g c = first_within c.args.nodes.now c.args.name c.named_place.result c.named_place.ensures
