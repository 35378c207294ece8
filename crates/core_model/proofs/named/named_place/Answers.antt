use Rattle.core_model.proofs.FirstNamed.{first_at, none_named}
use Rattle.core_model.proofs.named.named_place.Goals as goal

pub unreachable-requires : goal.unreachable-requires
unreachable-requires g c = none_named c.args.nodes.now c.args.name c.in-None.ensures c.requires.there

pub returns : goal.returns
returns g c = first_at c.args.nodes.now c.args.name c.in-Some.place c.in-Some.ensures
