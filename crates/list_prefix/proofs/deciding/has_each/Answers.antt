use Rattle.list_prefix.proofs.Found.{all_found}
use Rattle.list_prefix.proofs.deciding.has_each.Goals as goal

pub returns : goal.returns
returns c = rw (c.number_to.ensures, c.as_slice.ensures.value) (all_found c.args.ids.now c.args.edges.now c.as_slice.ensures.rising c.requires.distinct)
