use Rattle.std.proofs.Common.{◌∙◌}
use Rattle.tao_base.proofs.IdSets.{search_finds}
use Rattle.tao_base.proofs.query.IdSet.contains.Goals as goal

pub returns : goal.returns
returns c =
    let found = search_finds c.self.inside.ids.items c.args.id c.binary_search.result c.self.invariant
    (rw (← c.deref.ensures.value) c.binary_search.ensures.position) in
    c.is_ok.ensures.value ∙ rw (← c.self.view_is) found
