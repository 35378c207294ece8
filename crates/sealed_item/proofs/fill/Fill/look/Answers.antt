use Rattle.sealed_item.proofs.FillLemmas.{fill_stays}
use Rattle.sealed_item.specs.Fills.{sealed_item}
use Rattle.sealed_item.proofs.fill.Fill.look.Goals as goal

pub invariant_of-self : goal.invariant_of-self
invariant_of-self c =
    let was = c.self.inside in
    fill_stays (sealed_item was.key was.version was.as_of was.content was.note) c.look.new.self c.look.ensures.grows c.self.invariant

pub returns-clause-sealed : goal.returns-clause-sealed
returns-clause-sealed c =
    let was = c.self.inside in
    fill_stays (sealed_item was.key was.version was.as_of was.content was.note) c.look.new.self c.look.ensures.grows c.self.invariant
