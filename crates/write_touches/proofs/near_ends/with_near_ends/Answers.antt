use Rattle.std.proofs.Common.{◌≡◌, rules, subst, sym}
use Rattle.write_model.specs.Writes.{with_near_ends}
use Rattle.write_touches.proofs.StampLemmas.{near_ends_stamped}
use Rattle.write_touches.specs.Edges.{AreStamped}
use Rattle.tao_schema.specs.Schema.{types_of}
use Rattle.write_touches.proofs.near_ends.with_near_ends.Goals as goal

pub returns-clause-stamped : goal.returns-clause-stamped
returns-clause-stamped c =
    let same : c.append.new.self.items ≡ with_near_ends (types_of c.args.schema.now) c.args.updates.items = search rules in
    subst AreStamped (sym same) (near_ends_stamped (types_of c.args.schema.now) c.args.updates.items c.requires)
