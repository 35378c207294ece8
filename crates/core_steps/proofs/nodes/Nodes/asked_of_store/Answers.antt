use Rattle.std.proofs.Common.{arith, subst, sym}
use Rattle.tao_schema.specs.Schema.{types_of}
use Rattle.core_model.specs.Asked.{lent_read}
use Rattle.core_model.specs.Pens.{pens_of}
use Rattle.core_model.specs.Reads.{IsGivenAnswer}
use Rattle.core_steps.proofs.ReadLemmas.{right_at_floor}
use Rattle.core_steps.proofs.nodes.Nodes.asked_of_store.Goals as goal

pub returns-in-Ok-clause-given : goal.returns-in-Ok-clause-given
returns-in-Ok-clause-given g c =
    let types = types_of c.args.config.now.schema in
    let pens = pens_of c.read_store.new.self.stores in
    let read = c.args.read.now in
    subst (IsGivenAnswer types pens (lent_read read)) (sym c.at_floor.ensures)
    (right_at_floor types pens read.query.now read.floor c.in-Ok.out (c.in-Ok.ensures.given 0 (λ told. omega arith)))
