use Rattle.tao_schema.specs.Schema.{types_of}
use Rattle.leader_tier.proofs.LegalReads.{own_is_at}
use Rattle.leader_tier.proofs.leader.Leader.answer.Goals as goal

pub returns-in-Some-clause-legal : goal.returns-in-Some-clause-legal
returns-in-Some-clause-legal g c =
    own_is_at (types_of c.args.schema.now) c.args.self.now c.args.query.now c.args.floor c.in-Some.fill
    (rw c.in-Some.is at c.in_ok-fill.ensures.fill) c.fills_are_sealed.ensures
