use Rattle.tao_schema.specs.Schema.{types_of}
use Rattle.leader_tier.proofs.LegalReads.{read_is_seen}
use Rattle.leader_tier.proofs.leader.Leader.answer_of_store.Goals as goal

pub hand_out-requires-clause-seen : goal.hand_out-requires-clause-seen
hand_out-requires-clause-seen g c =
    read_is_seen g.M.Keeper.TELLS (g.M.Keeper.state c.args.keeper.now).told
    (types_of c.args.schema.now) c.args.query.now c.args.store.now c.in_ok-out.out c.requires.keeper c.in_ok-out.ensures.note
    c.in_ok-out.ensures.found
