use Rattle.std.proofs.Common.{sym, ap, ◌∙◌}
use Rattle.tao_schema.specs.Schema.{types_of}
use Rattle.shard_tables.proofs.ReadLemmas.{list_fill, list_filled, list_past}
use Rattle.shard_tables.proofs.read_out.read_list.Goals as goal

pub seal-requires : goal.seal-requires
seal-requires g c = λ seen.
    let told = sym c.requires.told ∙ seen in
    list_fill ((g.M.Keeper.state c.args.keeper.now).told c.args.at).log
    ((g.M.Keeper.state c.reached.new.keeper).told c.args.at).log c.args.id1 c.args.atype c.args.query.now c.bound-bound.result
    c.in_ok-first.first.total c.in_ok-first.first.edges (ap (λ t. t.log) (c.in_ok-version.ensures.stays told c.args.at)) (c.in_ok-first.ensures.needed told)
    c.args.note _ _ _ (c.requires.begins told) (c.in_ok-version.ensures.version told) (c.in_ok-version.ensures.length told) c.in-Some.ensures

pub returns-in-Some-clause-found : goal.returns-in-Some-clause-found
returns-in-Some-clause-found g c = λ told.
    list_filled ((g.M.Keeper.state c.args.keeper.now).told c.args.at).log
    ((g.M.Keeper.state c.reached.new.keeper).told c.args.at).log c.args.id1 c.args.atype c.args.query.now c.bound-bound.result
    c.in_ok-first.first.total c.in_ok-first.first.edges (ap (λ t. t.log) (c.in_ok-version.ensures.stays told c.args.at)) (c.in_ok-first.ensures.needed told)
    (types_of c.args.schema.now) c.args.note _ _ _ _ c.requires.key c.bound-bound.ensures.value
    (c.in_ok-version.ensures.version told) (c.in_ok-version.ensures.length told) c.in-Some.ensures c.seal.ensures.value

pub returns-in_ok-answer-in-None-clause-found : goal.returns-in_ok-answer-in-None-clause-found
returns-in_ok-answer-in-None-clause-found g c = λ told.
    list_past ((g.M.Keeper.state c.args.keeper.now).told c.args.at).log
    ((g.M.Keeper.state c.reached.new.keeper).told c.args.at).log c.args.id1 c.args.atype c.args.query.now c.bound-bound.result
    c.in_ok-first.first.total c.in_ok-first.first.edges (ap (λ t. t.log) (c.in_ok-version.ensures.stays told c.args.at)) (c.in_ok-first.ensures.needed told)
    (types_of c.args.schema.now) ((g.M.Keeper.state c.first_edges.new.keeper).told c.args.at).log _ _ c.requires.key c.bound-bound.ensures.value
    (c.in_ok-version.ensures.version told) c.in-None.ensures (ap (λ t. t.log) (c.in_ok-first.ensures.stays told c.args.at))
    (c.in_ok-answer-in-None.ensures.answer told)
