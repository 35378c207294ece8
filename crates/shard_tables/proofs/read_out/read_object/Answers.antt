use Rattle.std.proofs.Common.{sym, ap, ◌∙◌}
use Rattle.shard_tables.proofs.ReadLemmas.{object_fill}
use Rattle.shard_tables.proofs.read_out.read_object.Goals as goal

pub seal-requires : goal.seal-requires
seal-requires g c = λ seen.
    let told = sym c.requires.told ∙ seen in
    object_fill c.args.note ((g.M.Keeper.state c.args.keeper.now).told c.args.at).log
    ((g.M.Keeper.state c.reached.new.keeper).told c.args.at).log c.args.id _ _ _
    (c.requires.begins told) (c.in_ok-version.ensures.version told) (c.in_ok-version.ensures.length told)
    (ap (λ t. t.log) (c.in_ok-version.ensures.stays told c.args.at)) (c.in_ok-object.ensures.answer told)
