use Rattle.std.proofs.Common.{sym, subst, ap, ◌∙◌}
use Rattle.tao_base.specs.Keys.{key_shard}
use Rattle.tao_schema.specs.Schema.{types_of}
use Rattle.cache_node.specs.served_shards.Served.{log_at}
use Rattle.shard_tables.specs.declared.leader_answer.LeaderAnswer.TheVariants.{Filled, Past, Behind}
use Rattle.leader_tier.proofs.LegalReads.{handed_out, read_is_at}
use Rattle.leader_tier.specs.LeaderReads.{IsFillAt}
use Rattle.leader_tier.proofs.leader.Leader.hand_out.Goals as goal

pub keep_copy-kept-requires : goal.keep_copy-kept-requires
keep_copy-kept-requires c =
    let is = handed_out c.args.floor c.args.out (Filled c.in-Filled.fill) c.in-Filled.ensures in
    ap (λ k. log_at (key_shard k) c.args.self.now.served) (rw is.0 at c.requires.fits).key_is ∙ (rw is.0 at c.requires.log)

pub returns-in-Filled-clause-legal : goal.returns-in-Filled-clause-legal
returns-in-Filled-clause-legal c =
    let is = handed_out c.args.floor c.args.out (Filled c.in-Filled.fill) c.in-Filled.ensures in
    subst (IsFillAt (types_of c.args._schema.now) c.args.query.now c.args.floor) (sym c.keep_copy-kept.ensures.fill)
    (read_is_at (types_of c.args._schema.now) c.args.query.now c.args.floor c.in-Filled.fill (rw is.0 at c.requires.fits) c.fills_are_sealed.ensures is.1)

pub returns-in-Past-clause-legal : goal.returns-in-Past-clause-legal
returns-in-Past-clause-legal c =
    let past = c.in-Past in
    let is = handed_out c.args.floor c.args.out (Past past.answer past.version past.total past.note) past.ensures in
    (is.1, rw is.0 at c.requires.seen)

pub returns-in-Behind-clause-legal : goal.returns-in-Behind-clause-legal
returns-in-Behind-clause-legal c = handed_out c.args.floor c.args.out (Behind c.in-Behind.version) c.in-Behind.ensures
