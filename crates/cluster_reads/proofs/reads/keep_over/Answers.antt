use Rattle.std.proofs.Common.{ap, sym, ◌∙◌}
use Rattle.shard_log.specs.View.{View}
use Rattle.tao_base.specs.Queries.{query_shard}
use Rattle.tao_base.specs.declared.query.Query.{Query}
use Rattle.tao_schema.specs.Schema.{types_of}
use Rattle.cluster_reads.proofs.TakenSteps.{kept_legal, kept_reason}
use Rattle.cluster_reads.proofs.reads.keep_over.Goals as goal

pub see_kept-requires-clause-fill : goal.see_kept-requires-clause-fill
see_kept-requires-clause-fill g c = c.requires.log ∙ sym c.requires.fill.seen ∙ ap (λ (v : View). v.log) (sym c.in-Ok.ensures.view)

pub see_kept-requires-clause-note : goal.see_kept-requires-clause-note
see_kept-requires-clause-note g c =
    c.requires.log ∙ ap (λ (q : Query). g.J.Logs.log (query_shard q)) (sym c.query-query.ensures) ∙ sym c.in-Ok-keep.ensures.note

pub returns-in-Ok-keep-clause-legal : goal.returns-in-Ok-keep-clause-legal
returns-in-Ok-keep-clause-legal g c =
    kept_legal (types_of g.J.Sharing.making.settings.schema) c.see_kept.new.seen c.in-Ok.of_fill c.args.fill c.split_note.new.self c.args.plan.now
    c.query-query.result.now c.floor-floor.result c.in-Ok-keep.kept.answer c.see_kept.result.0 c.query-query.ensures c.floor-floor.ensures
    c.split_note.ensures.same c.in-Ok.ensures.view c.see_kept.ensures.answer c.see_kept.ensures.fill c.in-Ok-keep.ensures.legal

pub returns-in-Ok-keep-clause-kept : goal.returns-in-Ok-keep-clause-kept
returns-in-Ok-keep-clause-kept g c =
    kept_reason (types_of g.J.Sharing.making.settings.schema) c.in-Ok-keep.kept.note c.see_kept.new.seen c.args.plan.now c.query-query.result.now
    c.in-Ok-keep.kept.kept c.see_kept.result.1 c.args.fill.version c.query-query.ensures c.see_kept.ensures.kept c.see_kept.ensures.note c.in-Ok-keep.ensures.why
