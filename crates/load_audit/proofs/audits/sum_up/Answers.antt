use Rattle.std.proofs.Common.{◌≡◌, Err, ap, arith, subst, sym}
use Rattle.std.proofs.lemmas.Result.{err_from_is_err_and}
use Rattle.keepers.specs.Shown.{told_in}
use Rattle.topology.specs.Config.{Settings}
use Rattle.load_audit.specs.Auditing.{AuditsLogs}
use Rattle.load_audit.specs.Kept.{keepers_in}
use Rattle.load_audit.proofs.AuditLemmas.{IsSoFar, all_found, one_log, strange_next}
use Rattle.load_audit.proofs.audits.sum_up.Goals as goal

pub loop-shard-preserved : goal.loop-shard-preserved
loop-shard-preserved g c = λ writes audited told.
    let s = c.args.config.now in
    let tables = told_in g.M.Keeper.state s.shards (keepers_in c.args.all.now) in
    one_log s tables writes c.loop-shard.shard c.loop-shard.tally c.add.new.self c.in_ok-found.found (c.loop-shard.invariant writes audited told)
    (c.in_ok-found.ensures.audits writes audited told) c.in_ok-add.ensures.lengths c.in_ok-add.ensures.edges

pub returns-in_err-found-clause-audits : goal.returns-in_err-found-clause-audits
returns-in_err-found-clause-audits g c = λ writes audited told.
    let s = c.args.config.now in
    let tables = told_in g.M.Keeper.state s.shards (keepers_in c.args.all.now) in
    let p = err_from_is_err_and c.from_residual.result c.from_residual.ensures.1 in
    rw p.1 (subst (λ refusal. AuditsLogs s tables writes (Err refusal)) (sym p.2)
    (strange_next s tables writes c.loop-shard.shard c.loop-shard.tally c.in_err-found.field-0.0
    (omega (arith, ap (λ (s : Settings). s.shards) c.config.view_is)) (c.loop-shard.invariant writes audited told)
    (c.in_err-found.ensures.audits writes audited told)))

pub returns-clause-audits : goal.returns-clause-audits
returns-clause-audits g c = λ writes audited told.
    let s = c.args.config.now in
    let tables = told_in g.M.Keeper.state s.shards (keepers_in c.args.all.now) in
    let end : c.loop-shard.shard ≡ s.shards = omega (arith, ap (λ (s : Settings). s.shards) c.config.view_is) in
    all_found s tables writes c.loop-shard.tally c.into_audit.result c.into_audit.ensures.logs c.into_audit.ensures.edges
    (subst (λ n. IsSoFar s tables writes n c.loop-shard.tally) end (c.loop-shard.invariant writes audited told))
