use Rattle.std.proofs.Common.{Err, ap, arith, subst, sym}
use Rattle.std.proofs.lemmas.Result.{err_from_is_err_and}
use Rattle.counts.proofs.Rises.{Rose-earlier}
use Rattle.core_model.specs.Consistent.{GoesOn}
use Rattle.core_model.specs.Jobs.{job_on}
use Rattle.core_steps.specs.core_nodes.Outside.{outside}
use Rattle.core_steps.proofs.core_nodes_lemmas.GrowingLemmas.{stores_in_turn}
use Rattle.core_steps.proofs.MergeLemmas.{end_grows}
use Rattle.core_repairs.proofs.RepairLemmas.{merges_on, posts_merged, refuses_end, refuses_merge}
use Rattle.core_repairs.proofs.repairs.merge_and_end.Goals as goal

pub returns-in_err-repaired-clause-runs : goal.returns-in_err-repaired-clause-runs
returns-in_err-repaired-clause-runs g c =
    let state = g.K.Keeper.state in
    let shown = g.L.Link.shown in
    let p = err_from_is_err_and c.from_residual.result c.from_residual.ensures.1 in
    rw p.1 (refuses_merge g.K.Keeper.TELLS c.args.config.now (job_on c.args.shard c.args.job.now)
    (outside (state c.args.keepers.now) (shown c.args.link.now)) (outside (state c.merge_far.new.keepers) (shown c.merge_far.new.link))
    c.in_err-repaired.field-0.0 p.0 p.2 c.in_err-repaired.ensures.merges (λ is. c.in_err-repaired.ensures.calls.failed (ap (λ r. Err r) is)))

pub returns-in-Err-clause-runs : goal.returns-in-Err-clause-runs
returns-in-Err-clause-runs g c =
    let state = g.K.Keeper.state in
    let shown = g.L.Link.shown in
    let old = outside (state c.args.keepers.now) (shown c.args.link.now) in
    let new = outside (state c.end_job.new.keepers) (shown c.merge_far.new.link) in
    refuses_end g.K.Keeper.TELLS c.args.config.now (job_on c.args.shard c.args.job.now) old new c.in-Err.refusal c.failed_for.result c.failed_for.ensures
    (record {
      wrote = c.in_ok-repaired.repaired.wrote;
      merged = state c.merge_far.new.keepers;
      merges = c.in_ok-repaired.ensures.merges;
      stays = c.in-Err.ensures.ends;
    })
    (λ is. Rose-earlier old.keepers.faults (state c.merge_far.new.keepers).faults new.keepers.faults c.merge_far.ensures.calls.faults
    (c.in-Err.ensures.calls.failed (ap (λ r. Err r) is)))

pub returns-in_err-repaired-clause-on : goal.returns-in_err-repaired-clause-on
returns-in_err-repaired-clause-on g c =
    let merges = c.merge_far.ensures in
    let old = outside (g.K.Keeper.state c.args.keepers.now) (g.L.Link.shown c.args.link.now) in
    let mid = outside (g.K.Keeper.state c.merge_far.new.keepers) (g.L.Link.shown c.merge_far.new.link) in
    posts_merged g.K.Keeper.TELLS c.args.config.now c.args.nodes.now old.keepers mid.keepers c.merge_far.new.self old.link mid.link c.requires.ready
    merges.consistent merges.goes merges.grows (record { calls = merges.calls.calls; faults = merges.calls.faults })
    (merges_on g.K.Keeper.TELLS c.args.config.now (job_on c.args.shard c.args.job.now) c.merge_far.result old mid merges.merges)

pub returns-in-Ok-clause-on : goal.returns-in-Ok-clause-on
returns-in-Ok-clause-on g c =
    let tells = g.K.Keeper.TELLS in
    let state = g.K.Keeper.state in
    let shown = g.L.Link.shown in
    let s = c.args.config.now in
    let was = c.args.nodes.now in
    let merges = c.merge_far.ensures in
    let ends = c.end_job.ensures in
    let old = outside (state c.args.keepers.now) (shown c.args.link.now) in
    let mid = outside (state c.merge_far.new.keepers) (shown c.merge_far.new.link) in
    let new = state c.end_job.new.keepers in
    posts_merged tells s was old.keepers new c.end_job.new.self old.link mid.link c.requires.ready ends.consistent
    (subst (GoesOn was.fleet) (sym ends.same) merges.goes)
    (stores_in_turn tells s old.keepers.told mid.keepers.told new.told merges.grows
    (end_grows tells s mid.keepers.told new.told c.args.shard c.args.job.now.position c.end_job.result c.masters_are_regions.ensures c.requires.here
    ends.logs ends.ends))
    (record { calls = omega (arith, merges.calls.calls, ends.calls.calls); faults = omega (arith, merges.calls.faults, ends.calls.faults) })
    (merges_on tells s (job_on c.args.shard c.args.job.now) c.merge_far.result old mid merges.merges)

pub returns-in-Err-clause-on : goal.returns-in-Err-clause-on
returns-in-Err-clause-on g c =
    let tells = g.K.Keeper.TELLS in
    let state = g.K.Keeper.state in
    let shown = g.L.Link.shown in
    let s = c.args.config.now in
    let was = c.args.nodes.now in
    let merges = c.merge_far.ensures in
    let ends = c.end_job.ensures in
    let old = outside (state c.args.keepers.now) (shown c.args.link.now) in
    let mid = outside (state c.merge_far.new.keepers) (shown c.merge_far.new.link) in
    let new = state c.end_job.new.keepers in
    posts_merged tells s was old.keepers new c.end_job.new.self old.link mid.link c.requires.ready ends.consistent
    (subst (GoesOn was.fleet) (sym ends.same) merges.goes)
    (stores_in_turn tells s old.keepers.told mid.keepers.told new.told merges.grows
    (end_grows tells s mid.keepers.told new.told c.args.shard c.args.job.now.position c.end_job.result c.masters_are_regions.ensures c.requires.here
    ends.logs ends.ends))
    (record { calls = omega (arith, merges.calls.calls, ends.calls.calls); faults = omega (arith, merges.calls.faults, ends.calls.faults) })
    (merges_on tells s (job_on c.args.shard c.args.job.now) c.merge_far.result old mid merges.merges)
