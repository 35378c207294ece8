use Rattle.std.proofs.Common.{subst, sym}
use Rattle.std.proofs.lemmas.Result.{err_from_is_err_and}
use Rattle.core_nodes.specs.Outside.{outside}
use Rattle.unlocked_nodes.proofs.MovedStores.{jobs_stop, streams_come}
use Rattle.unlocked_nodes.specs.Settling.{HasStopCause}
use Rattle.unlocked_nodes.proofs.moving.run_both.Goals as goal

pub returns : goal.returns
returns g c =
    let done = streams_come g.K.Keeper.TELLS c.args.config.now c.run_streams.result _ _ _ c.in_ok-run_jobs.ensures.runs c.in_ok-run_jobs.ensures.on
    c.run_streams.ensures.runs c.run_streams.ensures.on in
    record { moves = done.moves; rests = done.rests; cause = done.cause }

pub returns-in_err-run_jobs-clause-moves : goal.returns-in_err-run_jobs-clause-moves
returns-in_err-run_jobs-clause-moves g c =
    (jobs_stop g.K.Keeper.TELLS c.args.config.now c.in_err-run_jobs.field-0.0 _ _ c.in_err-run_jobs.ensures.runs c.in_err-run_jobs.ensures.on).moves

pub returns-in_err-run_jobs-clause-cause : goal.returns-in_err-run_jobs-clause-cause
returns-in_err-run_jobs-clause-cause g c =
    let cause = (jobs_stop g.K.Keeper.TELLS c.args.config.now c.in_err-run_jobs.field-0.0 _ _ c.in_err-run_jobs.ensures.runs
    c.in_err-run_jobs.ensures.on).cause in
    let p = err_from_is_err_and c.from_residual.result c.from_residual.ensures.1 in
    rw p.1 (subst (λ stop. HasStopCause g.K.Keeper.TELLS c.args.config.now stop (outside (g.K.Keeper.state c.args.keepers.now)
    (g.L.Link.shown c.args.link.now)) (outside (g.K.Keeper.state c.run_jobs.new.keepers) (g.L.Link.shown c.run_jobs.new.link))) (sym p.2) cause)
