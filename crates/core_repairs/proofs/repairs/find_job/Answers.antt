use Rattle.std.proofs.Common.{Err, ap}
use Rattle.core_repairs.proofs.RepairLemmas.{finds_first, refuses_first}
use Rattle.core_repairs.proofs.repairs.find_job.Goals as goal

pub returns-in-Ok-clause-finds : goal.returns-in-Ok-clause-finds
returns-in-Ok-clause-finds g c =
    let state = g.K.Keeper.state in
    finds_first g.K.Keeper.TELLS c.args.config.now c.args.shard (state c.args.keepers.now) (state c.first_job.new.keepers) c.in-Ok.found
    c.in-Ok.ensures.answer c.in-Ok.ensures.first c.first_job.ensures.tables

pub returns-in-Err-clause-finds : goal.returns-in-Err-clause-finds
returns-in-Err-clause-finds g c =
    let state = g.K.Keeper.state in
    refuses_first g.K.Keeper.TELLS c.args.config.now c.args.shard (state c.args.keepers.now) (state c.first_job.new.keepers) c.in-Err.refusal
    c.refused_as.result c.faults.result c.refused_as.ensures c.faults.ensures c.in-Err.ensures.refusals c.first_job.ensures.tables
    (λ is. c.in-Err.ensures.calls.failed (ap (λ r. Err r) is))
