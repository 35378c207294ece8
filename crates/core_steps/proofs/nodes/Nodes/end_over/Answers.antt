use Rattle.core_steps.proofs.MergeLemmas.{end_grows}
use Rattle.core_steps.proofs.nodes.Nodes.end_over.Goals as goal

pub returns-in-Ok-clause-grows : goal.returns-in-Ok-clause-grows
returns-in-Ok-clause-grows g c =
    let state = g.K.Keeper.state in
    end_grows g.K.Keeper.TELLS c.args.config.now (state c.args.keepers.now).told (state c.end_job.new.keepers).told c.args.shard c.args.job.now.position
    c.end_job.result c.masters_are_regions.ensures c.requires.here c.end_job.ensures.logs c.end_job.ensures.ends
