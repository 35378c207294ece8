use Rattle.std.proofs.Common.{◌∙◌}
use Rattle.core_steps.specs.World.{world}
use Rattle.core_steps.proofs.PostsLemmas.{posts_none}
use Rattle.core_repairs.proofs.StreamEnds.{skips_master}
use Rattle.core_repairs.proofs.streams.stream_shard.Goals as goal

pub returns-then-at-master_of-clause-runs : goal.returns-then-at-master_of-clause-runs
returns-then-at-master_of-clause-runs g c =
    skips_master g.K.Keeper.TELLS c.args.config.now c.args.at
    (world c.args.nodes.now (g.K.Keeper.state c.args.keepers.now) (g.L.Link.shown c.args.link.now)) (c.if-at-master_of.true ∙ c.master_of.ensures)

pub returns-then-at-master_of-clause-on : goal.returns-then-at-master_of-clause-on
returns-then-at-master_of-clause-on g c =
    posts_none g.K.Keeper.TELLS c.args.config.now (world c.args.nodes.now (g.K.Keeper.state c.args.keepers.now) (g.L.Link.shown c.args.link.now))
    c.requires.ready
