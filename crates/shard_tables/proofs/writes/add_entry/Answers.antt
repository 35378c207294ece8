use Rattle.tao_keeper.proofs.Growing.{growing_laws}
use Rattle.shard_tables.proofs.writes.add_entry.Goals as goal

pub returns-clause-logs : goal.returns-clause-logs
returns-clause-logs g c =
    growing_laws.commits g.M.Keeper.TELLS (g.M.Keeper.state c.args.keeper.now).told (g.M.Keeper.state c.commit.new.self).told c.name.result
    c.args.commit.entry c.args.commit.job c.in_ok-commit.ensures.changes
