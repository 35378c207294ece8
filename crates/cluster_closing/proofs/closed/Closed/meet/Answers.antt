use Rattle.keepers.specs.Shown.{told_in}
use Rattle.cluster_closing.proofs.MeetsClosed.{log_under, sees_under}
use Rattle.cluster_closing.proofs.closed.Closed.meet.Goals as goal

pub meet_fleet-requires-clause-one_log : goal.meet_fleet-requires-clause-one_log
meet_fleet-requires-clause-one_log g c =
    let m = g.J.Sharing.making in
    log_under g.K.Keeper.TELLS m g.J.Logs.log (told_in g.K.Keeper.state m.settings.shards c.args.self.now.keepers.items) c.args.self.now.unlocked
    c.args.self.now.config.now c.args.shard c.args.note.now c.args.self.now.made c.requires.ready c.masters_are_regions.ensures c.requires.here c.requires.log

pub returns-clause-sees : goal.returns-clause-sees
returns-clause-sees g c =
    let m = g.J.Sharing.making in
    sees_under g.K.Keeper.TELLS m g.J.Logs.log (told_in g.K.Keeper.state m.settings.shards c.args.self.now.keepers.items) c.args.self.now.unlocked
    c.args.self.now.config.now c.args.shard c.meet_fleet.result c.args.note.now c.meet_fleet.new.note c.args.self.now.made c.requires.ready
    c.masters_are_regions.ensures c.requires.here c.meet_fleet.ensures.met
