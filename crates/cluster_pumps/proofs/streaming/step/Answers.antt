use Rattle.std.proofs.Common.{subst}
use Rattle.std.specs.Prelude.{IfSome}
use Rattle.region_stream.specs.Following.{StepsTo}
use Rattle.shard_log.specs.View.{Grows}
use Rattle.shard_tables.specs.StoreView.{Store}
use Rattle.shard_tables.specs.Written.{StandsIn}
use Rattle.cluster_pumps.proofs.Moved.{moved_seen}
use Rattle.cluster_pumps.proofs.streaming.step.Goals as goal

pub returns-in-Ok-Some-clause-seen : goal.returns-in-Ok-Some-clause-seen
returns-in-Ok-Some-clause-seen g c =
    let master = c.args.master.now in
    let after = c.follow.new.slave.store in
    let steps = subst (λ moved. StepsTo c.note.new.self.store.view moved c.args.slave.now.store after) c.in-Ok-Some.field-0-is c.in-Ok-Some.ensures.slave in
    moved_seen g.K.Keeper.TELLS g.J.Sharing.making g.J.Logs.log master.store (g.K.Keeper.state master.keeper).told master.notes.items master.kept
    c.requires.master c.args.slave.now.store.name.shard c.in-Ok-Some.entry c.in_ok-note.note after.view c.requires.shard
    c.in_ok-note.ensures.note c.notes_are_sound.ensures.few (subst (λ (s : Store). Grows after.view s.view) c.note.ensures.store steps.within)
    (subst (λ moved. IfSome moved (StandsIn after.view)) c.in-Ok-Some.field-0-is c.in-Ok-Some.ensures.stands)
