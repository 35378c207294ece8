use Rattle.served_shards.proofs.Places.{met_once}
use Rattle.served_shards.specs.Fields.{served_of}
use Rattle.served_shards.proofs.shards.restart_one.Goals as goal

pub returns-clause-meets : goal.returns-clause-meets
returns-clause-meets c = met_once (served_of c.args.shard.now) c.args.note c.meet.new.self c.meet.ensures.longer c.meet.ensures.grows
    c.meet.ensures.grows_from_other c.notes_are_sound.ensures.sound
