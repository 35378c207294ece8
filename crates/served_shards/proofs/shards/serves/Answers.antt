use Rattle.std.proofs.Common.{◌∙◌, ap}
use Rattle.std.specs.Prelude.{is_some}
use Rattle.served_shards.proofs.Places.{serves_is}
use Rattle.served_shards.proofs.shards.serves.Goals as goal

pub returns : goal.returns
returns c = c.is_some.ensures ∙ (ap is_some c.place_of.ensures ∙ serves_is c.args.shard c.args.shards.now)
