use Rattle.std.proofs.Common.{refl, sym}
use Rattle.served_shards.proofs.Places.{served_found, served_none}
use Rattle.served_shards.proofs.shards.top.Goals as goal

pub returns-in-Some : goal.returns-in-Some
returns-in-Some c =
    let at = served_found c.args.shard c.args.shards.now c.in-Some.place c.index-shards-place.result (sym c.in-Some.ensures) in
    rw at c.top.ensures.value

pub returns-in-None : goal.returns-in-None
returns-in-None c = rw (served_none c.args.shard c.args.shards.now (sym c.in-None.ensures)) refl
