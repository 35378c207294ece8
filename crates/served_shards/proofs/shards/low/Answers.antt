use Rattle.std.proofs.Common.{refl, sym}
use Rattle.served_shards.proofs.Places.{served_found, served_none}
use Rattle.served_shards.proofs.shards.low.Goals as goal

pub returns-in-Some-clause-value : goal.returns-in-Some-clause-value
returns-in-Some-clause-value c =
    let at = served_found c.args.shard c.args.shards.now c.in-Some.place c.index-shards-place.result (sym c.in-Some.ensures) in
    rw at c.low.ensures.value

pub returns-in-None-clause-value : goal.returns-in-None-clause-value
returns-in-None-clause-value c = rw (served_none c.args.shard c.args.shards.now (sym c.in-None.ensures)) refl

pub returns-in-Some-clause-marks : goal.returns-in-Some-clause-marks
returns-in-Some-clause-marks c =
    rw (served_found c.args.shard c.args.shards.now c.in-Some.place c.index-shards-place.result (sym c.in-Some.ensures))
    (record { greatest = c.low.ensures.greatest; window = c.low.ensures.window })

pub returns-in-None-clause-marks : goal.returns-in-None-clause-marks
returns-in-None-clause-marks c = rw (served_none c.args.shard c.args.shards.now (sym c.in-None.ensures)) tt
