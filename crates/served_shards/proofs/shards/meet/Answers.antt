use Rattle.std.proofs.Common.{get_or, sym, ap}
use Rattle.std.specs.Prelude.{map}
use Rattle.served_shards.proofs.Places.{log_found, met_once, meets_found, meets_none, served_none, set_found, unchanged}
use Rattle.served_shards.specs.Fields.{served_of}
use Rattle.served_shards.specs.Served.{seeing}
use Rattle.served_shards.proofs.shards.meet.Goals as goal

pub meet-requires : goal.meet-requires
meet-requires c = log_found c.args.shard c.args.shards.now c.in-Some.place c.index-shards-place.result c.args.note.log (sym c.in-Some.ensures) c.requires

pub returns-in-Some-clause-met : goal.returns-in-Some-clause-met
returns-in-Some-clause-met c =
    let old = get_or c.args.shards.now c.in-Some.place c.index-shards-place.result in
    set_found c.args.shard (seeing c.args.note) c.args.shards.now c.in-Some.place c.index-shards-place.result
    (record { number = old.number; water = old.water; note = c.meet.new.self }) (sym c.in-Some.ensures)
    (ap (λ v. record { shard = old.number; marks = old.water; view = v }) c.meet.ensures.longer)

pub returns-in-Some-clause-meets : goal.returns-in-Some-clause-meets
returns-in-Some-clause-meets c =
    let old = get_or c.args.shards.now c.in-Some.place c.index-shards-place.result in
    meets_found c.args.shard c.args.shards.now c.in-Some.place c.index-shards-place.result c.args.note (sym c.in-Some.ensures)
    (met_once (served_of old) c.args.note c.meet.new.self c.meet.ensures.longer c.meet.ensures.grows c.meet.ensures.grows_from_other
    c.notes_are_sound.ensures.sound)

pub returns-in_default-clause-met : goal.returns-in_default-clause-met
returns-in_default-clause-met c = sym (unchanged c.args.shard (seeing c.args.note) (map served_of c.args.shards.now)
    (served_none c.args.shard c.args.shards.now (sym c.in_default.ensures)))

pub returns-in_default-clause-meets : goal.returns-in_default-clause-meets
returns-in_default-clause-meets c = meets_none c.args.shard c.args.shards.now c.args.note (sym c.in_default.ensures)
