use Rattle.std.proofs.Common.{get_or, sym, ap}
use Rattle.std.specs.Prelude.{map}
use Rattle.served_shards.proofs.Places.{served_none, set_found, unchanged}
use Rattle.served_shards.specs.Fields.{served_of}
use Rattle.served_shards.specs.Served.{marking}
use Rattle.served_shards.proofs.shards.mark.Goals as goal

pub returns-in-Some : goal.returns-in-Some
returns-in-Some c =
    let old = get_or c.args.shards.now c.in-Some.place c.index-shards-place.result in
    set_found c.args.shard (marking c.args.position) c.args.shards.now c.in-Some.place c.index-shards-place.result
    (record { number = old.number; water = c.mark.new.self; note = old.note }) (sym c.in-Some.ensures)
    (ap (λ m. record { shard = old.number; marks = m; view = old.note }) c.mark.ensures.after)

pub returns-in_default : goal.returns-in_default
returns-in_default c = sym (unchanged c.args.shard (marking c.args.position) (map served_of c.args.shards.now)
    (served_none c.args.shard c.args.shards.now (sym c.in_default.ensures)))
