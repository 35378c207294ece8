use Rattle.std.proofs.Common.{◌<◌, length, sym, subst}
use Rattle.graph_model.specs.Soundness.{CanFollow}
use Rattle.graph_model.specs.Told.{WhereTold}
use Rattle.shard_log.specs.View.{most_entries}
use Rattle.shard_log.proofs.SeatLemmas.{pen_adds}
use Rattle.shard_log.proofs.pen.Pen.append.Goals as goal

pub invariant_of-self : goal.invariant_of-self
invariant_of-self c =
    let room = subst (λ v. length v.entries < most_entries) (sym c.self.view_is) c.requires.room in
    let follows = subst (λ v. WhereTold v.log.told (CanFollow v.entries c.args.entry.now)) (sym c.self.view_is) c.requires.follows in
    pen_adds _ _ _ c.self.inside.place.me _ _ c.args.entry.now c.self.invariant c.append.ensures.table c.append.ensures.seat room follows
