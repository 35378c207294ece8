use Rattle.std.proofs.Common.{rules, ◌≡◌, ap, sym, ◌∙◌}
use Rattle.shard_log.proofs.Steps.{takes_in, pen_confirms}
use Rattle.shard_log.proofs.pen.Pen.take_in.Goals as goal

pub join_seat-requires : goal.join_seat-requires
join_seat-requires c =
    let same : c.note.inside.place.table_id ≡ c.self.inside.place.table_id =
    ap (λ v. v.log.table) c.note.view_is ∙ ap (λ l. l.table) (sym c.requires) ∙ sym (ap (λ v. v.log.table) c.self.view_is) in
    let here = c.self.invariant.seated.table_is ∙ ap (λ b. b.shared.table_id) (sym c.deref.ensures) in
    (here, same ∙ here, c.note.invariant.seated.bare, search rules, takes_in _ _ _ _ c.self.invariant.writes c.note.invariant.reads)

pub load-requires : goal.load-requires
load-requires c = (search rules, search rules, pen_confirms _ _ _ (ap (λ m. m.0.role) c.join_seat.ensures.2 ∙ c.self.invariant.writes))
