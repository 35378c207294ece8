use Rattle.std.proofs.Common.{rules, ◌≡◌, ap, sym, ◌∙◌}
use Rattle.shard_log.proofs.SeatLemmas.{note_meets}
use Rattle.shard_log.proofs.Steps.{joins, confirms}
use Rattle.shard_log.proofs.note.Note.meet.Goals as goal

pub join_seat-requires : goal.join_seat-requires
join_seat-requires c =
    let same : c.other.inside.place.table_id ≡ c.self.inside.place.table_id =
    ap (λ v. v.log.table) c.other.view_is ∙ ap (λ l. l.table) (sym c.requires) ∙ sym (ap (λ v. v.log.table) c.self.view_is) in
    let here = c.self.invariant.seated.table_is ∙ ap (λ b. b.shared.table_id) (sym c.deref.ensures) in
    (here, same ∙ here, c.other.invariant.seated.bare, search rules, joins _ _ _ _ c.self.invariant.reads c.other.invariant.reads)

pub load-requires : goal.load-requires
load-requires c = (search rules, search rules, confirms _ _ _ (ap (λ m. m.0.role) c.join_seat.ensures.2 ∙ c.self.invariant.reads))

pub invariant_of-self : goal.invariant_of-self
invariant_of-self c =
    let told = ap (λ v. v.log.told) c.other.view_is ∙ ap (λ l. l.told) (sym c.requires) ∙ sym (ap (λ v. v.log.told) c.self.view_is) in
    note_meets _ _ _ c.self.inside.place.me _ _ _ c.self.invariant c.other.invariant.seated.log told
    (search rules) c.join_seat.ensures.2 c.load.ensures.2.seat_is
