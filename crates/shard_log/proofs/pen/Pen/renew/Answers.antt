use Rattle.std.proofs.Common.{◌≡◌, sym, ap, ◌∙◌}
use Rattle.std.specs.Arc.{arc_value}
use Rattle.shard_log.specs.View.{View}
use Rattle.shard_log.proofs.SeatLemmas.{note_of}
use Rattle.shard_log.proofs.pen.Pen.renew.Goals as goal

-- the note is of the pen's table
pub invariant_of-result : goal.invariant_of-result
invariant_of-result c =
    let same : (arc_value c.take_in-board.result).shared.table_id ≡ (arc_value c.self.inside.board).shared.table_id =
    c.take_in-board.ensures.board ∙ sym (ap (λ (v : View). v.log.table) (c.self.view_is ∙ c.take_in-board.ensures.same)) ∙ c.self.invariant.seated.table_is in
    note_of _ _ _ _ c.self.inside.place.me _ c.self.invariant.seated same c.split_seat-place.ensures.3 c.split_seat-place.ensures.4
