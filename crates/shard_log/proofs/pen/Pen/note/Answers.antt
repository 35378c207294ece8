use Rattle.std.proofs.Common.{rules}
use Rattle.shard_log.proofs.SeatLemmas.{note_of}
use Rattle.shard_log.proofs.pen.Pen.note.Goals as goal

pub invariant_of-result : goal.invariant_of-result
invariant_of-result c = note_of _ _ _ _ c.self.inside.place.me _ c.self.invariant.seated
    (search rules) c.split_seat-place.ensures.3 c.split_seat-place.ensures.4
