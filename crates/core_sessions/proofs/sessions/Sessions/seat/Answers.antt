use Rattle.std.proofs.Common.{subst}
use Rattle.core_sessions.proofs.AtPlace.{seat_is}
use Rattle.core_sessions.proofs.InOrder.{IsPlace}
use Rattle.core_sessions.proofs.sessions.Sessions.seat.Goals as goal

pub returns : goal.returns
returns c =
    let items = c.self.inside.passes.items in
    rw (← c.self.view_is) (seat_is c.args.session items c.place_of.result c.self.invariant
    (subst (λ ys. IsPlace c.args.session ys c.place_of.result) c.deref.ensures.value c.place_of.ensures.place))
