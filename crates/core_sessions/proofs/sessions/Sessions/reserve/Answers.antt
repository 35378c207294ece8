use Rattle.std.proofs.Common.{◌≡◌, ap, arith, true}
use Rattle.std.proofs.lemmas.Result.{on_ok_weaker}
use Rattle.core_sessions.proofs.AtPlace.{room_there, set_in_order, set_same, stands, within}
use Rattle.core_sessions.specs.Sessions.{is_open, session_of, sessions_of}
use Rattle.core_sessions.proofs.sessions.Sessions.reserve.Goals as goal

pub index_mut-requires : goal.index_mut-requires
index_mut-requires c =
    let items = c.self.inside.passes.items in
    let there : is_open (sessions_of items) c.args.session ≡ true = rw c.self.view_is c.requires.open in
    let less = within c.args.session items c.deref.result.now c.place_near-place.result c.deref.ensures.value c.self.invariant there
    c.place_near-place.ensures.place in
    omega (arith, less, c.self.inside.passes.ok.0)

pub invariant_of-self : goal.invariant_of-self
invariant_of-self c =
    let items = c.self.inside.passes.items in
    let there : is_open (sessions_of items) c.args.session ≡ true = rw c.self.view_is c.requires.open in
    let here = stands c.args.session items c.deref.result.now c.place_near-place.result c.index_mut.result.now c.deref.ensures.value c.self.invariant there
    c.place_near-place.ensures.place c.index_mut.ensures.value in
    set_in_order c.args.session items c.place_near-place.result c.index_mut.result.now here c.reserve.new.self (ap (λ p. p.session) c.reserve.ensures.same)

pub returns-clause-same : goal.returns-clause-same
returns-clause-same c =
    let items = c.self.inside.passes.items in
    let there : is_open (sessions_of items) c.args.session ≡ true = rw c.self.view_is c.requires.open in
    let here = stands c.args.session items c.deref.result.now c.place_near-place.result c.index_mut.result.now c.deref.ensures.value c.self.invariant there
    c.place_near-place.ensures.place c.index_mut.ensures.value in
    rw (← c.self.view_is) (set_same c.args.session items c.place_near-place.result c.index_mut.result.now here c.reserve.new.self
    (ap session_of c.reserve.ensures.same))

pub returns-clause-room : goal.returns-clause-room
returns-clause-room c =
    let items = c.self.inside.passes.items in
    let there : is_open (sessions_of items) c.args.session ≡ true = rw c.self.view_is c.requires.open in
    let here = stands c.args.session items c.deref.result.now c.place_near-place.result c.index_mut.result.now c.deref.ensures.value c.self.invariant there
    c.place_near-place.ensures.place c.index_mut.ensures.value in
    on_ok_weaker c.reserve.result (room_there c.args.session items c.place_near-place.result c.index_mut.result.now c.reserve.new.self 16 here
    (ap (λ p. p.session) c.reserve.ensures.same)) c.reserve.ensures.ok
