use Rattle.std.proofs.Common.{◌≡◌, ◌<◌, arith, get_or, length, rules, true}
use Rattle.core_sessions.proofs.AtPlace.{holds_of, session_is, stands, within}
use Rattle.core_sessions.specs.Sessions.{is_open, sessions_of}
use Rattle.core_sessions.proofs.sessions.Sessions.note.Goals as goal

pub index_mut-requires : goal.index_mut-requires
index_mut-requires c =
    let items = c.self.inside.passes.items in
    let there : is_open (sessions_of items) c.args.session ≡ true = rw c.self.view_is c.requires.open in
    let less = within c.args.session items c.deref.result.now c.place_of-place.result c.deref.ensures.value c.self.invariant there
    c.place_of-place.ensures.place in
    omega (arith, less, c.self.inside.passes.ok.0)

pub note-requires : goal.note-requires
note-requires c =
    let items = c.self.inside.passes.items in
    let there : is_open (sessions_of items) c.args.session ≡ true = rw c.self.view_is c.requires.open in
    let is : c.index_mut.result.now ≡ get_or items c.place_of-place.result c.index_mut.result.now = search rules in
    let here = stands c.args.session items c.deref.result.now c.place_of-place.result c.index_mut.result.now c.deref.ensures.value c.self.invariant there
    c.place_of-place.ensures.place is in
    holds_of c.args.session items c.place_of-place.result c.index_mut.result.now here (λ s. c.args.shard < length s.notes) (rw c.self.view_is c.requires.shard)

pub returns-clause-note : goal.returns-clause-note
returns-clause-note c =
    let items = c.self.inside.passes.items in
    let there : is_open (sessions_of items) c.args.session ≡ true = rw c.self.view_is c.requires.open in
    let is : c.index_mut.result.now ≡ get_or items c.place_of-place.result c.index_mut.result.now = search rules in
    let here = stands c.args.session items c.deref.result.now c.place_of-place.result c.index_mut.result.now c.deref.ensures.value c.self.invariant there
    c.place_of-place.ensures.place is in
    rw (← c.self.view_is) (rw (session_is c.args.session items c.place_of-place.result c.index_mut.result.now here) c.note.ensures.view)
