use Rattle.std.proofs.Common.{◌≡◌, ap, arith, true}
use Rattle.core_sessions.proofs.AtPlace.{has_room, holds_of, learns_there, more_there, set_in_order, stands, within}
use Rattle.core_sessions.specs.Sessions.{is_open, sessions_of}
use Rattle.session_pass.specs.Passes.{IsNoteOf}
use Rattle.core_sessions.proofs.sessions.Sessions.learn.Goals as goal

pub index_mut-requires : goal.index_mut-requires
index_mut-requires c =
    let items = c.self.inside.passes.items in
    let there : is_open (sessions_of items) c.args.session ≡ true = rw c.self.view_is c.requires.open in
    let less = within c.args.session items c.deref.result.now c.place_of-place.result c.deref.ensures.value c.self.invariant there
    c.place_of-place.ensures.place in
    omega (arith, less, c.self.inside.passes.ok.0)

pub learn_entry-requires-clause-spare : goal.learn_entry-requires-clause-spare
learn_entry-requires-clause-spare c =
    let items = c.self.inside.passes.items in
    let there : is_open (sessions_of items) c.args.session ≡ true = rw c.self.view_is c.requires.open in
    let here = stands c.args.session items c.deref.result.now c.place_of-place.result c.index_mut.result.now c.deref.ensures.value c.self.invariant there
    c.place_of-place.ensures.place c.index_mut.ensures.value in
    has_room c.args.session items c.place_of-place.result c.index_mut.result.now here 8 (rw c.self.view_is c.requires.room)

pub learn_entry-requires-clause-shard : goal.learn_entry-requires-clause-shard
learn_entry-requires-clause-shard c =
    let items = c.self.inside.passes.items in
    let there : is_open (sessions_of items) c.args.session ≡ true = rw c.self.view_is c.requires.open in
    let here = stands c.args.session items c.deref.result.now c.place_of-place.result c.index_mut.result.now c.deref.ensures.value c.self.invariant there
    c.place_of-place.ensures.place c.index_mut.ensures.value in
    holds_of c.args.session items c.place_of-place.result c.index_mut.result.now here (λ s. IsNoteOf c.args.shard c.args.note s.notes)
    (rw c.self.view_is c.requires.shard)

pub invariant_of-self : goal.invariant_of-self
invariant_of-self c =
    let items = c.self.inside.passes.items in
    let there : is_open (sessions_of items) c.args.session ≡ true = rw c.self.view_is c.requires.open in
    let here = stands c.args.session items c.deref.result.now c.place_of-place.result c.index_mut.result.now c.deref.ensures.value c.self.invariant there
    c.place_of-place.ensures.place c.index_mut.ensures.value in
    set_in_order c.args.session items c.place_of-place.result c.index_mut.result.now here c.learn_entry.new.self
    (ap (λ p. p.session) c.learn_entry.ensures.learns.rest)

pub returns-clause-learns : goal.returns-clause-learns
returns-clause-learns c =
    let items = c.self.inside.passes.items in
    let there : is_open (sessions_of items) c.args.session ≡ true = rw c.self.view_is c.requires.open in
    let here = stands c.args.session items c.deref.result.now c.place_of-place.result c.index_mut.result.now c.deref.ensures.value c.self.invariant there
    c.place_of-place.ensures.place c.index_mut.ensures.value in
    rw (← c.self.view_is) (learns_there c.args.session items c.place_of-place.result c.index_mut.result.now here c.args.shard c.args.entry.now c.args.note
    c.learn_entry.new.self
    c.learn_entry.ensures.learns)

pub returns-clause-more : goal.returns-clause-more
returns-clause-more c =
    let items = c.self.inside.passes.items in
    let there : is_open (sessions_of items) c.args.session ≡ true = rw c.self.view_is c.requires.open in
    let here = stands c.args.session items c.deref.result.now c.place_of-place.result c.index_mut.result.now c.deref.ensures.value c.self.invariant there
    c.place_of-place.ensures.place c.index_mut.ensures.value in
    rw (← c.self.view_is) (more_there c.args.session items c.place_of-place.result c.index_mut.result.now c.learn_entry.new.self here
    (ap (λ p. p.session) c.learn_entry.ensures.learns.rest) c.learn_entry.ensures.spare)
