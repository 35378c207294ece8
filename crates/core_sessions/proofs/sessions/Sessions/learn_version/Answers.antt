use Rattle.std.proofs.Common.{◌≡◌, ap, arith, true}
use Rattle.core_sessions.proofs.AtPlace.{has_room, holds_of, learns_version_there, room_of_one, set_in_order, stands, within}
use Rattle.core_sessions.specs.Sessions.{is_open, sessions_of}
use Rattle.session_pass.specs.Passes.{IsNoteOf}
use Rattle.tao_base.specs.Keys.{key_shard}
use Rattle.core_sessions.proofs.sessions.Sessions.learn_version.Goals as goal

pub index_mut-requires : goal.index_mut-requires
index_mut-requires c =
    let items = c.self.inside.passes.items in
    let there : is_open (sessions_of items) c.args.session ≡ true = rw c.self.view_is c.requires.open in
    let less = within c.args.session items c.deref.result.now c.place_near-place.result c.deref.ensures.value c.self.invariant there
    c.place_near-place.ensures.place in
    omega (arith, less, c.self.inside.passes.ok.0)

pub learn-requires-clause-spare : goal.learn-requires-clause-spare
learn-requires-clause-spare c =
    let items = c.self.inside.passes.items in
    let there : is_open (sessions_of items) c.args.session ≡ true = rw c.self.view_is c.requires.open in
    let here = stands c.args.session items c.deref.result.now c.place_near-place.result c.index_mut.result.now c.deref.ensures.value c.self.invariant there
    c.place_near-place.ensures.place c.index_mut.ensures.value in
    has_room c.args.session items c.place_near-place.result c.index_mut.result.now here 1 (room_of_one c.args.session items (rw c.self.view_is c.requires.room))

pub learn-requires-clause-shard : goal.learn-requires-clause-shard
learn-requires-clause-shard c =
    let items = c.self.inside.passes.items in
    let there : is_open (sessions_of items) c.args.session ≡ true = rw c.self.view_is c.requires.open in
    let here = stands c.args.session items c.deref.result.now c.place_near-place.result c.index_mut.result.now c.deref.ensures.value c.self.invariant there
    c.place_near-place.ensures.place c.index_mut.ensures.value in
    holds_of c.args.session items c.place_near-place.result c.index_mut.result.now here (λ s. IsNoteOf (key_shard c.args.key) c.args.note s.notes)
    (rw c.self.view_is c.requires.shard)

pub invariant_of-self : goal.invariant_of-self
invariant_of-self c =
    let items = c.self.inside.passes.items in
    let there : is_open (sessions_of items) c.args.session ≡ true = rw c.self.view_is c.requires.open in
    let here = stands c.args.session items c.deref.result.now c.place_near-place.result c.index_mut.result.now c.deref.ensures.value c.self.invariant there
    c.place_near-place.ensures.place c.index_mut.ensures.value in
    set_in_order c.args.session items c.place_near-place.result c.index_mut.result.now here c.learn.new.self
    (ap (λ p. p.session) c.learn.ensures.learnt)

pub returns : goal.returns
returns c =
    let items = c.self.inside.passes.items in
    let there : is_open (sessions_of items) c.args.session ≡ true = rw c.self.view_is c.requires.open in
    let here = stands c.args.session items c.deref.result.now c.place_near-place.result c.index_mut.result.now c.deref.ensures.value c.self.invariant there
    c.place_near-place.ensures.place c.index_mut.ensures.value in
    record {
      learns = rw (← c.self.view_is) (learns_version_there c.args.session items c.place_near-place.result c.index_mut.result.now here c.args.key c.args.version
          c.learn.new.self.spare c.args.note c.learn.new.self c.learn.ensures.learnt c.learn.ensures.floors);
    }
