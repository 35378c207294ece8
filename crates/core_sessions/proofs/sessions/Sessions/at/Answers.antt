use Rattle.std.proofs.Common.{◌≡◌, arith, rules, true}
use Rattle.core_sessions.proofs.AtPlace.{session_is, stands, within}
use Rattle.core_sessions.specs.Sessions.{is_open, sessions_of}
use Rattle.core_sessions.proofs.sessions.Sessions.at.Goals as goal

pub index-pass-requires : goal.index-pass-requires
index-pass-requires c =
    let items = c.self.inside.passes.items in
    let there : is_open (sessions_of items) c.args.session ≡ true = rw c.self.view_is c.requires in
    let less = within c.args.session items c.deref.result.now c.place_near.result c.deref.ensures.value c.self.invariant there c.place_near.ensures.place in
    omega (arith, less, c.self.inside.passes.ok.0)

pub returns : goal.returns
returns c =
    let items = c.self.inside.passes.items in
    let there : is_open (sessions_of items) c.args.session ≡ true = rw c.self.view_is c.requires in
    let here = stands c.args.session items c.deref.result.now c.place_near.result c.index-pass.result.now c.deref.ensures.value c.self.invariant there
    c.place_near.ensures.place c.index-pass.ensures in
    rw (← c.self.view_is) (rw (session_is c.args.session items c.place_near.result c.index-pass.result.now here) (search rules))
