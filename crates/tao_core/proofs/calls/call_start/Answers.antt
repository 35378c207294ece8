use Rattle.std.proofs.Common.{◌≡◌, true, subst, sym, ◌∙◌}
use Rattle.std.specs.Prelude.{IsSomeAnd}
use Rattle.core_sessions.specs.Sessions.{is_open, session_at, sessions_of, start_of}
use Rattle.request_check.specs.declared.checked.CheckedCall.{CheckedCall}
use Rattle.tao_base.specs.declared.id.Key.{Key}
use Rattle.tao_core.specs.HeldCalls.{call_session, call_start}
use Rattle.tao_core.proofs.Found.{found_open, mapped_is, mapped_there, placed_there, with_no_floor}
use Rattle.tao_core.proofs.calls.call_start.Goals as goal

pub unreachable-requires : goal.unreachable-requires
unreachable-requires c =
    let sessions = sessions_of c.args.sessions.now in
    let there = found_open sessions c.in-Read.call.session
    (subst (λ (x : CheckedCall). is_open sessions (call_session x) ≡ true) c.in-Read.is c.requires) in
    mapped_there (start_of c.key.result) (session_at sessions c.in-Read.call.session) there.0 there.1 (sym c.start.ensures ∙ c.in-None.is)

pub returns-in-Write : goal.returns-in-Write
returns-in-Write c =
    let sessions = sessions_of c.args.sessions.now in
    subst (λ (x : CheckedCall). IsSomeAnd (session_at sessions (call_session x)) (λ s. with_no_floor c.at.result ≡ call_start x s)) (sym c.in-Write.is)
    (placed_there (session_at sessions c.in-Write.call.session) c.at.result c.at.ensures)

pub returns-in-Some : goal.returns-in-Some
returns-in-Some c =
    let sessions = sessions_of c.args.sessions.now in
    let there = session_at sessions c.in-Read.call.session in
    subst (λ (x : CheckedCall). IsSomeAnd (session_at sessions (call_session x)) (λ s. c.in-Some.start ≡ call_start x s)) (sym c.in-Read.is)
    (subst (λ (k : Key). IsSomeAnd there (λ s. c.in-Some.start ≡ start_of k s)) c.key.ensures
    (mapped_is (start_of c.key.result) there c.in-Some.start (sym c.start.ensures ∙ c.in-Some.is)))
