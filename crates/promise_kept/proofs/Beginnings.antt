-- A session that is opened has learnt of nothing and seen nothing.
use Rattle.std.proofs.Common.{◌≡◌, ◌∙◌, ℕ, List, Some, refl, sym, ap, subst}
use Rattle.core_model.proofs.Places.{one_some}
use Rattle.core_sessions.specs.Sessions.{Session, new_session, session_at}
use Rattle.core_sessions.specs.declared.sessions.OpenSession.{OpenSession}
use Rattle.promise_kept.proofs.OpenLines.{opened_here}
use Rattle.promise_kept.specs.Openings.{OpensAtZero}
use Rattle.replies.specs.declared.reply.Reply.TheVariants.{Opened}
use Rattle.session_pass.specs.Floors.{floor_at}
use Rattle.tao_base.specs.declared.id.Key.{Key}
use Rattle.tao_core.specs.Replies.{AnswersOpen}

opened_floor : (opened : OpenSession) (number : ℕ) (old new : List Session) (session : Session) (key : Key) → AnswersOpen opened old (Opened number) new
    → session_at new opened.session ≡ Some session → floor_at session.floors key ≡ 0
opened_floor opened number old new session key answers found =
    let made = new_session opened answers.1.0 in
    let there : session_at new opened.session ≡ Some made =
    ap (λ (sessions : List Session). session_at sessions opened.session) answers.1.1 ∙ opened_here made old in
    subst (λ (x : Session). floor_at x.floors key ≡ 0) (one_some made session (sym there ∙ found)) refl

pub opens_at_zero : OpensAtZero
opens_at_zero = record { floors = opened_floor }
