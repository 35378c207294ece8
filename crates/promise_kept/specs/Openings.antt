-- How a session begins.
use Rattle.std.specs.Prelude.{ℕ, ◌≡◌, List, Some}
use Rattle.core_sessions.specs.Sessions.{Session, session_at}
use Rattle.core_sessions.specs.declared.sessions.OpenSession.{OpenSession}
use Rattle.replies.specs.declared.reply.Reply.TheVariants.{Opened}
use Rattle.session_pass.specs.Floors.{floor_at}
use Rattle.tao_base.specs.declared.id.Key.{Key}
use Rattle.tao_core.specs.Replies.{AnswersOpen}

-- a session that is opened has the floor 0 at each key, whether an earlier run had one of its number or not
pub record OpensAtZero : Type 0 where
  pub floors : (opened : OpenSession) (number : ℕ) (old new : List Session) (session : Session) (key : Key)
      → AnswersOpen opened old (Opened number) new → session_at new opened.session ≡ Some session → floor_at session.floors key ≡ 0
