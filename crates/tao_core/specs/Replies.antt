-- What a reply says of what was asked, of the moment before, and of the moment after.
use Rattle.std.specs.Prelude.{◌≡◌, ◌⊎◌, Bool, List, Result, Ok, Err}
use Rattle.core_sessions.specs.Sessions.{Session, new_session, with_session}
use Rattle.core_sessions.specs.declared.sessions.OpenSession.{OpenSession}
use Rattle.replies.specs.declared.refusals.Refusal.{Refusal}
use Rattle.replies.specs.declared.refusals.Refusal.TheVariants.{Memory}
use Rattle.replies.specs.declared.reply.Reply.{Reply}
use Rattle.replies.specs.declared.reply.Reply.TheVariants.{Opened, Refused}
use Rattle.request_check.specs.declared.checked.Checked.{Checked}
use Rattle.request_check.specs.declared.checked.Checked.TheVariants as checked
use Rattle.requests.specs.declared.request.Request.{Request}
use Rattle.shard_log.specs.View.{View}
use Rattle.tao_core.specs.Asked.{asked_of}
use Rattle.tao_core.specs.CacheReplies.{AnswersCache}
use Rattle.tao_core.specs.Core.{Moment, WantsMemory}
use Rattle.tao_core.specs.Health.{AnswersHealth}
use Rattle.tao_core.specs.HeldCalls.{AnswersCall, AnswersPlan}
use Rattle.tao_core.specs.LinkReplies.{AnswersLink}
use Rattle.tao_core.specs.StoreReplies.{AnswersStore}

-- a session is opened, which has learnt nothing, or there was no memory
abbrev pub AnswersOpen : OpenSession → List Session → Reply → List Session → Type 0
AnswersOpen opened sessions (Opened session) next = (session ≡ opened.session)
    × ((notes : List View) × (next ≡ with_session (new_session opened notes) sessions))
AnswersOpen opened sessions (Refused (Memory position)) next = (position ≡ 0) × (next ≡ sessions)
AnswersOpen opened sessions reply next = ⊥

-- nothing changed but the core's sessions
abbrev pub KeepsRest : Moment → Moment → Type 0
KeepsRest old new = new ≡ record old { core = record old.core { sessions = new.core.sessions } }

-- what the reply to what is asked says
abbrev pub AnswersAsked : Bool → Moment → Result Checked Refusal → Reply → Moment → Type 0
AnswersAsked tells old (Err refused) reply new = (reply ≡ Refused refused) × (new ≡ old)
AnswersAsked tells old (Ok (checked.Open session region tier)) reply new =
    AnswersOpen (record { session = session; region = region; tier = tier }) old.core.sessions reply new.core.sessions × KeepsRest old new
AnswersAsked tells old (Ok (checked.Call call)) reply new = AnswersCall tells call old reply new
AnswersAsked tells old (Ok (checked.Plan asked)) reply new = AnswersPlan tells asked old reply new
AnswersAsked tells old (Ok (checked.Cache asked)) reply new = AnswersCache tells asked old reply new
AnswersAsked tells old (Ok (checked.Store asked)) reply new = AnswersStore tells asked old reply new
AnswersAsked tells old (Ok (checked.Link asked)) reply new = AnswersLink asked old reply new
AnswersAsked tells old (Ok (checked.Health asked)) reply new = AnswersHealth tells asked old reply new

-- the reply to a request is the one that what it asks has
abbrev pub AnswersRequest : Bool → Moment → Request → Reply → Moment → Type 0
AnswersRequest tells old asked reply new =
    WantsMemory old reply new ⊎ AnswersAsked tells old (asked_of old.core.settings old.core.sessions old.core.plans asked) reply new
