-- What a session has seen after the line of a call: a read that is answered shows it a version, and no other call shows any.
use Rattle.std.proofs.Common.{◌≡◌, ◌∙◌, ℕ, List, Option, Some, None, refl, sym, ap, subst, inl, inr}
use Rattle.core_model.specs.Pens.{Pens}
use Rattle.core_sessions.specs.Sessions.{Session, SessionLearnsVersion}
use Rattle.plain_promise.specs.Promise.{Begun, SeenVersion, carried_out, seen_version, seen_with}
use Rattle.promise_kept.proofs.Learning.{AreAllFloors, session_sees}
use Rattle.promise_kept.proofs.ReadLemmas.{IsReadReply}
use Rattle.promise_kept.proofs.Saying.{began_as}
use Rattle.promise_kept.specs.Seen.{FloorsAre, floors_of}
use Rattle.read_plan.specs.Readings.{Reading}
use Rattle.replies.specs.declared.calls.CallReply.{CallReply}
use Rattle.replies.specs.declared.calls.CallReply.TheVariants as called
use Rattle.replies.specs.declared.calls.ReadReply.{ReadReply}
use Rattle.replies.specs.declared.refusals.Refusal.{Refusal}
use Rattle.replies.specs.declared.reply.Reply.{Reply}
use Rattle.replies.specs.declared.reply.Reply.TheVariants.{Called, Refused}
use Rattle.request_check.specs.declared.checked.CheckedCall.TheVariants.{Read, Write}
use Rattle.request_check.specs.declared.checked.CheckedRead.{CheckedRead}
use Rattle.request_check.specs.declared.checked.CheckedWrite.{CheckedWrite}
use Rattle.shard_log.specs.View.{as_note}
use Rattle.tao_base.specs.Keys.{key_shard}
use Rattle.tao_base.specs.Queries.{query_key}
use Rattle.tao_base.specs.declared.entry.Entry.{Entry}
use Rattle.tao_base.specs.declared.query.Query.{Query}
use Rattle.tao_core.specs.Calls.{LearnsAnswer, LearnsVersion}
use Rattle.tao_core.specs.HeldCalls.{numbered_reply}

-- what sessions have seen after the line of a call that began so, with that reply
abbrev pub saw_after : Begun → Reply → (ℕ → List SeenVersion) → ℕ → List SeenVersion
saw_after began reply saw n = seen_with (Some began) (carried_out reply) n (saw n)

-- ---- what shows nothing

-- a call that wasn't carried out
pub uncarried_shows : (began : Begun) (reply : Reply) (saw : ℕ → List SeenVersion) (n : ℕ) → carried_out reply ≡ None → saw_after began reply saw n ≡ saw n
uncarried_shows began reply saw n none = ap (λ o. seen_with (Some began) o n (saw n)) none

-- a write
write_shows_by : (began : Begun) (write : CheckedWrite) (o : Option CallReply) (n : ℕ) (seen : List SeenVersion)
    → seen_with (Some (began_as (Write write) began)) o n seen ≡ seen
write_shows_by began write None n seen = refl
write_shows_by began write (Some reply) n seen = refl

module _ (learnt : ℕ → List Entry) (saw : ℕ → List SeenVersion) (sessions : List Session) (were : AreAllFloors learnt saw sessions) where
  pub uncarried_floors : (began : Begun) (reply : Reply) → carried_out reply ≡ None → AreAllFloors learnt (saw_after began reply saw) sessions
  uncarried_floors began reply none n =
      subst (λ vs. FloorsAre (learnt n) vs (floors_of sessions n)) (sym (uncarried_shows began reply saw n none)) (were n)

  pub write_floors : (began : Begun) (write : CheckedWrite) (reply : Reply) → AreAllFloors learnt (saw_after (began_as (Write write) began) reply saw) sessions
  write_floors began write reply n =
      subst (λ vs. FloorsAre (learnt n) vs (floors_of sessions n)) (sym (write_shows_by began write (carried_out reply) n (saw n))) (were n)

-- ---- what a read shows

-- with the number of its plan a reply shows the same
pub numbered_shows : (number : ℕ) (reply : Reply) → carried_out (numbered_reply number reply) ≡ carried_out reply
numbered_shows number (Called reply) = refl
numbered_shows number other = refl

pub said_floors : (began : Begun) (number : ℕ) (reply ended : Reply) (learnt : ℕ → List Entry) (saw : ℕ → List SeenVersion) (sessions : List Session)
    → reply ≡ numbered_reply number ended → AreAllFloors learnt (saw_after began ended saw) sessions → AreAllFloors learnt (saw_after began reply saw) sessions
said_floors began number reply ended learnt saw sessions told are =
    subst (λ o. AreAllFloors learnt (λ n. seen_with (Some began) o n (saw n)) sessions) (sym (ap carried_out told ∙ numbered_shows number ended)) are

-- one that is refused teaches nothing
pub refused_learns : (pens : Pens) (q : Reading) (reply : Reply) (refusal : Refusal) (old new : List Session) → reply ≡ Refused refusal
    → LearnsAnswer pens q reply old new → new ≡ old
refused_learns pens q reply refusal old new is learns = subst (λ r. LearnsAnswer pens q r old new) is learns

-- and one that belongs to no session teaches none
pub nobody_learns : (pens : Pens) (q : Reading) (reply : Reply) (old new : List Session) → q.reader ≡ None → IsReadReply reply
    → LearnsAnswer pens q reply old new → new ≡ old
nobody_learns pens q reply old new nobody is learns = elim is.is [
  | inl answered ↦
      subst (λ reader. LearnsVersion pens reader (query_key q.query) answered.0.version old new) nobody
      (subst (λ r. LearnsAnswer pens q r old new) answered.1 learns)
  | inr refused ↦ refused_learns pens q reply refused.0 old new refused.1 learns
]

-- the session of a read learns the version that it is answered
pub reader_learns : (pens : Pens) (q : Reading) (read : CheckedRead) (answer : ReadReply) (old new : List Session) → q.query ≡ read.query
    → q.reader ≡ Some read.session → LearnsAnswer pens q (Called (called.Read answer)) old new
    → SessionLearnsVersion read.session (query_key read.query) answer.version (as_note (pens (key_shard (query_key read.query)))) old new
reader_learns pens q read answer old new query reader learns =
    subst (λ (asked : Query). SessionLearnsVersion read.session (query_key asked) answer.version (as_note (pens (key_shard (query_key asked)))) old new) query
    (subst (λ who. LearnsVersion pens who (query_key q.query) answer.version old new) reader learns)

-- so it has seen that
pub read_floors : (pens : Pens) (first : Begun) (read : CheckedRead) (q : Reading) (reply : Reply) (old new : List Session) (learnt : ℕ → List Entry)
    (saw : ℕ → List SeenVersion) → q.query ≡ read.query → q.reader ≡ Some read.session → IsReadReply reply → LearnsAnswer pens q reply old new
    → AreAllFloors learnt saw old → AreAllFloors learnt (saw_after (began_as (Read read) first) reply saw) new
read_floors pens first read q reply old new learnt saw query reader is learns were = elim is.is [
  | inl answered ↦
      let one = seen_version read answered.0 in
      let sees = reader_learns pens q read answered.0 old new query reader (subst (λ r. LearnsAnswer pens q r old new) answered.1 learns) in
      subst (λ r. AreAllFloors learnt (saw_after (began_as (Read read) first) r saw) new) (sym answered.1)
      (session_sees read.session one (as_note (pens (key_shard (query_key read.query)))) old new learnt saw sees were)
  | inr refused ↦
      let same = refused_learns pens q reply refused.0 old new refused.1 learns in
      uncarried_floors learnt saw new (subst (AreAllFloors learnt saw) (sym same) were) (began_as (Read read) first) reply (ap carried_out refused.1)
]
