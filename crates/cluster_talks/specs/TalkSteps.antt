-- A line of a connection and its reply: from one state of the connection to the next.
use Rattle.std.specs.Prelude.{ℕ, ◌≡◌, ◌⊎◌, Bool, true, false, List, [], ◌∷◌, Result, Ok, Err, ⊤}
use Rattle.cluster_talks.specs.TalkStates.{IsOpenFor, TalkGoesOn, TalkState, opened_for}
use Rattle.cluster_talks.specs.declared.reply.TalkReply.{TalkReply}
use Rattle.cluster_talks.specs.declared.reply.TalkReply.TheVariants as talk
use Rattle.read_batch.specs.Answering.{RepliesToEach}
use Rattle.replies.specs.declared.refusals.LineRefused.TheVariants as line
use Rattle.replies.specs.declared.refusals.NameRefused.{NameRefused}
use Rattle.replies.specs.declared.refusals.Refusal.{Refusal}
use Rattle.replies.specs.declared.refusals.Refusal.TheVariants.{Line, Memory, Name, Session}
use Rattle.replies.specs.declared.refusals.SessionRefused.TheVariants.{NoSession, SessionThere}
use Rattle.replies.specs.declared.reply.Reply.{Reply}
use Rattle.replies.specs.declared.reply.Reply.TheVariants as reply
use Rattle.request_check.specs.Requests.{checked_open}
use Rattle.request_check.specs.declared.checked.Checked.{Checked}
use Rattle.request_check.specs.declared.checked.Checked.TheVariants as checked
use Rattle.request_json.specs.declared.refusal.LineRefusal.{LineRefusal}
use Rattle.request_json.specs.declared.refusal.LineRefusal.TheVariants.{BadLine, OutOfMemory, TooLarge}
use Rattle.requests.specs.CallWords.{asking_session}
use Rattle.requests.specs.RequestWords.{request_word}
use Rattle.requests.specs.declared.calls.Call.{Call}
use Rattle.requests.specs.declared.request.OpenCall.{OpenCall}
use Rattle.requests.specs.declared.request.Request.{Request}
use Rattle.requests.specs.declared.request.Request.TheVariants as request
use Rattle.shared_tiers.specs.Calls.{RepliesTo}
use Rattle.shared_tiers.specs.locked_nodes.Cluster.{OnCluster}
use Rattle.talk_lines.specs.Talk.{talk_in}
use Rattle.talk_lines.specs.declared.line.TalkLine.{TalkLine}
use Rattle.talk_lines.specs.declared.line.TalkLine.TheVariants as asks
use Rattle.topology.specs.Config.{Settings}

-- ---- refusals

-- the line was refused so, and nothing was done for it: the connection is as it was
pub record TalkRefused (old new : TalkState) (refusal : Refusal) (said : Reply) : Type 0 where
  pub said_is : said ≡ reply.Refused refusal
  pub same : new ≡ old

-- a line that asks nothing gets its refusal
abbrev pub RepliesToUnread : TalkState → TalkState → LineRefusal → Reply → Type 0
RepliesToUnread old new (BadLine field) said = TalkRefused old new (Line (line.BadLine field)) said
RepliesToUnread old new (TooLarge bytes pairs) said = TalkRefused old new (Line (line.TooLarge bytes pairs)) said
RepliesToUnread old new OutOfMemory said = ⊥

-- the refusal of a line that asks nothing; the reading found no memory where there is none
abbrev pub SaysUnread : {E : Type 0} → LineRefusal → Result Reply E → Type 0
SaysUnread (BadLine field) (Ok said) = said ≡ reply.Refused (Line (line.BadLine field))
SaysUnread (TooLarge bytes pairs) (Ok said) = said ≡ reply.Refused (Line (line.TooLarge bytes pairs))
SaysUnread OutOfMemory (Ok said) = ⊥
SaysUnread OutOfMemory (Err error) = ⊤
SaysUnread refused (Err error) = ⊥

-- ---- one request

-- the request is an `open`
abbrev pub AsksOpen : Request → Type 0
AsksOpen (request.Open opening) = ⊤
AsksOpen other = ⊥

-- what an `open` asks, and no other request
abbrev pub IsOpening : Checked → Type 0
IsOpening (checked.Open session region tier) = ⊤
IsOpening other = ⊥

-- the session is opened
abbrev pub OpensFor : TalkState → TalkState → Checked → Reply → Type 0
OpensFor old new (checked.Open session region tier) said = (said ≡ reply.Opened session) × (new ≡ opened_for session region tier old)
OpensFor old new other said = ⊥

-- the reply to the `open` of a tier that was looked up: the session is opened, or the name that isn't there is refused
abbrev pub RepliesToPlaced : TalkState → TalkState → Result Checked NameRefused → Reply → Type 0
RepliesToPlaced old new (Ok placed) said = OpensFor old new placed said
RepliesToPlaced old new (Err refused) said = TalkRefused old new (Name refused) said

-- the reply to an `open`: the connection has its session already, or there was no memory to look names up, or they were
abbrev pub RepliesToOpen : Settings → TalkState → TalkState → OpenCall → Reply → Type 0
RepliesToOpen s old new opening said =
    ((old.opened ≡ true) × TalkRefused old new (Session (SessionThere old.now.pass.session)) said)
    ⊎ ((old.opened ≡ false) × (TalkRefused old new (Memory 0) said ⊎ RepliesToPlaced old new (checked_open s opening) said))

-- the reply to a read or a write: the connection has no session yet, or the cluster replies, by the connection's pass
abbrev pub RepliesOnTalk : {M : Type 0} → OnCluster M → TalkState → TalkState → Call → Reply → Type 0
RepliesOnTalk on old new call said =
    ((old.opened ≡ false) × TalkRefused old new (Session (NoSession (asking_session call))) said)
    ⊎ ((old.opened ≡ true) × (new.opened ≡ true) × RepliesTo on old.now new.now (request.Call call) said)

-- the reply to a request: only an `open`, reads and writes are served here
abbrev pub RepliesToOne : {M : Type 0} → OnCluster M → TalkState → TalkState → Request → Reply → Type 0
RepliesToOne on old new (request.Open opening) said = RepliesToOpen on.making.settings old new opening said
RepliesToOne on old new (request.Call call) said = RepliesOnTalk on old new call said
RepliesToOne on old new other said = TalkRefused old new (Line (line.NotHere (request_word other))) said

-- ---- a batch

-- reads that are asked at once, for a session
pub record AskedReads : Type 0 where
  pub session : ℕ
  pub requests : List Request

-- these reads of the session
abbrev pub asked_reads : ℕ → List Request → AskedReads
asked_reads session requests = record { session = session; requests = requests }

-- the reply to a batch: one line of its replies where it is of the connection's own open session, unless there was no memory for them
abbrev pub RepliesToReads : {M : Type 0} → OnCluster M → TalkState → TalkState → AskedReads → TalkReply → Type 0
RepliesToReads on old new asked (talk.Batch replies) =
    IsOpenFor asked.session old × (new.opened ≡ true) × RepliesToEach on old.now new.now asked.requests replies
RepliesToReads on old new asked (talk.One said) =
    (IsOpenFor asked.session old × TalkRefused old new (Memory 0) said)
    ⊎ ((¬ (IsOpenFor asked.session old)) × TalkRefused old new (Session (NoSession asked.session)) said)

-- ---- a line

-- the reply to what a line asks
abbrev pub RepliesToTalk : {M : Type 0} → OnCluster M → TalkState → TalkState → Result TalkLine LineRefusal → TalkReply → Type 0
RepliesToTalk on old new (Err refused) (talk.One said) = RepliesToUnread old new refused said
RepliesToTalk on old new (Err refused) (talk.Batch replies) = ⊥
RepliesToTalk on old new (Ok (asks.One asked)) (talk.One said) = RepliesToOne on old new asked said
RepliesToTalk on old new (Ok (asks.One asked)) (talk.Batch replies) = ⊥
RepliesToTalk on old new (Ok (asks.Batch session requests)) said = RepliesToReads on old new (asked_reads session requests) said

-- a line and its reply, and the connection goes on
pub record TalkStep {M : Type 0} (on : OnCluster M) (old : TalkState) (line : List ℕ) (said : TalkReply) (new : TalkState) : Type 0 where
  pub replied : RepliesToTalk on old new (talk_in line) said
  pub goes : TalkGoesOn old new
