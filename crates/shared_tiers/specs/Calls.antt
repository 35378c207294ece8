-- What a cluster replies to a request, which one session's pass stands for.
use Rattle.std.specs.Prelude.{ℕ, ◌≡◌, ◌≢◌, ◌⊎◌, ⊤, IsSomeAnd, Result, Ok, Err, slice_get}
use Rattle.cluster_reads.specs.Reads.{RepliesToRead, asked_with}
use Rattle.cluster_writes.specs.Replies.{RepliesToWrite}
use Rattle.core_model.specs.Asked.{client_call}
use Rattle.cluster_closing.specs.locked_nodes.Begun.{Begun, begun}
use Rattle.cluster_closing.specs.locked_nodes.Cluster.{OnCluster}
use Rattle.replies.specs.declared.refusals.LineRefused.TheVariants.{NotHere}
use Rattle.replies.specs.declared.refusals.NameRefused.{NameRefused}
use Rattle.replies.specs.declared.refusals.Refusal.{Refusal}
use Rattle.replies.specs.declared.refusals.Refusal.TheVariants.{Line, Memory, Name, Session}
use Rattle.replies.specs.declared.refusals.SessionRefused.TheVariants.{NoSession}
use Rattle.replies.specs.declared.reply.Reply.{Reply}
use Rattle.replies.specs.declared.reply.Reply.TheVariants as reply
use Rattle.request_check.specs.Calls.{checked_call}
use Rattle.request_check.specs.declared.checked.Checked.{Checked}
use Rattle.request_check.specs.declared.checked.Checked.TheVariants as checked
use Rattle.request_check.specs.declared.checked.CheckedCall.{CheckedCall}
use Rattle.request_check.specs.declared.checked.CheckedCall.TheVariants.{Read, Write}
use Rattle.requests.specs.CallWords.{asking_session}
use Rattle.requests.specs.RequestWords.{request_word}
use Rattle.requests.specs.declared.calls.Call.{Call}
use Rattle.requests.specs.declared.request.Request.{Request}
use Rattle.requests.specs.declared.request.Request.TheVariants as request
use Rattle.session_pass.specs.Passes.{SeenPass}
use Rattle.tao_base.specs.Queries.{query_shard}
use Rattle.tao_base.specs.Writes.{write_shard}
use Rattle.tao_base.specs.declared.entry.Origin.TheVariants.{Client}
use Rattle.tao_link.specs.Shown.{LinkShown}

-- what a call goes by: its session's pass, and the link as that shows itself
pub record Calling : Type 0 where
  pub pass : SeenPass
  pub link : LinkShown

-- a call that goes by these
abbrev pub calling : SeenPass → LinkShown → Calling
calling pass link = record { pass = pass; link = link }

-- the request was refused so, and nothing was done for it: the pass and the link are as they were
pub record RefusesAtOnce (old new : Calling) (refusal : Refusal) (said : Reply) : Type 0 where
  pub said_is : said ≡ reply.Refused refusal
  pub same : new ≡ old

-- with what the pass had seen of the shard's log, and what the link had counted, when the call began
abbrev pub Since : Calling → ℕ → (Begun → Type 0) → Type 0
Since old shard P = IsSomeAnd (slice_get old.pass.notes shard) (λ seen. P (begun seen old.link))

-- the reply to a read or a write whose names are places
abbrev pub RepliesToChecked : {M : Type 0} → OnCluster M → Calling → Calling → CheckedCall → Reply → Type 0
RepliesToChecked on old new (Read call) said = Since old (query_shard call.query)
    (λ begins. RepliesToRead on begins (asked_with on.making old.pass call.query call.critical) old.pass new.pass new.link said)
RepliesToChecked on old new (Write call) said = Since old (write_shard call.write)
    (λ begins. RepliesToWrite on begins (client_call (Client call.session call.seq) call.write) old.pass new.pass new.link said)

-- the reply to a read or a write whose names were looked up: the first of them that isn't there is refused
abbrev pub RepliesToNamed : {M : Type 0} → OnCluster M → Calling → Calling → Result CheckedCall NameRefused → Reply → Type 0
RepliesToNamed on old new (Ok call) said = RepliesToChecked on old new call said
RepliesToNamed on old new (Err refused) said = RefusesAtOnce old new (Name refused) said

-- the reply to a read or a write of the pass's own session: there was no memory to look its names up, or they were
abbrev pub RepliesToOwn : {M : Type 0} → OnCluster M → Calling → Calling → Call → Reply → Type 0
RepliesToOwn on old new call said =
    RefusesAtOnce old new (Memory 0) said ⊎ RepliesToNamed on old new (checked_call on.making.settings call) said

-- the reply to a read or a write: it is of another session than the pass's, or of its own
abbrev pub RepliesToCall : {M : Type 0} → OnCluster M → Calling → Calling → Call → Reply → Type 0
RepliesToCall on old new call said =
    ((asking_session call ≢ old.pass.session) × RefusesAtOnce old new (Session (NoSession (asking_session call))) said)
    ⊎ ((asking_session call ≡ old.pass.session) × RepliesToOwn on old new call said)

-- the reply to a request: only reads and writes are served here
abbrev pub RepliesTo : {M : Type 0} → OnCluster M → Calling → Calling → Request → Reply → Type 0
RepliesTo on old new (request.Call call) said = RepliesToCall on old new call said
RepliesTo on old new other said = RefusesAtOnce old new (Line (NotHere (request_word other))) said

-- the reply to a read or a write of the pass's own session, whose names were found to be at these places
abbrev pub RepliesToFound : {M : Type 0} → OnCluster M → Calling → Calling → Checked → Reply → Type 0
RepliesToFound on old new (checked.Call call) said = RepliesToChecked on old new call said
RepliesToFound on old new other said = ⊥

-- what a read or a write asks, and no other request
abbrev pub IsCall : Checked → Type 0
IsCall (checked.Call call) = ⊤
IsCall other = ⊥

-- the request is a read or a write
abbrev pub AsksCall : Request → Type 0
AsksCall (request.Call call) = ⊤
AsksCall other = ⊥
