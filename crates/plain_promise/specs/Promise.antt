-- What a run promises to its caller, line by line. Nothing here speaks of caches, links or messages: only of the log of each shard with its open jobs, of
-- the entries that each session has learnt of and the versions that its reads have answered, and of the calls that are under way.
use Rattle.std.specs.Prelude.{ℕ, zero, suc, ◌≡◌, ◌≤◌, ◌⊎◌, ◌++◌, ◌∷◌, [], ◌==◌, true, false, List, Contains, IsSomeAnd, Option, Some, None, ⊤}
use Rattle.std.specs.Option.{option_map}
use Rattle.std.specs.Prelude.{drop, if◌then◌else◌, length, map, max, slice_get, take}
use Rattle.graph_model.specs.Answers.{answer}
use Rattle.graph_model.specs.Legal.{IsLegal, MissesNothing, floor}
use Rattle.graph_model.specs.Log.{entry_at, version}
use Rattle.graph_model.specs.Prefixes.{IsExactList, IsExactObject}
use Rattle.replies.specs.declared.calls.CallReply.{CallReply}
use Rattle.replies.specs.declared.calls.CallReply.TheVariants as called
use Rattle.replies.specs.declared.calls.InverseEnd.TheVariants as inverse
use Rattle.replies.specs.declared.calls.ReadReply.{ReadReply}
use Rattle.replies.specs.declared.calls.WriteKind.{WriteKind}
use Rattle.replies.specs.declared.calls.WriteKind.TheVariants as kind
use Rattle.replies.specs.declared.calls.WriteReply.{WriteReply}
use Rattle.replies.specs.declared.nodes.CacheReply.TheVariants.{Refilled, Shown as ShownReply}
use Rattle.replies.specs.declared.nodes.KeptOrNot.TheVariants.{Kept}
use Rattle.replies.specs.declared.nodes.NodeReply.TheVariants.{Cache, Repaired}
use Rattle.replies.specs.declared.nodes.Shown.TheVariants.{Held}
use Rattle.replies.specs.declared.nodes.ShownItem.{ShownItem}
use Rattle.replies.specs.declared.nodes.ShownItem.TheVariants as shown
use Rattle.replies.specs.declared.plans.PlanReply.TheVariants.{Next, Ended}
use Rattle.replies.specs.declared.refusals.NodeRefused.TheVariants.{NodeDown}
use Rattle.replies.specs.declared.refusals.Refusal.{Refusal}
use Rattle.replies.specs.declared.refusals.Refusal.TheVariants.{Memory, Node as OfNode, Store}
use Rattle.replies.specs.declared.refusals.StoreRefused.TheVariants.{LinkFault}
use Rattle.replies.specs.declared.refusals.When.TheVariants.{After}
use Rattle.replies.specs.declared.reply.Reply.{Reply}
use Rattle.replies.specs.declared.reply.Reply.TheVariants.{Audited, Called, Node, Plan, Refused, Settled}
use Rattle.request_check.specs.declared.checked.Checked.{Checked}
use Rattle.request_check.specs.declared.checked.Checked.TheVariants as asks
use Rattle.request_check.specs.declared.caches.CheckedCache.TheVariants.{Refill, Show}
use Rattle.request_check.specs.declared.plans.CheckedPlan.TheVariants.{Advance, Hold}
use Rattle.request_check.specs.declared.stores.CheckedStore.TheVariants.{Audit, Repair, Settle}
use Rattle.request_check.specs.declared.checked.CheckedCall.{CheckedCall}
use Rattle.request_check.specs.declared.checked.CheckedCall.TheVariants.{Read, Write}
use Rattle.request_check.specs.declared.checked.CheckedRead.{CheckedRead}
use Rattle.request_check.specs.declared.checked.CheckedWrite.{CheckedWrite}
use Rattle.tao_base.specs.EdgeTypes.{EdgeTypes}
use Rattle.tao_base.specs.Keys.{key_shard, same_key}
use Rattle.tao_base.specs.Queries.{query_key, query_shard}
use Rattle.tao_base.specs.Writes.{write_shard}
use Rattle.tao_base.specs.declared.entry.Entry.{Entry}
use Rattle.tao_base.specs.declared.entry.Origin.TheVariants.{Client}
use Rattle.tao_base.specs.declared.id.Key.{Key}
use Rattle.tao_base.specs.declared.id.Key.TheVariants.{Obj, List as Assocs}
use Rattle.write_model.specs.Machine.{ArePaired, ClientWrite, LeavesEntry, Repairs, Settles, StandsFor}
use Rattle.write_model.specs.Merges.{AreThere, JobSource, OwesOpenly, Stores, job_of, log_of}
use Rattle.write_model.specs.Steps.{HaveNoJobs}
use Rattle.write_model.specs.Writes.{forward_entry}

-- ---- the state

-- the logs of all shards
abbrev pub Logs : Type 0
Logs = List (List Entry)

-- a version of a key, which a read answered
pub record SeenVersion : Type 0 where
  pub key : Key
  pub version : ℕ

-- a call that is under way: what it asks; of the moment at which it began the logs, what its session has learnt of and seen, and the logs of the last
-- settle; and the entries that its lines have added to logs since
pub record Begun : Type 0 where
  pub call : CheckedCall
  pub logs : Logs
  pub learnt : List Entry
  pub seen : List SeenVersion
  pub settled : Option Logs
  pub added : List Entry

-- between two lines: the logs of all shards with their open jobs, the entries that each session has learnt of, the versions that its reads have answered,
-- the latest first, the call that each plan holds, and the logs as the last settle left them, if there was one
pub record Plain : Type 0 where
  pub stores : Stores
  pub learnt : ℕ → List Entry
  pub seen : ℕ → List SeenVersion
  pub held : ℕ → Option Begun
  pub settled : Option Logs

-- the entries that logs have gained, shard by shard
abbrev pub gained : Logs → Logs → List Entry
gained old [] = []
gained [] (now ∷ new) = now ++ gained [] new
gained (was ∷ old) (now ∷ new) = drop (length was) now ++ gained old new

-- each log is the same
abbrev pub AreSameLogs : Logs → Logs → Type 0
AreSameLogs old new = (shard : ℕ) → log_of new shard ≡ log_of old shard

-- the session of a call
abbrev pub caller : CheckedCall → ℕ
caller (Read call) = call.session
caller (Write call) = call.session

-- a call that begins now
abbrev pub begun_now : Plain → CheckedCall → Begun
begun_now state call = record {
  call = call;
  logs = state.stores.logs;
  learnt = state.learnt (caller call);
  seen = state.seen (caller call);
  settled = state.settled;
  added = [];
}

-- a call goes on by a line: what that added to the logs is the call's
abbrev pub went_on : Logs → Logs → Begun → Begun
went_on old new began = record began { added = began.added ++ gained old new }

-- ---- reads

-- the greatest version of the key among these; 0 where there is none of it
abbrev pub last_seen : List SeenVersion → Key → ℕ
last_seen [] key = 0
last_seen (seen ∷ more) key = max (if same_key key seen.key then seen.version else 0) (last_seen more key)

-- the version of the key that a read has at least: the greatest that its session knew before it began, by entries that it has learnt of or by reads
abbrev pub floor_at_start : Begun → Key → ℕ
floor_at_start began key = max (floor began.learnt key) (last_seen began.seen key)

-- the log that a read asks
abbrev pub log_read : Logs → CheckedRead → List Entry
log_read logs call = log_of logs (query_shard call.query)

-- a read answers as some beginning of its shard's log, which has all that its session has learnt of and seen before the read began. A critical read misses
-- nothing that stood when it began. One that began after a settle, since which no log has grown, has the last version
pub record ReadsRightly (types : EdgeTypes) (began : Begun) (call : CheckedRead) (reply : ReadReply) (now : Logs) : Type 0 where
  pub legal : IsLegal types (log_read now call) call.query (floor_at_start began (query_key call.query)) reply.answer reply.version
  pub whole : call.critical ≡ true → MissesNothing (log_read began.logs call) call.query reply.version
  pub last : (logs : Logs) → began.settled ≡ Some logs → AreSameLogs logs now
      → reply.version ≡ version (log_read now call) (query_key call.query)

-- ---- writes

-- what a session asks to be written: on the shard of the write, in that shard's epoch, and under the session's number for it
abbrev pub client_write_of : Stores → CheckedWrite → ClientWrite
client_write_of stores call = record {
  shard = write_shard call.write;
  epoch = stores.epochs.of (write_shard call.write);
  origin = Client call.session call.seq;
  asked = call.write;
}

-- the log that a write writes to
abbrev pub log_written : Logs → CheckedWrite → List Entry
log_written logs call = log_of logs (write_shard call.write)

-- a write's line changes no log; or it adds the write's one entry, and perhaps the merge of what that owes; or that merge alone, where the entry stands
abbrev pub WritesAlone : EdgeTypes → Stores → CheckedWrite → Logs → Type 0
WritesAlone types old call new =
    (new ≡ old.logs) ⊎ ((entry : Entry) × (other : ℕ) × LeavesEntry types old.logs new (client_write_of old call) entry other)

-- the id that a reply says is that of the object which the entry adds
abbrev pub SaysId : WriteKind → Entry → Type 0
SaysId (kind.ObjAdd id) entry = IsSomeAnd (slice_get entry.touches 0) (λ t. t.key ≡ Obj id)
SaysId other entry = ⊤

-- the write's entry stands at the position that the reply says, and adds the object that it names; where the reply says that the inverse is written, the
-- other end of each edge has what the entry wrote, or a later record
pub record StandsAsLearnt (types : EdgeTypes) (stores : Stores) (call : CheckedWrite) (reply : WriteReply) (entry : Entry) : Type 0 where
  pub stands : StandsFor stores.logs (client_write_of stores call) entry
  pub position_is : reply.written.position ≡ entry.position
  pub id_is : SaysId reply.kind entry
  pub other_ends : reply.written.inverse ≡ inverse.Written → AreThere (log_of stores.logs) (job_of types entry)

-- the log had a moment, since the write began, at which there was nothing for it to change
pub record FoundNothing (types : EdgeTypes) (began : Begun) (stores : Stores) (call : CheckedWrite) (reply : WriteReply) : Type 0 where
  pub n : ℕ
  pub since : length (log_written began.logs call) ≤ n
  pub nothing : forward_entry types (client_write_of stores call).epoch (take n (log_written stores.logs call)) (Client call.session call.seq) call.write ≡ None
  pub position_is : reply.written.position ≡ 0

-- a session has learnt of each of the entries
abbrev pub HasLearntEach : List Entry → List Entry → Type 0
HasLearntEach learnt entries = (entry : Entry) → Contains entries entry → Contains learnt entry

-- a write that is acknowledged stands, and its session has learnt of it; or there was nothing to change. The session has learnt of each entry that the
-- write's lines have added to any log: of its own, and of the merge at the other end where one of these lines added that
pub record IsAcknowledged (types : EdgeTypes) (began : Begun) (call : CheckedWrite) (reply : WriteReply) (old : Logs) (new : Plain) : Type 0 where
  pub done : ((entry : Entry) × StandsAsLearnt types new.stores call reply entry × Contains (new.learnt call.session) entry)
      ⊎ FoundNothing types began new.stores call reply
  pub learns : HasLearntEach (new.learnt call.session) (began.added ++ gained old new.stores.logs)

-- the position that a refusal says: that of an entry which stands all the same, or 0
abbrev pub refused_at : Refusal → ℕ
refused_at (Memory position) = position
refused_at (Store (LinkFault count (After position))) = position
refused_at (OfNode (NodeDown node (After position))) = position
refused_at other = 0

-- a line of a call was refused, with this position: with 0 no log changed, and else the write's entry stands there
abbrev pub RefusesAt : ℕ → CheckedCall → Logs → Stores → Type 0
RefusesAt zero call old new = new.logs ≡ old
RefusesAt (suc n) (Write call) old new = (entry : Entry) × StandsFor new.logs (client_write_of new call) entry × (entry.position ≡ suc n)
RefusesAt (suc n) (Read call) old new = new.logs ≡ old

-- ---- calls, held or not

-- a call was carried out, in this line or over several
abbrev pub IsCarriedOutRightly : EdgeTypes → Begun → CheckedCall → CallReply → Logs → Plain → Type 0
IsCarriedOutRightly types began (Read call) (called.Read reply) old new = ReadsRightly types began call reply new.stores.logs
IsCarriedOutRightly types began (Write call) (called.Write reply) old new = IsAcknowledged types began call reply old new
IsCarriedOutRightly types began (Read call) (called.Write reply) old new = ⊥
IsCarriedOutRightly types began (Write call) (called.Read reply) old new = ⊥

-- what the reply to a line of a call says, where the logs were these before it
abbrev pub SaysOfCall : EdgeTypes → Begun → Logs → Reply → Plain → Type 0
SaysOfCall types began old (Called reply) new = IsCarriedOutRightly types began began.call reply old new
SaysOfCall types began old (Plan (Ended number reply)) new = IsCarriedOutRightly types began began.call reply old new
SaysOfCall types began old (Plan (Next word number stage)) new = ⊤
SaysOfCall types began old (Refused refusal) new = RefusesAt (refused_at refusal) began.call old new.stores
SaysOfCall types began old other new = ⊥

-- one line of a call: reads change no log
abbrev pub CallsAlone : EdgeTypes → CheckedCall → Stores → Logs → Type 0
CallsAlone types (Read call) old new = new ≡ old.logs
CallsAlone types (Write call) old new = WritesAlone types old call new

-- what the call that a plan holds is said and done in a line
pub record AdvancesCall (types : EdgeTypes) (plan : ℕ) (old : Plain) (reply : Reply) (new : Plain) : Type 0 where
  pub began : Begun
  pub holds : old.held plan ≡ Some began
  pub says : SaysOfCall types began old.stores.logs reply new
  pub changes : CallsAlone types began.call old.stores new.stores.logs

-- ---- repairs, settles and what is shown

-- after a repair no job is open up to the position of the one that it ran; a repair that found none tells 0, and then the shard has none
abbrev pub IsRepairedUpTo : ℕ → ℕ → Stores → Type 0
IsRepairedUpTo shard zero stores = (position : ℕ) → stores.job shard position ≡ None
IsRepairedUpTo shard (suc n) stores = (position : ℕ) → position ≤ suc n → stores.job shard position ≡ None

-- a repair merges the shard's first job, or changes no log
abbrev pub RepairsAlone : EdgeTypes → Stores → Logs → Type 0
RepairsAlone types old new = (new ≡ old.logs) ⊎ ((owed : JobSource) × Repairs types old new owed)

-- after a settle no job is open, each edge is paired, and the reply says the lengths of the logs
pub record IsSettledNow (types : EdgeTypes) (lengths : List ℕ) (new : Stores) : Type 0 where
  pub none : HaveNoJobs new
  pub paired : ArePaired types new.logs
  pub lengths_are : lengths ≡ map length new.logs

-- an audit tells what the whole log of the shard answers, and its length
pub record IsAuditOf (types : EdgeTypes) (logs : Logs) (call : CheckedRead) (reply : Reply) : Type 0 where
  pub reply_is : reply ≡ Audited (answer types (log_read logs call) call.query) (length (log_read logs call))

-- an item is what the log says of the key at that version: the object, or the first edges of the list and its length
abbrev pub IsShownOf : List Entry → Key → ℕ → ShownItem → Type 0
IsShownOf log (Obj id) at (shown.Object found) = IsExactObject log id at found
IsShownOf log (Assocs id1 atype) at (shown.List edges total) = IsExactList log id1 atype at edges total
IsShownOf log (Obj id) at (shown.List edges total) = ⊥
IsShownOf log (Assocs id1 atype) at (shown.Object found) = ⊥

-- the version is one that some key had: that of the key at some beginning of its shard's log
pub record IsVersionOfSome (logs : Logs) (given : ℕ) : Type 0 where
  pub key : Key
  pub n : ℕ
  pub version_is : given ≡ version (take n (log_of logs (key_shard key))) key

-- ---- a line

-- what the reply says
abbrev pub SaysRightly : EdgeTypes → Plain → Checked → Reply → Plain → Type 0
SaysRightly types old (asks.Call call) reply new = SaysOfCall types (begun_now old call) old.stores.logs reply new
SaysRightly types old (asks.Plan (Hold plan call)) reply new = SaysOfCall types (begun_now old call) old.stores.logs reply new
SaysRightly types old (asks.Plan (Advance plan)) reply new = AdvancesCall types plan old reply new
SaysRightly types old (asks.Store (Repair shard)) (Node (Repaired reply)) new = IsRepairedUpTo shard reply.job new.stores
SaysRightly types old (asks.Store Settle) (Settled lengths) new = IsSettledNow types lengths new.stores
SaysRightly types old (asks.Store (Audit call)) (Audited given position) new = IsAuditOf types old.stores.logs call (Audited given position)
SaysRightly types old (asks.Cache (Show node key)) (Node (Cache (ShownReply mark (Held at item)))) new =
    IsShownOf (log_of old.stores.logs (key_shard key)) key at item
SaysRightly types old (asks.Cache (Refill node)) (Node (Cache (Refilled reply))) new = IsVersionOfSome new.stores.logs reply.version
SaysRightly types old asked reply new = ⊤

-- how a line may change the logs: only as what it asks does
abbrev pub ChangesLogs : EdgeTypes → Plain → Checked → Logs → Type 0
ChangesLogs types old (asks.Call call) new = CallsAlone types call old.stores new
ChangesLogs types old (asks.Plan (Hold plan call)) new = CallsAlone types call old.stores new
ChangesLogs types old (asks.Plan (Advance plan)) new = ⊤
ChangesLogs types old (asks.Store (Repair shard)) new = RepairsAlone types old.stores new
ChangesLogs types old (asks.Store Settle) new = Settles types old.stores new
ChangesLogs types old other new = new ≡ old.stores.logs

-- what each plan holds after a line: a `hold` begins a call, an `advance` goes on with one, and nothing else changes one
abbrev pub held_after : Plain → Checked → Logs → ℕ → Option Begun
held_after old (asks.Plan (Hold plan call)) new number =
    if number == plan then Some (went_on old.stores.logs new (begun_now old call)) else old.held number
held_after old (asks.Plan (Advance plan)) new number =
    if number == plan then option_map (went_on old.stores.logs new) (old.held number) else old.held number
held_after old other new number = old.held number

-- a version that a read of this query answered
abbrev pub seen_version : CheckedRead → ReadReply → SeenVersion
seen_version call reply = record { key = query_key call.query; version = reply.version }

-- how the call began that a line begins or goes on with; None where the line asks for no call
abbrev pub began_of_line : Plain → Checked → Option Begun
began_of_line old (asks.Call call) = Some (begun_now old call)
began_of_line old (asks.Plan (Hold plan call)) = Some (begun_now old call)
began_of_line old (asks.Plan (Advance plan)) = old.held plan
began_of_line old other = None

-- what a call was carried out with, by the reply to its line; None where it was not
abbrev pub carried_out : Reply → Option CallReply
carried_out (Called reply) = Some reply
carried_out (Plan (Ended number reply)) = Some reply
carried_out other = None

-- what a session has seen after a call was carried out: its own read has shown it a version, and no other call shows it any
abbrev pub seen_by : CheckedCall → CallReply → ℕ → List SeenVersion → List SeenVersion
seen_by (Read call) (called.Read reply) session seen = if session == call.session then seen_version call reply ∷ seen else seen
seen_by call reply session seen = seen

-- what a session has seen after the line of a call, which was carried out by it or not
abbrev pub seen_with : Option Begun → Option CallReply → ℕ → List SeenVersion → List SeenVersion
seen_with (Some began) (Some reply) session seen = seen_by began.call reply session seen
seen_with began reply session seen = seen

-- what a session has seen after a line: a read that is carried out shows its version to the session that reads, and no other line shows any
abbrev pub seen_after : Plain → Checked → Reply → ℕ → List SeenVersion
seen_after old asked reply session = seen_with (began_of_line old asked) (carried_out reply) session (old.seen session)

-- the logs of the last settle after a line: those that a settle's Ok reply leaves
abbrev pub settled_after : Plain → Reply → Logs → Option Logs
settled_after old (Settled lengths) new = Some new
settled_after old other new = old.settled

-- no two entries of a log are of one origin
pub record HasEachOnce (log : List Entry) : Type 0 where
  pub once : (first second : ℕ) (d e : Entry) → entry_at log first ≡ Some d → entry_at log second ≡ Some e → d.origin ≡ e.origin → first ≡ second

-- what is so of the logs after each line: each has an entry once, and where an edge lacks its other end, or a later record, an open job has it
pub record IsWellKept (types : EdgeTypes) (stores : Stores) : Type 0 where
  pub once : (shard : ℕ) → HasEachOnce (log_of stores.logs shard)
  pub owed : (shard : ℕ) → OwesOpenly types (log_of stores.logs) (stores.job shard) shard

-- each log begins as it was
abbrev pub EachGrows : Logs → Logs → Type 0
EachGrows old new = (shard : ℕ) → log_of old shard ≡ take (length (log_of old shard)) (log_of new shard)

-- a line that asks something. Its reply is right. The logs changed only as what it asks does, each of them at its end, and are well kept. A session that has
-- learnt of an entry stays so, has seen what its reads answered and nothing else, and a plan holds its call
pub record KeepsPromise (types : EdgeTypes) (old : Plain) (asked : Checked) (reply : Reply) (new : Plain) : Type 0 where
  pub says : SaysRightly types old asked reply new
  pub changes : ChangesLogs types old asked new.stores.logs
  pub grows : EachGrows old.stores.logs new.stores.logs
  pub well_kept : IsWellKept types new.stores
  pub learnt : (session : ℕ) → (more : List Entry) × (new.learnt session ≡ old.learnt session ++ more)
  pub seen : (session : ℕ) → new.seen session ≡ seen_after old asked reply session
  pub held : (plan : ℕ) → new.held plan ≡ held_after old asked new.stores.logs plan
  pub settled : new.settled ≡ settled_after old reply new.stores.logs

-- ---- a run

-- what a line asks, or None where it was refused before anything was done, and its reply
pub record Said : Type 0 where
  pub asked : Option Checked
  pub reply : Reply

-- a line that was refused before anything was done changes nothing
pub record IsRefusedBefore (old : Plain) (reply : Reply) (new : Plain) : Type 0 where
  pub refusal : Refusal
  pub reply_is : reply ≡ Refused refusal
  pub same : new ≡ old

-- one line and its reply
abbrev pub SaysPlainly : EdgeTypes → Plain → Option Checked → Reply → Plain → Type 0
SaysPlainly types old (Some asked) reply new = KeepsPromise types old asked reply new
SaysPlainly types old None reply new = IsRefusedBefore old reply new

-- two replies to one read are the same; the second took no hop, and no keeper was called
pub record AreSameReplies (first second : ReadReply) : Type 0 where
  pub answer : second.answer ≡ first.answer
  pub version : second.version ≡ first.version
  pub hops : second.hops ≡ 0
  pub store : second.store ≡ false

-- a read that isn't critical, and whose reply says that it was kept, is answered the same where the next line asks it again
pub record AnswersSameAgain (first second : Said) : Type 0 where
  pub same : (call : CheckedRead) (a b : ReadReply) → first.asked ≡ Some (asks.Call (Read call)) → second.asked ≡ first.asked → call.critical ≡ false
      → first.reply ≡ Called (called.Read a) → second.reply ≡ Called (called.Read b) → a.kept ≡ Kept → AreSameReplies a b

-- the first of the lines that follow, if there is one, is answered the same where it asks again a read that isn't critical and was kept
abbrev pub AnswersNext : Said → List Said → Type 0
AnswersNext said [] = ⊤
AnswersNext said (next ∷ more) = AnswersSameAgain said next

-- one line after another
abbrev pub RunsPlainly : EdgeTypes → Plain → List Said → Plain → Type 0
RunsPlainly types old [] new = new ≡ old
RunsPlainly types old (said ∷ more) new =
    (between : Plain) × SaysPlainly types old said.asked said.reply between × AnswersNext said more × RunsPlainly types between more new

-- ---- what follows

-- an entry that stands after one line stands after all later ones, and who has learnt of it stays so
pub record StandsFromThenOn (types : EdgeTypes) (old : Plain) (saids : List Said) (new : Plain) : Type 0 where
  pub stands : (shard position : ℕ) (entry : Entry) → RunsPlainly types old saids new → entry_at (log_of old.stores.logs shard) position ≡ Some entry
      → entry_at (log_of new.stores.logs shard) position ≡ Some entry
  pub learnt : (session : ℕ) (entry : Entry) → RunsPlainly types old saids new → Contains (old.learnt session) entry → Contains (new.learnt session) entry

-- a read that was answered: how its call began, what that asks, and the answer
pub record AnsweredRead : Type 0 where
  pub began : Begun
  pub call : CheckedRead
  pub reply : ReadReply

-- a line answers the read: at once, or as the last line of a call that was held
pub record AnswersRead (old : Plain) (said : Said) (read : AnsweredRead) : Type 0 where
  pub asked : Checked
  pub asked_is : said.asked ≡ Some asked
  pub began_is : began_of_line old asked ≡ Some read.began
  pub call_is : read.began.call ≡ Read read.call
  pub reply_is : carried_out said.reply ≡ Some (called.Read read.reply)

-- one of the lines holds a call under this number
pub record IsHeldIn (saids : List Said) (plan : ℕ) : Type 0 where
  pub line : Said
  pub there : Contains saids line
  pub call : CheckedCall
  pub holds : line.asked ≡ Some (asks.Plan (Hold plan call))

-- the call of a line began after all that came before these lines: by one of them, where it is held, and else by the line itself
abbrev pub BeganSince : List Said → Option Checked → Type 0
BeganSince saids (Some (asks.Plan (Advance plan))) = IsHeldIn saids plan
BeganSince saids asked = ⊤

-- what a session has seen it has seen after all later lines, and each read that is answered it has seen. So where it reads a key whose version it has seen
-- before the read began, the read answers that version, or a later one
pub record NeverGoesBack (types : EdgeTypes) (old : Plain) (saids : List Said) (new : Plain) : Type 0 where
  pub stays : (session : ℕ) (seen : SeenVersion) → RunsPlainly types old saids new → Contains (old.seen session) seen → Contains (new.seen session) seen
  pub shown : (said : Said) (read : AnsweredRead) (after : Plain) → SaysPlainly types new said.asked said.reply after → AnswersRead new said read
      → Contains (after.seen read.call.session) (seen_version read.call read.reply)
  pub later : (said : Said) (read : AnsweredRead) (after : Plain) (seen : SeenVersion) → SaysPlainly types new said.asked said.reply after
      → AnswersRead new said read → Contains read.began.seen seen → seen.key ≡ query_key read.call.query → seen.version ≤ read.reply.version
  -- of two reads of a key by one session, held or not, of which the second began after the first was answered
  pub back : (first second : Said) (a b : AnsweredRead) (before after : Plain) → SaysPlainly types before first.asked first.reply old
      → AnswersRead before first a → RunsPlainly types old saids new → BeganSince saids second.asked
      → SaysPlainly types new second.asked second.reply after → AnswersRead new second b → b.call.session ≡ a.call.session
      → query_key b.call.query ≡ query_key a.call.query → a.reply.version ≤ b.reply.version
