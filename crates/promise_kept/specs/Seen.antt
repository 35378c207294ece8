-- How a core at a moment is seen as a state of the promise. What the moment doesn't have is a relation: what each session has learnt, the beginnings of the
-- calls that are held, and the logs of the last settle.
use Rattle.std.specs.Prelude.{ℕ, ◌≡◌, ◌≤◌, ◌⊎◌, ⊤, Contains, IfSome, List, [], Option, Some, None, length, max, take, true}
use Rattle.std.specs.Option.{option_map_or}
use Rattle.core_model.specs.Stores.{stores_in}
use Rattle.core_plans.specs.Held.{learnt_of_write, plan_at}
use Rattle.core_plans.specs.HeldReads.{HasComeTo, MissesNone, version_now}
use Rattle.core_plans.specs.declared.held.HeldPlan.{HeldPlan}
use Rattle.core_plans.specs.declared.held.HeldPlan.TheVariants as of
use Rattle.core_plans.specs.declared.held.LearntEntries.{LearntEntries}
use Rattle.core_sessions.specs.Sessions.{Session, session_at}
use Rattle.core_steps.specs.declared.jobs.LearntEntry.{LearntEntry}
use Rattle.graph_model.specs.Legal.{floor}
use Rattle.graph_model.specs.Log.{version}
use Rattle.plain_promise.specs.Promise.{AreSameLogs, Begun, EachGrows, Logs, Plain, SeenVersion, client_write_of, floor_at_start, last_seen}
use Rattle.plain_promise.specs.Promise.{log_read, log_written}
use Rattle.read_plan.specs.Readings.{Reading}
use Rattle.request_check.specs.declared.checked.CheckedCall.{CheckedCall}
use Rattle.request_check.specs.declared.checked.CheckedCall.TheVariants as call
use Rattle.request_check.specs.declared.checked.CheckedRead.{CheckedRead}
use Rattle.request_check.specs.declared.checked.CheckedWrite.{CheckedWrite}
use Rattle.session_pass.specs.Floors.{floor_at}
use Rattle.tao_base.specs.Queries.{query_key}
use Rattle.tao_base.specs.declared.entry.Entry.{Entry}
use Rattle.tao_base.specs.declared.entry.Origin.TheVariants.{Client}
use Rattle.tao_base.specs.declared.id.Key.{Key}
use Rattle.tao_core.specs.Core.{Moment}
use Rattle.tao_core.specs.Laws.{IsSettled}
use Rattle.tao_keeper.specs.KeeperState.{KeeperState}
use Rattle.tao_keeper.specs.declared.jobs.Job.{Job}
use Rattle.tao_schema.specs.Schema.{types_of}
use Rattle.topology.specs.Config.{Settings}
use Rattle.write_model.specs.Machine.{StandsFor}
use Rattle.write_model.specs.Merges.{AreThere, Stores, job_of, log_of}
use Rattle.write_model.specs.Writes.{forward_entry}
use Rattle.write_plan.specs.Committing.{kind_said}
use Rattle.write_plan.specs.Plans.{Writing}
use Rattle.write_plan.specs.declared.committed.Committed.{Committed}
use Rattle.write_plan.specs.declared.progress.OtherEnd.{OtherEnd}
use Rattle.write_plan.specs.declared.progress.OtherEnd.TheVariants.{Due, Merged, Ended, Open}

-- ---- the parts of a moment

-- the logs and open jobs of the masters, as the keepers tell them
abbrev pub stores_at : Moment → Stores
stores_at m = stores_in m.core.settings m.keepers.told

-- the floors of the session of that number; none where it isn't open
abbrev pub floors_of : List Session → ℕ → List (Key × ℕ)
floors_of sessions number = option_map_or (λ (s : Session). s.floors) (session_at sessions number) []

-- ---- sessions

-- a session's floors are those of the entries that it has learnt of, and of the versions that its reads have answered
pub record FloorsAre (learnt : List Entry) (seen : List SeenVersion) (floors : List (Key × ℕ)) : Type 0 where
  pub at : (key : Key) → floor_at floors key ≡ max (floor learnt key) (last_seen seen key)

-- ---- settles

-- the logs as a settle left them have only grown since. Where they have not, nodes and stores are settled
pub record IsSettledSince (m : Moment) (settled : Option Logs) : Type 0 where
  pub grows : (logs : Logs) → settled ≡ Some logs → EachGrows logs (stores_at m).logs
  pub rests : (logs : Logs) → settled ≡ Some logs → AreSameLogs logs (stores_at m).logs → IsSettled m

-- ---- reads

-- a read that began after a settle, since which no log has grown, has come to the last version
abbrev pub HasLast : Settings → KeeperState → Option Logs → Reading → Type 0
HasLast s keepers settled p = (logs : Logs) → settled ≡ Some logs → AreSameLogs logs (stores_in s keepers.told).logs
    → HasComeTo (version_now s p keepers) (version_now s p keepers) p.at

-- the read is under way for the call: at its session's floor when it began, and a critical one misses nothing that stood then
pub record IsReadFor (s : Settings) (keepers : KeeperState) (began : Begun) (call : CheckedRead) (p : Reading) : Type 0 where
  pub query_is : p.query ≡ call.query
  pub critical_is : p.critical ≡ call.critical
  pub floor_is : p.floor ≡ floor_at_start began (query_key call.query)
  pub reader_is : p.reader ≡ Some call.session
  pub whole : MissesNone true s (version (log_read began.logs call) (query_key call.query)) p keepers
  pub last : HasLast s keepers began.settled p

-- ---- writes

-- the log had a moment, since the write began, at which there was nothing for it to change
pub record HadNothing (s : Settings) (stores : Stores) (began : Begun) (call : CheckedWrite) : Type 0 where
  pub n : ℕ
  pub since : length (log_written began.logs call) ≤ n
  pub within : n ≤ length (log_written stores.logs call)
  pub nothing : forward_entry (types_of s.schema) (client_write_of stores call).epoch (take n (log_written stores.logs call))
      (Client call.session call.seq) call.write ≡ None

-- what its commit answered stands: the entry of the write, or that there was nothing to change
abbrev pub HasWritten : Settings → Stores → Begun → CheckedWrite → Option Entry → Type 0
HasWritten s stores began call None = HadNothing s stores began call
HasWritten s stores began call (Some e) = StandsFor stores.logs (client_write_of stores call) e

-- the entry owes nothing: its job is ended, or it had none
abbrev pub OwesNothing : Option Job → OtherEnd → Type 0
OwesNothing None at = ⊤
OwesNothing (Some job) Ended = ⊤
OwesNothing (Some job) Due = ⊥
OwesNothing (Some job) Merged = ⊥
OwesNothing (Some job) (Open why) = ⊥

-- the job in the answer is that of the entry, and once it owes nothing the other end of each edge has what the entry wrote, or a later record
pub record HasItsJob (s : Settings) (stores : Stores) (at : OtherEnd) (job : Option Job) (e : Entry) : Type 0 where
  pub position_is : IfSome job (λ j. j.position ≡ e.position)
  pub there : OwesNothing job at → AreThere (log_of stores.logs) (job_of (types_of s.schema) e)

-- the job in the answer is that of the entry that a commit answered, and once it owes nothing the other ends have what the entry wrote, or later
-- records; without an entry there is no job
abbrev pub HasJobOf : Settings → Stores → OtherEnd → Option Job → Option Entry → Type 0
HasJobOf s stores at job None = job ≡ None
HasJobOf s stores at job (Some e) = HasItsJob s stores at job e

-- what the commit of a write answered
pub record IsAnsweredFor (s : Settings) (stores : Stores) (began : Begun) (call : CheckedWrite) (at : OtherEnd) (c : Committed) : Type 0 where
  pub kind_is : kind_said call.write c.wrote.entry ≡ Some c.kind
  pub written : HasWritten s stores began call c.wrote.entry
  pub job : HasJobOf s stores at c.wrote.job c.wrote.entry

-- the entry is the one that is learnt, if any
abbrev pub IsOneLearnt : Option LearntEntry → Entry → Type 0
IsOneLearnt None e = ⊥
IsOneLearnt (Some t) e = t.entry ≡ e

-- the entry is one of those that a write's session learns
abbrev pub IsLearnt : LearntEntries → Entry → Type 0
IsLearnt learnt e = IsOneLearnt learnt.here e ⊎ IsOneLearnt learnt.other e

-- the write is under way for the call, and what its commit answered stands. Each entry that its lines have added is one that its session is to learn
-- of; nothing is known of the other end while its job is due
pub record IsWriteFor (s : Settings) (keepers : KeeperState) (began : Begun) (call : CheckedWrite) (p : Writing) : Type 0 where
  pub write_is : p.write ≡ call.write
  pub origin_is : p.origin ≡ Client call.session call.seq
  pub answered : IfSome p.committed (IsAnsweredFor s (stores_in s keepers.told) began call p.job)
  pub added : (e : Entry) → Contains began.added e → IsLearnt (learnt_of_write p) e
  pub due : p.job ≡ Due → p.other ≡ None

-- ---- calls that are held

-- the plan is under way for the call
abbrev pub IsUnderWayFor : Settings → KeeperState → Begun → CheckedCall → HeldPlan → Type 0
IsUnderWayFor s keepers began (call.Read read) (of.Read p) = IsReadFor s keepers began read p
IsUnderWayFor s keepers began (call.Write write) (of.Write p) = IsWriteFor s keepers began write p
IsUnderWayFor s keepers began (call.Read read) (of.Write p) = ⊥
IsUnderWayFor s keepers began (call.Write write) (of.Read p) = ⊥

-- the plan is that of a call which began so, since when logs only grew
pub record IsPlanOf (m : Moment) (plan : HeldPlan) (began : Begun) : Type 0 where
  pub under_way : IsUnderWayFor m.core.settings m.keepers began began.call plan
  pub grows : EachGrows began.logs (stores_at m).logs
  pub settled : IsSettledSince m began.settled

-- each plan that is held is that of a call which is remembered under its number; what is remembered under other numbers may be of calls that have ended
abbrev pub AreBegun : Moment → (ℕ → Option Begun) → Type 0
AreBegun m held = (number : ℕ) (plan : HeldPlan) → plan_at m.core.plans number ≡ Some plan
    → (began : Begun) × (held number ≡ Some began) × IsPlanOf m plan began

-- ---- a core as a plain state

-- the state is what a caller knows of the core and its keepers at the moment
pub record IsPlainOf (m : Moment) (plain : Plain) : Type 0 where
  pub stores : plain.stores ≡ stores_at m
  pub learnt : (number : ℕ) → FloorsAre (plain.learnt number) (plain.seen number) (floors_of m.core.sessions number)
  pub held : AreBegun m plain.held
  pub settled : IsSettledSince m plain.settled

-- a core that was just opened: nobody has learnt of anything or seen any, no call is held, and nothing was settled
abbrev pub opened_plain : Moment → Plain
opened_plain m =
    record { stores = stores_at m; learnt = λ session. []; seen = λ session. []; held = λ plan. None; settled = None }
