-- What the commit of a write is answered, and what it does to the log of its shard and to the nodes.
use Rattle.std.specs.Prelude.{ℕ, ◌≡◌, Bool, true, false, List, Option, Some, None, IfSome, if◌then◌else◌}
use Rattle.counts.specs.Count.{Rose}
use Rattle.core_model.specs.Asked.{AuthoredWrite}
use Rattle.core_model.specs.Fleet.{ChangesNode, Fleet}
use Rattle.core_model.specs.Pens.{pens_of}
use Rattle.core_model.specs.Stores.{master_store, stores_in}
use Rattle.core_model.specs.Writes.{AppliesTo, IsSeenEntry}
use Rattle.core_nodes.specs.MasterWrites.{asked_of_master}
use Rattle.graph_model.specs.Told.{WhereTold}
use Rattle.replies.specs.declared.refusals.Refusal.{Refusal}
use Rattle.replies.specs.declared.refusals.Refusal.TheVariants.{Store, Memory}
use Rattle.replies.specs.declared.refusals.StoreRefused.{StoreRefused}
use Rattle.replies.specs.declared.refusals.StoreRefused.TheVariants.{SeqReused, TooOld, ShardFull, StampFull, LogFull, KeeperFault, LinkFault, Unsettled}
use Rattle.replies.specs.declared.refusals.When.{When}
use Rattle.replies.specs.declared.refusals.When.TheVariants.{Before}
use Rattle.shard_log.specs.View.{View}
use Rattle.shard_tables.specs.Jobs.{FindsJob, OpensJob, job_with}
use Rattle.shard_tables.specs.StoreView.{Store as StoreSeen}
use Rattle.shard_tables.specs.WriteSteps.{client_write}
use Rattle.shard_tables.specs.declared.writes.Wrote.{Wrote}
use Rattle.shard_tables.specs.Written.{AnswersAs, AskedWrite, HasEntry, LiesOn, IsLogFull, IsReused, IsTooOld, IsShardFull, IsStampFull, TableGains}
use Rattle.tao_base.specs.EdgeTypes.{EdgeTypes}
use Rattle.tao_base.specs.Writes.{write_shard}
use Rattle.tao_base.specs.declared.entry.Entry.{Entry}
use Rattle.tao_keeper.specs.KeeperState.{KeeperState}
use Rattle.tao_link.specs.Shown.{after_carry}
use Rattle.tao_schema.specs.Schema.{types_of}
use Rattle.topology.specs.Config.{Settings}
use Rattle.write_model.specs.Machine.{ChangesNothing, Repeats}
use Rattle.write_model.specs.Merges.{Stores}
use Rattle.write_model.specs.Steps.{CommitsWithJob, JobsStay}
use Rattle.write_model.specs.Writes.{FitsWrite}
use Rattle.core_steps.specs.Posting.{ChangesNoNode, LeaderTakes, NotifiesOfNew}
use Rattle.core_steps.specs.Routes.{FailsCarry}
use Rattle.core_steps.specs.World.{World}
use Rattle.core_steps.specs.declared.routes.Route.{Route}

-- the write of a client along a route
pub record SentWrite : Type 0 where
  pub route : Route
  pub call : AuthoredWrite

-- a client's write that is sent along the route
abbrev pub sent_write : Route → AuthoredWrite → SentWrite
sent_write route call = record { route = route; call = call }

-- the write, as it is asked of the log of its shard
abbrev pub asked_of_log : Settings → KeeperState → AuthoredWrite → AskedWrite
asked_of_log s keepers call = asked_of_master s keepers.told call.origin call.write

-- the logs and open jobs of all shards
abbrev pub stores_now : Settings → KeeperState → Stores
stores_now s keepers = stores_in s keepers.told

-- ---- what is committed

-- the entry that the log gains
abbrev pub new_entry : Bool → Option Entry → Option Entry
new_entry retry entry = if retry then None else entry

-- the step of the plain machine: a write of the shard commits its entry with the job of it, finds it standing there, or finds nothing to change
abbrev pub StepsAs : AskedWrite → Bool → Option Entry → ℕ → Stores → Stores → Type 0
StepsAs asked false (Some e) shard old new = CommitsWithJob asked.types old new (client_write shard asked) e
StepsAs asked true (Some e) shard old new =
    Repeats asked.types old.logs new.logs (client_write shard asked) e shard × (new.logs ≡ old.logs) × JobsStay old new
StepsAs asked false None shard old new = ChangesNothing asked.types old.logs new.logs (client_write shard asked) × JobsStay old new
StepsAs asked true None shard old new = ⊥

-- the log's answer to a write: the entry, or none, and whether it stood there
pub record LogAnswer : Type 0 where
  pub retry : Bool
  pub entry : Option Entry

-- the log's answer to a write: whether the entry stood there before, and the entry; None where there is nothing to change
abbrev pub given_by_log : Bool → Option Entry → LogAnswer
given_by_log retry entry = record { retry = retry; entry = entry }

-- the log's answer to a write is this entry, or none, new or not: a step of the plain machine. The log had room for a new one, and its table gains it
-- with its job
pub record CommitsCall (tells : Bool) (s : Settings) (call : AuthoredWrite) (answer : LogAnswer) (old new : KeeperState) : Type 0 where
  pub step : WhereTold tells (StepsAs (asked_of_log s old call) answer.retry answer.entry (write_shard call.write) (stores_now s old) (stores_now s new))
  pub answers : WhereTold tells (AnswersAs (asked_of_log s old call) answer.retry answer.entry)
  pub gains : WhereTold tells (TableGains old.told new.told (master_store s (write_shard call.write)) (new_entry answer.retry answer.entry)
      (job_with (types_of s.schema) (new_entry answer.retry answer.entry)))

-- ---- what the nodes take of it

-- the follower that asked for it takes its changes
abbrev pub FollowerTakes : EdgeTypes → Route → ℕ → Option Entry → Fleet → Fleet → Type 0
FollowerTakes types route shard None old new = new.followers ≡ old.followers
FollowerTakes types route shard (Some e) old new = (note : View) × ChangesNode route.follower (AppliesTo types shard e note) old.followers new.followers

-- ---- a write that was committed

-- the write was carried to the leader, which committed it; that leader and the inboxes took what was written
pub record IsCommitted (tells : Bool) (s : Settings) (sent : SentWrite) (wrote : Wrote) (old new : World) : Type 0 where
  pub commits : CommitsCall tells s sent.call (given_by_log wrote.retry wrote.entry) old.keepers new.keepers
  pub leader : LeaderTakes s sent.route.leader (write_shard sent.call.write) wrote.entry old.fleet new.fleet
  pub followers : new.fleet.followers ≡ old.fleet.followers
  pub notifies : NotifiesOfNew old.states sent.route.leader (write_shard sent.call.write) (new_entry wrote.retry wrote.entry) old.inboxes new.inboxes
  pub states : new.states ≡ old.states
  pub link : new.link ≡ after_carry old.link
  -- the job in its answer is that of its new entry, or the one that is still open
  pub opens : OpensJob (types_of s.schema) wrote.retry wrote.entry wrote.job
  pub finds : WhereTold tells (FindsJob (old.keepers.told (master_store s (write_shard sent.call.write))) wrote.retry wrote.entry wrote.job)

-- what its follower may take: the entry is the write's, and stands in what was seen of the shard's log
pub record CanBeApplied (call : AuthoredWrite) (wrote : Wrote) (stores : List StoreSeen) : Type 0 where
  pub fits : IfSome wrote.entry (λ e. FitsWrite e call.write)
  pub has : HasEntry call.write wrote.entry
  pub seen : IfSome wrote.entry (IsSeenEntry (pens_of stores) (write_shard call.write) wrote.note)
  pub here : IfSome wrote.entry (LiesOn wrote.note (write_shard call.write))

-- ---- a write that was refused

-- the store refused it: by the log, or for a fault that came now. Nothing changed
abbrev pub StoreRefuses : Bool → AskedWrite → StoreRefused → KeeperState → KeeperState → Type 0
StoreRefuses tells asked (TooOld cut position) old new = WhereTold tells (IsTooOld asked cut position)
StoreRefuses tells asked (SeqReused position) old new = WhereTold tells (IsReused asked position)
StoreRefuses tells asked (ShardFull serial) old new = WhereTold tells (IsShardFull asked serial)
StoreRefuses tells asked (StampFull number) old new = WhereTold tells (IsStampFull asked number)
StoreRefuses tells asked (LogFull count) old new = WhereTold tells (IsLogFull asked count)
StoreRefuses tells asked (KeeperFault count) old new = (count ≡ new.faults) × Rose old.faults new.faults
StoreRefuses tells asked (LinkFault count when) old new = ⊥
StoreRefuses tells asked (Unsettled shard why) old new = ⊥

-- the way there failed, and nothing changed
pub record FailsThere (tells : Bool) (route : Route) (when : When) (old new : World) : Type 0 where
  pub before : when ≡ Before
  pub carry : FailsCarry route.follower route.leader old.link new.link
  pub same : ChangesNoNode tells old new

-- the store refused it after the way there, and nothing changed
pub record RefusesThere (tells : Bool) (old new : World) : Type 0 where
  pub link : new.link ≡ after_carry old.link
  pub same : ChangesNoNode tells old new

-- why a write was not committed: its way there failed, or the store refused it. Nothing changed
abbrev pub NotCommitted : Bool → Settings → SentWrite → StoreRefused → World → World → Type 0
NotCommitted tells s sent (LinkFault count when) old new = (count ≡ new.link.faults) × FailsThere tells sent.route when old new
NotCommitted tells s sent refused old new =
    StoreRefuses tells (asked_of_log s old.keepers sent.call) refused old.keepers new.keepers × RefusesThere tells old new

-- how a write that was not committed is refused; there may also have been no memory, with nothing changed
abbrev pub RefusesCommit : Bool → Settings → SentWrite → Refusal → World → World → Type 0
RefusesCommit tells s sent (Store refused) old new = NotCommitted tells s sent refused old new
RefusesCommit tells s sent (Memory position) old new = (position ≡ 0) × RefusesThere tells old new
RefusesCommit tells s sent refusal old new = ⊥
