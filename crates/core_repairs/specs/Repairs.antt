-- Repairs: what becomes of the first open job of a shard, and of all jobs in a settle.
use Rattle.std.specs.Prelude.{ℕ, ◌≡◌, ◌≤◌, ◌<◌, ◌+◌, ◌⊎◌, ◌++◌, ⊤, Bool, List, [], ◌∷◌, Option, Some, None, Result, Ok, Err}
use Rattle.counts.specs.Count.{Rose}
use Rattle.core_steps.specs.core_mail.Inboxes.{Inboxes, Sends, entry_message}
use Rattle.core_model.specs.Jobs.{EndsOwed, IsFirstJobOf, ShardJob, far_shard, job_on}
use Rattle.core_model.specs.Messages.{notified_besides, notified_of}
use Rattle.core_model.specs.Stores.{master_store, stores_in}
use Rattle.core_steps.specs.core_nodes.Repairs.{MergesFar}
use Rattle.core_steps.specs.core_nodes.Outside.{Outside, outside}
use Rattle.core_steps.specs.core_nodes.declared.settling.SettleStop.{SettleStop}
use Rattle.edge_repair.specs.declared.refusal.RepairRefusal.{RepairRefusal}
use Rattle.edge_repair.specs.declared.refusal.RepairRefusal.TheVariants.{KeeperFault, LinkFault, LogFull, OutOfMemory}
use Rattle.graph_model.specs.Told.{WhereTold}
use Rattle.node_name.specs.declared.NodeName.{NodeName}
use Rattle.replies.specs.declared.refusals.NodeRefused.TheVariants.{NoServer}
use Rattle.replies.specs.declared.refusals.Refusal.{Refusal}
use Rattle.replies.specs.declared.refusals.Refusal.TheVariants.{Memory, Node as OfNode, Store}
use Rattle.replies.specs.declared.refusals.StoreRefused.TheVariants as refused
use Rattle.replies.specs.declared.refusals.When.TheVariants.{Before}
use Rattle.shard_log.specs.View.{View}
use Rattle.shard_tables.specs.declared.refusal.StoreRefusal.{StoreRefusal}
use Rattle.shard_tables.specs.declared.refusal.StoreRefusal.TheVariants as refusal
use Rattle.tao_base.specs.declared.entry.Entry.{Entry}
use Rattle.tao_keeper.specs.KeeperState.{IsLater, KeeperState, KeepsTables}
use Rattle.tao_keeper.specs.Table.{IsLeastJob, Tables}
use Rattle.tao_keeper.specs.declared.jobs.Job.{Job}
use Rattle.tao_schema.specs.Schema.{types_of}
use Rattle.topology.specs.Choices.{master_region}
use Rattle.topology.specs.Config.{Settings}
use Rattle.topology.specs.States.{NodeStates}
use Rattle.write_model.specs.Merges.{JobSource}
use Rattle.write_model.specs.Machine.{Settles}
use Rattle.write_model.specs.Steps.{HaveNoJobs, Settling}
use Rattle.core_steps.specs.Posting.{ChangesNoNode}
use Rattle.core_steps.specs.ReadSteps.{AskFails}
use Rattle.core_steps.specs.World.{World, outside_of}
use Rattle.core_repairs.specs.Stops.{StopsAsRefused}
use Rattle.core_repairs.specs.declared.repairs.Ran.{Ran}

-- ---- who is notified

-- of an entry that a repair wrote on a shard: the followers of the master's region as of any other, and then the leader that it prefers, where that is up
abbrev pub notified_of_repair : NodeStates → ℕ → List NodeName
notified_of_repair states shard = notified_of states (master_region states shard) shard ++ notified_besides states shard

-- the nodes that are notified of a repair get a message of its entry, where there is one
abbrev pub NotifiesOfRepair : NodeStates → ℕ → Option Entry → Inboxes → Inboxes → Type 0
NotifiesOfRepair states shard None old new = new ≡ old
NotifiesOfRepair states shard (Some e) old new = (note : View) × Sends (notified_of_repair states shard) (entry_message shard e note) old new

-- ---- the first job of a shard

-- no leader and no follower changed, nor which nodes are up
pub record LeavesCaches (old new : World) : Type 0 where
  pub fleet : new.fleet ≡ record old.fleet { stores = new.fleet.stores }
  pub states : new.states ≡ old.states

-- nothing changed but that keepers were asked
pub record OnlyAsks (tells : Bool) (old new : World) : Type 0 where
  pub nodes : ChangesNoNode tells old new
  pub link : new.link ≡ old.link

-- the shard has no open job
pub record FindsNoJob (tells : Bool) (s : Settings) (shard : ℕ) (old new : World) : Type 0 where
  pub none : WhereTold tells (IsLeastJob (old.keepers.told (master_store s shard)).jobs None)
  pub asks : OnlyAsks tells old new

-- the job is the first open one of the shard, and finding it changed no table
pub record FindsOpenJob (tells : Bool) (s : Settings) (shard : ℕ) (job : Job) (old new : KeeperState) : Type 0 where
  pub first : WhereTold tells (IsFirstJobOf s new.told (job_on shard job))
  pub tables : KeepsTables tells old new

-- a shard's first job was run: it was merged and then ended, and those who see its records are notified of what was written
pub record IsRepaired (tells : Bool) (s : Settings) (shard : ℕ) (ran : Ran) (old new : World) : Type 0 where
  pub found : KeeperState
  pub merged : KeeperState
  pub finds : FindsOpenJob tells s shard ran.job old.keepers found
  pub merges : MergesFar tells s (job_on shard ran.job) (Ok (record { wrote = ran.wrote })) (outside found old.link) (outside merged new.link)
  pub ends : WhereTold tells (EndsOwed s merged.told new.keepers.told (job_on shard ran.job))
  pub notifies : NotifiesOfRepair old.states (far_shard ran.job) ran.wrote old.inboxes new.inboxes
  pub caches : LeavesCaches old new

-- ---- the stages of a repair

-- how it is told why a job was not run, where the keepers and the link have counted so many faults
abbrev pub refused_for : ℕ → ℕ → RepairRefusal → Refusal
refused_for keeper_faults link_faults KeeperFault = Store (refused.KeeperFault keeper_faults)
refused_for keeper_faults link_faults LinkFault = Store (refused.LinkFault link_faults Before)
refused_for keeper_faults link_faults (LogFull count) = Store (refused.LogFull count)
refused_for keeper_faults link_faults OutOfMemory = Memory 0

-- why a job was not run which its store refused to end
abbrev pub FailsAs : StoreRefusal → RepairRefusal → Type 0
FailsAs refusal.KeeperFault failed = failed ≡ KeeperFault
FailsAs refusal.OutOfMemory failed = failed ≡ OutOfMemory
FailsAs (refusal.LogFull count) failed = ⊥
FailsAs (refusal.ShardFull serial) failed = ⊥
FailsAs (refusal.StampFull number) failed = ⊥
FailsAs (refusal.TooOld cut position) failed = ⊥
FailsAs (refusal.SeqReused position) failed = ⊥

-- the first job is found, or none is, or its store refused to give it
abbrev pub FindsFirst : Bool → Settings → ℕ → Result (Option Job) Refusal → KeeperState → KeeperState → Type 0
FindsFirst tells s shard (Ok None) old new = WhereTold tells (IsLeastJob (old.told (master_store s shard)).jobs None) × KeepsTables tells old new
FindsFirst tells s shard (Ok (Some job)) old new = FindsOpenJob tells s shard job old new
FindsFirst tells s shard (Err refusal) old new = AskFails refusal old new × KeepsTables tells old new

-- the job was merged, and then ended
pub record IsRun (tells : Bool) (s : Settings) (j : ShardJob) (wrote : Option Entry) (old new : Outside) : Type 0 where
  pub merged : KeeperState
  pub merges : MergesFar tells s j (Ok (record { wrote = wrote })) old (outside merged new.link)
  pub ends : WhereTold tells (EndsOwed s merged.told new.keepers.told j)

-- the job was merged, and not ended
pub record IsMergedAlone (tells : Bool) (s : Settings) (j : ShardJob) (old new : Outside) : Type 0 where
  pub wrote : Option Entry
  pub merged : KeeperState
  pub merges : MergesFar tells s j (Ok (record { wrote = wrote })) old (outside merged new.link)
  pub stays : KeepsTables tells merged new.keepers

-- the job was not merged, or it was merged and not ended
abbrev pub IsNotRun : Bool → Settings → ShardJob → RepairRefusal → Outside → Outside → Type 0
IsNotRun tells s j refusal old new = MergesFar tells s j (Err refusal) old new ⊎ IsMergedAlone tells s j old new

-- what came of both
abbrev pub RunsJob : Bool → Settings → ShardJob → Result (Option Entry) RepairRefusal → Outside → Outside → Type 0
RunsJob tells s j (Ok wrote) old new = IsRun tells s j wrote old new
RunsJob tells s j (Err KeeperFault) old new = Rose old.keepers.faults new.keepers.faults × IsNotRun tells s j KeeperFault old new
RunsJob tells s j (Err LinkFault) old new = MergesFar tells s j (Err LinkFault) old new
RunsJob tells s j (Err (LogFull count)) old new = MergesFar tells s j (Err (LogFull count)) old new
RunsJob tells s j (Err OutOfMemory) old new = IsNotRun tells s j OutOfMemory old new

-- ---- why it was not run

-- the records of the shard's first job lie on no configured shard
pub record LiesNowhere (tells : Bool) (s : Settings) (shard : ℕ) (old new : World) : Type 0 where
  pub job : Job
  pub finds : FindsOpenJob tells s shard job old.keepers new.keepers
  pub nowhere : s.shards ≤ far_shard job
  pub asks : OnlyAsks tells old new

-- no leader, no follower and no message changed
pub record LeavesRest (old new : World) : Type 0 where
  pub caches : LeavesCaches old new
  pub inboxes : new.inboxes ≡ old.inboxes

-- the first job of the shard was not merged, or the answer of the merge was lost
pub record FailsToMerge (tells : Bool) (s : Settings) (shard : ℕ) (refusal : RepairRefusal) (old new : World) : Type 0 where
  pub job : Job
  pub found : KeeperState
  pub finds : FindsOpenJob tells s shard job old.keepers found
  pub merges : MergesFar tells s (job_on shard job) (Err refusal) (outside found old.link) (outside_of new)
  pub rest : LeavesRest old new

-- the first job of the shard was merged, and not ended
pub record FailsToEnd (tells : Bool) (s : Settings) (shard : ℕ) (old new : World) : Type 0 where
  pub ran : Ran
  pub found : KeeperState
  pub merged : KeeperState
  pub finds : FindsOpenJob tells s shard ran.job old.keepers found
  pub merges : MergesFar tells s (job_on shard ran.job) (Ok (record { wrote = ran.wrote })) (outside found old.link) (outside merged new.link)
  pub stays : KeepsTables tells merged new.keepers
  pub rest : LeavesRest old new

-- the first job of the shard was not found, not merged, or not ended
abbrev pub StopsRepair : Bool → Settings → ℕ → RepairRefusal → World → World → Type 0
StopsRepair tells s shard refusal old new =
    OnlyAsks tells old new ⊎ (FailsToMerge tells s shard refusal old new ⊎ FailsToEnd tells s shard old new)

-- why a shard's first job was not run, and what was done all the same
abbrev pub IsNotRepaired : Bool → Settings → ℕ → Refusal → World → World → Type 0
IsNotRepaired tells s shard (OfNode (NoServer region)) old new = (region ≡ master_region old.states shard) × LiesNowhere tells s shard old new
IsNotRepaired tells s shard (Store (refused.KeeperFault count)) old new =
    (count ≡ new.keepers.faults) × Rose old.keepers.faults new.keepers.faults × StopsRepair tells s shard KeeperFault old new
IsNotRepaired tells s shard (Store (refused.LinkFault count when)) old new =
    (count ≡ new.link.faults) × (when ≡ Before) × FailsToMerge tells s shard LinkFault old new
IsNotRepaired tells s shard (Store (refused.LogFull count)) old new = FailsToMerge tells s shard (LogFull count) old new
IsNotRepaired tells s shard (Memory position) old new = (position ≡ 0) × StopsRepair tells s shard OutOfMemory old new
IsNotRepaired tells s shard refusal old new = ⊥

-- what came of the first job of a shard
abbrev pub RepairsFirst : Bool → Settings → ℕ → Result (Option Ran) Refusal → World → World → Type 0
RepairsFirst tells s shard (Ok None) old new = FindsNoJob tells s shard old new
RepairsFirst tells s shard (Ok (Some ran)) old new = IsRepaired tells s shard ran old new
RepairsFirst tells s shard (Err refusal) old new = IsNotRepaired tells s shard refusal old new

-- ---- all jobs

-- a job of a shard that was run
pub record RanOn : Type 0 where
  pub shard : ℕ
  pub ran : Ran

-- a job that was run, and the shard whose job it was
abbrev pub ran_on : ℕ → Ran → RanOn
ran_on shard ran = record { shard = shard; ran = ran }

-- the jobs were run one after another; the list has the last one first
abbrev pub HaveRun : Bool → Settings → List RanOn → World → World → Type 0
HaveRun tells s [] old new = OnlyAsks tells old new
HaveRun tells s (r ∷ earlier) old new = (before after : World)
    × HaveRun tells s earlier old before × IsRepaired tells s r.shard r.ran before after × OnlyAsks tells after new

-- the logs went on by a settle of the plain machine: open jobs were merged, shard by shard, each shard's in order of position
abbrev pub SettlesLogs : Settings → Tables → Tables → Type 0
SettlesLogs s old new = Settles (types_of s.schema) (stores_in s old) (stores_in s new).logs

-- every open job was run
pub record RunsAll (tells : Bool) (s : Settings) (old new : World) : Type 0 where
  pub jobs : List RanOn
  pub run : HaveRun tells s jobs old new
  pub settles : WhereTold tells (SettlesLogs s old.keepers.told new.keepers.told)
  pub none : WhereTold tells (HaveNoJobs (stores_in s new.keepers.told))

-- a fault is said only where its count rose
abbrev pub FailureHasCause : Refusal → World → World → Type 0
FailureHasCause (Store (refused.KeeperFault count)) old new = Rose old.keepers.faults new.keepers.faults
FailureHasCause (Store (refused.LinkFault count when)) old new = Rose old.link.faults new.link.faults
FailureHasCause refusal old new = ⊤

-- no lower shard has an open job
abbrev pub HaveNoneBelow : Settings → Tables → ℕ → Type 0
HaveNoneBelow s tables shard = (lower position : ℕ) → lower < shard → (stores_in s tables).job lower position ≡ None

-- some jobs were run, up to those of a shard, and then one of it was not
pub record StopsRun (tells : Bool) (s : Settings) (given : SettleStop) (old new : World) : Type 0 where
  pub shard : ℕ
  pub refusal : Refusal
  pub jobs : List RanOn
  pub between : World
  pub here : shard < s.shards
  pub given_is : StopsAsRefused shard refusal given
  pub run : HaveRun tells s jobs old between
  pub none : WhereTold tells (HaveNoneBelow s between.keepers.told shard)
  pub stops : IsNotRepaired tells s shard refusal between new
  pub cause : FailureHasCause refusal old new
  pub settles : WhereTold tells (SettlesLogs s old.keepers.told new.keepers.told)

-- what came of all open jobs
abbrev pub RunsJobs : Bool → Settings → Result ⊤ SettleStop → World → World → Type 0
RunsJobs tells s (Ok done) old new = RunsAll tells s old new
RunsJobs tells s (Err given) old new = StopsRun tells s given old new

-- ---- a settle under way

-- jobs were merged and ended, in order, and nothing else was done to the stores
abbrev pub AreSettling : Settings → Tables → Tables → Type 0
AreSettling s old new = (jobs : List JobSource) × Settling (types_of s.schema) (stores_in s old) (stores_in s new) jobs

-- the shard has no open job up to the position
abbrev pub HasNoneUpTo : Settings → Tables → ℕ → ℕ → Type 0
HasNoneUpTo s tables shard last = (position : ℕ) → position ≤ last → (stores_in s tables).job shard position ≡ None

-- jobs were run, one after another, and no shard below has an open one
pub record RunsTo (tells : Bool) (s : Settings) (shard : ℕ) (old new : World) : Type 0 where
  pub jobs : List RanOn
  pub run : HaveRun tells s jobs old new
  pub settling : WhereTold tells (AreSettling s old.keepers.told new.keepers.told)
  pub none : WhereTold tells (HaveNoneBelow s new.keepers.told shard)
  pub keepers : IsLater old.keepers new.keepers

-- some more jobs of the shard were run, in whichever settle came to it
pub record RunsMore (tells : Bool) (s : Settings) (shard : ℕ) (old new : World) : Type 0 where
  pub more : (start : World) → RunsTo tells s shard start old → RunsTo tells s shard start new

-- what came of the jobs of the shard, in a settle that came to it
abbrev pub RunsOn : Bool → Settings → ℕ → Result ⊤ SettleStop → World → World → Type 0
RunsOn tells s shard (Ok done) start new = RunsTo tells s (shard + 1) start new
RunsOn tells s shard (Err given) start new = StopsRun tells s given start new

-- the jobs of the shard were run, in whichever settle came to it
pub record RunsShard (tells : Bool) (s : Settings) (shard : ℕ) (result : Result ⊤ SettleStop) (old new : World) : Type 0 where
  pub on : (start : World) → RunsTo tells s shard start old → RunsOn tells s shard result start new
