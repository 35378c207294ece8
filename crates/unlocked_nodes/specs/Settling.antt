-- What the settle of nodes that came out of locks says.
use Rattle.std.specs.Prelude.{ℕ, ◌≡◌, ◌≤◌, ◌<◌, ◌⊎◌, ⊤, Bool, IfErr, IfOk, List, OnOk, Result, Ok, Err, length}
use Rattle.std.specs.declared.vec.Vec.{Vec}
use Rattle.counts.specs.Count.{Rose}
use Rattle.core_model.specs.Consistent.{GoesOn, IsConsistent}
use Rattle.core_model.specs.Fleet.{Fleet}
use Rattle.core_model.specs.Growing.{StoresGrow}
use Rattle.core_model.specs.Jobs.{IsFirstJobOf, far_shard, job_on}
use Rattle.core_model.specs.Pens.{Rise, pens_of}
use Rattle.core_model.specs.States.{AreUpAtStores, nodes_now}
use Rattle.core_model.specs.Stores.{AreStoresOf, AreWhole, master_log, stores_in}
use Rattle.core_nodes.specs.Outside.{Outside}
use Rattle.core_nodes.specs.Repairs.{MergesFar}
use Rattle.core_nodes.specs.Settling.{AllCatchUp, AllProcessOn, IsLaterLink, OnlyReads, log_lengths}
use Rattle.core_nodes.specs.declared.settling.SettleStop.{SettleStop}
use Rattle.core_nodes.specs.declared.settling.SettleStop.TheVariants.{NoServer, OutOfMemory, Unsettled}
use Rattle.core_repairs.specs.Repairs.{SettlesLogs}
use Rattle.edge_repair.specs.declared.refusal.RepairRefusal.TheVariants.{LogFull as FullThere}
use Rattle.graph_model.specs.Told.{WhereTold}
use Rattle.replies.specs.declared.refusals.UnsettledWhy.TheVariants.{KeeperFault, LinkFault, LogFull}
use Rattle.shard_tables.specs.StoreView.{Store}
use Rattle.tao_keeper.specs.KeeperState.{IsLater}
use Rattle.tao_keeper.specs.Table.{Tables}
use Rattle.tao_keeper.specs.declared.jobs.Job.{Job}
use Rattle.tao_schema.specs.Schema.{types_of}
use Rattle.topology.specs.Config.{Settings}
use Rattle.topology.specs.States.{all_up}
use Rattle.write_model.specs.Machine.{ArePaired}
use Rattle.write_model.specs.Steps.{HaveNoJobs}

-- ---- why it comes to no end

-- a job of the shard wasn't merged, since an entry would be written where its records lie, and that log is full
pub record MeetsFullLog (tells : Bool) (s : Settings) (shard : ℕ) (new : Outside) : Type 0 where
  pub job : Job
  pub count : ℕ
  pub before : Outside
  pub first : WhereTold tells (IsFirstJobOf s before.keepers.told (job_on shard job))
  pub merges : MergesFar tells s (job_on shard job) (Err (FullThere count)) before new
  pub full : WhereTold tells (s.log_max ≤ length (master_log s new.keepers.told (far_shard job)))

-- the records of the shard's first job lie on no configured shard
pub record OwesNowhere (tells : Bool) (s : Settings) (shard : ℕ) (new : Outside) : Type 0 where
  pub job : Job
  pub first : WhereTold tells (IsFirstJobOf s new.keepers.told (job_on shard job))
  pub nowhere : s.shards ≤ far_shard job

-- a settle stops at a fault only where the fault's count rose, and for a full log only where an entry would be written there
abbrev pub HasStopCause : Bool → Settings → SettleStop → Outside → Outside → Type 0
HasStopCause tells s (Unsettled shard KeeperFault) old new = (shard < s.shards) × Rose old.keepers.faults new.keepers.faults
HasStopCause tells s (Unsettled shard LinkFault) old new = (shard < s.shards) × Rose old.link.faults new.link.faults
HasStopCause tells s (Unsettled shard LogFull) old new = (shard < s.shards) × MeetsFullLog tells s shard new
HasStopCause tells s (NoServer shard) old new = OwesNowhere tells s shard new
HasStopCause tells s OutOfMemory old new = ⊤

-- ---- its first half

-- the stores, and what their keepers and the link show
pub record StoresNow : Type 0 where
  pub stores : List Store
  pub outside : Outside

-- these stores, with what their keepers and the link show
abbrev pub stores_now : List Store → Outside → StoresNow
stores_now stores outside = record { stores = stores; outside = outside }

-- jobs were merged and streams moved: the stores stay those of the configuration, logs grow as open jobs are merged, and no count falls
pub record MovesStores (tells : Bool) (s : Settings) (old new : StoresNow) : Type 0 where
  pub stores : AreStoresOf tells s new.outside.keepers.told new.stores
  pub rise : Rise (pens_of old.stores) (pens_of new.stores)
  pub grows : StoresGrow tells s old.outside.keepers.told new.outside.keepers.told
  pub settles : WhereTold tells (SettlesLogs s old.outside.keepers.told new.outside.keepers.told)
  pub later : IsLater old.outside.keepers new.outside.keepers
  pub link : IsLaterLink old.outside.link new.outside.link

-- no job is open, and every store has its shard's whole log
pub record RestsWhole (s : Settings) (tables : Tables) : Type 0 where
  pub none : HaveNoJobs (stores_in s tables)
  pub whole : AreWhole s tables

-- ---- all of it

-- leaders, followers and stores, and what their keepers and the link show
pub record ClosedNow : Type 0 where
  pub fleet : Fleet
  pub outside : Outside

-- these nodes, with what their keepers and the link show
abbrev pub closed_now : Fleet → Outside → ClosedNow
closed_now fleet outside = record { fleet = fleet; outside = outside }

-- whatever a settle comes to, logs only grow, as open jobs are merged, none is cut, and no count falls
pub record GoesOnClosed (tells : Bool) (s : Settings) (old new : ClosedNow) : Type 0 where
  pub grows : StoresGrow tells s old.outside.keepers.told new.outside.keepers.told
  pub settles : WhereTold tells (SettlesLogs s old.outside.keepers.told new.outside.keepers.told)
  pub later : IsLater old.outside.keepers new.outside.keepers
  pub link : IsLaterLink old.outside.link new.outside.link

-- what is settled: no job is open, each edge whose type has an inverse has it, every store has all of its shard's log, these are the lengths of the logs,
-- and each node has processed all that its region's store has
pub record IsSettledClosed (s : Settings) (logs : List ℕ) (new : ClosedNow) : Type 0 where
  pub none : HaveNoJobs (stores_in s new.outside.keepers.told)
  pub paired : ArePaired (types_of s.schema) (stores_in s new.outside.keepers.told).logs
  pub whole : AreWhole s new.outside.keepers.told
  pub lengths : logs ≡ log_lengths s new.outside.keepers.told
  pub ends : AreUpAtStores new.outside.keepers.told (nodes_now new.fleet (all_up s))

-- it is settled, and each node holds just what it held of its keys' last versions
pub record SettlesClosed (tells : Bool) (s : Settings) (logs : List ℕ) (old new : ClosedNow) : Type 0 where
  pub goes : GoesOnClosed tells s old new
  pub caught : WhereTold tells (AllCatchUp s (all_up s) new.outside.keepers.told old.fleet new.fleet)
  pub settled : WhereTold tells (IsSettledClosed s logs new)

-- no leader and no follower changed, or each went on as far as it came: none lost an item of its key's last version
abbrev pub LeavesNodes : Bool → Settings → ClosedNow → ClosedNow → Type 0
LeavesNodes tells s old new =
    (new.fleet ≡ record old.fleet { stores = new.fleet.stores }) ⊎ AllProcessOn tells s (all_up s) new.outside.keepers.told old.fleet new.fleet

-- it came to no end
pub record StopsClosed (tells : Bool) (s : Settings) (given : SettleStop) (old new : ClosedNow) : Type 0 where
  pub goes : GoesOnClosed tells s old new
  pub cause : HasStopCause tells s given old.outside new.outside
  pub nodes : LeavesNodes tells s old new

-- what came of it
abbrev pub ComesTo : {A : Type 0} → Bool → Settings → Result (Vec ℕ A) SettleStop → ClosedNow → ClosedNow → Type 0
ComesTo tells s (Ok logs) old new = SettlesClosed tells s logs.items old new
ComesTo tells s (Err given) old new = StopsClosed tells s given old new

-- the nodes process the rest of the logs that they serve, over whichever stores, which only were read; it tells the lengths of the shards' logs
pub record CatchesUpAll {A : Type 0} (tells : Bool) (s : Settings) (result : Result (Vec ℕ A) SettleStop) (old new : ClosedNow) : Type 0 where
  pub caught : WhereTold tells (OnOk result (AllCatchUp s (all_up s) new.outside.keepers.told old.fleet new.fleet))
  pub lengths : WhereTold tells (IfOk result (λ logs. logs.items ≡ log_lengths s new.outside.keepers.told))
  pub nodes : LeavesNodes tells s old new
  pub cause : IfErr result (λ given. HasStopCause tells s given old.outside new.outside)
  pub consistent : IsConsistent tells s new.outside.keepers.told new.fleet
  pub goes : GoesOn old.fleet new.fleet
  pub stores : new.fleet.stores ≡ old.fleet.stores
  pub reads : OnlyReads tells old.outside new.outside
