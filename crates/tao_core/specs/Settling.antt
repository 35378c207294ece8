-- What the replies to repairs and settles say.
use Rattle.std.specs.Prelude.{ℕ, ◌≡◌, ◌⊎◌, Bool, false, List, Option, Some, None, Result, Ok, Err, is_some}
use Rattle.core_mail.specs.Inboxes.{AreEmpty}
use Rattle.core_model.specs.States.{AreUpAtStores, nodes_now}
use Rattle.core_model.specs.Stores.{AreWhole, stores_in}
use Rattle.core_nodes.specs.Beginning.{AreLengths}
use Rattle.core_nodes.specs.Dues.{LeavesFleet, MeetsDues, after_carries, dues_of_fleet, log_ends}
use Rattle.core_nodes.specs.Settling.{AllCatchUp, AllProcessOn, IsLaterLink, OnlyReads, StopsCatchUp, StopsLengths, log_lengths}
use Rattle.core_nodes.specs.declared.settling.SettleStop.{SettleStop}
use Rattle.core_repairs.specs.Repairs.{RepairsFirst, RunsAll, StopsRun}
use Rattle.core_repairs.specs.Stops.{unsettled_as}
use Rattle.core_repairs.specs.Streams.{StopsStreams, StreamsAll}
use Rattle.core_repairs.specs.declared.repairs.Ran.{Ran}
use Rattle.graph_model.specs.Told.{WhereTold}
use Rattle.replies.specs.declared.nodes.NodeReply.TheVariants.{Repaired}
use Rattle.replies.specs.declared.nodes.Repaired.{Repaired as RepairedJob}
use Rattle.replies.specs.declared.refusals.Refusal.{Refusal}
use Rattle.replies.specs.declared.reply.Reply.{Reply}
use Rattle.replies.specs.declared.reply.Reply.TheVariants.{Node, Refused, Settled}
use Rattle.tao_keeper.specs.KeeperState.{IsLater, KeepsTables}
use Rattle.tao_schema.specs.Schema.{types_of}
use Rattle.write_model.specs.Machine.{ArePaired}
use Rattle.write_model.specs.Steps.{HaveNoJobs}
use Rattle.tao_core.specs.Calls.{world_of}
use Rattle.tao_core.specs.Core.{Moment, outside_at}

-- ---- repairs

-- what a repair came to: the job that was run, if one was open
abbrev pub repaired_of : Option Ran → RepairedJob
repaired_of None = record { hops = 0; job = 0; wrote = false }
repaired_of (Some ran) = record { hops = 2; job = ran.job.position; wrote = is_some ran.wrote }

-- how it is replied what came of a shard's first job
abbrev pub repaired_as : Result (Option Ran) Refusal → Reply
repaired_as (Ok found) = Node (Repaired (repaired_of found))
repaired_as (Err refusal) = Refused refusal

-- what the reply to a repair says: what came of the shard's first job. Nothing of the core but its stores and their messages changes
pub record AnswersRepair (tells : Bool) (shard : ℕ) (old : Moment) (reply : Reply) (new : Moment) : Type 0 where
  pub outcome : Result (Option Ran) Refusal
  pub reply_is : reply ≡ repaired_as outcome
  pub repairs : RepairsFirst tells old.core.settings shard outcome (world_of old) (world_of new)
  pub link : IsLaterLink old.link new.link
  pub rest : new.core ≡ record old.core { fleet = new.core.fleet; mail = new.core.mail }

-- ---- settles

-- all open jobs were run, which leaves no node but the stores changed
pub record HasRunJobs (tells : Bool) (old ran : Moment) : Type 0 where
  pub runs : RunsAll tells old.core.settings (world_of old) (world_of ran)
  pub keepers : IsLater old.keepers ran.keepers
  pub link : IsLaterLink old.link ran.link
  pub caches : ran.core.fleet ≡ record old.core.fleet { stores = ran.core.fleet.stores }
  pub rest : ran.core ≡ record old.core { fleet = ran.core.fleet; mail = ran.core.mail }

-- every stream was moved to its end, which leaves no follower changed
pub record HasStreamed (tells : Bool) (ran streamed : Moment) : Type 0 where
  pub streams : StreamsAll tells ran.core.settings (world_of ran) (world_of streamed)
  pub keepers : IsLater ran.keepers streamed.keepers
  pub link : IsLaterLink ran.link streamed.link
  pub followers : streamed.core.fleet.followers ≡ ran.core.fleet.followers
  pub rest : streamed.core ≡ record ran.core { fleet = streamed.core.fleet; mail = streamed.core.mail }

-- what is settled: no job is open, each edge whose type has an inverse has it, every store has all of its shard's log, these are the lengths of the logs,
-- and each node that is up has processed all that its region's store has
pub record LeavesSettled (logs : List ℕ) (new : Moment) : Type 0 where
  pub none : HaveNoJobs (stores_in new.core.settings new.keepers.told)
  pub paired : ArePaired (types_of new.core.settings.schema) (stores_in new.core.settings new.keepers.told).logs
  pub whole : AreWhole new.core.settings new.keepers.told
  pub lengths : logs ≡ log_lengths new.core.settings new.keepers.told
  pub ends : AreUpAtStores new.keepers.told (nodes_now new.core.fleet new.core.states)

-- all open jobs were run, then every stream was moved to its end, then each node that is up caught up with its region's stores, with one carry for each
-- shard at which it lay behind and no other, and then all messages were taken out; sessions and held calls stay
pub record SettlesCore (tells : Bool) (logs : List ℕ) (old new : Moment) : Type 0 where
  pub ran : Moment
  pub jobs : HasRunJobs tells old ran
  pub streamed : Moment
  pub streams : HasStreamed tells ran streamed
  pub lengths : List ℕ
  pub measured : AreLengths tells new.core.settings new.keepers.told lengths
  pub link : new.link ≡ after_carries (dues_of_fleet (log_ends tells streamed.core.settings lengths) streamed.core.states streamed.core.fleet) streamed.link
  pub reads : OnlyReads tells (outside_at streamed) (outside_at new)
  pub on : AllProcessOn tells new.core.settings new.core.states new.keepers.told streamed.core.fleet new.core.fleet
  pub caught : WhereTold tells (AllCatchUp new.core.settings new.core.states new.keepers.told streamed.core.fleet new.core.fleet)
  pub empty : AreEmpty new.core.mail
  pub settled : WhereTold tells (LeavesSettled logs new)
  pub rest : new.core ≡ record old.core { fleet = new.core.fleet; mail = new.core.mail }

-- a settle stopped while the jobs were run
pub record StopsAtJobs (tells : Bool) (given : SettleStop) (old new : Moment) : Type 0 where
  pub stops : StopsRun tells old.core.settings given (world_of old) (world_of new)
  pub link : IsLaterLink old.link new.link
  pub rest : new.core ≡ record old.core { fleet = new.core.fleet; mail = new.core.mail }

-- a settle stopped while the streams were moved, once the jobs had been run
pub record StopsAtStream (tells : Bool) (given : SettleStop) (old new : Moment) : Type 0 where
  pub ran : Moment
  pub jobs : HasRunJobs tells old ran
  pub stops : StopsStreams tells old.core.settings given (world_of ran) (world_of new)
  pub keepers : IsLater ran.keepers new.keepers
  pub link : IsLaterLink ran.link new.link
  pub followers : new.core.fleet.followers ≡ ran.core.fleet.followers
  pub rest : new.core ≡ record ran.core { fleet = new.core.fleet; mail = new.core.mail }

-- a settle stopped at the lengths of the logs, once the streams had been moved to their ends
pub record StopsAtLengths (tells : Bool) (given : SettleStop) (old new : Moment) : Type 0 where
  pub ran : Moment
  pub jobs : HasRunJobs tells old ran
  pub streamed : Moment
  pub streams : HasStreamed tells ran streamed
  pub stops : StopsLengths old.core.settings streamed.keepers new.keepers given
  pub tables : KeepsTables tells streamed.keepers new.keepers
  pub same : new ≡ record streamed { keepers = new.keepers }

-- a settle stopped at a node that couldn't catch up at a shard: what was due before it was met, in the order of the nodes, and nothing behind it
pub record StopsAtNode (tells : Bool) (given : SettleStop) (old new : Moment) : Type 0 where
  pub ran : Moment
  pub jobs : HasRunJobs tells old ran
  pub streamed : Moment
  pub streams : HasStreamed tells ran streamed
  pub lengths : List ℕ
  pub measured : AreLengths tells new.core.settings new.keepers.told lengths
  pub meets : MeetsDues (dues_of_fleet (log_ends tells streamed.core.settings lengths) streamed.core.states streamed.core.fleet) (Err given)
      streamed.link new.link (LeavesFleet (log_ends tells streamed.core.settings lengths) streamed.core.states streamed.core.fleet new.core.fleet)
  pub asked : KeepsTables tells streamed.keepers new.keepers
  pub stops : StopsCatchUp old.core.settings (outside_at streamed) (outside_at new) given
  pub link : IsLaterLink streamed.link new.link
  pub on : AllProcessOn tells new.core.settings new.core.states new.keepers.told streamed.core.fleet new.core.fleet
  pub rest : new.core ≡ record streamed.core { fleet = new.core.fleet }

-- why a settle came to no end, and what was done all the same
abbrev pub IsUnsettled : Bool → SettleStop → Moment → Moment → Type 0
IsUnsettled tells given old new = StopsAtJobs tells given old new
    ⊎ (StopsAtStream tells given old new ⊎ (StopsAtLengths tells given old new ⊎ StopsAtNode tells given old new))

-- what the reply to a settle says
abbrev pub AnswersSettle : Bool → Moment → Reply → Moment → Type 0
AnswersSettle tells old (Settled logs) new = SettlesCore tells logs old new
AnswersSettle tells old reply new =
    (given : SettleStop) × (reply ≡ unsettled_as old.core.states given) × IsUnsettled tells given old new
