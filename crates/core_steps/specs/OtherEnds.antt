-- What becomes of the other end of a write: its job is merged at the other shard, and then ended.
use Rattle.std.specs.Prelude.{ℕ, ◌≡◌, ◌≢◌, ◌<◌, ◌⊎◌, ⊤, Bool, List, Option, Some, None, IfSome, Result, Ok, Err, if◌then◌else◌, nat_lt, option_and_then}
use Rattle.std.specs.Option.{option_map}
use Rattle.counts.specs.Count.{Rose}
use Rattle.core_model.specs.Jobs.{EndsOwed, ShardJob, far_shard}
use Rattle.core_model.specs.Pens.{pens_of}
use Rattle.core_model.specs.Writes.{IsSeenEntry}
use Rattle.core_nodes.specs.Repairs.{FindsNoRoom, WritesDueEntry}
use Rattle.graph_model.specs.Told.{WhereTold}
use Rattle.node_name.specs.declared.NodeName.{NodeName}
use Rattle.replies.specs.declared.calls.ScheduledWhy.TheVariants.{LinkFault, KeeperFault, LogFull, NoServer, Memory}
use Rattle.shard_tables.specs.StoreView.{Store as StoreSeen}
use Rattle.shard_tables.specs.declared.writes.Wrote.{Wrote}
use Rattle.tao_keeper.specs.KeeperState.{KeepsTables}
use Rattle.tao_keeper.specs.declared.jobs.Job.{Job}
use Rattle.tao_link.specs.Shown.{LinkShown, after_carry}
use Rattle.topology.specs.Choices.{chosen_leader, master_region}
use Rattle.topology.specs.Config.{Settings}
use Rattle.topology.specs.States.{NodeStates}
use Rattle.write_plan.specs.declared.results.LeftOpen.{LeftOpen}
use Rattle.write_plan.specs.declared.results.LeftOpen.TheVariants.{Scheduled, Refused}
use Rattle.core_steps.specs.Posting.{ChangesNoNode, LeaderTakes, NotifiesOfNew}
use Rattle.core_steps.specs.Routes.{FailsCarry, there_and_back}
use Rattle.core_steps.specs.World.{World}
use Rattle.core_steps.specs.declared.jobs.JobSender.{JobSender}
use Rattle.core_steps.specs.declared.jobs.LearntEntry.{LearntEntry}
use Rattle.core_steps.specs.declared.routes.TierPlace.{TierPlace}

-- a job, the leader that sends it to the shard where it is owed, and the tier of the session that it was committed for
pub record SentJob : Type 0 where
  pub sender : JobSender
  pub job : ShardJob

-- a job that is sent so
abbrev pub sent_job : JobSender → ShardJob → SentJob
sent_job sender job = record { sender = sender; job = job }

-- the leader that a tier chooses for a shard in the region that has its master; none where the shard isn't configured, or none can be chosen
abbrev pub master_leader : Settings → NodeStates → TierPlace → ℕ → Option NodeName
master_leader s states by shard =
    if nat_lt shard s.shards then chosen_leader states (by.region, by.tier) (master_region states shard) shard else None

-- the leader that merges the job, on the shard where it is owed, if any can
abbrev pub merging_leader : Settings → NodeStates → SentJob → Option NodeName
merging_leader s states sent = master_leader s states sent.sender.by (far_shard sent.job.job)

-- a job on its way from the leader that committed it to the one that merges it
pub record JobWay : Type 0 where
  pub leader : NodeName
  pub merging : NodeName
  pub job : ShardJob

-- the way of a job that is sent to that leader
abbrev pub job_way : SentJob → NodeName → JobWay
job_way sent merging = record { leader = sent.sender.leader; merging = merging; job = sent.job }

-- a carry from one node to another, and none where both are one node
abbrev pub Crosses : NodeName → NodeName → LinkShown → LinkShown → Type 0
Crosses from to old new = ((from ≡ to) × (new ≡ old)) ⊎ ((from ≢ to) × (new ≡ after_carry old))

-- the carry failed, which is none where both are one node
abbrev pub FailsToCross : NodeName → NodeName → LinkShown → LinkShown → Type 0
FailsToCross from to old new = (from ≢ to) × FailsCarry from to old new

-- one carry there and one back, and none where both are one node
abbrev pub GoesBetween : NodeName → NodeName → LinkShown → LinkShown → Type 0
GoesBetween from to old new = ((from ≡ to) × (new ≡ old)) ⊎ ((from ≢ to) × (new ≡ there_and_back old))

-- one carry there and one back, which may have failed; none where both are one node
abbrev pub MayComeBack : NodeName → NodeName → LinkShown → LinkShown → Type 0
MayComeBack from to old new = GoesBetween from to old new ⊎ ((from ≢ to) × FailsCarry to from (after_carry old) new)

-- ---- the merge

-- the job was merged, a step of the plain machine: the leader that merged it and the inboxes took what was written
pub record TakesMerge (tells : Bool) (s : Settings) (way : JobWay) (wrote : Wrote) (old new : World) : Type 0 where
  pub writes : WhereTold tells (WritesDueEntry s way.job wrote.entry old.keepers new.keepers)
  pub leader : LeaderTakes s way.merging (far_shard way.job.job) wrote.entry old.fleet new.fleet
  pub followers : new.fleet.followers ≡ old.fleet.followers
  pub notifies : NotifiesOfNew old.states way.merging (far_shard way.job.job) wrote.entry old.inboxes new.inboxes
  pub states : new.states ≡ old.states

-- why a job was not merged, or its answer was lost, and what was written all the same
abbrev pub LeavesJob : Bool → Settings → JobWay → LeftOpen → World → World → Type 0
LeavesJob tells s way (Scheduled LinkFault None) old new = (way.leader ≢ way.merging)
    × FailsCarry way.leader way.merging old.link new.link × ChangesNoNode tells old new
LeavesJob tells s way (Scheduled LinkFault (Some wrote)) old new = (way.leader ≢ way.merging)
    × FailsCarry way.merging way.leader (after_carry old.link) new.link × TakesMerge tells s way wrote old new
LeavesJob tells s way (Scheduled KeeperFault None) old new = Rose old.keepers.faults new.keepers.faults × ChangesNoNode tells old new
    × MayComeBack way.leader way.merging old.link new.link
LeavesJob tells s way (Scheduled LogFull None) old new = WhereTold tells ((count : ℕ) × FindsNoRoom s way.job count old.keepers)
    × ChangesNoNode tells old new × MayComeBack way.leader way.merging old.link new.link
LeavesJob tells s way (Scheduled Memory None) old new = ChangesNoNode tells old new
    × MayComeBack way.leader way.merging old.link new.link
LeavesJob tells s way (Scheduled NoServer wrote) old new = ⊥
LeavesJob tells s way (Scheduled KeeperFault (Some wrote)) old new = ⊥
LeavesJob tells s way (Scheduled LogFull (Some wrote)) old new = ⊥
LeavesJob tells s way (Scheduled Memory (Some wrote)) old new = ⊥
LeavesJob tells s way (Refused reply) old new = ⊥

-- what came of a job on its way: it was carried to the leader of the other shard, which merged it, and its answer back
abbrev pub MergesAlong : Bool → Settings → JobWay → Result Wrote LeftOpen → World → World → Type 0
MergesAlong tells s way (Ok wrote) old new = TakesMerge tells s way wrote old new × GoesBetween way.leader way.merging old.link new.link
MergesAlong tells s way (Err left) old new = LeavesJob tells s way left old new

-- what came of a job that was sent to this leader; where there is none, it stays open, and nothing was done
abbrev pub MergesBy : Bool → Settings → Option NodeName → SentJob → Result Wrote LeftOpen → World → World → Type 0
MergesBy tells s (Some merging) sent result old new = MergesAlong tells s (job_way sent merging) result old new
MergesBy tells s None sent result old new = (result ≡ Err (Scheduled NoServer None)) × (new ≡ old)

-- what came of the stage `inverse`
abbrev pub MergesOver : Bool → Settings → SentJob → Result Wrote LeftOpen → World → World → Type 0
MergesOver tells s sent result old new = MergesBy tells s (merging_leader s old.states sent) sent result old new

-- what was written at the other end, as far as that is known
abbrev pub known_of : Result Wrote LeftOpen → Option Wrote
known_of (Ok wrote) = Some wrote
known_of (Err (Scheduled why wrote)) = wrote
known_of (Err (Refused reply)) = None

-- what was written at the job's other end, if anything was, stands in what was seen of its shard's log, and that shard is configured
abbrev pub StandsThere : Settings → Job → Option Wrote → List StoreSeen → Type 0
StandsThere s job wrote stores =
    IfSome wrote (λ w. IfSome w.entry (λ e. (far_shard job < s.shards) × IsSeenEntry (pens_of stores) (far_shard job) w.note e))

-- ---- the end

-- nothing but what the keepers show has changed
abbrev pub ChangesKeepers : World → World → Type 0
ChangesKeepers old new = new ≡ record old { keepers = new.keepers }

-- what came of the stage `end`: a job that was merged was ended, a step of the plain machine, or the keeper failed, or there was no memory
abbrev pub EndsOver : Bool → Settings → ShardJob → Result ⊤ LeftOpen → World → World → Type 0
EndsOver tells s j (Ok done) old new = WhereTold tells (EndsOwed s old.keepers.told new.keepers.told j) × ChangesKeepers old new
EndsOver tells s j (Err (Scheduled KeeperFault None)) old new = Rose old.keepers.faults new.keepers.faults
    × KeepsTables tells old.keepers new.keepers × ChangesKeepers old new
EndsOver tells s j (Err (Scheduled Memory None)) old new = KeepsTables tells old.keepers new.keepers × ChangesKeepers old new
EndsOver tells s j (Err left) old new = ⊥

-- ---- what is learnt of both ends

-- the entry that was written on a shard, with what was seen of its log
abbrev pub learnt_entry_of : ℕ → Wrote → Option LearntEntry
learnt_entry_of shard wrote = option_map (λ e. record { shard = shard; entry = e; note = wrote.note }) wrote.entry

-- the entry that was written at the other end, with what was seen of its log; None without a job, or where nothing was written
abbrev pub learnt_far : Option Job → Option Wrote → Option LearntEntry
learnt_far job wrote = option_and_then (λ j. option_and_then (learnt_entry_of (far_shard j)) wrote) job
