-- A job that is merged from store to store, as a repair and a settle do it.
use Rattle.std.specs.Prelude.{ℕ, ◌≡◌, ◌≤◌, ◌<◌, ◌⊎◌, Bool, Option, IfSome, IsSome, Result, Ok, Err, length}
use Rattle.edge_repair.specs.Carries.{FailsAt}
use Rattle.edge_repair.specs.declared.refusal.RepairRefusal.{RepairRefusal}
use Rattle.edge_repair.specs.declared.refusal.RepairRefusal.TheVariants.{KeeperFault, LinkFault, LogFull, OutOfMemory}
use Rattle.edge_repair.specs.declared.repairs.RepairOutcome.{RepairOutcome}
use Rattle.graph_model.specs.Told.{WhereTold}
use Rattle.core_nodes.specs.Outside.{Outside}
use Rattle.node_name.specs.declared.NodeName.TheVariants.{Store as StoreName_}
use Rattle.tao_base.specs.declared.entry.Entry.{Entry}
use Rattle.tao_keeper.specs.KeeperState.{KeeperState, KeepsTables}
use Rattle.tao_link.specs.Cuts.{between}
use Rattle.tao_link.specs.Shown.{LinkShown, after_carry}
use Rattle.tao_link.specs.declared.link.Carry.{Carry}
use Rattle.topology.specs.Config.{Settings}
use Rattle.write_model.specs.Merges.{merge_of}
use Rattle.core_model.specs.Jobs.{IsMergedJob, MergesOwed, ShardJob, far_shard}
use Rattle.core_model.specs.Stores.{master_log, master_store}

-- the carry from the store of a job's shard to the one where it is owed, and the carry back
abbrev pub carry_there : Settings → ShardJob → Carry
carry_there s j = between (StoreName_ (master_store s j.shard)) (StoreName_ (master_store s (far_shard j.job)))

-- the carry back to the store of a job's shard, from the one where the job is owed
abbrev pub carry_back : Settings → ShardJob → Carry
carry_back s j = between (StoreName_ (master_store s (far_shard j.job))) (StoreName_ (master_store s j.shard))

-- the job's carry there succeeded; the carry back did too, or failed
abbrev pub ComesBack : Settings → ShardJob → LinkShown → LinkShown → Type 0
ComesBack s j old new = (new ≡ after_carry (after_carry old)) ⊎ FailsAt (carry_back s j) (after_carry old) new

-- the entry that merges a job where it is owed; none where all of its records are there
abbrev pub owed_entry : Settings → KeeperState → ShardJob → Option Entry
owed_entry s keepers j = merge_of (master_log s keepers.told (far_shard j.job)) j.shard j.job.position j.job.edges

-- the job was merged: that entry was written, and had room
pub record WritesDueEntry (s : Settings) (j : ShardJob) (wrote : Option Entry) (old new : KeeperState) : Type 0 where
  pub wrote_is : wrote ≡ owed_entry s old j
  pub room : IfSome wrote (λ e. length (master_log s old.told (far_shard j.job)) < s.log_max)
  pub merges : MergesOwed s old.told new.told j
  pub merged : IsMergedJob s new.told j

-- the log where it is owed has no room for the entry: it has so many, and nothing changes
pub record FindsNoRoom (s : Settings) (j : ShardJob) (count : ℕ) (keepers : KeeperState) : Type 0 where
  pub due : IsSome (owed_entry s keepers j)
  pub full : s.log_max ≤ length (master_log s keepers.told (far_shard j.job))
  pub count_is : count ≡ length (master_log s keepers.told (far_shard j.job))

-- the job was merged, or nothing changed
abbrev pub MergesOrRests : Bool → Settings → ShardJob → KeeperState → KeeperState → Type 0
MergesOrRests tells s j old new = KeepsTables tells old new ⊎ WhereTold tells (MergesOwed s old.told new.told j)

-- what the merge of a job from store to store is answered
abbrev pub MergesFar : Bool → Settings → ShardJob → Result RepairOutcome RepairRefusal → Outside → Outside → Type 0
MergesFar tells s j (Ok repaired) old new =
    WhereTold tells (WritesDueEntry s j repaired.wrote old.keepers new.keepers) × (new.link ≡ after_carry (after_carry old.link))
MergesFar tells s j (Err (LogFull count)) old new =
    WhereTold tells (FindsNoRoom s j count old.keepers) × KeepsTables tells old.keepers new.keepers × ComesBack s j old.link new.link
MergesFar tells s j (Err LinkFault) old new = (FailsAt (carry_there s j) old.link new.link × KeepsTables tells old.keepers new.keepers)
    ⊎ (FailsAt (carry_back s j) (after_carry old.link) new.link × WhereTold tells (MergesOwed s old.keepers.told new.keepers.told j))
MergesFar tells s j (Err KeeperFault) old new = MergesOrRests tells s j old.keepers new.keepers × ComesBack s j old.link new.link
MergesFar tells s j (Err OutOfMemory) old new = MergesOrRests tells s j old.keepers new.keepers × ComesBack s j old.link new.link
