-- The other ends of edges that lie on another shard: jobs, merges, and when the stores are covered.
use Rattle.std.specs.Prelude.{ℕ, ◌+◌, ◌<◌, List, [], length, take, map, filter, filter_map, All, Contains, sum_by, Option, Some, None}
use Rattle.std.specs.Prelude.{IsSomeAnd, slice_index_or, ◌≡◌, ◌⊎◌, ◌≤◌, not}
use Rattle.tao_base.specs.EdgeTypes.{EdgeTypes}
use Rattle.tao_base.specs.Ids.{shard_of}
use Rattle.tao_base.specs.Stamps.{stamp_of}
use Rattle.tao_base.specs.declared.entry.Entry.{Entry}
use Rattle.tao_base.specs.declared.entry.Kind.TheVariants.{Merge as Merged}
use Rattle.tao_base.specs.declared.entry.Origin.TheVariants.{Merge}
use Rattle.tao_base.specs.declared.entry.Touch.{Touch}
use Rattle.graph_model.specs.Soundness.{EdgeUpdate, other_end, update_at, updates_of}
use Rattle.write_model.specs.Writes.{edge_touch, epoch_base, is_near, when, next_entry}
use Rattle.graph_model.specs.Log.{entry_at}
use Rattle.graph_model.specs.Records.{is_news, HasStamp}

-- the records that an entry owes to other shards, whoever made it
abbrev pub job_of : EdgeTypes → Entry → List EdgeUpdate
job_of types e = filter_map (λ u. when (not (is_near u)) (other_end types u)) (updates_of e)

-- who owes a job: the entry at its shard, in the shard's epoch, and the other shard, which the job's records lie on
pub record JobSource : Type 0 where
  pub shard : ℕ
  pub epoch : ℕ
  pub entry : Entry
  pub other : ℕ

-- the number by which a merge names the entry of its job: its position, above the numbers of earlier epochs
abbrev pub number_in : ℕ → ℕ → ℕ
number_in epoch position = epoch_base epoch + position

-- the number by which a merge names the job of this entry
abbrev pub source_number : JobSource → ℕ
source_number owed = number_in owed.epoch owed.entry.position

-- the entry that merges records of the other ends of an entry, which another shard's log names by the number, or nothing where none is later
abbrev pub merge_of : List Entry → ℕ → ℕ → List EdgeUpdate → Option Entry
merge_of log from number us = next_entry log Merged (Merge from number) (map (edge_touch log) (filter (is_news log) us))

-- the entry that merges a job on the other shard's log; None where no record of the job is later than the log's
abbrev pub merge_entry : EdgeTypes → List Entry → JobSource → Option Entry
merge_entry types log owed = merge_of log owed.shard (source_number owed) (job_of types owed.entry)

-- what promotions made of the stores: each shard's epoch, the last epoch of all, and how many entries were lost
pub record Epochs : Type 0 where
  pub of : ℕ → ℕ
  pub last : ℕ
  pub lost : ℕ

-- the epochs before any promotion: 0 of each shard, and no entry was lost
abbrev pub no_epochs : Epochs
no_epochs = record { of = λ shard. 0; last = 0; lost = 0 }

-- the logs of all shards, the open job of each shard and position, and the epochs
pub record Stores : Type 0 where
  pub logs : List (List Entry)
  pub job : ℕ → ℕ → Option (List EdgeUpdate)
  pub epochs : Epochs

-- the log of a shard, without entries where there is no such shard
abbrev pub log_of : List (List Entry) → ℕ → List Entry
log_of logs shard = slice_index_or logs shard []

-- how many entries there ever were
abbrev pub entries_ever : Stores → ℕ
entries_ever stores = sum_by length stores.logs + stores.epochs.lost

-- the record was written by an entry of the log of its shard
pub record IsWritten (log : ℕ → List Entry) (u : EdgeUpdate) : Type 0 where
  pub position : ℕ
  pub entry : Entry
  pub stands : entry_at (log (shard_of u.0)) position ≡ Some entry
  pub writes : Contains (updates_of entry) u

-- two records are of one edge at one end
pub record AreOfOneEnd (u v : EdgeUpdate) : Type 0 where
  pub id1 : u.0 ≡ v.0
  pub atype : u.1 ≡ v.1
  pub id2 : u.2 ≡ v.2

-- two records are of one edge, at the same end or at the other one
abbrev pub AreOfOneEdge : EdgeTypes → EdgeUpdate → EdgeUpdate → Type 0
AreOfOneEdge types u v = AreOfOneEnd u v ⊎ (other_end types u ≡ Some (v.0, v.1, v.2, u.3))

-- a job is that of the entry at its position, and has a record
pub record IsJob (types : EdgeTypes) (log : List Entry) (position : ℕ) (us : List EdgeUpdate) : Type 0 where
  pub entry : Entry
  pub stands : entry_at log position ≡ Some entry
  pub job_is : us ≡ job_of types entry
  pub some : 0 < length us

-- the log has each record of the entry's job, or a later one
abbrev pub HasJob : EdgeTypes → List Entry → Entry → Type 0
HasJob types log e = All (HasStamp log) (job_of types e)

-- each of the touches writes one of these records, at whatever place among them
abbrev pub WriteOnly : List EdgeUpdate → List Touch → Type 0
WriteOnly us touches = All (λ t. IsSomeAnd (update_at t.key t.change) (λ u. ∥ Contains us u ∥₁)) touches

-- a merge entry, the last of these entries of its log, names by the number an entry of the other shard's log: it writes records of that entry's job, and
-- with it they have all of the job
pub record IsMergeAt (types : EdgeTypes) (source : List Entry) (epoch : ℕ) (entries : List Entry) (e : Entry) (number : ℕ) : Type 0 where
  pub position : ℕ
  pub entry : Entry
  pub number_is : number ≡ number_in epoch position
  pub stands : entry_at source position ≡ Some entry
  pub touches : WriteOnly (job_of types entry) e.touches
  pub done : HasJob types entries entry

-- the log of each record's own shard has the record, or a later one
abbrev pub AreThere : (ℕ → List Entry) → List EdgeUpdate → Type 0
AreThere log us = All (λ u. HasStamp (log (shard_of u.0)) u) us

-- each record that an entry of the shard owes is there, or a later one, unless the entry's job is open
abbrev pub OwesOpenly : EdgeTypes → (ℕ → List Entry) → (ℕ → Option (List EdgeUpdate)) → ℕ → Type 0
OwesOpenly types log job shard = (position : ℕ) (e : Entry) → entry_at (log shard) position ≡ Some e → job position ≡ None → AreThere log (job_of types e)

-- each job that a store keeps is that of the entry at its position, whether the store is the shard's master or not
abbrev pub HasItsJobs : EdgeTypes → List Entry → (ℕ → Option (List EdgeUpdate)) → Type 0
HasItsJobs types log job = (position : ℕ) (us : List EdgeUpdate) → job position ≡ Some us → ∥ IsJob types log position us ∥₁

-- records of one edge with one stamp are one record, at whichever ends they were written, where one of them was written on the shard
abbrev pub HasOneRecord : EdgeTypes → (ℕ → List Entry) → ℕ → Type 0
HasOneRecord types log shard = (u v : EdgeUpdate) → shard_of u.0 ≡ shard → IsWritten log u → IsWritten log v → AreOfOneEdge types u v
    → stamp_of u.3 ≡ stamp_of v.3 → u.3 ≡ v.3

-- a record that was written on the shard with a stamp of the other end's shard, of the present epoch there, is at that other end, or a later one
abbrev pub HasItsStamps : EdgeTypes → (ℕ → List Entry) → (ℕ → ℕ) → ℕ → Type 0
HasItsStamps types log epoch shard = (u v : EdgeUpdate) → shard_of u.0 ≡ shard → IsWritten log u → other_end types u ≡ Some v
    → (stamp_of u.3).shard ≡ shard_of v.0 → epoch_base (epoch (shard_of v.0)) < (stamp_of u.3).number → HasStamp (log (shard_of v.0)) v

-- each merge entry of the shard whose number is of the present epoch of the shard that it names is one of an entry there
abbrev pub HasItsMerges : EdgeTypes → (ℕ → List Entry) → (ℕ → ℕ) → ℕ → Type 0
HasItsMerges types log epoch shard = (position : ℕ) (e : Entry) (from number : ℕ) → entry_at (log shard) position ≡ Some e → e.origin ≡ Merge from number
    → epoch_base (epoch from) < number → ∥ IsMergeAt types (log from) (epoch from) (take position (log shard)) e number ∥₁

-- a shard's master store is covered, over the logs of all shards as it sees them: what is missing at an other end is owed by an open job. Places and
-- positions are said as mere facts, so that a type may keep all of this as its invariant
pub record IsCovered (types : EdgeTypes) (log : ℕ → List Entry) (epoch : ℕ → ℕ) (job : ℕ → Option (List EdgeUpdate)) (shard : ℕ) : Type 0 where
  pub owed : OwesOpenly types log job shard
  pub jobs : HasItsJobs types (log shard) job
  pub one : HasOneRecord types log shard
  pub stamps : HasItsStamps types log epoch shard
  pub merges : HasItsMerges types log epoch shard

-- the stores are covered: each shard's is, over the logs as they are
pub record AreCovered (types : EdgeTypes) (stores : Stores) : Type 0 where
  pub each : (shard : ℕ) → IsCovered types (log_of stores.logs) stores.epochs.of (stores.job shard) shard
  -- no stamp's number is farther above the last epoch's base than there ever were entries
  pub numbers : (u : EdgeUpdate) → IsWritten (log_of stores.logs) u → (stamp_of u.3).number ≤ number_in stores.epochs.last (entries_ever stores)
  -- no shard's epoch is past the last one
  pub epochs : (shard : ℕ) → stores.epochs.of shard ≤ stores.epochs.last
