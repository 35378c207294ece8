-- What the lock of a shard's master store keeps: the store's own log and jobs, and of each other log what it has seen. Places and positions are said as
-- mere facts, so that a type may keep all of it as its invariant.
use Rattle.std.specs.Prelude.{ℕ, ◌≡◌, ◌≢◌, ◌<◌, ◌≤◌, ◌++◌, [], ◌∷◌, List, length, take, All, Contains, Option, Some, None}
use Rattle.tao_base.specs.EdgeTypes.{EdgeTypes}
use Rattle.tao_base.specs.Ids.{shard_of}
use Rattle.tao_base.specs.Stamps.{stamp_of}
use Rattle.tao_base.specs.declared.entry.Entry.{Entry}
use Rattle.tao_base.specs.declared.entry.Origin.TheVariants.{Merge}
use Rattle.graph_model.specs.Log.{entry_at}
use Rattle.graph_model.specs.Records.{HasStamp}
use Rattle.graph_model.specs.Soundness.{EdgeUpdate, IsSoundOf, other_end, updates_of}
use Rattle.write_model.specs.Merges.{HasJob, IsCovered, IsWritten, JobSource, Stores, job_of, log_of}
use Rattle.write_model.specs.Writes.{epoch_base}

-- all that the entry writes are records of the job of one entry of the source
pub record IsMergedFrom (types : EdgeTypes) (source : List Entry) (e : Entry) : Type 0 where
  pub position : ℕ
  pub entry : Entry
  pub stands : entry_at source position ≡ Some entry
  pub owed : (u : EdgeUpdate) → Contains (updates_of e) u → Contains (job_of types entry) u

-- each merge of the shard past the entries with which its log began is merged from what was seen of the log that it names
abbrev pub HasItsSources : EdgeTypes → (ℕ → List Entry) → ℕ → ℕ → Type 0
HasItsSources types log begun shard = (position : ℕ) (e : Entry) (from number : ℕ) → begun < position → entry_at (log shard) position ≡ Some e
    → e.origin ≡ Merge from number → ∥ IsMergedFrom types (log from) e ∥₁

-- a record that was seen anywhere, with a stamp that the shard gave in its present epoch, is at the shard's end, or a later one
abbrev pub HasItsOwn : EdgeTypes → (ℕ → List Entry) → (ℕ → ℕ) → ℕ → Type 0
HasItsOwn types log epoch shard = (u v : EdgeUpdate) → IsWritten log u → other_end types u ≡ Some v → shard_of v.0 ≡ shard → (stamp_of u.3).shard ≡ shard
    → epoch_base (epoch shard) < (stamp_of u.3).number → HasStamp (log shard) v

-- what a store knows: the logs as it has seen them, its own whole, the epochs, its open jobs, and how many entries its log began with
pub record Knowledge : Type 0 where
  pub log : ℕ → List Entry
  pub epoch : ℕ → ℕ
  pub job : ℕ → Option (List EdgeUpdate)
  pub begun : ℕ

-- what a shard's store knows at the beginning, when it has seen all logs whole
abbrev pub begun_with : Stores → ℕ → Knowledge
begun_with stores shard = record {
  log = log_of stores.logs;
  epoch = stores.epochs.of;
  job = stores.job shard;
  begun = length (log_of stores.logs shard);
}

-- the lock of a shard's store keeps this of what the store knows: all that it has seen is sound, and over that the store is covered
pub record IsKept (types : EdgeTypes) (shard : ℕ) (k : Knowledge) : Type 0 where
  pub sound : (s : ℕ) → IsSoundOf types s (k.log s)
  pub covered : IsCovered types k.log k.epoch k.job shard
  pub own : HasItsOwn types k.log k.epoch shard
  pub sources : HasItsSources types k.log k.begun shard
  pub fits : k.begun ≤ length (k.log shard)

-- the store's own log gains the entry, and nothing else that it knows changes, but perhaps its jobs
pub record GainsOwn (old new : Knowledge) (shard : ℕ) (e : Entry) : Type 0 where
  pub here : new.log shard ≡ old.log shard ++ e ∷ []
  pub others : (s : ℕ) → s ≢ shard → new.log s ≡ old.log s
  pub epoch : new.epoch ≡ old.epoch
  pub begun : new.begun ≡ old.begun

-- the store's job of the position becomes this, and none of its others changes
pub record JobTurns (old new : Knowledge) (position : ℕ) (given : Option (List EdgeUpdate)) : Type 0 where
  pub here : new.job position ≡ given
  pub others : (p : ℕ) → p ≢ position → new.job p ≡ old.job p

-- the entry of a job stands in what the store has seen, in its shard's epoch, and the records of the job lie on one other shard
pub record SeesOwed (types : EdgeTypes) (k : Knowledge) (owed : JobSource) : Type 0 where
  pub epoch_is : owed.epoch ≡ k.epoch owed.shard
  pub stands : entry_at (k.log owed.shard) owed.entry.position ≡ Some owed.entry
  pub there : All (λ u. shard_of u.0 ≡ owed.other) (job_of types owed.entry)
  pub away : owed.shard ≢ owed.other

-- the store ends a job of its shard, whose records it has all seen at the other shard
pub record EndsOwn (types : EdgeTypes) (old new : Knowledge) (owed : JobSource) : Type 0 where
  pub sees : SeesOwed types old owed
  pub done : HasJob types (old.log owed.other) owed.entry
  pub log : new.log ≡ old.log
  pub epoch : new.epoch ≡ old.epoch
  pub begun : new.begun ≡ old.begun
  pub ends : JobTurns old new owed.entry.position None

-- the entries that were seen of a log begin it
abbrev pub IsSeenOf : List Entry → List Entry → Type 0
IsSeenOf seen log = seen ≡ take (length seen) log

-- two stores have seen beginnings of each other's logs, which have at least what those logs began with
pub record SeeEachOther (s t : ℕ) (a b : Knowledge) : Type 0 where
  pub there : IsSeenOf (a.log t) (b.log t)
  pub back : IsSeenOf (b.log s) (a.log s)
  pub least_there : b.begun ≤ length (a.log t)
  pub least_back : a.begun ≤ length (b.log s)

-- the second store learns the whole log of the first, as it may while both locks are held
pub record LearnsWhole (s : ℕ) (a b new : Knowledge) : Type 0 where
  pub here : new.log s ≡ a.log s
  pub others : (i : ℕ) → i ≢ s → new.log i ≡ b.log i
  pub epoch : new.epoch ≡ b.epoch
  pub job : new.job ≡ b.job
  pub begun : new.begun ≡ b.begun

-- each shard's store has what its lock keeps, any two have seen beginnings of each other's logs, and what they know of their own is so in these stores
pub record AreLocked (types : EdgeTypes) (stores : Stores) (k : ℕ → Knowledge) : Type 0 where
  pub kept : (s : ℕ) → IsKept types s (k s)
  pub see : (s t : ℕ) → s ≢ t → SeeEachOther s t (k s) (k t)
  pub logs : (s : ℕ) → (k s).log s ≡ log_of stores.logs s
  pub jobs : (s : ℕ) → (k s).job ≡ stores.job s
  pub epochs : (s : ℕ) → (k s).epoch ≡ stores.epochs.of
