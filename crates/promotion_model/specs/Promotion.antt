-- What a promotion does to the stores of all shards, step by step: the shard's epoch is raised, jobs are opened again, the shard's log is cut back, and its
-- master changes.
use Rattle.std.specs.Prelude.{ℕ, ◌≡◌, ◌≢◌, ◌<◌, ◌≤◌, ◌+◌, List, length, take, Contains, Option, Some, None, IsSome, slice_set}
use Rattle.tao_base.specs.EdgeTypes.{EdgeTypes}
use Rattle.tao_base.specs.Ids.{shard_of}
use Rattle.tao_base.specs.Stamps.{stamp_of}
use Rattle.tao_base.specs.declared.entry.Entry.{Entry}
use Rattle.tao_base.specs.declared.entry.Origin.TheVariants.{Merge}
use Rattle.graph_model.specs.Log.{entry_at}
use Rattle.graph_model.specs.Soundness.{EdgeUpdate}
use Rattle.write_model.specs.Merges.{HasItsJobs, IsWritten, Stores, job_of, log_of}
use Rattle.write_model.specs.Steps.{AreSoundAndCovered, JobsStay}
use Rattle.write_model.specs.Writes.{epoch_base}

-- the shard's epoch becomes the one after the last, which is the last from then on
pub record RaisesEpoch (old new : Stores) (shard : ℕ) : Type 0 where
  pub logs : new.logs ≡ old.logs
  pub jobs : JobsStay old new
  pub here : new.epochs.of shard ≡ old.epochs.last + 1
  pub others : (s : ℕ) → s ≢ shard → new.epochs.of s ≡ old.epochs.of s
  pub last : new.epochs.last ≡ old.epochs.last + 1
  pub lost : new.epochs.lost ≡ old.epochs.lost

-- nothing of the shard's present epoch was written yet, anywhere
pub record IsFresh (stores : Stores) (shard : ℕ) : Type 0 where
  pub stamps : (u : EdgeUpdate) → IsWritten (log_of stores.logs) u → (stamp_of u.3).shard ≡ shard
      → (stamp_of u.3).number ≤ epoch_base (stores.epochs.of shard)
  pub origins : (s position : ℕ) (e : Entry) (number : ℕ) → entry_at (log_of stores.logs s) position ≡ Some e → e.origin ≡ Merge shard number
      → number ≤ epoch_base (stores.epochs.of shard)

-- jobs of entries are opened, any number of them, and those that were open stay so
pub record OpensJobs (types : EdgeTypes) (old new : Stores) : Type 0 where
  pub logs : new.logs ≡ old.logs
  pub epochs : new.epochs ≡ old.epochs
  pub still : (s p : ℕ) (us : List EdgeUpdate) → old.job s p ≡ Some us → new.job s p ≡ Some us
  pub theirs : (s : ℕ) → HasItsJobs types (log_of old.logs s) (new.job s)

-- the job of each entry of another shard that ever owed a record to this one is open
abbrev pub IsOwedAll : EdgeTypes → Stores → ℕ → Type 0
IsOwedAll types stores shard = (s p : ℕ) (e : Entry) (u : EdgeUpdate) → s ≢ shard → entry_at (log_of stores.logs s) p ≡ Some e → Contains (job_of types e) u
    → shard_of u.0 ≡ shard → IsSome (stores.job s p)

-- a store whose log is cut back to so many entries keeps the jobs of these, and no other
pub record JobsAreCut (old new : ℕ → Option (List EdgeUpdate)) (kept : ℕ) : Type 0 where
  pub before : (position : ℕ) → position ≤ kept → new position ≡ old position
  pub past : (position : ℕ) → kept < position → new position ≡ None

-- the shard's log is cut back to so many entries: the others are lost, with their jobs
pub record CutsBack (old new : Stores) (shard kept : ℕ) : Type 0 where
  pub within : shard < length old.logs
  pub fits : kept ≤ length (log_of old.logs shard)
  pub logs : new.logs ≡ slice_set old.logs shard (take kept (log_of old.logs shard))
  pub here : JobsAreCut (old.job shard) (new.job shard) kept
  pub others : (s p : ℕ) → s ≢ shard → new.job s p ≡ old.job s p
  pub of : new.epochs.of ≡ old.epochs.of
  pub last : new.epochs.last ≡ old.epochs.last
  pub lost : new.epochs.lost + kept ≡ old.epochs.lost + length (log_of old.logs shard)

-- another store becomes the shard's master: its log is the same, and it keeps the job of each entry that owes anything
pub record ChangesMaster (types : EdgeTypes) (old new : Stores) (shard : ℕ) : Type 0 where
  pub logs : new.logs ≡ old.logs
  pub epochs : new.epochs ≡ old.epochs
  pub others : (s p : ℕ) → s ≢ shard → new.job s p ≡ old.job s p
  pub theirs : HasItsJobs types (log_of old.logs shard) (new.job shard)
  pub all : (p : ℕ) (e : Entry) (u : EdgeUpdate) → entry_at (log_of old.logs shard) p ≡ Some e → Contains (job_of types e) u → IsSome (new.job shard p)

-- a promotion of the shard, of whose log so many entries are kept, goes through these states between its steps
pub record Promotes (types : EdgeTypes) (old new : Stores) (shard kept : ℕ) : Type 0 where
  pub raised : Stores
  pub opened : Stores
  pub cut : Stores
  pub raises : RaisesEpoch old raised shard
  pub opens : OpensJobs types raised opened
  pub owed : IsOwedAll types opened shard
  pub cuts : CutsBack opened cut shard kept
  pub changes : ChangesMaster types cut new shard

-- whatever step a promotion stops after, the stores are sound and covered
pub record StaysCovered (types : EdgeTypes) (old new : Stores) (shard kept : ℕ) (p : Promotes types old new shard kept) : Type 0 where
  pub raised : AreSoundAndCovered types p.raised
  pub opened : AreSoundAndCovered types p.opened
  pub cut : AreSoundAndCovered types p.cut
  pub changed : AreSoundAndCovered types new
