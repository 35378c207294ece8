-- Laws of merges: the entry that merges a job keeps the log sound, and leaves all of the job there.
use Rattle.std.specs.Prelude.{ℕ, List, [], ◌∷◌, ◌++◌, fold, flat_map, filter_map, All, AllPairs, Contains, Option, Some, None, option_to_list}
use Rattle.std.specs.Prelude.{slice_get, ◌≡◌, ◌≢◌, ◌⊎◌, ◌↔◌, ⊤}
use Rattle.tao_base.specs.EdgeTypes.{EdgeTypes, InversesMatch}
use Rattle.tao_base.specs.Ids.{shard_of}
use Rattle.tao_base.specs.declared.id.Id.{Id}
use Rattle.tao_base.specs.declared.id.AType.{AType}
use Rattle.tao_base.specs.declared.edge.EdgeState.{EdgeState}
use Rattle.tao_base.specs.declared.edge.EdgeState.TheVariants.{Live, Cut}
use Rattle.tao_base.specs.declared.id.Key.TheVariants.{List as Assocs}
use Rattle.tao_base.specs.declared.entry.Entry.{Entry}
use Rattle.tao_base.specs.declared.entry.Origin.TheVariants.{Merge}
use Rattle.graph_model.specs.Edges.{edge_record}
use Rattle.graph_model.specs.Log.{entry_at}
use Rattle.tao_base.specs.Keys.{key_shard}
use Rattle.graph_model.specs.Records.{Agree, HasStamp, join}
use Rattle.write_model.specs.Merges.{AreCovered, JobSource, Stores, job_of, log_of, merge_entry, merge_of, source_number}
use Rattle.graph_model.specs.Soundness.{AreInOrder, CanFollow, EdgeUpdate, IsSound, IsSoundOf, IsNewOrigin}
use Rattle.write_model.specs.WriteLaws.{StaysSound}
use Rattle.write_model.specs.Writes.{same_edge, when}

-- the touches of an entry of the shard: in order, at no key twice, and on the shard
pub record IsEntryOf (shard : ℕ) (e : Entry) : Type 0 where
  pub ordered : ∥ AreInOrder e.touches ∥₁
  pub once : AllPairs (λ s t. s.key ≢ t.key) e.touches
  pub here : All (λ t. key_shard t.key ≡ shard) e.touches

-- an entry of one shard, of which all other ends that lie elsewhere lie on another one
pub record IsFarEntry (types : EdgeTypes) (from shard : ℕ) (e : Entry) : Type 0 where
  pub entry : IsEntryOf from e
  pub away : from ≢ shard
  pub there : All (λ u. shard_of u.0 ≡ shard) (job_of types e)

-- the job is new to the log, or all of it is there
abbrev pub IsNewOrDone : EdgeTypes → List Entry → JobSource → Type 0
IsNewOrDone types log owed = IsNewOrigin log (Merge owed.shard (source_number owed)) ⊎ All (HasStamp log) (job_of types owed.entry)

-- a job that may be merged on the log of the other shard
pub record IsMergeable (types : EdgeTypes) (log : List Entry) (owed : JobSource) : Type 0 where
  pub inverses : InversesMatch types
  pub sound : IsSoundOf types owed.other log
  pub far : IsFarEntry types owed.shard owed.other owed.entry
  pub origin : IsNewOrDone types log owed

-- nothing is merged exactly where all of the job is there
pub record MergesNothing (log : List Entry) : Type 0 where
  pub done : (types : EdgeTypes) (owed : JobSource) → merge_entry types log owed ≡ None → All (HasStamp log) (job_of types owed.entry)
  pub nothing : (types : EdgeTypes) (owed : JobSource) → All (HasStamp log) (job_of types owed.entry) → merge_entry types log owed ≡ None

-- the entry keeps the log sound and leaves all of the job there, and then nothing is left to merge
pub record IsMerged (types : EdgeTypes) (log : List Entry) (owed : JobSource) (m : Entry) : Type 0 where
  pub stays : StaysSound types owed.other log m
  pub done : All (HasStamp (log ++ m ∷ [])) (job_of types owed.entry)
  pub nothing : merge_entry types (log ++ m ∷ []) owed ≡ None

-- the entry that merges a job that may be merged keeps the log sound and leaves all of the job there
pub record MergeFollows (log : List Entry) : Type 0 where
  pub merges : (types : EdgeTypes) (owed : JobSource) (m : Entry) → IsMergeable types log owed → merge_entry types log owed ≡ Some m → IsMerged types log owed m

-- an entry of a sound log is far from where a record of its job lies
pub record JobsAreFar (from : ℕ) (source : List Entry) : Type 0 where
  pub far : (types : EdgeTypes) → IsSoundOf types from source → (place : ℕ) (e : Entry) (u : EdgeUpdate) → slice_get source place ≡ Some e
      → Contains (job_of types e) u → IsFarEntry types from (shard_of u.0) e

-- in sound and covered stores the job of an entry may be merged where its records lie, in the epoch of the entry's shard
pub record CoveredJobsMayMerge : Type 0 where
  pub may : (types : EdgeTypes) (stores : Stores) → InversesMatch types → ((shard : ℕ) → IsSoundOf types shard (log_of stores.logs shard))
      → AreCovered types stores → (from position : ℕ) (e : Entry) (u : EdgeUpdate) → entry_at (log_of stores.logs from) position ≡ Some e
      → Contains (job_of types e) u
      → IsMergeable types (log_of stores.logs (shard_of u.0)) (record { shard = from; epoch = stores.epochs.of from; entry = e; other = shard_of u.0 })

-- the log after the merge of a job
abbrev pub merged : EdgeTypes → List Entry → JobSource → List Entry
merged types log owed = log ++ option_to_list (merge_entry types log owed)

-- the log after merges of jobs, one after another
abbrev pub merged_in_turn : EdgeTypes → List Entry → List JobSource → List Entry
merged_in_turn types log jobs = fold (merged types) log jobs

-- of the records, those of the one edge, in their order
abbrev pub records_at : Id → AType → Id → List EdgeUpdate → List EdgeState
records_at id1 atype id2 us = filter_map (λ u. when (same_edge (id1, atype, id2, u.3) u) (Some u.3)) us

-- what jobs say of one edge
abbrev pub records_of : EdgeTypes → List JobSource → Id → AType → Id → List EdgeState
records_of types jobs id1 atype id2 = flat_map (λ job. records_at id1 atype id2 (job_of types job.entry)) jobs

-- the join of a record with others
abbrev pub join_all : Option EdgeState → List EdgeState → Option EdgeState
join_all found states = fold (λ old state. join old (Some state)) found states

-- jobs that may be merged on the log of the other shard, with one job under each shard and number
pub record AreMergeable (types : EdgeTypes) (shard : ℕ) (log : List Entry) (jobs : List JobSource) : Type 0 where
  pub inverses : InversesMatch types
  pub sound : IsSoundOf types shard log
  pub there : All (λ job. job.other ≡ shard) jobs
  pub far : All (λ job. IsFarEntry types job.shard shard job.entry) jobs
  pub origins : All (IsNewOrDone types log) jobs
  pub one : (job next : JobSource) → Contains jobs job → Contains jobs next → job.shard ≡ next.shard → source_number job ≡ source_number next → job ≡ next

-- jobs merged in turn keep the log sound and are all there, and each record is the join of the one before with theirs
pub record AreMerged (types : EdgeTypes) (shard : ℕ) (log : List Entry) (jobs : List JobSource) : Type 0 where
  pub sound : IsSoundOf types shard (merged_in_turn types log jobs)
  pub done : All (λ job. All (HasStamp (merged_in_turn types log jobs)) (job_of types job.entry)) jobs
  pub record_is : (id1 : Id) (atype : AType) (id2 : Id)
      → edge_record (merged_in_turn types log jobs) id1 atype id2 ≡ join_all (edge_record log id1 atype id2) (records_of types jobs id1 atype id2)

-- jobs that may be merged, in whatever order they come, join their records with the log's and leave it sound
pub record MergesJoin (shard : ℕ) (log : List Entry) : Type 0 where
  pub merges : (types : EdgeTypes) (jobs : List JobSource) → AreMergeable types shard log jobs → AreMerged types shard log jobs

-- of the edge's records, the log's and those of the jobs, two with one stamp are one
abbrev pub RecordsAgree : EdgeTypes → List Entry → List JobSource → Id → AType → Id → Type 0
RecordsAgree types log jobs id1 atype id2 = AllAgree (option_to_list (edge_record log id1 atype id2) ++ records_of types jobs id1 atype id2)
  where
    AllAgree : List EdgeState → Type 0
    AllAgree states = All (λ x. All (Agree x) states) states

-- jobs that are merged in another order, or more than once, leave the same record of each edge whose records agree
pub record OrderIsFree (shard : ℕ) (log : List Entry) : Type 0 where
  pub same : (types : EdgeTypes) (jobs others : List JobSource) → AreMergeable types shard log jobs
      → ((job : JobSource) → Contains jobs job ↔ Contains others job)
      → (id1 : Id) (atype : AType) (id2 : Id) → RecordsAgree types log jobs id1 atype id2
      → edge_record (merged_in_turn types log jobs) id1 atype id2 ≡ edge_record (merged_in_turn types log others) id1 atype id2

-- a cut, and then what is set in its place
abbrev pub IsCutThenLive : EdgeState → EdgeState → Type 0
IsCutThenLive (Cut stamp) (Live time payload later) = ⊤
IsCutThenLive (Cut stamp) (Cut later) = ⊥
IsCutThenLive (Live time payload stamp) state = ⊥

-- an edge is cut and set with another type, between the same ids
pub record IsMove (cut set : EdgeUpdate) : Type 0 where
  pub states : IsCutThenLive cut.3 set.3
  pub id1 : cut.0 ≡ set.0
  pub id2 : cut.2 ≡ set.2
  pub apart : Assocs cut.0 cut.1 ≢ Assocs set.0 set.1

-- the records of one entry's other ends: at most one, or a move
abbrev pub AreOfOneJob : List EdgeUpdate → Type 0
AreOfOneJob [] = ⊤
AreOfOneJob (u ∷ []) = ⊤
AreOfOneJob (cut ∷ set ∷ []) = IsMove cut set
AreOfOneJob (u ∷ v ∷ w ∷ us) = ⊥

-- the records of the other ends of another shard's entry, which are new to the log of this shard, or there
pub record MayBeMerged (shard : ℕ) (log : List Entry) (from number : ℕ) (us : List EdgeUpdate) : Type 0 where
  pub one : AreOfOneJob us
  pub here : All (λ u. shard_of u.0 ≡ shard) us
  pub there : All (λ u. shard_of u.2 ≡ from) us
  pub away : from ≢ shard
  pub origin : IsNewOrigin log (Merge from number) ⊎ All (HasStamp log) us

-- the entry that merges records which may be merged follows the log, keeps it sound of its shard, and leaves all of them there
pub record MergesFollow (shard : ℕ) (log : List Entry) (from number : ℕ) (us : List EdgeUpdate) (m : Entry) : Type 0 where
  pub follows : MayBeMerged shard log from number us → merge_of log from number us ≡ Some m → CanFollow log m
  pub stays : (types : EdgeTypes) → IsSoundOf types shard log → MayBeMerged shard log from number us → merge_of log from number us ≡ Some m
      → StaysSound types shard log m
  pub done : IsSound log → MayBeMerged shard log from number us → merge_of log from number us ≡ Some m → All (HasStamp (log ++ m ∷ [])) us

-- nothing is merged exactly where all of the records are there
pub record MergesNone (log : List Entry) (from number : ℕ) (us : List EdgeUpdate) : Type 0 where
  pub done : merge_of log from number us ≡ None → All (HasStamp log) us
  pub nothing : All (HasStamp log) us → merge_of log from number us ≡ None

-- where a job may be merged, its records may be, seen without the entry whose job it is
pub record JobsMayBeMerged : Type 0 where
  pub may : (types : EdgeTypes) (log : List Entry) (owed : JobSource) → IsMergeable types log owed
      → MayBeMerged owed.other log owed.shard (source_number owed) (job_of types owed.entry)
