-- What a keeper tells of its stores, and what calls do to it.
use Rattle.std.specs.Prelude.{◌≡◌, ◌≢◌, ◌≤◌, ◌<◌, ◌==◌, nat_le, if◌then◌else◌, ℕ, List, [], ◌∷◌, ◌++◌, length, take, drop, Option, Some, None, unwrap_or}
use Rattle.std.specs.Prelude.{is_some, IsSomeAnd, Result, MatchResult}
use Rattle.tao_base.specs.declared.entry.Entry.{Entry}
use Rattle.tao_base.specs.declared.entry.Origin.{Origin}
use Rattle.tao_base.specs.declared.id.StoreName.{StoreName}
use Rattle.graph_model.specs.Log.{entry_at}
use Rattle.graph_model.specs.Soundness.{EdgeUpdate, IsNewOrigin}
use Rattle.tao_keeper.specs.declared.jobs.Job.{Job}
use Rattle.tao_keeper.specs.declared.keeper.Opened.{Opened}
use Rattle.tao_keeper.specs.declared.keeper.Opened.TheVariants.{Ready, OtherLine}

-- the records of the open jobs, by position
abbrev pub Jobs : Type 0
Jobs = ℕ → Option (List EdgeUpdate)

-- what a promotion took away of the log of the old master's store: the epoch that it began, how many entries it left, and those that it took
pub record LostRow : Type 0 where
  pub epoch : ℕ
  pub length : ℕ
  pub entries : List Entry

-- the tables of one store: its log, of which so many first entries are old, the open jobs of its entries, the line that it was first opened with, what
-- promotions took away of its log, and, at the first region's store of a shard, that shard's epoch and master region, where it was ever promoted
pub record Table : Type 0 where
  pub log : List Entry
  pub cut : ℕ
  pub jobs : Jobs
  pub line : Option (List ℕ)
  pub lost : List LostRow
  pub role : Option (ℕ × ℕ)

-- the tables of all stores, each under the name of its store
abbrev pub Tables : Type 0
Tables = StoreName → Table

-- a store that was not opened yet
abbrev pub empty_table : Table
empty_table = record { log = []; cut = 0; jobs = λ position. None; line = None; lost = []; role = None }

-- each open job is of an entry of the log
pub record AreOfEntries (table : Table) : Type 0 where
  pub none_past : (position : ℕ) → length table.log < position → table.jobs position ≡ None

-- the log has the entries that are old
abbrev pub IsCutWithin : Table → Type 0
IsCutWithin table = table.cut ≤ length table.log

-- the live entry at a position: none up to the cut
abbrev pub live_entry : Table → ℕ → Option Entry
live_entry table position = if nat_le position table.cut then None else entry_at table.log position

-- the old entry at a position: none past the cut
abbrev pub old_entry : Table → ℕ → Option Entry
old_entry table position = if nat_le position table.cut then entry_at table.log position else None

-- no table changes
abbrev pub Stays : Tables → Tables → Type 0
Stays old new = (s : StoreName) → new s ≡ old s

-- one store's table becomes this, and no other changes
pub record Becomes (old new : Tables) (at : StoreName) (table : Table) : Type 0 where
  pub here : new at ≡ table
  pub others : (s : StoreName) → s ≢ at → new s ≡ old s

-- one store's table becomes this where the call succeeds, and a call that fails changes nothing
abbrev pub Changes : {T E : Type 0} → Result T E → Tables → Tables → StoreName → Table → Type 0
Changes result old new at table = MatchResult result (λ _. Becomes old new at table) (λ _. Stays old new)

-- the line that a store was first opened with, when it is now opened with this one
abbrev pub first_line : Table → List ℕ → List ℕ
first_line table line = unwrap_or table.line line

-- a store is ready where it is opened with the line of its first opening, and else answers that it has another line
abbrev pub OpensAs : Opened → Table → List ℕ → Type 0
OpensAs Ready table line = first_line table line ≡ line
OpensAs OtherLine table line = first_line table line ≢ line

-- the table after its store was opened with a line: the line of the first opening stays
abbrev pub after_open : Table → List ℕ → Table
after_open table line = record table { line = Some (first_line table line) }

-- the jobs with this one, or none, at the position
abbrev pub with_job : Jobs → ℕ → Option (List EdgeUpdate) → Jobs
with_job jobs position given p = if p == position then given else jobs p

-- the jobs with one that is opened, where there is one
abbrev pub with_new_job : Jobs → Option Job → Jobs
with_new_job jobs None = jobs
with_new_job jobs (Some job) = with_job jobs job.position (Some job.edges)

-- the job that owes these records, none where there are none
abbrev pub job_from : ℕ → List EdgeUpdate → Option Job
job_from position [] = None
job_from position (u ∷ us) = Some (record { position = position; edges = u ∷ us })

-- the table after an entry was committed, with the job that the entry opens, or none
abbrev pub after_commit : Table → Entry → Option Job → Table
after_commit table entry job = record table { log = table.log ++ entry ∷ []; jobs = with_new_job table.jobs job }

-- the first entries, so many, have become old
abbrev pub after_cut : Table → ℕ → Table
after_cut table upto = record table { cut = upto }

-- so many entries reach into the live part of the log, or to its beginning: no fewer than the old ones, and no more than there are
pub record ReachesLive (table : Table) (count : ℕ) : Type 0 where
  pub least : table.cut ≤ count
  pub within : count ≤ length table.log

-- the table after the open job of a position was ended
abbrev pub after_end : Table → ℕ → Table
after_end table position = record table { jobs = with_job table.jobs position None }

-- the open job of the position, or none
abbrev pub IsJobAt : Jobs → ℕ → Option Job → Type 0
IsJobAt jobs position None = jobs position ≡ None
IsJobAt jobs position (Some job) = (job.position ≡ position) × (jobs position ≡ Some job.edges)

-- the open job of the least position, or none where no job is open
abbrev pub IsLeastJob : Jobs → Option Job → Type 0
IsLeastJob jobs None = (position : ℕ) → jobs position ≡ None
IsLeastJob jobs (Some job) = (jobs job.position ≡ Some job.edges) × ((position : ℕ) → position < job.position → jobs position ≡ None)

-- where the entry of an origin stands: at that position, or nowhere
abbrev pub StandsAt : List Entry → Origin → Option ℕ → Type 0
StandsAt log origin (Some position) = IsSomeAnd (entry_at log position) (λ e. e.origin ≡ origin)
StandsAt log origin None = IsNewOrigin log origin

-- ---- promotions

-- the store that keeps the epoch and the master region of a shard: the first region's
abbrev pub role_store : ℕ → StoreName
role_store shard = record { region = 0; shard = shard }

-- the table after the epoch and the master region of its shard were stored
abbrev pub after_role : Table → ℕ → ℕ → Table
after_role table epoch region = record table { role = Some (epoch, region) }

-- the jobs with this one, unless one of its position is open
abbrev pub with_opened : Jobs → Job → Jobs
with_opened jobs job = if is_some (jobs job.position) then jobs else with_job jobs job.position (Some job.edges)

-- the table after a job was opened
abbrev pub after_job : Table → Job → Table
after_job table job = record table { jobs = with_opened table.jobs job }

-- the rows of what was lost, with one more where an epoch is given: that of the entries past the length
abbrev pub with_lost : Table → ℕ → Option ℕ → List LostRow
with_lost table len None = table.lost
with_lost table len (Some epoch) = table.lost ++ record { epoch = epoch; length = len; entries = drop len table.log } ∷ []

-- the jobs up to that position
abbrev pub jobs_within : Jobs → ℕ → Jobs
jobs_within jobs len position = if nat_le position len then jobs position else None

-- the table after its log was cut back to that length: what lay past it is gone, with its jobs
abbrev pub after_cut_back : Table → ℕ → Option ℕ → Table
after_cut_back table len epoch = record table { log = take len table.log; jobs = jobs_within table.jobs len; lost = with_lost table len epoch }
