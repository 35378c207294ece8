-- What a client's write does to the log of its shard, and what it is answered with.
use Rattle.std.specs.Prelude.{ℕ, ◌+◌, ◌<◌, ◌≤◌, ◌≡◌, Bool, true, false, if◌then◌else◌, All, List, length, Option, Some, None, IsSomeAnd, Result, Ok, Err, ⊤}
use Rattle.tao_base.specs.EdgeTypes.{EdgeTypes}
use Rattle.tao_base.specs.Keys.{key_shard}
use Rattle.tao_base.specs.Writes.{write_kind}
use Rattle.tao_base.specs.declared.entry.Entry.{Entry}
use Rattle.tao_base.specs.declared.entry.Origin.{Origin}
use Rattle.tao_base.specs.declared.entry.Touch.{Touch}
use Rattle.tao_base.specs.declared.id.StoreName.{StoreName}
use Rattle.tao_base.specs.declared.write.Write.{Write}
use Rattle.tao_base.specs.declared.write.Write.TheVariants.{ObjAdd, ObjUpdate, ObjDelete, AssocAdd, AssocDelete, AssocChangeType}
use Rattle.graph_model.specs.Log.{entry_at}
use Rattle.graph_model.specs.Soundness.{IsNewOrigin}
use Rattle.graph_model.specs.Told.{WhereTold}
use Rattle.shard_log.specs.View.{View}
use Rattle.write_model.specs.Writes.{FitsWrite, forward_entry}
use Rattle.tao_keeper.specs.Table.{Table, Tables, Stays, Becomes, after_commit}
use Rattle.tao_keeper.specs.declared.jobs.Job.{Job}
use Rattle.write_touches.specs.Touching.{lacks_serial, lacks_stamp}
use Rattle.shard_tables.specs.declared.refusal.StoreRefusal.{StoreRefusal}
use Rattle.shard_tables.specs.declared.refusal.StoreRefusal.TheVariants.{KeeperFault, LogFull, ShardFull, StampFull, TooOld, SeqReused, OutOfMemory}
use Rattle.shard_tables.specs.declared.writes.Wrote.{Wrote}

-- a write that is asked of a log, of which so many entries are old: by these types, with so many entries at most, in the shard's epoch, under this origin
pub record AskedWrite : Type 0 where
  pub types : EdgeTypes
  pub most : ℕ
  pub epoch : ℕ
  pub log : List Entry
  pub cut : ℕ
  pub origin : Origin
  pub write : Write

-- the write that is asked of a table's log: by these types, with so many entries at most, in the shard's epoch, under this origin
abbrev pub asked_write : EdgeTypes → ℕ → ℕ → Table → Origin → Write → AskedWrite
asked_write types most epoch table origin write =
    record { types = types; most = most; epoch = epoch; log = table.log; cut = table.cut; origin = origin; write = write }

-- the entry at the position has the origin of the write
pub record StandsAs (asked : AskedWrite) (position : ℕ) (entry : Entry) : Type 0 where
  pub stands : entry_at asked.log position ≡ Some entry
  pub origin_is : entry.origin ≡ asked.origin

-- the entry of the write's origin is an old one, at the position, at or below the cut
pub record IsTooOld (asked : AskedWrite) (cut position : ℕ) : Type 0 where
  pub cut_is : cut ≡ asked.cut
  pub old : position ≤ asked.cut
  pub stands : IsSomeAnd (entry_at asked.log position) (λ e. e.origin ≡ asked.origin)

-- the write was made before: the entry of its origin is a live one, and fits it
pub record IsRetry (asked : AskedWrite) (entry : Entry) : Type 0 where
  pub position : ℕ
  pub live : asked.cut < position
  pub stands : StandsAs asked position entry
  pub fits : FitsWrite entry asked.write

-- the write's origin is that of another write's entry, a live one at the position, which this write could not have made
pub record IsReused (asked : AskedWrite) (position : ℕ) : Type 0 where
  pub live : asked.cut < position
  pub entry : Entry
  pub stands : StandsAs asked position entry
  pub differs : ¬ FitsWrite entry asked.write

-- the write is new, and finds nothing to change
pub record FindsNothing (asked : AskedWrite) : Type 0 where
  pub new : IsNewOrigin asked.log asked.origin
  pub nothing : forward_entry asked.types asked.epoch asked.log asked.origin asked.write ≡ None

-- the write is new, and the object that it would add has no serial; the one named is the last, 2^48 - 1
pub record IsShardFull (asked : AskedWrite) (serial : ℕ) : Type 0 where
  pub new : IsNewOrigin asked.log asked.origin
  pub full : lacks_serial asked.log asked.write ≡ true
  pub serial_is : serial ≡ 281474976710655

-- the write is new, and a record at id1 that it would stamp has no next stamp; the number named is the last, 2^62 - 1
pub record IsStampFull (asked : AskedWrite) (number : ℕ) : Type 0 where
  pub new : IsNewOrigin asked.log asked.origin
  pub full : lacks_stamp asked.log asked.write ≡ true
  pub number_is : number ≡ 4611686018427387903

-- the write is new, changes something, and has its serial and its stamps
pub record IsNext (asked : AskedWrite) (entry : Entry) : Type 0 where
  pub new : IsNewOrigin asked.log asked.origin
  pub forward : forward_entry asked.types asked.epoch asked.log asked.origin asked.write ≡ Some entry
  pub serial : lacks_serial asked.log asked.write ≡ false
  pub stamps : lacks_stamp asked.log asked.write ≡ false

-- the write has an entry to add, and the log no room for it; the count is the log's length
pub record IsLogFull (asked : AskedWrite) (count : ℕ) : Type 0 where
  pub entry : Entry
  pub next : IsNext asked entry
  pub full : asked.most ≤ length asked.log
  pub count_is : count ≡ length asked.log

-- the write adds the entry, for which the log has room
pub record IsAdded (asked : AskedWrite) (entry : Entry) : Type 0 where
  pub next : IsNext asked entry
  pub room : length asked.log < asked.most

-- what an answer that names an entry or none, as a retry or not, says
abbrev pub AnswersAs : AskedWrite → Bool → Option Entry → Type 0
AnswersAs asked true (Some entry) = IsRetry asked entry
AnswersAs asked true None = ⊥
AnswersAs asked false (Some entry) = IsAdded asked entry
AnswersAs asked false None = FindsNothing asked

-- what the answer of a write says of the log before it
abbrev pub WriteAnswers : AskedWrite → Result Wrote StoreRefusal → Type 0
WriteAnswers asked (Ok wrote) = AnswersAs asked wrote.retry wrote.entry
WriteAnswers asked (Err (TooOld cut position)) = IsTooOld asked cut position
WriteAnswers asked (Err (SeqReused position)) = IsReused asked position
WriteAnswers asked (Err (ShardFull serial)) = IsShardFull asked serial
WriteAnswers asked (Err (StampFull number)) = IsStampFull asked number
WriteAnswers asked (Err (LogFull count)) = IsLogFull asked count
WriteAnswers asked (Err KeeperFault) = ⊤
WriteAnswers asked (Err OutOfMemory) = ⊤

-- the entry that the write added, by its answer
abbrev pub added_entry : Result Wrote StoreRefusal → Option Entry
added_entry (Ok wrote) = if wrote.retry then None else wrote.entry
added_entry (Err refusal) = None

-- the store's log gains the entry, where there is one, with its job, and nothing else changes
abbrev pub TableGains : Tables → Tables → StoreName → Option Entry → Option Job → Type 0
TableGains old new at None job = Stays old new
TableGains old new at (Some entry) job = Becomes old new at (after_commit (old at) entry job)

-- the entry of a write that makes these touches after so many entries
abbrev pub made_entry : ℕ → Origin → Write → List Touch → Entry
made_entry count origin write touches = record { position = count + 1; kind = write_kind write; origin = origin; touches = touches }

-- an object that is added has its entry
abbrev pub HasEntry : Write → Option Entry → Type 0
HasEntry (ObjAdd shard otype payload) None = ⊥
HasEntry (ObjAdd shard otype payload) (Some entry) = ⊤
HasEntry (ObjUpdate id payload) entry = ⊤
HasEntry (ObjDelete id) entry = ⊤
HasEntry (AssocAdd id1 atype id2 time payload) entry = ⊤
HasEntry (AssocDelete id1 atype id2) entry = ⊤
HasEntry (AssocChangeType id1 atype id2 newtype) entry = ⊤

-- where the log is told, the entry stands at its own position in what was seen
abbrev pub StandsIn : View → Entry → Type 0
StandsIn seen entry = WhereTold seen.log.told (entry_at seen.entries entry.position ≡ Some entry)

-- where the log is told, each key that the entry touches lies on the shard
abbrev pub LiesOn : View → ℕ → Entry → Type 0
LiesOn seen shard entry = WhereTold seen.log.told (All (λ t. key_shard t.key ≡ shard) entry.touches)
