-- What the reply to a write promises.
use Rattle.std.specs.Prelude.{ℕ, ◌≡◌, ◌≤◌, ◌<◌, ◌⊎◌, ⊤, All, Bool, true, false, None, Option, Some, IfSome, IsSomeAnd, List, [], length, slice_get, take}
use Rattle.cluster_writes.specs.Learning.{LearnsIn}
use Rattle.cluster_writes.specs.Open.{IsWriteOf, Opening, begun_by, call_planned}
use Rattle.cluster_writes.specs.declared.open.OpenWrite.{OpenWrite}
use Rattle.core_model.specs.Asked.{AuthoredWrite}
use Rattle.core_model.specs.Jobs.{far_shard}
use Rattle.graph_model.specs.Log.{entry_at}
use Rattle.graph_model.specs.Records.{HasStamp}
use Rattle.graph_model.specs.Soundness.{EdgeUpdate}
use Rattle.graph_model.specs.Told.{WhereTold}
use Rattle.locked_nodes.specs.Begun.{Begun, CountsHops, HasFailed}
use Rattle.locked_nodes.specs.Cluster.{MayFail, OnCluster}
use Rattle.locked_writes.specs.Writes.{MergesSince, RefusesSeen, StandsOnce}
use Rattle.replies.specs.declared.calls.CallReply.TheVariants.{Write as OfWrite}
use Rattle.replies.specs.declared.calls.InverseEnd.TheVariants.{Scheduled, Written}
use Rattle.replies.specs.declared.calls.ScheduledWhy.{ScheduledWhy}
use Rattle.replies.specs.declared.calls.ScheduledWhy.TheVariants as why
use Rattle.replies.specs.declared.calls.WriteReply.{WriteReply}
use Rattle.replies.specs.declared.refusals.Refusal.{Refusal}
use Rattle.replies.specs.declared.refusals.Refusal.TheVariants.{Store}
use Rattle.replies.specs.declared.refusals.StoreRefused.TheVariants.{LinkFault}
use Rattle.replies.specs.declared.refusals.When.TheVariants.{After, Before}
use Rattle.replies.specs.declared.reply.Reply.{Reply}
use Rattle.replies.specs.declared.reply.Reply.TheVariants.{Called, Refused}
use Rattle.session_pass.specs.Floors.{LearnsTouches, learnt_touches}
use Rattle.session_pass.specs.Passes.{SeenPass}
use Rattle.shard_log.specs.View.{View}
use Rattle.shard_tables.specs.Written.{AskedWrite}
use Rattle.shared_stores.specs.Asked.{asked_of_seen}
use Rattle.shared_stores.specs.Making.{Making}
use Rattle.tao_base.specs.EdgeTypes.{EdgeTypes}
use Rattle.tao_base.specs.Ids.{shard_of}
use Rattle.tao_base.specs.Writes.{write_shard}
use Rattle.tao_base.specs.declared.entry.Entry.{Entry}
use Rattle.tao_base.specs.declared.id.Key.{Key}
use Rattle.tao_keeper.specs.declared.jobs.Job.{Job}
use Rattle.tao_link.specs.Shown.{LinkShown}
use Rattle.tao_schema.specs.Schema.{types_of}
use Rattle.write_model.specs.Merges.{job_of}
use Rattle.write_model.specs.Writes.{FitsWrite, forward_entry}
use Rattle.write_plan.specs.Plans.{next_of}
use Rattle.write_plan.specs.declared.stage.WriteStage.TheVariants.{Done}

-- ---- what was committed

-- the entry of the write: it fits the write, and no other entry of the log has its origin; where it is new, it stands past what was seen before
pub record IsEntryOf (begun : Begun) (call : AuthoredWrite) (log : List Entry) (retry : Bool) (e : Entry) : Type 0 where
  pub once : StandsOnce log call.origin e
  pub fits : FitsWrite e call.write
  pub new : retry ≡ false → length begun.seen.entries < e.position

-- at a beginning of the log that what was seen before begins, the write had nothing to change
pub record FindsNothingSince (m : Making) (begun : Begun) (call : AuthoredWrite) (log : List Entry) : Type 0 where
  pub n : ℕ
  pub since : length begun.seen.entries ≤ n
  pub nothing : forward_entry (types_of m.settings.schema) 0 (take n log) call.origin call.write ≡ None

-- what the reply says was written is so in what was seen of the shard's log
pub record WritesIn (m : Making) (begun : Begun) (call : AuthoredWrite) (log : List Entry) (told : WriteReply) : Type 0 where
  pub entry : told.written.changed ≡ true → IsSomeAnd (entry_at log told.written.position) (IsEntryOf begun call log told.written.retry)
  pub nothing : told.written.changed ≡ false → FindsNothingSince m begun call log

-- the pass has seen the shard's log so
abbrev pub HasSeen : SeenPass → ℕ → (View → Type 0) → Type 0
HasSeen pass shard P = IsSomeAnd (slice_get pass.notes shard) P

-- the entry that the reply names, in what the pass has seen of the write's shard
abbrev pub OfEntryTold : SeenPass → AuthoredWrite → WriteReply → (Entry → Type 0) → Type 0
OfEntryTold pass call told P = HasSeen pass (write_shard call.write) (λ b. IfSome (entry_at b.entries told.written.position) P)

-- what the pass has seen of the log of the record's shard has the record, or a later one
abbrev pub HasSeenRecord : SeenPass → EdgeUpdate → Type 0
HasSeenRecord pass u = HasSeen pass (shard_of u.0) (λ v. HasStamp v.entries u)

-- the log of the record's shard was seen to be full
abbrev pub HasSeenFull : Making → SeenPass → EdgeUpdate → Type 0
HasSeenFull m pass u = HasSeen pass (shard_of u.0) (λ v. m.settings.log_max ≤ length v.entries)

-- why an inverse is only scheduled. That no leader can be chosen is never the cause
abbrev pub IsScheduledFor : {M : Type 0} → OnCluster M → Begun → ℕ → SeenPass → AuthoredWrite → WriteReply → ScheduledWhy → Type 0
IsScheduledFor on begun faults pass call told why.LinkFault = HasFailed begun faults
IsScheduledFor on begun faults pass call told why.KeeperFault = MayFail on.state
IsScheduledFor on begun faults pass call told why.LogFull =
    WhereTold on.tells (OfEntryTold pass call told (λ e. All (HasSeenFull on.making pass) (job_of (types_of on.making.settings.schema) e)))
IsScheduledFor on begun faults pass call told why.Memory = ⊤
IsScheduledFor on begun faults pass call told why.NoServer = ⊥

-- ---- what is learnt

-- what the entry owes to another shard
abbrev pub owed_job : EdgeTypes → Entry → Job
owed_job types e = record { position = e.position; edges = job_of types e }

-- the session learns what a merge of the job wrote on the job's shard, if anything, on a beginning of that log which what its pass had seen begins
pub record LearnsMerge (from : ℕ) (job : Job) (old new : SeenPass) (floors : List (Key × ℕ)) : Type 0 where
  pub wrote : Option Entry
  pub merges : HasSeen old (far_shard job) (λ own. HasSeen new (far_shard job) (λ seen. MergesSince from job own.entries seen.entries wrote))
  pub learns : LearnsIn (far_shard job) wrote floors new.floors

-- the reply doesn't say of a new entry that what it owes is written
abbrev pub IsUnmerged : EdgeTypes → WriteReply → Entry → Type 0
IsUnmerged types told e = told.written.retry ≡ false → told.written.inverse ≡ Written → job_of types e ≡ []

-- the session learns what the entry of its write touches, and then what a merge of what it owes wrote; where that isn't said to be written, maybe nothing more
pub record LearnsWritten (types : EdgeTypes) (shard : ℕ) (old new : SeenPass) (told : WriteReply) (e : Entry) : Type 0 where
  pub between : List (Key × ℕ)
  pub here : LearnsTouches shard (learnt_touches e) old.floors between
  pub other : LearnsMerge shard (owed_job types e) old new between ⊎ (IsUnmerged types told e × (new.floors ≡ between))

-- ---- replies

-- a reply to a write that was carried out: what it says was written is so in what the pass has then seen; a new entry's inverse that it says is written is
-- there; why one is only scheduled; what the session learns, which is nothing where nothing was changed; and its hops are the carries
pub record AnswersWrite {M : Type 0} (on : OnCluster M) (begun : Begun) (call : AuthoredWrite) (old pass : SeenPass) (link : LinkShown) (told : WriteReply)
    : Type 0 where
  pub hops : CountsHops begun link.carries told.hops
  pub written : WhereTold on.tells (HasSeen pass (write_shard call.write) (λ b. WritesIn on.making begun call b.entries told))
  pub other : WhereTold on.tells (told.written.retry ≡ false → told.written.inverse ≡ Written
      → OfEntryTold pass call told (λ e. All (HasSeenRecord pass) (job_of (types_of on.making.settings.schema) e)))
  pub scheduled : (reason : ScheduledWhy) → told.written.inverse ≡ Scheduled reason → IsScheduledFor on begun link.faults pass call told reason
  pub learns : WhereTold on.tells (told.written.changed ≡ true
      → OfEntryTold pass call told (LearnsWritten (types_of on.making.settings.schema) (write_shard call.write) old pass told))
  pub nothing : told.written.changed ≡ false → pass.floors ≡ old.floors

-- the write's entry stands in what the pass has seen, at the position
abbrev pub HasSeenEntry : SeenPass → AuthoredWrite → ℕ → Type 0
HasSeenEntry pass call position =
    HasSeen pass (write_shard call.write) (λ b. IsSomeAnd (entry_at b.entries position) (λ e. (e.origin ≡ call.origin) × FitsWrite e call.write))

-- what the pass has seen of a write's log says so of the write, where that log is told
abbrev pub SeenByPass : {M : Type 0} → OnCluster M → AuthoredWrite → SeenPass → (AskedWrite → Type 0) → Type 0
SeenByPass on call pass P =
    WhereTold on.tells (HasSeen pass (write_shard call.write) (λ b. P (asked_of_seen on.making (write_shard call.write) b.entries call)))

-- a refusal of a write, with its cause, in what the pass has then seen
abbrev pub RefusesWrite : {M : Type 0} → OnCluster M → Begun → AuthoredWrite → SeenPass → ℕ → Refusal → Type 0
RefusesWrite on begun call pass faults (Store (LinkFault count Before)) = HasFailed begun faults
RefusesWrite on begun call pass faults (Store (LinkFault count (After position))) =
    HasFailed begun faults × WhereTold on.tells (HasSeenEntry pass call position)
RefusesWrite on begun call pass faults refusal = RefusesSeen (SeenByPass on call pass) (MayFail on.state) refusal

-- the reply to a write, which carried it out, or refuses it and teaches the session nothing
abbrev pub RepliesToWrite : {M : Type 0} → OnCluster M → Begun → AuthoredWrite → SeenPass → SeenPass → LinkShown → Reply → Type 0
RepliesToWrite on begun call old new link (Called (OfWrite told)) = AnswersWrite on begun call old new link told
RepliesToWrite on begun call old new link (Refused refusal) = RefusesWrite on begun call new link.faults refusal × (new.floors ≡ old.floors)
RepliesToWrite on begun call old new link other = ⊥

-- ---- a write that has ended

-- the write has no stage left, whatever it began with
pub record HasEnded {M : Type 0} (on : OnCluster M) (w : OpenWrite) : Type 0 where
  pub begun : Opening
  pub faults : ℕ
  pub write : IsWriteOf on begun faults w
  pub done : next_of w.plan ≡ Done

-- whatever the write began with that its session's pass had seen, the reply to it is right in what that has then seen
pub record EndsWrite {M : Type 0} (on : OnCluster M) (w : OpenWrite) (old new : SeenPass) (said : Reply) : Type 0 where
  pub replies : (begun : Opening) (link : LinkShown) → slice_get old.notes (write_shard w.plan.write) ≡ Some begun.seen → begun.notes ≡ old.notes
      → IsWriteOf on begun link.faults w → CountsHops (begun_by begun) link.carries w.plan.hops
      → RepliesToWrite on (begun_by begun) (call_planned w.plan) old new link said
