-- A write that is under way on a cluster.
use Rattle.std.specs.Prelude.{ℕ, ◌≡◌, ◌≢◌, ◌≤◌, ◌<◌, ⊤, List, Option, None, Some, IfSome, IsSome, IsSomeAnd, IsTrue, Result, Ok, Err, length, slice_get}
use Rattle.cluster_writes.specs.declared.merging.CameOfMerge.{CameOfMerge}
use Rattle.cluster_writes.specs.declared.open.OpenWrite.{OpenWrite}
use Rattle.core_model.specs.Asked.{AuthoredWrite, client_call}
use Rattle.core_model.specs.Jobs.{far_shard}
use Rattle.core_model.specs.Serving.{IsFollowerFor, IsLeaderFor}
use Rattle.graph_model.specs.Soundness.{is_client}
use Rattle.graph_model.specs.Told.{WhereTold}
use Rattle.hop_count.specs.Hops.{hops_after}
use Rattle.locked_nodes.specs.Begun.{Begun, CountsHops, HasFailed}
use Rattle.locked_nodes.specs.Cluster.{MayFail, OnCluster}
use Rattle.locked_writes.specs.Writes.{CommitsIn, MergesSince, RefusesSeen, SeenWhereTold, StaysOpenFor}
use Rattle.log_names.specs.Names.{IsOfLog}
use Rattle.replies.specs.declared.calls.ScheduledWhy.{ScheduledWhy}
use Rattle.replies.specs.declared.calls.ScheduledWhy.TheVariants as why
use Rattle.replies.specs.declared.refusals.Refusal.{Refusal}
use Rattle.replies.specs.declared.refusals.Refusal.TheVariants.{Store}
use Rattle.replies.specs.declared.refusals.StoreRefused.TheVariants.{LinkFault}
use Rattle.replies.specs.declared.refusals.When.{When}
use Rattle.replies.specs.declared.refusals.When.TheVariants.{Before}
use Rattle.replies.specs.declared.reply.Reply.{Reply}
use Rattle.replies.specs.declared.reply.Reply.TheVariants.{Refused}
use Rattle.shard_log.specs.View.{Grows, View}
use Rattle.shard_tables.specs.Written.{AskedWrite, LiesOn, StandsIn}
use Rattle.shard_tables.specs.declared.writes.Wrote.{Wrote}
use Rattle.shared_stores.specs.Asked.{asked_of_seen}
use Rattle.shared_stores.specs.Owed.{IsDoneIn, IsOwedIn, owed_by}
use Rattle.tao_base.specs.Writes.{ChangesType, write_shard}
use Rattle.tao_base.specs.declared.entry.Entry.{Entry}
use Rattle.tao_keeper.specs.declared.jobs.Job.{Job}
use Rattle.tao_link.specs.Shown.{LinkShown}
use Rattle.tao_schema.specs.Schema.{types_of}
use Rattle.write_plan.specs.Committing.{has_inverse, kind_said}
use Rattle.write_plan.specs.Plans.{Writing, answered_entry, answered_job, when_of}
use Rattle.write_plan.specs.declared.committed.Committed.{Committed}
use Rattle.write_plan.specs.declared.progress.OtherEnd.TheVariants.{Due, Merged, Ended, Open}
use Rattle.write_plan.specs.declared.progress.WayBack.{WayBack}
use Rattle.write_plan.specs.declared.progress.WayBack.TheVariants.{Ahead, Relayed, Applied}
use Rattle.write_plan.specs.declared.results.CommitAnswer.{CommitAnswer}
use Rattle.write_plan.specs.declared.results.LeftOpen.{LeftOpen}
use Rattle.write_plan.specs.declared.results.LeftOpen.TheVariants as remains
use Rattle.write_plan.specs.declared.results.LeftOpen.TheVariants.{Scheduled}

-- what a write began with: what its pass had seen of the log of its shard, and of each shard's log, and the link's counts of carries and of faults
pub record Opening : Type 0 where
  pub seen : View
  pub notes : List View
  pub carries : ℕ
  pub faults : ℕ

-- a write that begins so
abbrev pub opening : View → List View → LinkShown → Opening
opening seen notes link = record { seen = seen; notes = notes; carries = link.carries; faults = link.faults }

-- how the call began
abbrev pub begun_by : Opening → Begun
begun_by begun = record { seen = begun.seen; carries = begun.carries; faults = begun.faults }

-- the link has failed since the write began
abbrev pub HasFailedSince : Opening → ℕ → Type 0
HasFailedSince begun faults = HasFailed (begun_by begun) faults

-- the write of a plan, under its origin
abbrev pub call_planned : Writing → AuthoredWrite
call_planned p = client_call p.origin p.write

-- the way back of a write isn't done
abbrev pub IsBeforeEnd : WayBack → Type 0
IsBeforeEnd Ahead = ⊤
IsBeforeEnd Relayed = ⊤
IsBeforeEnd Applied = ⊥

-- the notes for the way back of a write are there until they are handed out
pub record HasNotes (p : Writing) (c : Committed) : Type 0 where
  pub spare : p.refused ≡ None → IsBeforeEnd p.back → p.spare ≡ Some c.wrote.note
  pub relay : p.refused ≡ None → p.back ≡ Ahead → IfSome c.passed (λ _. p.relay ≡ Some c.wrote.note)

-- what the commit answered: the write has seen it, and has its notes
pub record IsCommitOf {M : Type 0} (on : OnCluster M) (begun : Opening) (w : OpenWrite) (c : Committed) : Type 0 where
  pub commits : CommitsIn on.tells on.making on.log (call_planned w.plan) begun.seen c.wrote
  pub sees : Grows c.wrote.note w.seen
  pub kind : kind_said w.plan.write c.wrote.entry ≡ Some c.kind
  pub paired : c.paired ≡ has_inverse (types_of on.making.settings.schema) w.plan.write
  pub leader : IsLeaderFor on.making.settings (write_shard w.plan.write) c.leader
  pub passed : IfSome c.passed (IsLeaderFor on.making.settings (write_shard w.plan.write))
  pub notes : HasNotes w.plan c

-- ---- its job

-- the job that the commit answered is owed, where its records lie on another shard, and its entry stands in what was seen
pub record OwesIn {M : Type 0} (on : OnCluster M) (p : Writing) (seen : View) : Type 0 where
  pub owed : (job : Job) (e : Entry) → answered_job p ≡ Some job → answered_entry p ≡ Some e → far_shard job ≢ write_shard p.write
      → IsOwedIn on.tells on.making on.log seen (owed_by (write_shard p.write) job e)

-- the job that the commit answered is done in what was seen of the log where it is owed
abbrev pub IsDoneThere : {M : Type 0} → OnCluster M → Writing → View → Type 0
IsDoneThere on p note = IfSome (answered_job p) (λ job. IfSome (answered_entry p) (λ e.
    IsDoneIn on.making on.log note (owed_by (write_shard p.write) job e)))

-- the job's records lie on another shard of the configuration, and the view is of its log, which is told where the keepers' tables are
pub record IsFarView {M : Type 0} (on : OnCluster M) (p : Writing) (view : View) (job : Job) : Type 0 where
  pub away : far_shard job ≢ write_shard p.write
  pub there : far_shard job < on.making.settings.shards
  pub log_is : IsOfLog on.log (far_shard job) view
  pub told_is : view.log.told ≡ on.tells

-- what was written where the job is owed has seen the job done, and what the pass had seen there; its entry stands there, and is what there was to merge
pub record IsWrittenThere {M : Type 0} (on : OnCluster M) (notes : List View) (p : Writing) (wrote : Wrote) : Type 0 where
  pub done : IsDoneThere on p wrote.note
  pub far : IfSome (answered_job p) (IsFarView on p wrote.note)
  pub since : IfSome (answered_job p) (λ job. IfSome (slice_get notes (far_shard job)) (λ own. Grows own wrote.note))
  pub stands : IfSome wrote.entry (StandsIn wrote.note)
  pub lies : IfSome (answered_job p) (λ job. IfSome wrote.entry (LiesOn wrote.note (far_shard job)))
  pub answers : IsSome (answered_entry p)
  pub merges : WhereTold on.tells (IfSome (answered_job p) (λ job. IsSomeAnd (slice_get notes (far_shard job))
      (λ own. MergesSince (write_shard p.write) job own.entries wrote.note.entries wrote.entry)))

-- why the job of a write stays open, where the link may have failed, and this was seen of the log where it is owed
abbrev pub IsLeftFor : {M : Type 0} → OnCluster M → Type 0 → Option View → ScheduledWhy → Type 0
IsLeftFor on failed far why.LinkFault = failed
IsLeftFor on failed far other = StaysOpenFor (MayFail on.state) on.making.settings.log_max far other

-- what was written where the job is owed is known, and the note of that is all that was seen there
pub record KnowsThere (w : OpenWrite) : Type 0 where
  pub other : IsSome w.plan.other
  pub alone : w.far ≡ None

-- how far the job of a write has come
pub record KnowsJob {M : Type 0} (on : OnCluster M) (begun : Opening) (faults : ℕ) (w : OpenWrite) : Type 0 where
  pub merged : w.plan.job ≡ Merged → IsSomeAnd w.done (IsDoneThere on w.plan)
  pub known : w.plan.job ≡ Merged → KnowsThere w
  pub ended : w.plan.job ≡ Ended → KnowsThere w
  pub other : IfSome w.plan.other (IsWrittenThere on begun.notes w.plan)
  pub left : (reason : ScheduledWhy) → w.plan.job ≡ Open reason → IsLeftFor on (HasFailedSince begun faults) w.far reason
  pub far : IfSome w.far (λ view. IfSome (answered_job w.plan) (IsFarView on w.plan view))
  pub none : answered_job w.plan ≡ None → w.plan.job ≡ Due

-- nothing of its job is done
pub record IsFresh (w : OpenWrite) : Type 0 where
  pub job : w.plan.job ≡ Due
  pub other : w.plan.other ≡ None
  pub far : w.far ≡ None

-- ---- how it is refused

-- what was seen of a write's log says so of the write, where that log is told
abbrev pub SeenIn : {M : Type 0} → OnCluster M → AuthoredWrite → View → (AskedWrite → Type 0) → Type 0
SeenIn on call seen = SeenWhereTold on.tells (asked_of_seen on.making (write_shard call.write) seen.entries call)

-- why a write is refused: the link failed, before its commit or after, when its entry stands; or it isn't committed, by what was seen of the log, since
-- keepers may fail, or for want of memory
abbrev pub IsRefusedFor : {M : Type 0} → OnCluster M → Opening → ℕ → OpenWrite → Refusal → Type 0
IsRefusedFor on begun faults w (Store (LinkFault count when)) = HasFailedSince begun faults × (when ≡ when_of (answered_entry w.plan))
IsRefusedFor on begun faults w refusal =
    (w.plan.committed ≡ None) × RefusesSeen (SeenIn on (call_planned w.plan) w.seen) (MayFail on.state) refusal

-- the reply refuses the write, for such a cause
abbrev pub RefusesOpen : {M : Type 0} → OnCluster M → Opening → ℕ → OpenWrite → Reply → Type 0
RefusesOpen on begun faults w (Refused refusal) = IsRefusedFor on begun faults w refusal
RefusesOpen on begun faults w other = ⊥

-- ---- on its way

-- a write on its way, with a note of its shard's log that has seen what its pass had, and all that its stages have; the link has failed so often
pub record IsWriteOf {M : Type 0} (on : OnCluster M) (begun : Opening) (faults : ℕ) (w : OpenWrite) : Type 0 where
  pub home : w.plan.region < length on.making.settings.regions
  pub here : write_shard w.plan.write < on.making.settings.shards
  pub follower : IsFollowerFor on.making.settings (write_shard w.plan.write) w.plan.follower
  pub changes : ChangesType (types_of on.making.settings.schema) w.plan.write
  pub client : IsTrue (is_client w.plan.origin)
  pub log_is : IsOfLog on.log (write_shard w.plan.write) w.seen
  pub grows : Grows begun.seen w.seen
  pub later : begun.faults ≤ faults
  pub fresh : w.plan.committed ≡ None → IsFresh w
  pub committed : IfSome w.plan.committed (IsCommitOf on begun w)
  pub job : KnowsJob on begun faults w
  pub refused : IfSome w.plan.refused (RefusesOpen on begun faults w)

-- a stage of a write, with so many carries, after which it is still on its way, and asks the same; the link has then failed so often
pub record StepsWrite {M : Type 0} (on : OnCluster M) (begun : Opening) (faults more : ℕ) (w v : OpenWrite) : Type 0 where
  pub write : IsWriteOf on begun faults v
  pub same : call_planned v.plan ≡ call_planned w.plan
  pub hops : v.plan.hops ≡ hops_after w.plan.hops more

-- a stage of a write without a carry, whenever that began, and however often the link has failed
pub record StepsAtOnce {M : Type 0} (on : OnCluster M) (w v : OpenWrite) : Type 0 where
  pub steps : (begun : Opening) (faults : ℕ) → IsWriteOf on begun faults w → StepsWrite on begun faults 0 w v

-- a write on its way that asks this, with the carries of all its stages
pub record IsUnderWay {M : Type 0} (on : OnCluster M) (begun : Opening) (call : AuthoredWrite) (link : LinkShown) (w : OpenWrite) : Type 0 where
  pub write : IsWriteOf on begun link.faults w
  pub same : call_planned w.plan ≡ call
  pub hops : CountsHops (begun_by begun) link.carries w.plan.hops

-- ---- what comes of its stages

-- what a commit answers, where this was seen before it, and this after it, with notes for the way back
pub record IsAnswerOf {M : Type 0} (on : OnCluster M) (call : AuthoredWrite) (from seen : View) (answer : CommitAnswer) : Type 0 where
  pub commits : CommitsIn on.tells on.making on.log call from answer.committed.wrote
  pub sees : Grows answer.committed.wrote.note seen
  pub kind : kind_said call.write answer.committed.wrote.entry ≡ Some answer.committed.kind
  pub paired : answer.committed.paired ≡ has_inverse (types_of on.making.settings.schema) call.write
  pub leader : IsLeaderFor on.making.settings (write_shard call.write) answer.committed.leader
  pub passed : IfSome answer.committed.passed (IsLeaderFor on.making.settings (write_shard call.write))
  pub spare : answer.spare ≡ answer.committed.wrote.note
  pub relay : IfSome answer.committed.passed (λ _. answer.relay ≡ Some answer.committed.wrote.note)

-- why a commit is refused, where the link may have failed, and this was then seen of the log
abbrev pub IsCommitRefused : {M : Type 0} → OnCluster M → AuthoredWrite → View → Type 0 → Refusal → Type 0
IsCommitRefused on call seen failed (Store (LinkFault count when)) = failed × (when ≡ Before)
IsCommitRefused on call seen failed refusal = RefusesSeen (SeenIn on call seen) (MayFail on.state) refusal

-- the reply refuses a commit, for such a cause
abbrev pub RefusesCommit : {M : Type 0} → OnCluster M → AuthoredWrite → View → Type 0 → Reply → Type 0
RefusesCommit on call seen failed (Refused refusal) = IsCommitRefused on call seen failed refusal
RefusesCommit on call seen failed other = ⊥

-- what a merge comes to, where the pass had seen this of each shard's log: what it wrote where the job is owed, or why the job stays open, where the link
-- may have failed
abbrev pub MergesSo : {M : Type 0} → OnCluster M → List View → Writing → Type 0 → CameOfMerge → Result Wrote LeftOpen → Type 0
MergesSo on notes p failed came (Ok wrote) = IsWrittenThere on notes p wrote × IsSomeAnd came.done (IsDoneThere on p) × (came.far ≡ None)
MergesSo on notes p failed came (Err (Scheduled reason wrote)) = IsLeftFor on failed came.far reason × IfSome wrote (IsWrittenThere on notes p)
MergesSo on notes p failed came (Err (remains.Refused reply)) = ⊥

-- what came of a merge, with notes of the log where the job is owed
pub record IsMergeOf {M : Type 0} (on : OnCluster M) (notes : List View) (p : Writing) (failed : Type 0) (came : CameOfMerge) : Type 0 where
  pub result : MergesSo on notes p failed came came.result
  pub far : IfSome came.far (λ view. IfSome (answered_job p) (IsFarView on p view))

-- why a job isn't ended
abbrev pub IsNotEnded : {M : Type 0} → OnCluster M → LeftOpen → Type 0
IsNotEnded on (Scheduled reason None) = StaysOpenFor (MayFail on.state) on.making.settings.log_max None reason
IsNotEnded on (Scheduled reason (Some wrote)) = ⊥
IsNotEnded on (remains.Refused reply) = ⊥

-- what the note of a commit has seen of its entry
pub record IsWayNote {M : Type 0} (on : OnCluster M) (p : Writing) (note : View) : Type 0 where
  pub log_is : IsOfLog on.log (write_shard p.write) note
  pub stands : IfSome (answered_entry p) (StandsIn note)
  pub lies : IfSome (answered_entry p) (LiesOn note (write_shard p.write))

-- the reply says that the link failed, and when
pub record IsLinkRefusal (failed : Type 0) (when : When) (reply : Reply) : Type 0 where
  pub count : ℕ
  pub reply_is : reply ≡ Refused (Store (LinkFault count when))
  pub rose : failed
