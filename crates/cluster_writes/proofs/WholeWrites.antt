-- A whole write: what its reply promises.
use Rattle.std.proofs.Common.{◌≡◌, ◌≢◌, ℕ, ◌≤◌, ◌<◌, ◌||◌, ◌⊎◌, Bool, true, false, List, [], Option, Some, None, inl, inr, refl, ap, sym, subst, ◌∙◌, arith}
use Rattle.std.proofs.lemmas.Bool.Decides.{nat_tests}
use Rattle.std.proofs.lemmas.List.Elements.{All-nil}
use Rattle.std.proofs.lemmas.Option.{get_or_from_slice_get}
use Rattle.std.specs.Prelude.{◌==◌, nat_le, if◌then◌else◌, All, IfSome, IsSome}
use Rattle.std.specs.Prelude.{IsSomeAnd, is_some, length, option_and_then, slice_get, slice_index_or, slice_set, unwrap_or}
use Rattle.core_model.proofs.Places.{set_get}
use Rattle.core_model.specs.Asked.{AuthoredWrite}
use Rattle.core_model.specs.Jobs.{far_shard}
use Rattle.graph_model.specs.Log.{entry_at}
use Rattle.graph_model.specs.Told.{WhereTold}
use Rattle.locked_nodes.proofs.Seeing.{one_some, some_and, some_parts}
use Rattle.locked_nodes.specs.Begun.{Begun, CountsHops, begun}
use Rattle.locked_nodes.specs.Cluster.{MayFail, OnCluster}
use Rattle.locked_nodes.specs.Passes.{SeesNote}
use Rattle.locked_writes.specs.Writes.{MergesSince, RefusesSeen, StandsOnce, StaysOpenFor}
use Rattle.log_names.specs.Names.{IsOfLog}
use Rattle.replies.specs.declared.calls.CallReply.TheVariants as called
use Rattle.replies.specs.declared.calls.InverseEnd.TheVariants as inverse
use Rattle.replies.specs.declared.calls.ScheduledWhy.{ScheduledWhy}
use Rattle.replies.specs.declared.calls.ScheduledWhy.TheVariants as why
use Rattle.replies.specs.declared.calls.WriteReply.{WriteReply}
use Rattle.replies.specs.declared.refusals.Refusal.{Refusal}
use Rattle.replies.specs.declared.refusals.Refusal.TheVariants.{Line, Plan, Session, Name, Node, Store, Memory}
use Rattle.replies.specs.declared.refusals.StoreRefused.TheVariants.{TooOld, SeqReused, ShardFull, StampFull, LogFull, KeeperFault, LinkFault, Unsettled}
use Rattle.replies.specs.declared.refusals.When.TheVariants.{After, Before}
use Rattle.replies.specs.declared.reply.Reply.{Reply}
use Rattle.replies.specs.declared.reply.Reply.TheVariants as reply
use Rattle.session_pass.specs.Floors.{LearnsTouches, learnt_touches}
use Rattle.session_pass.specs.Passes.{SeenPass, after_meeting}
use Rattle.shard_log.proofs.Beginnings.{begins-length}
use Rattle.shard_log.specs.View.{Grows, View, longer_view}
use Rattle.shard_tables.specs.Written.{AskedWrite, IsLogFull, IsReused, IsShardFull, IsStampFull, IsTooOld, StandsIn}
use Rattle.shard_tables.specs.declared.writes.Wrote.{Wrote}
use Rattle.shared_stores.specs.Asked.{asked_of_seen}
use Rattle.shared_stores.specs.Owed.{IsDoneIn, owed_by}
use Rattle.tao_base.specs.EdgeTypes.{EdgeTypes}
use Rattle.tao_base.specs.Ids.{shard_of}
use Rattle.tao_base.specs.Writes.{write_shard}
use Rattle.tao_base.specs.declared.entry.Entry.{Entry}
use Rattle.tao_base.specs.declared.id.Key.{Key}
use Rattle.tao_keeper.specs.declared.jobs.Job.{Job}
use Rattle.tao_link.specs.Shown.{LinkShown}
use Rattle.tao_schema.specs.Schema.{types_of}
use Rattle.write_model.specs.Merges.{job_of}
use Rattle.write_model.specs.Writes.{FitsWrite}
use Rattle.write_plan.specs.Plans.{answered_entry, answered_job, has_other, inverse_said, next_of, reply_after, reply_by, reply_of, stage_after}
use Rattle.write_plan.specs.Plans.{Writing, back_stage, job_stage, stage_from, when_of, written_by}
use Rattle.write_plan.specs.declared.committed.Committed.{Committed}
use Rattle.write_plan.specs.declared.progress.OtherEnd.TheVariants.{Due, Ended, Open}
use Rattle.write_plan.specs.declared.stage.WriteStage.TheVariants.{Done}
use Rattle.cluster_writes.proofs.LearntNotes.{elsewhere}
use Rattle.cluster_writes.proofs.StageLemmas.{if_map}
use Rattle.cluster_writes.proofs.ToldWrites.{entry_so, full_seen, is_ended, is_open, job_said, merges_seen, met_whole, records_seen, seen_so, writes_in}
use Rattle.cluster_writes.specs.Learning.{IsBegunWrite, LearnsIn, LearnsOf, LearnsOther, LearnsThere, carries_out, committed_entry, committed_view, if_apart}
use Rattle.cluster_writes.specs.Learning.{if_told, other_shard}
use Rattle.cluster_writes.specs.Open.{IsCommitOf, IsFarView, IsRefusedFor, IsUnderWay, IsWriteOf, IsWrittenThere, KnowsThere, Opening}
use Rattle.cluster_writes.specs.Open.{RefusesOpen, SeenIn, begun_by, call_planned, opening}
use Rattle.cluster_writes.specs.Replies.{AnswersWrite, EndsWrite, HasEnded, HasSeen, HasSeenEntry, HasSeenFull, HasSeenRecord, IsScheduledFor, IsUnmerged}
use Rattle.cluster_writes.specs.Replies.{LearnsMerge, LearnsWritten, OfEntryTold, RefusesWrite, RepliesToWrite, SeenByPass, WritesIn, owed_job}
use Rattle.cluster_writes.specs.declared.open.OpenWrite.{OpenWrite}

-- ---- values that may be there

pub if_at : {X : Type 0} (P : X → Type 0) (o : Option X) (x : X) → o ≡ Some x → IfSome o P → P x
if_at P o x at h = subst (λ q. IfSome q P) at h

pub if_each : {X : Type 0} (P : X → Type 0) (o : Option X) → ((x : X) → o ≡ Some x → P x) → IfSome o P
if_each P None h = tt
if_each P (Some x) h = h x refl

-- ---- the other shard

apart_is : (near far shards : ℕ) → far ≢ near → far < shards → if_apart near far shards ≡ Some far
apart_is near far shards away there = grind (arith, nat_tests)

-- another shard of the configuration, on which the records of the job lie
pub record IsApart (o : Option Job) (near shards k : ℕ) : Type 0 where
  pub job : Job
  pub job_is : o ≡ Some job
  pub far_is : k ≡ far_shard job
  pub away : k ≢ near
  pub there : k < shards

if_one : {X : Type 0} (a b : Bool) (x y : X) → (if a || b then None else Some x) ≡ Some y → (a ≡ false) × (b ≡ false) × (x ≡ y)
if_one true b x y h = absurd (cc)
if_one false true x y h = absurd (cc)
if_one false false x y h = (refl, refl, one_some x y h)

apart_parts : (near far shards k : ℕ) → if_apart near far shards ≡ Some k → (k ≡ far) × (k ≢ near) × (k < shards)
apart_parts near far shards k is =
    let p = if_one (far == near) (nat_le shards far) far k is in
    let one : far ≡ k = p.2 in
    let off : far == near ≡ false = p.0 in
    let low : nat_le shards far ≡ false = p.1 in
    (sym one, grind (arith, nat_tests), grind (arith, nat_tests))

apart_of : (o : Option Job) (near shards k : ℕ) → other_shard o near shards ≡ Some k → IsApart o near shards k
apart_of None near shards k is = absurd (let h : None ≡ Some k = is in cc)
apart_of (Some job) near shards k is =
    let p = apart_parts near (far_shard job) shards k is in
    record { job = job; job_is = refl; far_is = p.0; away = p.1; there = p.2 }

-- ---- what it has seen

-- what was seen of the other shard is of its log
pub record OtherViews {M : Type 0} (on : OnCluster M) (shard : Option ℕ) (other : Option Wrote) (far : Option View) : Type 0 where
  pub here : IfSome shard (λ k. k < on.making.settings.shards)
  pub log : IfSome shard (λ k. IfSome other (λ v. IsOfLog on.log k v.note))
  pub stands : IfSome other (λ v. IfSome v.entry (StandsIn v.note))
  pub seen : IfSome shard (λ k. IfSome far (IsOfLog on.log k))

module _ {M : Type 0} (on : OnCluster M) (begun : Opening) (faults : ℕ) (w : OpenWrite) (is : IsWriteOf on begun faults w) where
  other_log : (k : ℕ) (view : View) → IsApart (answered_job w.plan) (write_shard w.plan.write) on.making.settings.shards k
      → IfSome (answered_job w.plan) (IsFarView on w.plan view) → IsOfLog on.log k view
  other_log k view apart far =
      let at = if_at (IsFarView on w.plan view) (answered_job w.plan) apart.job apart.job_is far in
      subst (λ n. IsOfLog on.log n view) (sym apart.far_is) at.log_is

  other_views : OtherViews on (other_shard (answered_job w.plan) (write_shard w.plan.write) on.making.settings.shards) w.plan.other w.far
  other_views =
      let shard = other_shard (answered_job w.plan) (write_shard w.plan.write) on.making.settings.shards in
      let apart : (k : ℕ) → shard ≡ Some k → IsApart (answered_job w.plan) (write_shard w.plan.write) on.making.settings.shards k =
      apart_of (answered_job w.plan) (write_shard w.plan.write) on.making.settings.shards in
      record {
        here = if_each _ shard (λ k e. (apart k e).there);
        log = if_each _ shard (λ k e. if_each _ w.plan.other (λ v f.
            other_log k v.note (apart k e) (if_at (IsWrittenThere on begun.notes w.plan) w.plan.other v f is.job.other).far));
        stands = if_each _ w.plan.other (λ v f. (if_at (IsWrittenThere on begun.notes w.plan) w.plan.other v f is.job.other).stands);
        seen = if_each _ shard (λ k e. if_each _ w.far (λ v f.
            other_log k v (apart k e) (if_at (λ (view : View). IfSome (answered_job w.plan) (IsFarView on w.plan view)) w.far v f is.job.far)));
      }

-- the same, by what the code read
pub other_views_at : {M : Type 0} (on : OnCluster M) (w : OpenWrite) → HasEnded on w → (shard : Option ℕ)
    → shard ≡ other_shard (answered_job w.plan) (write_shard w.plan.write) on.making.settings.shards → (other : Option Wrote) → other ≡ w.plan.other
    → OtherViews on shard other w.far
other_views_at on w ended shard shard_is other other_is =
    let there : Option ℕ = other_shard (answered_job w.plan) (write_shard w.plan.write) on.making.settings.shards in
    subst (λ k. OtherViews on k other w.far) (sym shard_is) (subst (λ o. OtherViews on there o w.far) (sym other_is)
    (other_views on ended.begun ended.faults w ended.write))

-- ---- what is told

-- where nothing was written on another shard nothing is learnt there
unlearnt : (told : Bool) (shard : Option ℕ) (old new : List (Key × ℕ)) → LearnsThere told shard None old new → new ≡ old
unlearnt told None old new learns = learns
unlearnt told (Some k) old new learns = learns

-- what was learnt of a write that has ended
pub record LearntOf {M : Type 0} (on : OnCluster M) (w : OpenWrite) (told : Bool) (old mid new : SeenPass) : Type 0 where
  pub own : LearnsOf on.making on.log (write_shard w.plan.write) (if_told told (committed_entry w.plan.committed))
      (committed_view w.plan.committed w.seen) old mid
  pub other : LearnsOther on.making on.log told (other_shard (answered_job w.plan) (write_shard w.plan.write) on.making.settings.shards) w.plan.other w.far
      mid new
  pub nothing : told ≡ false → new.floors ≡ old.floors

untold : (told : Bool) (entry : Option Entry) → told ≡ false → if_told told entry ≡ None
untold told entry is = ap (λ b. if_told b entry) is

untaught : (told : Bool) (shard : Option ℕ) (other : Option Wrote) (old new : List (Key × ℕ)) → told ≡ false → LearnsThere told shard other old new
    → new ≡ old
untaught told None other old new is learns = learns
untaught told (Some k) None old new is learns = learns
untaught told (Some k) (Some w) old new is learns = subst (λ o. LearnsIn k o old new) (untold told w.entry is) learns

-- the same, by what the code read
pub learnt_at : {M : Type 0} (on : OnCluster M) (w : OpenWrite) (old mid new : SeenPass) (n : ℕ) → n ≡ write_shard w.plan.write
    → (told so : Bool) → told ≡ so → (committed : Option Committed) → committed ≡ w.plan.committed
    → (shard : Option ℕ) → shard ≡ other_shard (answered_job w.plan) (write_shard w.plan.write) on.making.settings.shards → (other : Option Wrote)
    → other ≡ w.plan.other → LearnsOf on.making on.log n (if_told told (committed_entry committed)) (committed_view committed w.seen) old mid
    → LearnsOther on.making on.log told shard other w.far mid new → LearntOf on w so old mid new
learnt_at on w old mid new n n_is told so told_is committed committed_is shard shard_is other other_is own far =
    let own_at = write_shard w.plan.write in
    let there : Option ℕ = other_shard (answered_job w.plan) own_at on.making.settings.shards in
    record {
      own =
          subst (λ (o : Option Committed). LearnsOf on.making on.log own_at (if_told so (committed_entry o)) (committed_view o w.seen) old mid) committed_is
          (subst (λ (b : Bool). LearnsOf on.making on.log own_at (if_told b (committed_entry committed)) (committed_view committed w.seen) old mid) told_is
          (subst (λ k. LearnsOf on.making on.log k (if_told told (committed_entry committed)) (committed_view committed w.seen) old mid) n_is own));
      other =
          subst (λ (o : Option Wrote). LearnsOther on.making on.log so there o w.far mid new) other_is
          (subst (λ (k : Option ℕ). LearnsOther on.making on.log so k other w.far mid new) shard_is
          (subst (λ (b : Bool). LearnsOther on.making on.log b shard other w.far mid new) told_is far));
      nothing = λ none.
          let none_told : told ≡ false = told_is ∙ none in
          untaught told shard other mid.floors new.floors none_told far.learns
          ∙ subst (λ o. LearnsIn n o old.floors mid.floors) (untold told (committed_entry committed) none_told) own.learns;
    }

module _ {M : Type 0} (on : OnCluster M) (begun : Opening) (link : LinkShown) (w : OpenWrite) (old mid new : SeenPass)
    (at : slice_get old.notes (write_shard w.plan.write) ≡ Some begun.seen) (had : begun.notes ≡ old.notes) (is : IsWriteOf on begun link.faults w) where
  own_apart : other_shard (answered_job w.plan) (write_shard w.plan.write) on.making.settings.shards ≢ Some (write_shard w.plan.write)
  own_apart e = (apart_of (answered_job w.plan) (write_shard w.plan.write) on.making.settings.shards (write_shard w.plan.write) e).away refl

  -- what the pass has seen of the write's shard in the end
  own_after : (told : Bool) → LearntOf on w told old mid new
      → slice_get new.notes (write_shard w.plan.write) ≡ Some (longer_view begun.seen (committed_view w.plan.committed w.seen))
  own_after told learnt =
      let shard = write_shard w.plan.write in
      let note : View = committed_view w.plan.committed w.seen in
      let index : slice_index_or old.notes shard note ≡ begun.seen = get_or_from_slice_get old.notes shard begun.seen note at in
      learnt.other.apart shard own_apart ∙ ap (λ (ns : List View). slice_get ns shard) learnt.own.notes
      ∙ ap (λ (v : View). slice_get (slice_set old.notes shard (longer_view v note)) shard) index
      ∙ set_get old.notes shard begun.seen (longer_view begun.seen note) at

  -- ---- a refusal

  module _ (own : slice_get new.notes (write_shard w.plan.write) ≡ Some (longer_view begun.seen (committed_view w.plan.committed w.seen))) where
    unmade_seen : w.plan.committed ≡ None → (P : AskedWrite → Type 0) → SeenIn on (call_planned w.plan) w.seen P → SeenByPass on (call_planned w.plan) new P
    unmade_seen none P h told =
        let there : slice_get new.notes (write_shard w.plan.write) ≡ Some (longer_view begun.seen w.seen) =
        own ∙ ap (λ o. Some (longer_view begun.seen (committed_view o w.seen))) none in
        seen_so new (write_shard w.plan.write) begun.seen w.seen
        (λ log. P (asked_of_seen on.making (write_shard w.plan.write) log (call_planned w.plan))) there is.grows (h told)

    refuses_plainly : (refusal : Refusal) → w.plan.committed ≡ None
        → RefusesSeen (SeenIn on (call_planned w.plan) w.seen) (MayFail on.state) refusal
        → RefusesSeen (SeenByPass on (call_planned w.plan) new) (MayFail on.state) refusal
    refuses_plainly (Store (TooOld cut position)) none h = unmade_seen none (λ asked. IsTooOld asked cut position) h
    refuses_plainly (Store (SeqReused position)) none h = unmade_seen none (λ asked. IsReused asked position) h
    refuses_plainly (Store (ShardFull serial)) none h = unmade_seen none (λ asked. IsShardFull asked serial) h
    refuses_plainly (Store (StampFull number)) none h = unmade_seen none (λ asked. IsStampFull asked number) h
    refuses_plainly (Store (LogFull count)) none h = unmade_seen none (λ asked. IsLogFull asked count) h
    refuses_plainly (Store (KeeperFault count)) none h = h
    refuses_plainly (Store (LinkFault count when)) none h = absurd h
    refuses_plainly (Store (Unsettled shard reason)) none h = absurd h
    refuses_plainly (Memory position) none h = h
    refuses_plainly (Node node) none h = absurd h
    refuses_plainly (Line line) none h = absurd h
    refuses_plainly (Plan plan) none h = absurd h
    refuses_plainly (Session session) none h = absurd h
    refuses_plainly (Name name) none h = absurd h

    after_seen : (position : ℕ) → After position ≡ when_of (answered_entry w.plan) → WhereTold on.tells (HasSeenEntry new (call_planned w.plan) position)
    after_seen position when_is told = by_commit w.plan.committed refl when_is
      where
        by_entry : (c : Committed) → w.plan.committed ≡ Some c → (o : Option Entry) → c.wrote.entry ≡ o → After position ≡ when_of o
            → HasSeenEntry new (call_planned w.plan) position
        by_entry c e None f h = absurd (let k : After position ≡ Before = h in cc)
        by_entry c e (Some entry) f h =
            let co = if_at (IsCommitOf on begun w) w.plan.committed c e is.committed in
            let once : StandsOnce c.wrote.note.entries w.plan.origin entry =
            if_at (StandsOnce c.wrote.note.entries w.plan.origin) c.wrote.entry entry f (co.commits.once told) in
            let fits : FitsWrite entry w.plan.write = if_at (λ x. FitsWrite x w.plan.write) c.wrote.entry entry f co.commits.fits in
            let place : entry.position ≡ position = (let k : After position ≡ After entry.position = h in cc) in
            let there : slice_get new.notes (write_shard w.plan.write) ≡ Some (longer_view begun.seen c.wrote.note) =
            own ∙ ap (λ o. Some (longer_view begun.seen (committed_view o w.seen))) e in
            seen_so new (write_shard w.plan.write) begun.seen c.wrote.note
            (λ log. IsSomeAnd (entry_at log position) (λ x. (x.origin ≡ w.plan.origin) × FitsWrite x w.plan.write)) there
            co.commits.grows
            (subst (λ n. IsSomeAnd (entry_at c.wrote.note.entries n) (λ x. (x.origin ≡ w.plan.origin) × FitsWrite x w.plan.write)) place
            (some_and (λ x. (x.origin ≡ w.plan.origin) × FitsWrite x w.plan.write) (entry_at c.wrote.note.entries entry.position) entry once.stands
            (once.origin_is, fits)))

        by_commit : (o : Option Committed) → w.plan.committed ≡ o → After position ≡ when_of (option_and_then (λ c. c.wrote.entry) o)
            → HasSeenEntry new (call_planned w.plan) position
        by_commit None e h = absurd (let k : After position ≡ Before = h in cc)
        by_commit (Some c) e h = by_entry c e c.wrote.entry refl h

    refuses : (refusal : Refusal) → IsRefusedFor on begun link.faults w refusal
        → RefusesWrite on (begun_by begun) (call_planned w.plan) new link.faults refusal
    refuses (Store (LinkFault count Before)) h = h.0
    refuses (Store (LinkFault count (After position))) h = (h.0, after_seen position h.1)
    refuses (Store (KeeperFault count)) h = refuses_plainly (Store (KeeperFault count)) h.0 h.1
    refuses (Store (TooOld cut position)) h = refuses_plainly (Store (TooOld cut position)) h.0 h.1
    refuses (Store (SeqReused position)) h = refuses_plainly (Store (SeqReused position)) h.0 h.1
    refuses (Store (ShardFull serial)) h = refuses_plainly (Store (ShardFull serial)) h.0 h.1
    refuses (Store (StampFull number)) h = refuses_plainly (Store (StampFull number)) h.0 h.1
    refuses (Store (LogFull count)) h = refuses_plainly (Store (LogFull count)) h.0 h.1
    refuses (Store (Unsettled shard reason)) h = refuses_plainly (Store (Unsettled shard reason)) h.0 h.1
    refuses (Memory position) h = refuses_plainly (Memory position) h.0 h.1
    refuses (Node node) h = refuses_plainly (Node node) h.0 h.1
    refuses (Line line) h = refuses_plainly (Line line) h.0 h.1
    refuses (Plan plan) h = refuses_plainly (Plan plan) h.0 h.1
    refuses (Session session) h = refuses_plainly (Session session) h.0 h.1
    refuses (Name name) h = refuses_plainly (Name name) h.0 h.1

    pub refused_write : (said : Reply) → RefusesOpen on begun link.faults w said → (carries_out said ≡ false → new.floors ≡ old.floors)
        → RepliesToWrite on (begun_by begun) (call_planned w.plan) old new link said
    refused_write (reply.Refused refusal) h nothing = (refuses refusal h, nothing refl)
    refused_write (reply.Called called) h nothing = absurd h
    refused_write reply.Configured h nothing = absurd h
    refused_write (reply.BadConfiguration field) h nothing = absurd h
    refused_write (reply.BadStores store position) h nothing = absurd h
    refused_write (reply.Opened session) h nothing = absurd h
    refused_write (reply.Plan plan) h nothing = absurd h
    refused_write (reply.Node node) h nothing = absurd h
    refused_write (reply.Settled logs) h nothing = absurd h
    refused_write (reply.Audited answer position) h nothing = absurd h

  -- ---- a write that was carried out

  module _ (c : Committed) (e : w.plan.committed ≡ Some c) (learnt : LearntOf on w true old mid new) where
    co : IsCommitOf on begun w c
    co = if_at (IsCommitOf on begun w) w.plan.committed c e is.committed

    own_there : slice_get new.notes (write_shard w.plan.write) ≡ Some (longer_view begun.seen c.wrote.note)
    own_there = own_after true learnt ∙ ap (λ o. Some (longer_view begun.seen (committed_view o w.seen))) e

    -- what is told where the commit answered this entry
    abbrev pub told_by : Option Entry → WriteReply
    told_by o = record {
      kind = c.kind;
      written = written_by c.wrote.retry (inverse_said (has_other c) w.plan.job) o;
      hops = w.plan.hops;
    }

    of_entry : (entry : Entry) (P : Entry → Type 0) → on.tells ≡ true → c.wrote.entry ≡ Some entry → P entry
        → OfEntryTold new (call_planned w.plan) (told_by (Some entry)) P
    of_entry entry P told f is_so =
        let once : StandsOnce c.wrote.note.entries w.plan.origin entry =
        if_at (StandsOnce c.wrote.note.entries w.plan.origin) c.wrote.entry entry f (co.commits.once told) in
        seen_so new (write_shard w.plan.write) begun.seen c.wrote.note (λ log. IfSome (entry_at log entry.position) P) own_there co.commits.grows
        (entry_so c.wrote.note.entries entry P once.stands is_so)

    job_is : (o : Option Job) → c.wrote.job ≡ o → answered_job w.plan ≡ o
    job_is o f = ap (λ (q : Option Committed). option_and_then (λ (x : Committed). x.wrote.job) q) e ∙ f

    entry_is : (o : Option Entry) → c.wrote.entry ≡ o → answered_entry w.plan ≡ o
    entry_is o f = ap (λ (q : Option Committed). option_and_then (λ (x : Committed). x.wrote.entry) q) e ∙ f

    -- the records that the entry owes lie on the other shard
    records_there : (job : Job) (entry : Entry) → on.tells ≡ true → c.wrote.job ≡ Some job → c.wrote.entry ≡ Some entry
        → far_shard job ≢ write_shard w.plan.write → All (λ u. shard_of u.0 ≡ far_shard job) (job_of (types_of on.making.settings.schema) entry)
    records_there job entry told f g away =
        let owes = if_at _ c.wrote.entry entry g (if_at _ c.wrote.job job f co.commits.owes) away in
        (owes.owes told).there

    other_is : (job : Job) → far_shard job ≢ write_shard w.plan.write → far_shard job < on.making.settings.shards → c.wrote.job ≡ Some job
        → other_shard (answered_job w.plan) (write_shard w.plan.write) on.making.settings.shards ≡ Some (far_shard job)
    other_is job away there f =
        ap (λ (o : Option Job). other_shard o (write_shard w.plan.write) on.making.settings.shards) (job_is (Some job) f)
        ∙ apart_is (write_shard w.plan.write) (far_shard job) on.making.settings.shards away there

    written : WhereTold on.tells (HasSeen new (write_shard w.plan.write)
        (λ b. WritesIn on.making (begun_by begun) (call_planned w.plan) b.entries (told_by c.wrote.entry)))
    written told =
        let answers = co.commits.answers told in
        seen_so new (write_shard w.plan.write) begun.seen c.wrote.note
        (λ log. WritesIn on.making (begun_by begun) (call_planned w.plan) log (told_by c.wrote.entry)) own_there co.commits.grows
        (writes_in on.making (begun_by begun) (call_planned w.plan) c.wrote.note.entries answers.n answers.since
        (begins-length begun.seen.entries c.wrote.note.entries co.commits.grows.begins) c.wrote.retry c.wrote.entry
        (inverse_said (has_other c) w.plan.job) c.kind w.plan.hops answers.answers (co.commits.once told) co.commits.fits)

    -- the inverse that is said to be written
    -- the pass has seen of the other shard just what the note of what was written there has
    whole_there : (job : Job) (wrote : Wrote) → c.wrote.job ≡ Some job → w.plan.other ≡ Some wrote → w.far ≡ None
        → IsSomeAnd (slice_get new.notes (far_shard job)) (λ v. v.entries ≡ wrote.note.entries)
    whole_there job wrote g h alone =
        let shard = write_shard w.plan.write in
        let there = if_at (IsWrittenThere on begun.notes w.plan) w.plan.other wrote h is.job.other in
        let far = if_at (IsFarView on w.plan wrote.note) (answered_job w.plan) job (job_is (Some job) g) there.far in
        let other = other_is job far.away far.there g in
        let sees : SeesNote (far_shard job) wrote.note new.notes =
        if_at (λ v. SeesNote (far_shard job) v.note new.notes) w.plan.other wrote h
        (if_at (λ k. IfSome w.plan.other (λ v. SeesNote k v.note new.notes)) _ (far_shard job) other learnt.other.wrote) in
        let met : new.notes ≡ after_meeting (far_shard job) wrote.note mid.notes =
        if_at (λ v. w.far ≡ None → new.notes ≡ after_meeting (far_shard job) v.note mid.notes) w.plan.other wrote h
        (if_at (λ k. IfSome w.plan.other (λ v. w.far ≡ None → new.notes ≡ after_meeting k v.note mid.notes)) _ (far_shard job) other learnt.other.alone)
        alone in
        let before : slice_get mid.notes (far_shard job) ≡ slice_get begun.notes (far_shard job) =
        ap (λ (ns : List View). slice_get ns (far_shard job)) learnt.own.notes ∙ elsewhere old.notes shard (far_shard job) _ far.away
        ∙ ap (λ (ns : List View). slice_get ns (far_shard job)) (sym had) in
        let since : IfSome (slice_get mid.notes (far_shard job)) (λ own. Grows own wrote.note) =
        subst (λ o. IfSome o (λ (own : View). Grows own wrote.note)) (sym before)
        (if_at (λ j. IfSome (slice_get begun.notes (far_shard j)) (λ (own : View). Grows own wrote.note)) (answered_job w.plan) job
        (job_is (Some job) g) there.since) in
        met_whole mid.notes new.notes (far_shard job) wrote.note met sees since

    ended_seen : (entry : Entry) (job : Job) → on.tells ≡ true → c.wrote.entry ≡ Some entry → c.wrote.job ≡ Some job → w.plan.job ≡ Ended
        → All (HasSeenRecord new) (job_of (types_of on.making.settings.schema) entry)
    ended_seen entry job told f g ended = let known : KnowsThere w = is.job.ended ended in by w.plan.other refl known.other known.alone
      where
        by : (o : Option Wrote) → w.plan.other ≡ o → IsSome o → w.far ≡ None → All (HasSeenRecord new) (job_of (types_of on.making.settings.schema) entry)
        by None h some alone = absurd (let e : false ≡ true = some in cc)
        by (Some wrote) h some alone =
            let there = if_at (IsWrittenThere on begun.notes w.plan) w.plan.other wrote h is.job.other in
            let far = if_at (IsFarView on w.plan wrote.note) (answered_job w.plan) job (job_is (Some job) g) there.far in
            let done : IsDoneIn on.making on.log wrote.note (owed_by (write_shard w.plan.write) job entry) =
            if_at (λ x. IsDoneIn on.making on.log wrote.note (owed_by (write_shard w.plan.write) job x)) (answered_entry w.plan) entry (entry_is (Some entry) f)
            (if_at (λ j. IfSome (answered_entry w.plan) (λ x. IsDoneIn on.making on.log wrote.note (owed_by (write_shard w.plan.write) j x)))
            (answered_job w.plan) job (job_is (Some job) g) there.done) in
            records_seen new (far_shard job) wrote.note (job_of (types_of on.making.settings.schema) entry) (whole_there job wrote g h alone)
            (records_there job entry told g f far.away) (done.done (far.told_is ∙ told))

    owed_seen : (entry : Entry) → on.tells ≡ true → c.wrote.entry ≡ Some entry → stage_after c w.plan.job w.plan.back ≡ Done → c.wrote.retry ≡ false
        → inverse_said (has_other c) w.plan.job ≡ inverse.Written → All (HasSeenRecord new) (job_of (types_of on.making.settings.schema) entry)
    owed_seen entry told f done fresh said = by c.wrote.job refl done
      where
        by : (o : Option Job) → c.wrote.job ≡ o
            → unwrap_or (option_and_then (λ _. job_stage w.plan.job) o)
            (back_stage c.passed w.plan.back) ≡ Done
            → All (HasSeenRecord new) (job_of (types_of on.making.settings.schema) entry)
        by None g h =
            let none : job_of (types_of on.making.settings.schema) entry ≡ [] =
            if_at (λ x. job_of (types_of on.making.settings.schema) x ≡ []) c.wrote.entry entry f (co.commits.paid fresh g) in
            subst (All (HasSeenRecord new)) (sym none) (All-nil (HasSeenRecord new))
        by (Some job) g h = ended_seen entry job told f g (is_ended c.passed job w.plan.back (has_other c) w.plan.job h said)

    other_told : stage_after c w.plan.job w.plan.back ≡ Done → (o : Option Entry) → c.wrote.entry ≡ o → WhereTold on.tells ((told_by o).written.retry ≡ false
        → (told_by o).written.inverse ≡ inverse.Written
        → OfEntryTold new (call_planned w.plan) (told_by o) (λ x. All (HasSeenRecord new) (job_of (types_of on.making.settings.schema) x)))
    other_told done None f told fresh said = absurd (let h : inverse.None ≡ inverse.Written = said in cc)
    other_told done (Some entry) f told fresh said =
        of_entry entry (λ x. All (HasSeenRecord new) (job_of (types_of on.making.settings.schema) x)) told f (owed_seen entry told f done fresh said)

    -- the inverse that is only scheduled
    full_there : (entry : Entry) (job : Job) (view : View) → on.tells ≡ true → c.wrote.entry ≡ Some entry → c.wrote.job ≡ Some job → w.far ≡ Some view
        → WhereTold view.log.told (on.making.settings.log_max ≤ length view.entries)
        → All (HasSeenFull on.making new) (job_of (types_of on.making.settings.schema) entry)
    full_there entry job view told f g h full =
        let far = if_at (IsFarView on w.plan view) (answered_job w.plan) job (job_is (Some job) g)
        (if_at (λ (v : View). IfSome (answered_job w.plan) (IsFarView on w.plan v)) w.far view h is.job.far) in
        let sees : SeesNote (far_shard job) view new.notes =
        if_at (λ v. SeesNote (far_shard job) v new.notes) w.far view h
        (if_at (λ k. IfSome w.far (λ v. SeesNote k v new.notes)) _ (far_shard job) (other_is job far.away far.there g) learnt.other.seen) in
        full_seen new (far_shard job) view sees (job_of (types_of on.making.settings.schema) entry)
        (records_there job entry told g f far.away) on.making (full (far.told_is ∙ told))

    full_owed : (entry : Entry) → on.tells ≡ true → c.wrote.entry ≡ Some entry → w.plan.job ≡ Open why.LogFull
        → All (HasSeenFull on.making new) (job_of (types_of on.making.settings.schema) entry)
    full_owed entry told f left = by c.wrote.job refl w.far refl (is.job.left why.LogFull left)
      where
        by : (o : Option Job) → c.wrote.job ≡ o → (v : Option View) → w.far ≡ v → StaysOpenFor (MayFail on.state) on.making.settings.log_max v why.LogFull
            → All (HasSeenFull on.making new) (job_of (types_of on.making.settings.schema) entry)
        by None g v h stays = absurd (let k : Open why.LogFull ≡ Due = sym left ∙ is.job.none (job_is None g) in cc)
        by (Some job) g None h stays = absurd stays
        by (Some job) g (Some view) h stays = full_there entry job view told f g h stays

    scheduled_for : (entry : Entry) → c.wrote.entry ≡ Some entry → (reason : ScheduledWhy) → w.plan.job ≡ Open reason
        → IsScheduledFor on (begun_by begun) link.faults new (call_planned w.plan) (told_by (Some entry)) reason
    scheduled_for entry f why.LinkFault left = is.job.left why.LinkFault left
    scheduled_for entry f why.KeeperFault left = is.job.left why.KeeperFault left
    scheduled_for entry f why.LogFull left =
        λ told. of_entry entry (λ x. All (HasSeenFull on.making new) (job_of (types_of on.making.settings.schema) x)) told f (full_owed entry told f left)
    scheduled_for entry f why.Memory left = tt
    scheduled_for entry f why.NoServer left = absurd (is.job.left why.NoServer left)

    scheduled_told : (o : Option Entry) → c.wrote.entry ≡ o → (reason : ScheduledWhy) → (told_by o).written.inverse ≡ inverse.Scheduled reason
        → IsScheduledFor on (begun_by begun) link.faults new (call_planned w.plan) (told_by o) reason
    scheduled_told None f reason said = absurd (let h : inverse.None ≡ inverse.Scheduled reason = said in cc)
    scheduled_told (Some entry) f reason said = scheduled_for entry f reason (is_open (has_other c) w.plan.job reason said)

    -- what the session learns: what was merged of its job
    merge_learnt : (entry : Entry) (job : Job) (wrote : Wrote) → on.tells ≡ true → c.wrote.entry ≡ Some entry → c.wrote.job ≡ Some job
        → w.plan.other ≡ Some wrote → LearnsMerge (write_shard w.plan.write) (owed_job (types_of on.making.settings.schema) entry) old new mid.floors
    merge_learnt entry job wrote told f g h =
        let own_at = write_shard w.plan.write in
        let there = if_at (IsWrittenThere on begun.notes w.plan) w.plan.other wrote h is.job.other in
        let far = if_at (IsFarView on w.plan wrote.note) (answered_job w.plan) job (job_is (Some job) g) there.far in
        let owes = if_at _ c.wrote.entry entry f (if_at _ c.wrote.job job g co.commits.owes) far.away in
        let sees : SeesNote (far_shard job) wrote.note new.notes =
        if_at (λ v. SeesNote (far_shard job) v.note new.notes) w.plan.other wrote h
        (if_at (λ k. IfSome w.plan.other (λ v. SeesNote k v.note new.notes)) _ (far_shard job) (other_is job far.away far.there g) learnt.other.wrote) in
        let since : IfSome (slice_get old.notes (far_shard job)) (λ own. Grows own wrote.note) =
        subst (λ (ns : List View). IfSome (slice_get ns (far_shard job)) (λ own. Grows own wrote.note)) had
        (if_at (λ j. IfSome (slice_get begun.notes (far_shard j)) (λ (own : View). Grows own wrote.note)) (answered_job w.plan) job
        (job_is (Some job) g) there.since) in
        let merges : HasSeen old (far_shard job) (λ own. MergesSince own_at job own.entries wrote.note.entries wrote.entry) =
        subst (λ (ns : List View). IsSomeAnd (slice_get ns (far_shard job)) (λ own. MergesSince own_at job own.entries wrote.note.entries wrote.entry)) had
        (if_at (λ j. IsSomeAnd (slice_get begun.notes (far_shard j)) (λ own. MergesSince own_at j own.entries wrote.note.entries wrote.entry))
        (answered_job w.plan) job (job_is (Some job) g) (there.merges told)) in
        let learns : LearnsThere true (Some (far_shard job)) (Some wrote) mid.floors new.floors =
        subst (λ o. LearnsThere true (Some (far_shard job)) o mid.floors new.floors) h
        (subst (λ o. LearnsThere true o w.plan.other mid.floors new.floors) (other_is job far.away far.there g) learnt.other.learns) in
        subst (λ j. LearnsMerge own_at j old new mid.floors)
        (job_said (types_of on.making.settings.schema) entry job (owes.owes told).position_is (owes.owes told).records_are)
        (record {
          wrote = wrote.entry;
          merges = merges_seen old new own_at job wrote.note wrote.entry merges since sees;
          learns = learns;
        })

    -- where nothing was merged nothing more is learnt
    other_unlearnt : w.plan.other ≡ None → new.floors ≡ mid.floors
    other_unlearnt none =
        unlearnt true (other_shard (answered_job w.plan) (write_shard w.plan.write) on.making.settings.shards) mid.floors new.floors
        (subst (λ o. LearnsThere true (other_shard (answered_job w.plan) (write_shard w.plan.write) on.making.settings.shards) o mid.floors new.floors) none
        learnt.other.learns)

    no_job_unlearnt : c.wrote.job ≡ None → new.floors ≡ mid.floors
    no_job_unlearnt none =
        subst (λ o. LearnsThere true (other_shard o (write_shard w.plan.write) on.making.settings.shards) w.plan.other mid.floors new.floors) (job_is None none)
        learnt.other.learns

    learns_other : (entry : Entry) → on.tells ≡ true → c.wrote.entry ≡ Some entry → stage_after c w.plan.job w.plan.back ≡ Done
        → LearnsMerge (write_shard w.plan.write) (owed_job (types_of on.making.settings.schema) entry) old new mid.floors
        ⊎ (IsUnmerged (types_of on.making.settings.schema) (told_by (Some entry)) entry × (new.floors ≡ mid.floors))
    learns_other entry told f done = by c.wrote.job refl w.plan.other refl done
      where
        by : (o : Option Job) → c.wrote.job ≡ o → (r : Option Wrote) → w.plan.other ≡ r
            → unwrap_or (option_and_then (λ _. job_stage w.plan.job) o) (back_stage c.passed w.plan.back) ≡ Done
            → LearnsMerge (write_shard w.plan.write) (owed_job (types_of on.making.settings.schema) entry) old new mid.floors
            ⊎ (IsUnmerged (types_of on.making.settings.schema) (told_by (Some entry)) entry × (new.floors ≡ mid.floors))
        by None g r h stage =
            inr (
              λ fresh said. if_at (λ x. job_of (types_of on.making.settings.schema) x ≡ []) c.wrote.entry entry f (co.commits.paid fresh g),
              no_job_unlearnt g,
            )
        by (Some job) g (Some wrote) h stage = inl (merge_learnt entry job wrote told f g h)
        by (Some job) g None h stage =
            inr (
              λ fresh said.
                  (let known : KnowsThere w = is.job.ended (is_ended c.passed job w.plan.back (has_other c) w.plan.job stage said) in
                  absurd (let e : false ≡ true = ap is_some (sym h) ∙ known.other in cc)),
              other_unlearnt h,
            )

    learns_entry : (entry : Entry) → on.tells ≡ true → c.wrote.entry ≡ Some entry → stage_after c w.plan.job w.plan.back ≡ Done
        → LearnsWritten (types_of on.making.settings.schema) (write_shard w.plan.write) old new (told_by (Some entry)) entry
    learns_entry entry told f done = record {
      between = mid.floors;
      here = subst (λ o. LearnsIn (write_shard w.plan.write) o old.floors mid.floors) (entry_is (Some entry) f) learnt.own.learns;
      other = learns_other entry told f done;
    }

    learns_told : stage_after c w.plan.job w.plan.back ≡ Done → (o : Option Entry) → c.wrote.entry ≡ o
        → WhereTold on.tells ((told_by o).written.changed ≡ true → OfEntryTold new (call_planned w.plan) (told_by o)
        (LearnsWritten (types_of on.making.settings.schema) (write_shard w.plan.write) old new (told_by o)))
    learns_told done None f told changed = absurd (let h : false ≡ true = changed in cc)
    learns_told done (Some entry) f told changed =
        of_entry entry (LearnsWritten (types_of on.making.settings.schema) (write_shard w.plan.write) old new (told_by (Some entry))) told f
        (learns_entry entry told f done)

    -- a write that changed nothing teaches nothing
    nothing_told : (o : Option Entry) → c.wrote.entry ≡ o → (told_by o).written.changed ≡ false → new.floors ≡ old.floors
    nothing_told (Some entry) f unchanged = absurd (let h : true ≡ false = unchanged in cc)
    nothing_told None f unchanged =
        other_none w.plan.other refl
        ∙ subst (λ o. LearnsIn (write_shard w.plan.write) o old.floors mid.floors) (entry_is None f) learnt.own.learns
      where
        other_none : (r : Option Wrote) → w.plan.other ≡ r → new.floors ≡ mid.floors
        other_none None h = other_unlearnt h
        other_none (Some wrote) h =
            let there = if_at (IsWrittenThere on begun.notes w.plan) w.plan.other wrote h is.job.other in
            absurd (let e : false ≡ true = ap is_some (sym (entry_is None f)) ∙ there.answers in cc)

    pub carried_out : stage_after c w.plan.job w.plan.back ≡ Done → CountsHops (begun_by begun) link.carries w.plan.hops
        → AnswersWrite on (begun_by begun) (call_planned w.plan) old new link (told_by c.wrote.entry)
    carried_out done hops = record {
      hops = hops;
      written = written;
      other = other_told done c.wrote.entry refl;
      scheduled = scheduled_told c.wrote.entry refl;
      learns = learns_told done c.wrote.entry refl;
      nothing = nothing_told c.wrote.entry refl;
    }

  -- ---- either

  pub replied : next_of w.plan ≡ Done → CountsHops (begun_by begun) link.carries w.plan.hops → (said : Reply) → reply_of w.plan ≡ Some said
      → LearntOf on w (carries_out said) old mid new → RepliesToWrite on (begun_by begun) (call_planned w.plan) old new link said
  replied done hops said said_is learnt = by w.plan.refused refl w.plan.committed refl done said_is
    where
      by : (r : Option Reply) → w.plan.refused ≡ r → (o : Option Committed) → w.plan.committed ≡ o → stage_from r o w.plan.job w.plan.back ≡ Done
          → reply_by r o w.plan.job w.plan.hops ≡ Some said → RepliesToWrite on (begun_by begun) (call_planned w.plan) old new link said
      by (Some refused) f o e stage is_said =
          let one : refused ≡ said = one_some refused said is_said in
          subst (λ x. RepliesToWrite on (begun_by begun) (call_planned w.plan) old new link x) one
          (refused_write (own_after (carries_out said) learnt) refused (if_at (RefusesOpen on begun link.faults w) w.plan.refused refused f is.refused)
          (λ none. learnt.nothing (ap carries_out (sym one) ∙ none)))
      by None f None e stage is_said = absurd (let h : None ≡ Some said = is_said in cc)
      by None f (Some c) e stage is_said =
          let one : reply_after c w.plan.job w.plan.hops ≡ said = one_some (reply_after c w.plan.job w.plan.hops) said is_said in
          let taught : LearntOf on w true old mid new = subst (λ (x : Reply). LearntOf on w (carries_out x) old mid new) (sym one) learnt in
          subst (λ x. RepliesToWrite on (begun_by begun) (call_planned w.plan) old new link x) one (carried_out c e taught stage hops)

-- ---- the whole write

-- what is so of the entry that the reply names
told_map : (pass : SeenPass) (call : AuthoredWrite) (told : WriteReply) (P Q : Entry → Type 0) → ((e : Entry) → P e → Q e) → OfEntryTold pass call told P
    → OfEntryTold pass call told Q
told_map pass call told P Q f is =
    let now = some_parts (λ (b : View). IfSome (entry_at b.entries told.written.position) P) (slice_get pass.notes (write_shard call.write)) is in
    some_and (λ (b : View). IfSome (entry_at b.entries told.written.position) Q) (slice_get pass.notes (write_shard call.write)) now.0 now.1
    (if_map (entry_at now.0.entries told.written.position) P Q f now.2)

-- what is learnt is so of what the session had learnt, and its pass had seen, whatever room that had
module _ (mid old new : SeenPass) (floors : mid.floors ≡ old.floors) (notes : mid.notes ≡ old.notes) where
  merge_before : (from : ℕ) (job : Job) (between : List (Key × ℕ)) → LearnsMerge from job mid new between → LearnsMerge from job old new between
  merge_before from job between is = record {
    wrote = is.wrote;
    merges = subst (λ (ns : List View). IsSomeAnd (slice_get ns (far_shard job))
        (λ own. HasSeen new (far_shard job) (λ seen. MergesSince from job own.entries seen.entries is.wrote))) notes is.merges;
    learns = is.learns;
  }

  learnt_before : (types : EdgeTypes) (shard : ℕ) (told : WriteReply) (e : Entry) → LearnsWritten types shard mid new told e
      → LearnsWritten types shard old new told e
  learnt_before types shard told e is = record {
    between = is.between;
    here = subst (λ (fs : List (Key × ℕ)). LearnsTouches shard (learnt_touches e) fs is.between) floors is.here;
    other = elim is.other [
      | inl merge ↦ inl (merge_before shard (owed_job types e) is.between merge)
      | inr none ↦ inr none
    ];
  }

-- a reply is right of what a pass began with, by the floors and notes of that
like_before : {M : Type 0} (on : OnCluster M) (from : Begun) (call : AuthoredWrite) (mid old new : SeenPass) (link : LinkShown) → mid.floors ≡ old.floors
    → mid.notes ≡ old.notes → (said : Reply) → RepliesToWrite on from call mid new link said → RepliesToWrite on from call old new link said
like_before on from call mid old new link same notes (reply.Called (called.Write told)) is = record {
  hops = is.hops;
  written = is.written;
  other = is.other;
  scheduled = is.scheduled;
  learns = λ tells changed. told_map new call told (LearnsWritten (types_of on.making.settings.schema) (write_shard call.write) mid new told)
      (LearnsWritten (types_of on.making.settings.schema) (write_shard call.write) old new told)
      (learnt_before mid old new same notes (types_of on.making.settings.schema) (write_shard call.write) told) (is.learns tells changed);
  nothing = λ unchanged. is.nothing unchanged ∙ same;
}
like_before on from call mid old new link same notes (reply.Called (called.Read told)) is = is
like_before on from call mid old new link same notes (reply.Refused refusal) is = (is.0, is.1 ∙ same)
like_before on from call mid old new link same notes reply.Configured is = is
like_before on from call mid old new link same notes (reply.BadConfiguration field) is = is
like_before on from call mid old new link same notes (reply.BadStores store position) is = is
like_before on from call mid old new link same notes (reply.Opened session) is = is
like_before on from call mid old new link same notes (reply.Plan plan) is = is
like_before on from call mid old new link same notes (reply.Node node) is = is
like_before on from call mid old new link same notes (reply.Settled logs) is = is
like_before on from call mid old new link same notes (reply.Audited answer position) is = is

-- a write that has no memory to begin teaches nothing
pub write_unbegun : {M : Type 0} (on : OnCluster M) (from : Begun) (call : AuthoredWrite) (old new : SeenPass) (link : LinkShown) (said : Reply)
    → said ≡ reply.Refused (Memory 0) → new ≡ record old { spare = new.spare } → RepliesToWrite on from call old new link said
write_unbegun on from call old new link said is same =
    subst (RepliesToWrite on from call old new link) (sym is) (refl, ap (λ (x : SeenPass). x.floors) same)

pub ends_write : {M : Type 0} (on : OnCluster M) (w : OpenWrite) (old mid new : SeenPass) → next_of w.plan ≡ Done → (said : Reply)
    → reply_of w.plan ≡ Some said → LearntOf on w (carries_out said) old mid new → EndsWrite on w old new said
ends_write on w old mid new done said said_is learnt = record {
  replies = λ begun link at had is hops. replied on begun link w old mid new at had is done hops said said_is learnt;
}

-- the same, of the call, whatever note the pass had
pub write_done : {M : Type 0} (on : OnCluster M) (call : AuthoredWrite) (old mid new : SeenPass) → mid ≡ record old { spare = mid.spare } → (first : View)
    → slice_get old.notes (write_shard call.write) ≡ Some first → (p : Writing) → IsBegunWrite on.making mid call p → (w : OpenWrite)
    → (before after : LinkShown) → IsUnderWay on (opening first mid.notes before) (call_planned p) after w → (said : Reply) → EndsWrite on w mid new said
    → (seen : View) → slice_get old.notes (write_shard call.write) ≡ Some seen → RepliesToWrite on (begun seen before) call old new after said
write_done on call old mid new room first at p made w before after under said ends seen there =
    let same : call_planned w.plan ≡ call = under.same ∙ ap call_planned made.plan_is in
    let notes : mid.notes ≡ old.notes = ap (λ (x : SeenPass). x.notes) room in
    let floors : mid.floors ≡ old.floors = ap (λ (x : SeenPass). x.floors) room in
    let own : slice_get mid.notes (write_shard w.plan.write) ≡ Some first =
    ap (λ (c : AuthoredWrite). slice_get mid.notes (write_shard c.write)) same ∙ ap (λ (ns : List View). slice_get ns (write_shard call.write)) notes ∙ at in
    let told : RepliesToWrite on (begun first before) (call_planned w.plan) mid new after said =
    ends.replies (opening first mid.notes before) after own refl under.write under.hops in
    like_before on (begun seen before) call mid old new after floors notes said
    (subst (λ (v : View). RepliesToWrite on (begun v before) call mid new after said) (one_some first seen (sym at ∙ there))
    (subst (λ (c : AuthoredWrite). RepliesToWrite on (begun first before) c mid new after said) same told))
