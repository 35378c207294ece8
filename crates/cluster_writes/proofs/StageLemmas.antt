-- Which stage of a write is next, and what its stages come to.
use Rattle.std.proofs.Common.{◌≡◌, ◌≤◌, ◌<◌, List, Bool, true, false, Option, Some, None, refl, ap, sym, subst, ◌∙◌, arith}
use Rattle.std.specs.Prelude.{◌≢◌, ⊤, IfSome, IsSome, IsSomeAnd, is_some, length, option_and_then, slice_get, unwrap_or}
use Rattle.cluster_writes.specs.Open.{IsBeforeEnd, IsDoneThere, IsLeftFor, OwesIn}
use Rattle.core_model.specs.Asked.{AuthoredWrite}
use Rattle.core_model.specs.Jobs.{far_shard}
use Rattle.graph_model.specs.Told.{WhereTold}
use Rattle.locked_nodes.proofs.Seeing.{some_and}
use Rattle.locked_nodes.specs.Cluster.{MayFail, OnCluster}
use Rattle.locked_writes.specs.Writes.{CommitsIn, MergesSince, StaysOpenFor}
use Rattle.node_name.specs.declared.NodeName.{NodeName}
use Rattle.replies.specs.declared.calls.ScheduledWhy.{ScheduledWhy}
use Rattle.replies.specs.declared.calls.ScheduledWhy.TheVariants as why
use Rattle.replies.specs.declared.reply.Reply.{Reply}
use Rattle.shard_log.proofs.Beginnings.{begins-length}
use Rattle.shard_log.proofs.GrowthLemmas.{entry_stays, grows-trans}
use Rattle.shard_log.specs.View.{Grows, LogName, View}
use Rattle.shard_tables.specs.Written.{StandsIn}
use Rattle.shard_tables.specs.declared.writes.Wrote.{Wrote}
use Rattle.shared_stores.specs.Making.{Making}
use Rattle.shared_stores.specs.Owed.{IsDoneIn, IsOwedIn, Owed, owed_by}
use Rattle.log_names.specs.Names.{LogNames}
use Rattle.tao_base.specs.Writes.{write_shard}
use Rattle.tao_base.specs.declared.entry.Entry.{Entry}
use Rattle.tao_keeper.specs.declared.jobs.Job.{Job}
use Rattle.write_plan.specs.Plans.{Writing, answered_entry, answered_job, back_stage, job_stage, next_of, stage_from}
use Rattle.write_plan.specs.declared.committed.Committed.{Committed}
use Rattle.write_plan.specs.declared.progress.OtherEnd.{OtherEnd}
use Rattle.write_plan.specs.declared.progress.OtherEnd.TheVariants.{Due, Merged, Ended, Open}
use Rattle.write_plan.specs.declared.progress.WayBack.{WayBack}
use Rattle.write_plan.specs.declared.progress.WayBack.TheVariants.{Ahead, Relayed, Applied}
use Rattle.write_plan.specs.declared.stage.WriteStage.{WriteStage}
use Rattle.write_plan.specs.declared.stage.WriteStage.TheVariants as stage

-- ---- which stage is next

-- what stands where this stage follows a commit
abbrev pub IsOfStage : Option Job → Option NodeName → OtherEnd → WayBack → WriteStage → Type 0
IsOfStage jobs passed job back stage.Commit = ⊥
IsOfStage jobs passed job back stage.Inverse = IsSome jobs × (job ≡ Due)
IsOfStage jobs passed job back stage.End = IsSome jobs × (job ≡ Merged)
IsOfStage jobs passed job back stage.Relay = IsSome passed × (back ≡ Ahead)
IsOfStage jobs passed job back stage.Apply = IsBeforeEnd back
IsOfStage jobs passed job back stage.Done = ⊤

of_stage : (jobs : Option Job) (passed : Option NodeName) (job : OtherEnd) (back : WayBack)
    → IsOfStage jobs passed job back (unwrap_or (option_and_then (λ _. job_stage job) jobs) (back_stage passed back))
of_stage None None job Ahead = tt
of_stage None (Some leader) job Ahead = (refl, refl)
of_stage None None job Relayed = tt
of_stage None (Some leader) job Relayed = tt
of_stage None None job Applied = tt
of_stage None (Some leader) job Applied = tt
of_stage (Some j) passed Due back = (refl, refl)
of_stage (Some j) passed Merged back = (refl, refl)
of_stage (Some j) None Ended Ahead = tt
of_stage (Some j) (Some leader) Ended Ahead = (refl, refl)
of_stage (Some j) None Ended Relayed = tt
of_stage (Some j) (Some leader) Ended Relayed = tt
of_stage (Some j) None Ended Applied = tt
of_stage (Some j) (Some leader) Ended Applied = tt
of_stage (Some j) None (Open reason) Ahead = tt
of_stage (Some j) (Some leader) (Open reason) Ahead = (refl, refl)
of_stage (Some j) None (Open reason) Relayed = tt
of_stage (Some j) (Some leader) (Open reason) Relayed = tt
of_stage (Some j) None (Open reason) Applied = tt
of_stage (Some j) (Some leader) (Open reason) Applied = tt

-- a write that was committed, and is not refused, where this stage is next
pub record IsGoing (refused : Option Reply) (committed : Option Committed) (job : OtherEnd) (back : WayBack) (s : WriteStage) : Type 0 where
  pub going : refused ≡ None
  pub c : Committed
  pub is : committed ≡ Some c
  pub at : IsOfStage c.wrote.job c.passed job back s

-- what stands where this stage is next
abbrev pub IsAtStage : Option Reply → Option Committed → OtherEnd → WayBack → WriteStage → Type 0
IsAtStage refused committed job back stage.Commit = (refused ≡ None) × (committed ≡ None)
IsAtStage refused committed job back stage.Inverse = IsGoing refused committed job back stage.Inverse
IsAtStage refused committed job back stage.End = IsGoing refused committed job back stage.End
IsAtStage refused committed job back stage.Relay = IsGoing refused committed job back stage.Relay
IsAtStage refused committed job back stage.Apply = IsGoing refused committed job back stage.Apply
IsAtStage refused committed job back stage.Done = ⊤

at_going : (c : Committed) (job : OtherEnd) (back : WayBack) (s : WriteStage) → IsOfStage c.wrote.job c.passed job back s
    → IsAtStage None (Some c) job back s
at_going c job back stage.Commit at = absurd at
at_going c job back stage.Inverse at = record { going = refl; c = c; is = refl; at = at }
at_going c job back stage.End at = record { going = refl; c = c; is = refl; at = at }
at_going c job back stage.Relay at = record { going = refl; c = c; is = refl; at = at }
at_going c job back stage.Apply at = record { going = refl; c = c; is = refl; at = at }
at_going c job back stage.Done at = tt

at_stage : (refused : Option Reply) (committed : Option Committed) (job : OtherEnd) (back : WayBack)
    → IsAtStage refused committed job back (stage_from refused committed job back)
at_stage (Some said) committed job back = tt
at_stage None None job back = (refl, refl)
at_stage None (Some c) job back =
    at_going c job back (unwrap_or (option_and_then (λ _. job_stage job) c.wrote.job) (back_stage c.passed back)) (of_stage c.wrote.job c.passed job back)

-- where a plan stands whose next stage is this
pub stands_at : (p : Writing) (s : WriteStage) → next_of p ≡ s → IsAtStage p.refused p.committed p.job p.back s
stands_at p s is = subst (IsAtStage p.refused p.committed p.job p.back) is (at_stage p.refused p.committed p.job p.back)

-- ---- options

pub some_of : {X : Type 0} (o : Option X) (x : X) → o ≡ Some x → IsSome o
some_of o x is = ap is_some is

pub held_in : {X : Type 0} (o : Option X) (P : Type 0) → IsSome o → IfSome o (λ _. P) → P
held_in None P some held = absurd (let e : false ≡ true = some in cc)
held_in (Some x) P some held = held

pub if_some : {X : Type 0} (o : Option X) (x : X) (P : X → Type 0) → o ≡ Some x → P x → IfSome o P
if_some o x P is held = subst (λ q. IfSome q P) (sym is) held

pub of_some : {X : Type 0} (o : Option X) (x : X) (P : X → Type 0) → o ≡ Some x → IfSome o P → P x
of_some o x P is held = subst (λ q. IfSome q P) is held

pub if_map : {X : Type 0} (o : Option X) (P Q : X → Type 0) → ((x : X) → P x → Q x) → IfSome o P → IfSome o Q
if_map None P Q f held = tt
if_map (Some x) P Q f held = f x held

pub if_none : {X : Type 0} (o : Option X) (P : X → Type 0) → o ≡ None → IfSome o P
if_none o P is = subst (λ q. IfSome q P) (sym is) tt

-- ---- what was seen

pub stands_on : (u v : View) (e : Entry) → Grows u v → StandsIn u e → StandsIn v e
stands_on u v e grows stands told =
    entry_stays u v e.position e grows (stands (ap (λ (l : LogName). l.told) (sym grows.log_is) ∙ told))

-- what is so of a commit since a later beginning is so since an earlier one
pub commits_since : (tells : Bool) (m : Making) (log : LogNames) (call : AuthoredWrite) (from seen : View) (wrote : Wrote) → Grows from seen
    → CommitsIn tells m log call seen wrote → CommitsIn tells m log call from wrote
commits_since tells m log call from seen wrote grows is = record {
  log_is = is.log_is;
  told_is = is.told_is;
  grows = grows-trans from seen wrote.note grows is.grows;
  answers = λ told.
      let since = is.answers told in
      let before : length from.entries ≤ length seen.entries = begins-length from.entries seen.entries grows.begins in
      let later : length seen.entries ≤ since.n = since.since in
      record { n = since.n; since = omega (arith, before, later); answers = since.answers };
  once = is.once;
  stands = is.stands;
  lies = is.lies;
  fits = is.fits;
  has = is.has;
  owes = is.owes;
  paid = is.paid;
}

module _ {M : Type 0} (on : OnCluster M) where
  -- ---- a merge

  -- a cause that is wider
  pub left_later : (failed now : Type 0) (far : Option View) (reason : ScheduledWhy) → (failed → now) → IsLeftFor on failed far reason
      → IsLeftFor on now far reason
  left_later failed now far why.LinkFault later is = later is
  left_later failed now far why.KeeperFault later is = is
  left_later failed now far why.LogFull later is = is
  left_later failed now far why.NoServer later is = is
  left_later failed now far why.Memory later is = is

  -- why a job isn't ended is so whatever was seen where it is owed
  pub left_near : (failed : Type 0) (far : Option View) (reason : ScheduledWhy) → StaysOpenFor (MayFail on.state) on.making.settings.log_max None reason
      → IsLeftFor on failed far reason
  left_near failed far why.LinkFault is = absurd is
  left_near failed far why.KeeperFault is = is
  left_near failed far why.LogFull is = absurd is
  left_near failed far why.NoServer is = absurd is
  left_near failed far why.Memory is = tt

  -- what the commit answered is owed to another shard of the configuration
  pub record IsOwedAt (p : Writing) (job : Job) (e : Entry) (owed : Owed) : Type 0 where
    pub job_is : answered_job p ≡ Some job
    pub entry_is : answered_entry p ≡ Some e
    pub owed_is : owed ≡ owed_by (write_shard p.write) job e
    pub away : owed.to ≢ owed.from
    pub there : owed.to < on.making.settings.shards

  to_is : (p : Writing) (job : Job) (e : Entry) (owed : Owed) → IsOwedAt p job e owed → owed.to ≡ far_shard job
  to_is p job e owed at = ap (λ (o : Owed). o.to) at.owed_is

  apart : (p : Writing) (job : Job) (e : Entry) (owed : Owed) → IsOwedAt p job e owed → far_shard job ≢ write_shard p.write
  apart p job e owed at same = at.away (to_is p job e owed at ∙ same ∙ sym (ap (λ (o : Owed). o.from) at.owed_is))

  pub owed_there : (p : Writing) (seen : View) (job : Job) (e : Entry) (owed : Owed) → IsOwedAt p job e owed → OwesIn on p seen
      → IsOwedIn on.tells on.making on.log seen owed
  owed_there p seen job e owed at owes =
      subst (IsOwedIn on.tells on.making on.log seen) (sym at.owed_is) (owes.owed job e at.job_is at.entry_is (apart p job e owed at))

  -- a job that is done in what was seen there
  pub done_by : (p : Writing) (job : Job) (e : Entry) (owed : Owed) (note : View) → IsOwedAt p job e owed → IsDoneThere on p note
      → IsDoneIn on.making on.log note owed
  done_by p job e owed note at done =
      subst (IsDoneIn on.making on.log note) (sym at.owed_is)
      (of_some (answered_entry p) e (λ f. IsDoneIn on.making on.log note (owed_by (write_shard p.write) job f)) at.entry_is
      (of_some (answered_job p) job
      (λ j. IfSome (answered_entry p) (λ f. IsDoneIn on.making on.log note (owed_by (write_shard p.write) j f))) at.job_is done))

  -- what was written begins with what the pass had seen there
  pub since_there : (p : Writing) (job : Job) (e : Entry) (owed : Owed) (notes : List View) (there note : View) → IsOwedAt p job e owed
      → slice_get notes owed.to ≡ Some there → Grows there note
      → IfSome (answered_job p) (λ j. IfSome (slice_get notes (far_shard j)) (λ own. Grows own note))
  since_there p job e owed notes there note at found grows =
      let here : slice_get notes (far_shard job) ≡ Some there = ap (λ k. slice_get notes k) (sym (to_is p job e owed at)) ∙ found in
      if_some (answered_job p) job (λ j. IfSome (slice_get notes (far_shard j)) (λ own. Grows own note)) at.job_is
      (if_some (slice_get notes (far_shard job)) there (λ own. Grows own note) here grows)

  -- what was written is what there was to merge
  pub merges_there : (p : Writing) (job : Job) (e : Entry) (owed : Owed) (notes : List View) (there note : View) (wrote : Option Entry)
      → IsOwedAt p job e owed → slice_get notes owed.to ≡ Some there
      → WhereTold on.tells (MergesSince owed.from owed.job there.entries note.entries wrote)
      → WhereTold on.tells (IfSome (answered_job p) (λ j. IsSomeAnd (slice_get notes (far_shard j))
      (λ own. MergesSince (write_shard p.write) j own.entries note.entries wrote)))
  merges_there p job e owed notes there note wrote at found merges told =
      let here : slice_get notes (far_shard job) ≡ Some there = ap (λ k. slice_get notes k) (sym (to_is p job e owed at)) ∙ found in
      if_some (answered_job p) job
      (λ j. IsSomeAnd (slice_get notes (far_shard j)) (λ own. MergesSince (write_shard p.write) j own.entries note.entries wrote)) at.job_is
      (some_and (λ (own : View). MergesSince (write_shard p.write) job own.entries note.entries wrote) (slice_get notes (far_shard job)) there here
      (subst (λ (o : Owed). MergesSince o.from o.job there.entries note.entries wrote) at.owed_is (merges told)))
