-- What refuses a stage of a plan, and that it changes no table.
use Rattle.std.proofs.Common.{◌≡◌, ◌∙◌, ℕ, Bool, true, false, Option, Some, None, Ok, Err, refl, sym, ap, subst, inl, inr}
use Rattle.std.specs.Prelude.{⊤, IfSome, Result, option_and_then}
use Rattle.cache_items.specs.declared.look.Look.{Look}
use Rattle.cache_items.specs.declared.look.Look.TheVariants.{Hit, Miss}
use Rattle.core_model.specs.Jobs.{ShardJob}
use Rattle.core_model.specs.Reads.{Wanted}
use Rattle.core_nodes.specs.Outside.{Outside}
use Rattle.core_plans.proofs.HeldWriteStages.{before_commit}
use Rattle.core_plans.proofs.ReadRefusals.{over_refused}
use Rattle.core_plans.proofs.StageLemmas.{ended_by, merge_refuses_none}
use Rattle.core_plans.specs.HeldReads.{ComesOfRead, DoesKeep, DoesLook, DoesReadStage, EndsRead, wanted_by}
use Rattle.core_plans.specs.HeldWrites.{ComesOfWrite, CommitsBy, DoesWriteStage, RefusesOnWay, RefusesWrite, call_of_plan, come_past, job_by, job_sender}
use Rattle.core_plans.specs.HeldWrites.{sent_by, way_by, write_is_down}
use Rattle.core_plans.specs.LedBy.{LedBy, Rules, led_by}
use Rattle.core_plans.specs.Needs.{first_down, leaders_of_write, read_down, write_down, write_needs}
use Rattle.core_plans.specs.declared.leaders.Leaders.{Leaders}
use Rattle.core_steps.specs.OtherEnds.{EndsOver, MergesOver, SentJob, sent_job}
use Rattle.core_steps.specs.ReadSteps.{AskFails, IsNotGiven, IsNotRead}
use Rattle.core_steps.specs.Relays.{RefusesPassing, link_past}
use Rattle.core_steps.specs.World.{World, outside_of}
use Rattle.core_steps.specs.Writes.{RefusesCommit, asked_of_log}
use Rattle.core_steps.specs.declared.routes.Route.{Route}
use Rattle.counts.specs.Count.{Rose}
use Rattle.graph_model.specs.Told.{WhereTold}
use Rattle.node_name.specs.declared.NodeName.{NodeName}
use Rattle.read_plan.specs.Ends.{EndsAt}
use Rattle.read_plan.specs.Readings.{Reading}
use Rattle.read_plan.specs.Standings.{after_ask, after_keep, after_look, after_master}
use Rattle.read_plan.specs.declared.end.ReadEnd.TheVariants as ended
use Rattle.read_plan.specs.declared.standing.Given.{Given}
use Rattle.read_plan.specs.declared.standing.Given.TheVariants.{Fill, HandedOut, Past}
use Rattle.read_plan.specs.declared.standing.Standing.{Standing}
use Rattle.read_plan.specs.declared.standing.Standing.TheVariants.{Looking, Asking, Mastering, Keeping, Ended}
use Rattle.replies.specs.declared.refusals.NodeRefused.TheVariants.{NoServer, NodeDown}
use Rattle.replies.specs.declared.refusals.Refusal.{Refusal}
use Rattle.replies.specs.declared.refusals.Refusal.TheVariants.{Memory, Node, Store}
use Rattle.replies.specs.declared.refusals.StoreRefused.TheVariants.{KeeperFault, LinkFault, LogFull, SeqReused, TooOld, ShardFull, StampFull, Unsettled}
use Rattle.replies.specs.declared.refusals.When.{When}
use Rattle.replies.specs.declared.refusals.When.TheVariants.{Before}
use Rattle.replies.specs.declared.reply.Reply.{Reply}
use Rattle.replies.specs.declared.reply.Reply.TheVariants.{Refused}
use Rattle.shard_tables.specs.Written.{AskedWrite, IsLogFull, IsReused, IsTooOld, IsShardFull, IsStampFull}
use Rattle.shard_tables.specs.declared.leader_answer.LeaderAnswer.{LeaderAnswer}
use Rattle.shard_tables.specs.declared.leader_answer.LeaderAnswer.TheVariants as leads
use Rattle.shard_tables.specs.declared.read_out.ReadOut.{ReadOut}
use Rattle.shard_tables.specs.declared.read_out.ReadOut.TheVariants as store
use Rattle.shard_tables.specs.declared.writes.Wrote.{Wrote}
use Rattle.tao_base.specs.Writes.{write_shard}
use Rattle.tao_base.specs.declared.entry.Entry.{Entry}
use Rattle.tao_base.specs.declared.query.Query.{Query}
use Rattle.tao_keeper.specs.KeeperState.{KeepsTables}
use Rattle.tao_link.specs.Shown.{LinkShown}
use Rattle.topology.specs.Choices.{master_region}
use Rattle.topology.specs.Config.{Settings}
use Rattle.topology.specs.States.{NodeStates}
use Rattle.write_plan.specs.Plans.{Writing, after_stage, answered_entry, next_of, stage_from, when_of}
use Rattle.write_plan.specs.declared.committed.Committed.{Committed}
use Rattle.write_plan.specs.declared.results.LeftOpen.{LeftOpen}
use Rattle.write_plan.specs.declared.results.LeftOpen.TheVariants as left
use Rattle.write_plan.specs.declared.results.WriteResult.TheVariants as came
use Rattle.write_plan.specs.declared.stage.WriteStage.{WriteStage}
use Rattle.write_plan.specs.declared.stage.WriteStage.TheVariants.{Apply, Commit, Done, End, Inverse, Relay}

-- ---- the causes

-- why a read is refused, where a node that is down is told so
module _ (Down : NodeName → When → Type 0) (old new : Outside) where
  abbrev pub ReadCause : Refusal → Type 0
  ReadCause (Store (KeeperFault count)) = (count ≡ new.keepers.faults) × Rose old.keepers.faults new.keepers.faults
  ReadCause (Store (LinkFault count when)) = (count ≡ new.link.faults) × Rose old.link.faults new.link.faults × (when ≡ Before)
  ReadCause (Memory position) = position ≡ 0
  ReadCause (Node (NodeDown node when)) = Down node when
  ReadCause refusal = ⊥

-- why a write is refused, that is asked so of its log, once it is committed at this entry: but for a node that is
-- down and a carry that fails, only where this is so
pub record WriteTerms : Type 1 where
  pub tells : Bool
  pub First : Type 0
  pub asked : AskedWrite
  pub entry : Option Entry
  pub Leaderless : ℕ → Type 0
  pub Down : NodeName → When → Type 0

module _ (t : WriteTerms) (old new : Outside) where
  abbrev pub WriteCause : Refusal → Type 0
  WriteCause (Store (TooOld cut position)) = t.First × WhereTold t.tells (IsTooOld t.asked cut position)
  WriteCause (Store (SeqReused position)) = t.First × WhereTold t.tells (IsReused t.asked position)
  WriteCause (Store (ShardFull serial)) = t.First × WhereTold t.tells (IsShardFull t.asked serial)
  WriteCause (Store (StampFull number)) = t.First × WhereTold t.tells (IsStampFull t.asked number)
  WriteCause (Store (LogFull count)) = t.First × WhereTold t.tells (IsLogFull t.asked count)
  WriteCause (Store (KeeperFault count)) = t.First × (count ≡ new.keepers.faults) × Rose old.keepers.faults new.keepers.faults
  WriteCause (Store (LinkFault count when)) = (count ≡ new.link.faults) × Rose old.link.faults new.link.faults × (when ≡ when_of t.entry)
  WriteCause (Memory position) = t.First × (position ≡ 0)
  WriteCause (Node (NoServer region)) = t.First × t.Leaderless region
  WriteCause (Node (NodeDown node when)) = t.Down node when
  WriteCause refusal = ⊥

-- ---- how a read ends

-- where the read ended with a refusal, this is so of it
abbrev pub OnlyBy : (Refusal → Type 0) → Standing → Type 0
OnlyBy P (Ended (ended.Refused reply)) = (refusal : Refusal) × (reply ≡ Refused refusal) × P refusal
OnlyBy P (Ended (ended.Answered answer version held)) = ⊤
OnlyBy P Looking = ⊤
OnlyBy P Asking = ⊤
OnlyBy P Mastering = ⊤
OnlyBy P (Keeping given) = ⊤

-- so it is of the refusal that it is replied
pub refusal_so : (P : Refusal → Type 0) (at : Standing) (p : Reading) (refusal : Refusal) → OnlyBy P at → EndsAt at p (Refused refusal) → P refusal
refusal_so P (Ended (ended.Refused reply)) p refusal only ends =
    let both : Refused refusal ≡ Refused only.0 = ends ∙ only.1 in
    let same : refusal ≡ only.0 = cc in
    subst P (sym same) only.2
refusal_so P (Ended (ended.Answered answer version held)) p refusal only ends = absurd (cc)
refusal_so P Looking p refusal only ends = absurd ends
refusal_so P Asking p refusal only ends = absurd ends
refusal_so P Mastering p refusal only ends = absurd ends
refusal_so P (Keeping given) p refusal only ends = absurd ends

module _ (P : Refusal → Type 0) where
  look_so : (critical : Bool) (look : Look) → OnlyBy P (after_look critical look)
  look_so true look = tt
  look_so false (Hit answer version) = tt
  look_so false Miss = tt

  ask_so : (given : LeaderAnswer) → OnlyBy P (after_ask given)
  ask_so (leads.Filled fill) = tt
  ask_so (leads.Past answer version total note) = tt
  ask_so (leads.Behind version) = tt

  master_so : (out : ReadOut) → OnlyBy P (after_master out)
  master_so (store.Filled fill) = tt
  master_so (store.Past answer version total note) = tt

  at_then : (q r : Reading) → q ≡ r → OnlyBy P r.at → OnlyBy P q.at
  at_then q r same so = subst (λ (x : Reading). OnlyBy P x.at) (sym same) so

-- ---- why a read's stage fails

module _ (Down : NodeName → When → Type 0) (old : World) where
  abbrev Because : World → Refusal → Type 0
  Because now = ReadCause Down (outside_of old) (outside_of now)

  gives_nothing : (refusal : Refusal) (now : World) → AskFails refusal old.keepers now.keepers → Because now refusal
  gives_nothing (Store (KeeperFault count)) now fails = fails
  gives_nothing (Memory position) now fails = fails
  gives_nothing refusal now fails = absurd fails

  not_given : (s : Settings) (route : Route) (read : Wanted) (refusal : Refusal) (now : World) → IsNotGiven s route read refusal old now
      → Because now refusal
  not_given s route read refusal now (inl lost) = subst (Because now) (sym lost.said) (refl, lost.carry.rose, refl)
  not_given s route read refusal now (inr (inl nothing)) = gives_nothing refusal now nothing.fails
  not_given s route read refusal now (inr (inr lost)) = subst (Because now) (sym lost.lost.said) (refl, lost.lost.carry.rose, refl)

  not_read : (s : Settings) (follower : NodeName) (query : Query) (refusal : Refusal) (now : World) → IsNotRead s follower query refusal old now
      → Because now refusal
  not_read s follower query refusal now (inl lost) = subst (Because now) (sym lost.said) (refl, lost.carry.rose, refl)
  not_read s follower query refusal now (inr (inl nothing)) = gives_nothing refusal now nothing.fails
  not_read s follower query refusal now (inr (inr lost)) = subst (Because now) (sym lost.lost.said) (refl, lost.lost.carry.rose, refl)

  -- the end of the ask changes nothing outside
  asks_end : (refusal : Refusal) (mid new : World) → outside_of new ≡ outside_of mid → Because mid refusal → Because new refusal
  asks_end refusal mid new same is = subst (λ o. ReadCause Down (outside_of old) o refusal) (sym same) is

  module _ (s : Settings) (p q : Reading) (new : World) where
    abbrev Ends : Type 0
    Ends = OnlyBy (Because new) q.at

    keep_fails : (given : Given) → p.at ≡ Keeping given → DoesKeep s p given old q new → Ends
    keep_fails (Fill fill) at (inl from) = at_then (Because new) q _ from.then
        (subst (λ a. OnlyBy (Because new) (after_keep p.bound a (Some (from.answer, from.kept)))) (sym at) tt)
    keep_fails (Fill fill) at (inr vain) = at_then (Because new) q _ vain.then (_, refl, refl)
    keep_fails (Past answer version total seen) at on =
        at_then (Because new) q _ on.then (subst (λ a. OnlyBy (Because new) (after_keep p.bound a None)) (sym at) tt)
    keep_fails (HandedOut version) at on = absurd on

    look_fails : (critical : Bool) → DoesLook s critical p old q new → Ends
    look_fails false (inl looks) = at_then (Because new) q _ looks.then (look_so (Because new) p.critical looks.look)
    look_fails false (inr vain) = at_then (Because new) q _ vain.then (_, refl, refl)
    look_fails true looks = at_then (Because new) q _ looks.then (look_so (Because new) p.critical Miss)

    read_fails : (rules : Rules) (at : Standing) → rules.settings ≡ s → p.at ≡ at → DoesReadStage rules at p old q new → Ends
    read_fails rules Looking same is does = look_fails p.critical (subst (λ x. DoesLook x p.critical p old q new) same does)
    read_fails rules Asking same is (inl asks) = at_then (Because new) q _ asks.then (ask_so (Because new) asks.given)
    read_fails rules Asking same is (inr vain) = at_then (Because new) q _ vain.then
        (vain.refusal, refl, asks_end vain.refusal vain.mid new (ap outside_of vain.rest) (not_given _ _ (wanted_by p) vain.refusal vain.mid vain.fails))
    read_fails rules Mastering same is (inl asks) = at_then (Because new) q _ asks.then (master_so (Because new) asks.out)
    read_fails rules Mastering same is (inr vain) = at_then (Because new) q _ vain.then
        (vain.refusal, refl, asks_end vain.refusal vain.mid new (ap outside_of vain.rest) (not_read _ p.follower p.query vain.refusal vain.mid vain.fails))
    read_fails rules (Keeping given) same is does = keep_fails given is (subst (λ x. DoesKeep x p given old q new) same does)
    read_fails rules (Ended end) same is does = absurd does

-- a read that ended with this refusal in place of its stage
pub ended_so : (P : Refusal → Type 0) (p q : Reading) (old new : World) (refusal : Refusal) → EndsRead (Refused refusal) p old q new → P refusal
    → OnlyBy P q.at
ended_so P p q old new refusal ends so = subst (OnlyBy P) (sym (over_refused (Refused refusal) p q old new ends)) (refusal, refl, so)

-- a node is down that the read's stage needs, before anything was written
abbrev pub DownAt : NodeStates → Reading → NodeName → When → Type 0
DownAt states p node when = (read_down states p ≡ Some node) × (when ≡ Before)

-- a stage of a read that ends it with a refusal has its cause
pub read_stage_fails : (rules : Rules) (p q : Reading) (old new : World) → ComesOfRead rules p old q new
    → OnlyBy (ReadCause (DownAt old.states p) (outside_of old) (outside_of new)) q.at
read_stage_fails rules p q old new (inl next) =
    read_fails (DownAt old.states p) old rules.settings p q new rules p.at refl refl next.does
read_stage_fails rules p q old new (inr ends) =
    ended_so (ReadCause (DownAt old.states p) (outside_of old) (outside_of new)) p q old new (Node (NodeDown ends.node Before)) ends.over (ends.down, refl)

-- ---- how a write ends

-- where the write was refused, this is so of it
abbrev pub RefusedBy : (Refusal → Type 0) → Option Reply → Type 0
RefusedBy P refused = IfSome refused (λ reply. (refusal : Refusal) × (reply ≡ Refused refusal) × P refusal)

-- a write that has a stage left wasn't refused
unrefused_at : (refused : Option Reply) (committed : Option Committed) (job : _) (back : _)
    → (stage_from refused committed job back ≡ Done → ⊥) → refused ≡ None
unrefused_at (Some reply) committed job back goes = absurd (goes refl)
unrefused_at None committed job back goes = refl

pub was_unrefused : (rules : Rules) (p q : Writing) (old new : World) → ComesOfWrite rules p old q new → p.refused ≡ None
was_unrefused rules p q old new (inl next) =
    unrefused_at p.refused p.committed p.job p.back (λ over. subst (λ at. DoesWriteStage rules at p old q new) over next.does)
was_unrefused rules p q old new (inr ends) =
    unrefused_at p.refused p.committed p.job p.back (λ over.
    let down : None ≡ Some ends.node = subst (λ at. first_down old.states (write_needs at p) ≡ Some ends.node) over ends.down in
    absurd (cc))

-- what is so of a stage of a write
abbrev pub stage_terms : Rules → Writing → World → WriteTerms
stage_terms rules p old = record {
  tells = rules.tells;
  First = p.committed ≡ None;
  asked = asked_of_log rules.settings old.keepers (call_of_plan p);
  entry = answered_entry p;
  Leaderless = λ region. (leaders_of_write rules.settings old.states p ≡ None) × (region ≡ master_region old.states (write_shard p.write));
  Down = λ node when. (write_down old.states p ≡ Some node) × (when ≡ when_of (answered_entry p));
}

-- the carry to the leader that it passes is no fault
past_faults : (passed : Option NodeName) (link : LinkShown) → (link_past passed link).faults ≡ link.faults
past_faults None link = refl
past_faults (Some leader) link = refl

-- its cause, and that no table changed
pub record StageRefuses (t : WriteTerms) (old new : World) (refusal : Refusal) : Type 0 where
  pub cause : WriteCause t (outside_of old) (outside_of new) refusal
  pub same : KeepsTables t.tells old.keepers new.keepers

-- so where it was refused, its cause, and that no table changed, by what is so of the stage
abbrev pub FailsBy : Rules → Writing → World → World → Option Reply → Type 0
FailsBy rules p old new refused = RefusedBy (StageRefuses (stage_terms rules p old) old new) refused

module _ (rules : Rules) (p q : Writing) (old new : World) where
  abbrev Fails : Refusal → Type 0
  Fails refusal = StageRefuses (stage_terms rules p old) old new refusal

  abbrev By : Writing → Type 0
  By r = FailsBy rules p old new r.refused

  -- what wasn't refused before, and isn't now
  goes_on : (r : Writing) → q ≡ r → r.refused ≡ p.refused → p.refused ≡ None → By q
  goes_on r same kept none = subst By (sym same) (subst (RefusedBy Fails) (sym (kept ∙ none)) tt)

  no_entry : p.committed ≡ None → when_of (answered_entry p) ≡ Before
  no_entry none = ap (λ (c : Option Committed). when_of (option_and_then (λ c. c.wrote.entry) c)) none

  said_before : (when : When) → p.committed ≡ None → when ≡ Before → when ≡ when_of (answered_entry p)
  said_before when none before = before ∙ sym (no_entry none)

  passing : (route : Route) (refusal : Refusal) → p.committed ≡ None → RefusesPassing rules.tells route refusal old new → Fails refusal
  passing route (Store (LinkFault count when)) none h =
      record { cause = (h.0, h.1.carry.rose, said_before when none h.1.before); same = h.1.same.tables }
  passing route (Memory position) none h = record { cause = (none, h.0); same = λ told at. ap (λ (w : World). w.keepers.told at) h.1 }
  passing route refusal none h = absurd h

  on_way : (passed : Option NodeName) (refusal : Refusal) → p.committed ≡ None → RefusesOnWay rules.tells passed p refusal old new → Fails refusal
  on_way None refusal none h = absurd h
  on_way (Some leader) refusal none h = passing (way_by leader p) refusal none h

  commit_fails : (led : LedBy) (refusal : Refusal) → p.committed ≡ None
      → RefusesCommit rules.tells rules.settings (sent_by led p) refusal (come_past led old) new → Fails refusal
  commit_fails led (Store (LinkFault count when)) none h = record {
    cause = (h.0, subst (λ n. Rose n new.link.faults) (past_faults led.passed old.link) h.1.carry.rose, said_before when none h.1.before);
    same = h.1.same.tables;
  }
  commit_fails led (Store (TooOld cut position)) none h = record { cause = (none, h.0); same = h.1.same.tables }
  commit_fails led (Store (SeqReused position)) none h = record { cause = (none, h.0); same = h.1.same.tables }
  commit_fails led (Store (ShardFull serial)) none h = record { cause = (none, h.0); same = h.1.same.tables }
  commit_fails led (Store (StampFull number)) none h = record { cause = (none, h.0); same = h.1.same.tables }
  commit_fails led (Store (LogFull count)) none h = record { cause = (none, h.0); same = h.1.same.tables }
  commit_fails led (Store (KeeperFault count)) none h = record { cause = (none, h.0.0, h.0.1); same = h.1.same.tables }
  commit_fails led (Store (Unsettled shard why)) none h = absurd h.0
  commit_fails led (Memory position) none h = record { cause = (none, h.0); same = h.1.same.tables }
  commit_fails led refusal none h = absurd h

  write_fails : (leaders : Leaders) (refusal : Refusal) → p.committed ≡ None → RefusesWrite (led_by rules leaders) p refusal old new → Fails refusal
  write_fails leaders refusal none (inl way) = on_way leaders.passed refusal none way
  write_fails leaders refusal none (inr there) = commit_fails (led_by rules leaders) refusal none there

  commits : (leaders : Option Leaders) → leaders_of_write rules.settings old.states p ≡ leaders → p.committed ≡ None → p.refused ≡ None
      → CommitsBy rules leaders p old q new → By q
  commits (Some leaders) are none never (inl done) = goes_on _ done.then refl never
  commits (Some leaders) are none never (inr refuses) =
      subst By (sym refuses.then) (refuses.refusal, refl, write_fails leaders refuses.refusal none refuses.refuses)
  commits None are none never finds = subst By (sym finds.then)
      (_, refl, record { cause = (none, (are, refl)); same = λ told at. ap (λ (w : World). w.keepers.told at) finds.same })

  merges : (sent : SentJob) (result : Result Wrote LeftOpen) (hops : ℕ) → p.refused ≡ None
      → MergesOver rules.tells rules.settings sent result old new → q ≡ after_stage p (came.Inverse result) hops → By q
  merges sent (Ok wrote) hops never done then = goes_on _ then refl never
  merges sent (Err (left.Scheduled why wrote)) hops never done then = goes_on _ then refl never
  merges sent (Err (left.Refused reply)) hops never done then = absurd (merge_refuses_none _ _ sent reply old new done)

  ends : (j : ShardJob) (result : Result ⊤ LeftOpen) (hops : ℕ) → p.refused ≡ None → EndsOver rules.tells rules.settings j result old new
      → q ≡ after_stage p (came.End result) hops → By q
  ends j (Ok it) hops never done then = goes_on _ then refl never
  ends j (Err (left.Scheduled why wrote)) hops never done then = goes_on _ then refl never
  ends j (Err (left.Refused reply)) hops never done then = absurd done

  answered_when : (c : Committed) → p.committed ≡ Some c → when_of c.wrote.entry ≡ when_of (answered_entry p)
  answered_when c answered = ap (λ (o : Option Committed). when_of (option_and_then (λ c. c.wrote.entry) o)) (sym answered)

  stage_fails : (at : WriteStage) → next_of p ≡ at → p.refused ≡ None → DoesWriteStage rules at p old q new → By q
  stage_fails Commit is never does =
      commits (leaders_of_write rules.settings old.states p) refl (before_commit p is) never does
  stage_fails Inverse is never m =
      merges (sent_job (job_sender p m.committed) (job_by p m.job)) m.result _ never m.merges m.then
  stage_fails End is never e = ends (job_by p e.job) e.result 0 never e.ends e.then
  stage_fails Relay is never (inl relays) = goes_on _ relays.then refl never
  stage_fails Relay is never (inr loses) = subst By (sym loses.then) (
    _,
    refl,
    record {
      cause = (refl, loses.carry.rose, answered_when loses.committed loses.answered);
      same = λ told at. ap (λ k. k.told at) loses.rest.keepers;
    },
  )
  stage_fails Apply is never (inl applies) = goes_on _ applies.then refl never
  stage_fails Apply is never (inr loses) = subst By (sym loses.then) (
    _,
    refl,
    record {
      cause = (refl, loses.carry.rose, answered_when loses.committed loses.answered);
      same = λ told at. ap (λ k. k.told at) loses.rest.keepers;
    },
  )
  stage_fails Done is never does = absurd does

  -- a stage of a write that refuses it has its cause, and changed no table
  pub write_stage_fails : ComesOfWrite rules p old q new → By q
  write_stage_fails (inl next) = stage_fails (next_of p) refl (was_unrefused rules p q old new (inl next)) next.does
  write_stage_fails (inr ended) =
      let by = ended_by (next_of p) (write_is_down ended.node p) p 0 in
      subst By (sym ended.then) (subst (RefusedBy Fails) (sym by.refused)
      (_, refl, record { cause = (ended.down, refl); same = λ told at. ap (λ (w : World). w.keepers.told at) ended.same }))
