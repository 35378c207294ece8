-- What refuses a call that isn't held, and what it wrote.
use Rattle.std.proofs.Common.{◌≡◌, ◌∙◌, ℕ, Bool, true, false, Option, Some, None, Ok, Err, refl, sym, ap, subst, inl, inr, arith}
use Rattle.std.specs.Prelude.{◌⊎◌, ⊤, IfSome, Result, option_and_then}
use Rattle.core_model.specs.Consistent.{IsConsistent}
use Rattle.core_model.specs.Fleet.{Fleet}
use Rattle.core_model.specs.Stores.{HaveMasterRegions, master_log, master_store}
use Rattle.core_model.specs.Pens.{pens_of}
use Rattle.core_nodes.specs.Settling.{IsLaterLink}
use Rattle.core_plans.proofs.HeldWriteStages.{before_commit}
use Rattle.core_plans.proofs.InTurn.{IsSameWrite, write_same}
use Rattle.core_plans.proofs.StageLemmas.{ended_down}
use Rattle.core_plans.proofs.WholeRuns.{OfRead, OfWrite, read_keeps, write_keeps}
use Rattle.core_plans.specs.HeldWrites.{ComesOfWrite, CommitsBy, CommitsHeld, DoesWriteStage, IsAnswerTo, IsWriteUnderWay, call_of_plan}
use Rattle.core_plans.specs.LedBy.{Rules, led_by}
use Rattle.core_plans.specs.Needs.{leaders_of_write}
use Rattle.core_plans.specs.WholeCalls.{CarriesOut, PassesStage}
use Rattle.core_plans.specs.declared.held.HeldPlan.{HeldPlan}
use Rattle.core_plans.specs.declared.held.HeldPlan.TheVariants as of
use Rattle.core_plans.specs.declared.leaders.Leaders.{Leaders}
use Rattle.core_steps.proofs.ReadLemmas.{log_is}
use Rattle.core_steps.proofs.WriteLemmas.{stands_in_log}
use Rattle.core_steps.specs.World.{World, outside_of}
use Rattle.core_model.specs.Asked.{client_call}
use Rattle.core_steps.specs.Writes.{asked_of_log, new_entry}
use Rattle.counts.proofs.Rises.{Rose-earlier}
use Rattle.graph_model.specs.Log.{entry_at}
use Rattle.graph_model.specs.Told.{WhereTold}
use Rattle.node_name.specs.declared.NodeName.{NodeName}
use Rattle.read_plan.specs.Readings.{Reading}
use Rattle.read_plan.specs.declared.end.ReadEnd.TheVariants as ended
use Rattle.read_plan.specs.declared.standing.Standing.{Standing}
use Rattle.read_plan.specs.declared.standing.Standing.TheVariants.{Looking, Asking, Mastering, Keeping, Ended}
use Rattle.replies.specs.declared.refusals.NodeRefused.TheVariants.{NoServer, NodeDown}
use Rattle.replies.specs.declared.refusals.Refusal.{Refusal}
use Rattle.replies.specs.declared.refusals.Refusal.TheVariants.{Memory, Node, Store}
use Rattle.replies.specs.declared.refusals.StoreRefused.TheVariants.{KeeperFault, LinkFault, LogFull, SeqReused, TooOld, ShardFull, StampFull}
use Rattle.replies.specs.declared.refusals.When.{When}
use Rattle.replies.specs.declared.reply.Reply.{Reply}
use Rattle.shard_tables.specs.Jobs.{OpensJob, job_with}
use Rattle.shard_tables.specs.Written.{AnswersAs, AskedWrite, IsLogFull, IsReused, IsTooOld, IsShardFull, IsStampFull, StandsIn, TableGains}
use Rattle.shard_tables.specs.declared.writes.Wrote.{Wrote}
use Rattle.tao_base.specs.Writes.{write_shard}
use Rattle.tao_base.specs.declared.entry.Entry.{Entry}
use Rattle.tao_keeper.specs.KeeperState.{IsLater, KeeperState, KeepsTables}
use Rattle.tao_keeper.specs.Table.{Stays, Tables}
use Rattle.tao_keeper.specs.declared.jobs.Job.{Job}
use Rattle.tao_schema.specs.Schema.{types_of}
use Rattle.topology.specs.Config.{Settings}
use Rattle.write_model.specs.Writes.{FitsWrite}
use Rattle.write_plan.specs.Plans.{Writing, after_stage, answered_entry, answered_job, next_of, when_of}
use Rattle.write_plan.specs.declared.committed.Committed.{Committed}
use Rattle.write_plan.specs.declared.results.LeftOpen.{LeftOpen}
use Rattle.write_plan.specs.declared.results.LeftOpen.TheVariants as left
use Rattle.write_plan.specs.declared.results.WriteResult.TheVariants as came
use Rattle.write_plan.specs.declared.stage.WriteStage.{WriteStage}
use Rattle.write_plan.specs.declared.stage.WriteStage.TheVariants.{Apply, Commit, Done, End, Inverse, Relay}
use Rattle.headline_kept.specs.Standing.{StandsWhen}
use Rattle.headline_kept.proofs.ItemEntries.{IsUnder}
use Rattle.headline_kept.proofs.StageCauses.{DownAt, FailsBy, OnlyBy, ReadCause, RefusedBy, StageRefuses, WriteCause, WriteTerms}
use Rattle.headline_kept.proofs.StageCauses.{read_stage_fails, stage_terms, was_unrefused}
use Rattle.headline_kept.proofs.StageCauses.{write_stage_fails}

-- ---- counts

pub later_trans : (a b c : KeeperState) → IsLater a b → IsLater b c → IsLater a c
later_trans a b c p q =
    let calls = p.calls in
    let more_calls = q.calls in
    let faults = p.faults in
    let more_faults = q.faults in
    record { calls = omega (arith, calls, more_calls); faults = omega (arith, faults, more_faults) }

pub link_trans : (a b c : _) → IsLaterLink a b → IsLaterLink b c → IsLaterLink a c
link_trans a b c p q =
    let carries = p.carries in
    let more_carries = q.carries in
    let faults = p.faults in
    let more_faults = q.faults in
    record { carries = omega (arith, carries, more_carries); faults = omega (arith, faults, more_faults); cuts = q.cuts ∙ p.cuts }

-- ---- what stands

-- what a commit answered stands in the log, at the position of its entry
module _ (tells : Bool) (s : Settings) (tables : Tables) (f : Fleet) (p : Writing) (regions : HaveMasterRegions s) (are : IsConsistent tells s tables f)
    (is : IsWriteUnderWay tells s tables f p) where
  -- an entry that fits the write, and stands at its position
  record StandsSo (e : Entry) : Type 0 where
    stands : entry_at (master_log s tables (write_shard p.write)) e.position ≡ Some e
    fits : FitsWrite e p.write

  entry_at_end : (c : Committed) (e : Entry) → c.wrote.entry ≡ Some e → IsAnswerTo s f.stores p c → WhereTold tells (StandsSo e)
  entry_at_end c e entry answer = λ told.
      let shard = write_shard p.write in
      let log = log_is tells s tables f.stores shard regions are.stores is.follower.here in
      let seen : StandsIn (pens_of f.stores shard) e =
      subst (λ o. IfSome o (StandsIn (pens_of f.stores shard))) entry (stands_in_log (pens_of f.stores) shard c.wrote.note c.wrote.entry answer.apply.seen) in
      record {
        stands = subst (λ l. entry_at l e.position ≡ Some e) (log.entries_is told) (seen (log.told_is ∙ told));
        fits = subst (λ o. IfSome o (λ x. FitsWrite x p.write)) entry answer.apply.fits;
      }

  by_entry : (c : Committed) (entry : Option Entry) → c.wrote.entry ≡ entry → IsAnswerTo s f.stores p c → IsUnder tells p.origin entry
      → StandsWhen tells s tables (Some (call_of_plan p)) (when_of entry)
  by_entry c None entry answer own = tt
  by_entry c (Some e) entry answer own = λ told.
      let so = entry_at_end c e entry answer told in
      record { entry = e; stands = so.stands; fits = so.fits; own = own told }

  by_answer : (committed : Option Committed) → IfSome committed (IsAnswerTo s f.stores p)
      → IsUnder tells p.origin (option_and_then (λ c. c.wrote.entry) committed)
      → StandsWhen tells s tables (Some (call_of_plan p)) (when_of (option_and_then (λ c. c.wrote.entry) committed))
  by_answer None answer own = tt
  by_answer (Some c) answer own = by_entry c c.wrote.entry refl answer own

  pub stands_when : StandsWhen tells s tables (Some (call_of_plan p)) (when_of (answered_entry p))
  stands_when = by_answer p.committed is.committed is.own

-- ---- reads

-- of nodes that are down nothing is said
abbrev pub AnyDown : NodeName → When → Type 0
AnyDown node when = ⊤

-- a read that began there
pub record ReadRuns (rules : Rules) (start : World) (q : Reading) (now : World) : Type 0 where
  pub keepers : IsLater start.keepers now.keepers
  pub link : IsLaterLink start.link now.link
  pub tables : KeepsTables rules.tells start.keepers now.keepers
  pub fails : OnlyBy (ReadCause AnyDown (outside_of start) (outside_of now)) q.at

only_map : (P Q : Refusal → Type 0) (at : Standing) → ((refusal : Refusal) → P refusal → Q refusal) → OnlyBy P at → OnlyBy Q at
only_map P Q (Ended (ended.Refused reply)) f only = (only.0, only.1, f only.0 only.2)
only_map P Q (Ended (ended.Answered answer version held)) f only = tt
only_map P Q Looking f only = tt
only_map P Q Asking f only = tt
only_map P Q Mastering f only = tt
only_map P Q (Keeping given) f only = tt

module _ (rules : Rules) (start : World) where
  wider : (p : Reading) (old new : World) → ReadRuns rules start p old → (refusal : Refusal)
      → ReadCause (DownAt old.states p) (outside_of old) (outside_of new) refusal → ReadCause AnyDown (outside_of start) (outside_of new) refusal
  wider p old new so (Store (KeeperFault count)) h = (h.0, Rose-earlier _ _ _ so.keepers.faults h.1)
  wider p old new so (Store (LinkFault count when)) h = (h.0, Rose-earlier _ _ _ so.link.faults h.1, h.2)
  wider p old new so (Memory position) h = h
  wider p old new so (Node (NodeDown node when)) h = tt
  wider p old new so refusal h = absurd h

  read_runs_on : (p q : Reading) (old new : World) → ReadRuns rules start p old → PassesStage rules (of.Read p) old (of.Read q) new
      → ReadRuns rules start q new
  read_runs_on p q old new so stage = record {
    keepers = later_trans start.keepers old.keepers new.keepers so.keepers stage.on.later;
    link = link_trans start.link old.link new.link so.link stage.on.link;
    tables = λ told at. stage.steps.tables told at ∙ so.tables told at;
    fails = only_map (ReadCause (DownAt old.states p) (outside_of old) (outside_of new)) (ReadCause AnyDown (outside_of start) (outside_of new)) q.at
        (wider p old new so) (read_stage_fails rules p q old new stage.steps.steps.does);
  }

  pub read_runs : (p : Reading) (q : HeldPlan) (new : World) → p.at ≡ Looking → CarriesOut rules (of.Read p) start q new
      → OfRead (ReadRuns rules start) q new
  read_runs p q new at out =
      read_keeps rules (ReadRuns rules start) read_runs_on out.stages p q start new
      (record {
        keepers = record { calls = omega arith; faults = omega arith };
        link = record { carries = omega arith; faults = omega arith; cuts = refl };
        tables = λ told at. refl;
        fails = subst (OnlyBy _) (sym at) tt;
      })
      out.passes

-- ---- writes

-- a stage that isn't a commit leaves what was answered, and where no job was answered also the tables. One that wasn't committed is refused by it
pub record Rests (tells : Bool) (p : Writing) (old : World) (q : Writing) (new : World) : Type 0 where
  pub committed : q.committed ≡ p.committed
  pub tables : answered_job p ≡ None → KeepsTables tells old.keepers new.keepers
  pub first : p.committed ≡ None → q.refused ≡ None → ⊥

-- the stage is a commit
pub record Commits (rules : Rules) (p : Writing) (old : World) (q : Writing) (new : World) : Type 0 where
  pub leaders : Leaders
  pub none : p.committed ≡ None
  pub commits : CommitsHeld (led_by rules leaders) p old q new

module _ (rules : Rules) (p q : Writing) (old new : World) where
  abbrev pub Moves : Type 0
  Moves = Rests rules.tells p old q new ⊎ Commits rules p old q new

  refused_tables : (reply : Reply) → q.refused ≡ Some reply → FailsBy rules p old new q.refused → KeepsTables rules.tells old.keepers new.keepers
  refused_tables reply is fails = (subst (FailsBy rules p old new) is fails).2.same

  no_refusal : (reply : Reply) → q.refused ≡ Some reply → q.refused ≡ None → ⊥
  no_refusal reply is none = (let no : Some reply ≡ None = sym is ∙ none in absurd (cc))

  is_refused : (reply : Reply) → q.committed ≡ p.committed → q.refused ≡ Some reply → FailsBy rules p old new q.refused → Moves
  is_refused reply committed is fails =
      inl (record { committed = committed; tables = λ none. refused_tables reply is fails; first = λ none. no_refusal reply is })

  commit_moves : (leaders : Option Leaders) → p.committed ≡ None → FailsBy rules p old new q.refused → CommitsBy rules leaders p old q new → Moves
  commit_moves (Some leaders) none fails (inl done) = inr (record { leaders = leaders; none = none; commits = done })
  commit_moves (Some leaders) none fails (inr refuses) =
      is_refused _ (ap (λ (r : Writing). r.committed) refuses.then) (ap (λ (r : Writing). r.refused) refuses.then) fails
  commit_moves None none fails finds =
      is_refused _ (ap (λ (r : Writing). r.committed) finds.then) (ap (λ (r : Writing). r.refused) finds.then) fails

  pub inverse_keeps : (result : Result Wrote LeftOpen) (hops : ℕ) → q ≡ after_stage p (came.Inverse result) hops → q.committed ≡ p.committed
  inverse_keeps (Ok wrote) hops is = ap (λ (r : Writing). r.committed) is
  inverse_keeps (Err (left.Scheduled why wrote)) hops is = ap (λ (r : Writing). r.committed) is
  inverse_keeps (Err (left.Refused reply)) hops is = ap (λ (r : Writing). r.committed) is

  pub end_keeps : (result : Result ⊤ LeftOpen) (hops : ℕ) → q ≡ after_stage p (came.End result) hops → q.committed ≡ p.committed
  end_keeps (Ok done) hops is = ap (λ (r : Writing). r.committed) is
  end_keeps (Err (left.Scheduled why wrote)) hops is = ap (λ (r : Writing). r.committed) is
  end_keeps (Err (left.Refused reply)) hops is = ap (λ (r : Writing). r.committed) is

  -- a stage of a job
  of_job : (job : Job) → answered_job p ≡ Some job → q.committed ≡ p.committed → Moves
  of_job job answered committed = inl (record {
    committed = committed;
    tables = λ none. (let no : Some job ≡ None = sym answered ∙ none in absurd (cc));
    first = λ none never.
        let no : None ≡ Some job = sym (ap (λ (c : Option Committed). option_and_then (λ c. c.wrote.job) c) none) ∙ answered in
        absurd (cc);
  })

  -- a stage of the way back
  of_way : (c : Committed) → p.committed ≡ Some c → q.committed ≡ p.committed → new.keepers ≡ old.keepers → Moves
  of_way c answered committed keepers = inl (record {
    committed = committed;
    tables = λ none told at. ap (λ (k : KeeperState). k.told at) keepers;
    first = λ none never. (let no : None ≡ Some c = sym none ∙ answered in absurd (cc));
  })

  stage_moves : (at : WriteStage) → next_of p ≡ at → FailsBy rules p old new q.refused → DoesWriteStage rules at p old q new → Moves
  stage_moves Commit is fails does = commit_moves (leaders_of_write rules.settings old.states p) (before_commit p is) fails does
  stage_moves Inverse is fails m = of_job m.job m.answered (inverse_keeps m.result _ m.then)
  stage_moves End is fails e = of_job e.job e.answered (end_keeps e.result _ e.then)
  stage_moves Relay is fails (inl relays) = of_way relays.committed relays.answered (ap (λ (r : Writing). r.committed) relays.then) relays.rest.keepers
  stage_moves Relay is fails (inr loses) = of_way loses.committed loses.answered (ap (λ (r : Writing). r.committed) loses.then) loses.rest.keepers
  stage_moves Apply is fails (inl applies) = of_way applies.committed applies.answered (ap (λ (r : Writing). r.committed) applies.then) applies.rest.keepers
  stage_moves Apply is fails (inr loses) = of_way loses.committed loses.answered (ap (λ (r : Writing). r.committed) loses.then) loses.rest.keepers
  stage_moves Done is fails does = absurd does

  pub moves : ComesOfWrite rules p old q new → Moves
  moves (inl next) = stage_moves (next_of p) refl (write_stage_fails rules p q old new (inl next)) next.does
  moves (inr ends) =
      let by = ended_down p q old new ends in
      is_refused _ by.committed by.refused (write_stage_fails rules p q old new (inr ends))

-- what is so of a write that isn't held, since it began there
abbrev pub whole_terms : Rules → Writing → World → Option Entry → WriteTerms
whole_terms rules p start entry = record {
  tells = rules.tells;
  First = entry ≡ None;
  asked = asked_of_log rules.settings start.keepers (call_of_plan p);
  entry = entry;
  Leaderless = λ region. ⊤;
  Down = AnyDown;
}

-- a write that began there
pub record WriteRuns (rules : Rules) (start : World) (p : Writing) (q : Writing) (now : World) : Type 0 where
  pub keepers : IsLater start.keepers now.keepers
  pub link : IsLaterLink start.link now.link
  pub call : call_of_plan q ≡ call_of_plan p
  pub first : q.refused ≡ None → q.committed ≡ None → (q ≡ p) × (now ≡ start)
  pub jobless : answered_entry q ≡ None → WhereTold rules.tells (answered_job q ≡ None)
  pub tables : answered_entry q ≡ None → KeepsTables rules.tells start.keepers now.keepers
  pub stands : StandsWhen rules.tells rules.settings now.keepers.told (Some (call_of_plan p)) (when_of (answered_entry q))
  pub fails : RefusedBy (WriteCause (whole_terms rules p start (answered_entry q)) (outside_of start) (outside_of now)) q.refused

-- what a commit answered is of no other entry than its own
pub committed_entry : (q : Writing) (committed : Option Committed) → q.committed ≡ committed
    → answered_entry q ≡ option_and_then (λ (c : Committed). c.wrote.entry) committed
committed_entry q committed is = ap (λ (c : Option Committed). option_and_then (λ c. c.wrote.entry) c) is

before_entry : (p : Writing) → p.committed ≡ None → answered_entry p ≡ None
before_entry p none = committed_entry p None none

refused_map : (P Q : Refusal → Type 0) (refused : Option Reply) → ((refusal : Refusal) → P refusal → Q refusal) → RefusedBy P refused → RefusedBy Q refused
refused_map P Q None f fails = tt
refused_map P Q (Some reply) f fails = (fails.0, fails.1, f fails.0 fails.2)

-- of a commit that finds nothing to change: no job is opened, and no table changes
nothing_opened : (types : _) (retry : Bool) (job : Option Job) (asked : _) → OpensJob types retry None job → AnswersAs asked retry None → job ≡ None
nothing_opened types false job asked opens answers = opens
nothing_opened types true job asked opens answers = absurd answers

nothing_gained : (retry : Bool) (old new : Tables) (at : _) (job : Option Entry → Option Job)
    → TableGains old new at (new_entry retry None) (job (new_entry retry None)) → Stays old new
nothing_gained false old new at job gains = gains
nothing_gained true old new at job gains = gains

module _ (rules : Rules) (start : World) (p0 : Writing) (regions : HaveMasterRegions rules.settings) where
  module _ (p q : Writing) (old new : World) (so : WriteRuns rules start p0 p old) (stage : PassesStage rules (of.Write p) old (of.Write q) new) where
    abbrev Why : Option Entry → Refusal → Type 0
    Why entry = WriteCause (whole_terms rules p0 start entry) (outside_of start) (outside_of new)

    at_first : p.refused ≡ None → p.committed ≡ None → asked_of_log rules.settings old.keepers (call_of_plan p)
        ≡ asked_of_log rules.settings start.keepers (call_of_plan p0)
    at_first never none =
        let first = so.first never none in
        ap (λ (w : World). asked_of_log rules.settings w.keepers (call_of_plan p)) first.1
        ∙ ap (λ (r : Writing). asked_of_log rules.settings start.keepers (call_of_plan r)) first.0

    -- what the log says of the write it says of the call
    by_log : p.refused ≡ None → (Is : AskedWrite → Type 0) → p.committed ≡ None
        → WhereTold rules.tells (Is (asked_of_log rules.settings old.keepers (call_of_plan p)))
        → (answered_entry p ≡ None) × WhereTold rules.tells (Is (asked_of_log rules.settings start.keepers (call_of_plan p0)))
    by_log never Is none says = (before_entry p none, subst (λ a. WhereTold rules.tells (Is a)) (at_first never none) says)

    wide : p.refused ≡ None → (refusal : Refusal) → StageRefuses (stage_terms rules p old) old new refusal → Why (answered_entry p) refusal
    wide never (Store (TooOld cut position)) h = by_log never (λ a. IsTooOld a cut position) h.cause.0 h.cause.1
    wide never (Store (SeqReused position)) h = by_log never (λ a. IsReused a position) h.cause.0 h.cause.1
    wide never (Store (ShardFull serial)) h = by_log never (λ a. IsShardFull a serial) h.cause.0 h.cause.1
    wide never (Store (StampFull number)) h = by_log never (λ a. IsStampFull a number) h.cause.0 h.cause.1
    wide never (Store (LogFull count)) h = by_log never (λ a. IsLogFull a count) h.cause.0 h.cause.1
    wide never (Store (KeeperFault count)) h = (before_entry p h.cause.0, h.cause.1, Rose-earlier _ _ _ so.keepers.faults h.cause.2)
    wide never (Store (LinkFault count when)) h = (h.cause.0, Rose-earlier _ _ _ so.link.faults h.cause.1, h.cause.2)
    wide never (Memory position) h = (before_entry p h.cause.0, h.cause.1)
    wide never (Node (NoServer region)) h = (before_entry p h.cause.0, tt)
    wide never (Node (NodeDown node when)) h = tt
    wide never refusal h = absurd h.cause

    abbrev does : ComesOfWrite rules p old q new
    does = stage.steps

    never : p.refused ≡ None
    never = was_unrefused rules p q old new does

    abbrev same : IsSameWrite p q
    same = write_same p q old new rules does

    call_is : call_of_plan q ≡ call_of_plan p
    call_is = ap (λ o. client_call o q.write) same.origin ∙ ap (client_call p.origin) same.write

    -- what stands of it
    stands_now : StandsWhen rules.tells rules.settings new.keepers.told (Some (call_of_plan p0)) (when_of (answered_entry q))
    stands_now = subst (λ c. StandsWhen rules.tells rules.settings new.keepers.told (Some c) (when_of (answered_entry q))) (call_is ∙ so.call)
        (stands_when rules.tells rules.settings new.keepers.told new.fleet q regions stage.on.consistent stage.under_way)

    module _ (rests : Rests rules.tells p old q new) where
      entry_is : answered_entry q ≡ answered_entry p
      entry_is = committed_entry q p.committed rests.committed

      job_is : answered_job q ≡ answered_job p
      job_is = ap (λ (c : Option Committed). option_and_then (λ c. c.wrote.job) c) rests.committed

      rests_on : WriteRuns rules start p0 q new
      rests_on = record {
        keepers = later_trans start.keepers old.keepers new.keepers so.keepers stage.on.later;
        link = link_trans start.link old.link new.link so.link stage.on.link;
        call = call_is ∙ so.call;
        first = λ unrefused none. absurd (rests.first (sym rests.committed ∙ none) unrefused);
        jobless = λ none told. job_is ∙ so.jobless (sym entry_is ∙ none) told;
        tables = λ none told at.
            let was = sym entry_is ∙ none in
            rests.tables (so.jobless was told) told at ∙ so.tables was told at;
        stands = stands_now;
        fails = subst (λ e. RefusedBy (Why e) q.refused) (sym entry_is)
            (refused_map (StageRefuses (stage_terms rules p old) old new) (Why (answered_entry p)) q.refused (wide never)
            (write_stage_fails rules p q old new does));
      }

    module _ (did : Commits rules p old q new) where
      abbrev c : Committed
      c = did.commits.committed

      answered : q.committed ≡ Some c
      answered = ap (λ (r : Writing). r.committed) did.commits.then

      unrefused : q.refused ≡ None
      unrefused = ap (λ (r : Writing). r.refused) did.commits.then ∙ never

      no_job : (entry : Option Entry) → c.wrote.entry ≡ entry → entry ≡ None → WhereTold rules.tells (c.wrote.job ≡ None)
      no_job None is none told =
          nothing_opened (types_of rules.settings.schema) c.wrote.retry c.wrote.job (asked_of_log rules.settings old.keepers (call_of_plan p))
          (subst (λ e. OpensJob (types_of rules.settings.schema) c.wrote.retry e c.wrote.job) is did.commits.commits.opens)
          (subst (λ e. AnswersAs (asked_of_log rules.settings old.keepers (call_of_plan p)) c.wrote.retry e) is (did.commits.commits.commits.answers told))
      no_job (Some e) is none told = absurd (cc)

      no_change : (entry : Option Entry) → c.wrote.entry ≡ entry → entry ≡ None → KeepsTables rules.tells old.keepers new.keepers
      no_change None is none told =
          nothing_gained c.wrote.retry old.keepers.told new.keepers.told (master_store rules.settings (write_shard p.write))
          (job_with (types_of rules.settings.schema))
          (subst (λ e. TableGains old.keepers.told new.keepers.told (master_store rules.settings (write_shard p.write)) (new_entry c.wrote.retry e)
          (job_with (types_of rules.settings.schema) (new_entry c.wrote.retry e))) is (did.commits.commits.commits.gains told))
      no_change (Some e) is none told = absurd (cc)

      commits_on : WriteRuns rules start p0 q new
      commits_on = record {
        keepers = later_trans start.keepers old.keepers new.keepers so.keepers stage.on.later;
        link = link_trans start.link old.link new.link so.link stage.on.link;
        call = call_is ∙ so.call;
        first = λ unrefused none. (let no : None ≡ Some c = sym none ∙ answered in absurd (cc));
        jobless = λ none told.
            ap (λ (c : Option Committed). option_and_then (λ c. c.wrote.job) c) answered
            ∙ no_job c.wrote.entry refl (sym (committed_entry q (Some c) answered) ∙ none) told;
        tables = λ none told at.
            no_change c.wrote.entry refl (sym (committed_entry q (Some c) answered) ∙ none) told at
            ∙ so.tables (before_entry p did.none) told at;
        stands = stands_now;
        fails = subst (RefusedBy (Why (answered_entry q))) (sym unrefused) tt;
      }

    runs_by : Rests rules.tells p old q new ⊎ Commits rules p old q new → WriteRuns rules start p0 q new
    runs_by (inl rests) = rests_on rests
    runs_by (inr did) = commits_on did

  write_runs_on : (p q : Writing) (old new : World) → WriteRuns rules start p0 p old → PassesStage rules (of.Write p) old (of.Write q) new
      → WriteRuns rules start p0 q new
  write_runs_on p q old new so stage = runs_by p q old new so stage (moves rules p q old new stage.steps)

  pub write_runs : (q : HeldPlan) (new : World) → p0.committed ≡ None → p0.refused ≡ None → CarriesOut rules (of.Write p0) start q new
      → OfWrite (WriteRuns rules start p0) q new
  write_runs q new none never out =
      write_keeps rules (WriteRuns rules start p0) write_runs_on out.stages p0 q start new
      (record {
        keepers = record { calls = omega arith; faults = omega arith };
        link = record { carries = omega arith; faults = omega arith; cuts = refl };
        call = refl;
        first = λ unrefused uncommitted. (refl, refl);
        jobless = λ nothing told. ap (λ (c : Option Committed). option_and_then (λ c. c.wrote.job) c) none;
        tables = λ nothing told at. refl;
        stands = subst (StandsWhen rules.tells rules.settings start.keepers.told (Some (call_of_plan p0))) (sym (ap when_of (before_entry p0 none))) tt;
        fails = subst (RefusedBy _) (sym never) tt;
      })
      out.passes
