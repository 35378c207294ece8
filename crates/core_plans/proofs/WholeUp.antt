-- A call that is carried out whole from a follower that is up finds each node up that it needs.
use Rattle.std.proofs.Common.{◌≡◌, ◌⊎◌, ℕ, Bool, true, false, List, [], ◌∷◌, Option, Some, None, Ok, Err, refl, ap, sym, ◌∙◌, subst, inl, inr}
use Rattle.std.specs.Prelude.{⊤, ◌==◌, IfSome, Result, find, nat_lt, option_and_then}
use Rattle.std.specs.Option.{option_map}
use Rattle.std.proofs.lemmas.Bool.{and_parts, cases_Bool}
use Rattle.cache_items.specs.declared.look.Look.{Look}
use Rattle.cache_items.specs.declared.look.Look.TheVariants.{Hit, Miss}
use Rattle.core_model.specs.Jobs.{ShardJob}
use Rattle.core_plans.specs.Held.{IsOver}
use Rattle.core_plans.specs.HeldReads.{ComesOfRead, DoesKeep, DoesLook, DoesReadStage, route_by, wanted_by}
use Rattle.core_plans.specs.HeldWrites.{ComesOfWrite, CommitsBy, DoesWriteStage, RefusesOnWay, RefusesWrite, job_by, job_sender, sent_by}
use Rattle.core_plans.specs.LedBy.{LedBy, Rules, led_by}
use Rattle.core_plans.specs.Needs.{asked_of_read, down_of, first_down, leader_to_pass, leaders_of_write, or_else, read_needs}
use Rattle.write_plan.specs.Plans.{last_leader}
use Rattle.core_plans.specs.Needs.{tier_of_write, write_needs}
use Rattle.core_plans.specs.WholeCalls.{CarriesOut, PassesStage}
use Rattle.core_plans.specs.WholeLaws.{IsBegun, IsBegunWrite, IsForWantOfLeader, WholeCallIsUp, follower_of}
use Rattle.core_plans.specs.declared.held.HeldPlan.{HeldPlan}
use Rattle.core_plans.specs.declared.held.HeldPlan.TheVariants.{Read, Write}
use Rattle.core_plans.specs.declared.leaders.Leaders.{Leaders}
use Rattle.core_plans.specs.declared.needs.Needs.{Needs}
use Rattle.core_plans.proofs.HeldWriteStages.{before_commit}
use Rattle.core_plans.proofs.InTurn.{read_same, write_same}
use Rattle.core_plans.proofs.ShortOfMemory.{unrefused_by}
use Rattle.core_plans.proofs.StageLemmas.{merge_refuses_none}
use Rattle.core_plans.proofs.UpNodes.{IsUpNode, asked_up}
use Rattle.core_plans.proofs.WholeRuns.{OfRead, OfWrite, read_keeps, write_keeps}
use Rattle.core_steps.specs.OtherEnds.{EndsOver, MergesOver, SentJob, master_leader, sent_job}
use Rattle.core_steps.specs.ReadSteps.{AskFails, IsNotGiven, IsNotRead}
use Rattle.core_steps.specs.Relays.{RefusesPassing}
use Rattle.core_steps.specs.Routes.{master_node}
use Rattle.core_steps.specs.World.{World}
use Rattle.core_steps.specs.Writes.{RefusesCommit, SentWrite}
use Rattle.core_steps.specs.declared.routes.Route.{Route}
use Rattle.node_name.specs.declared.NodeName.{NodeName}
use Rattle.read_plan.specs.Ends.{EndsAt}
use Rattle.read_plan.specs.Readings.{Reading}
use Rattle.read_plan.specs.Standings.{after_ask, after_keep, after_look, after_master, stage_of}
use Rattle.read_plan.specs.declared.end.ReadEnd.TheVariants as ended
use Rattle.read_plan.specs.declared.stages.ReadStage.TheVariants as reads
use Rattle.read_plan.specs.declared.standing.Given.{Given}
use Rattle.read_plan.specs.declared.standing.Given.TheVariants.{Fill, HandedOut, Past}
use Rattle.read_plan.specs.declared.standing.Standing.{Standing}
use Rattle.read_plan.specs.declared.standing.Standing.TheVariants.{Looking, Asking, Mastering, Keeping, Ended}
use Rattle.replies.specs.declared.refusals.NodeRefused.{NodeRefused}
use Rattle.replies.specs.declared.refusals.NodeRefused.TheVariants.{NodeDown}
use Rattle.replies.specs.declared.refusals.Refusal.{Refusal}
use Rattle.replies.specs.declared.refusals.Refusal.TheVariants as refusal
use Rattle.replies.specs.declared.refusals.StoreRefused.{StoreRefused}
use Rattle.replies.specs.declared.refusals.StoreRefused.TheVariants.{LinkFault}
use Rattle.replies.specs.declared.refusals.When.{When}
use Rattle.replies.specs.declared.refusals.When.TheVariants.{Before}
use Rattle.replies.specs.declared.reply.Reply.{Reply}
use Rattle.replies.specs.declared.reply.Reply.TheVariants.{Refused}
use Rattle.shard_tables.specs.declared.leader_answer.LeaderAnswer.{LeaderAnswer}
use Rattle.shard_tables.specs.declared.leader_answer.LeaderAnswer.TheVariants as leads
use Rattle.shard_tables.specs.declared.read_out.ReadOut.{ReadOut}
use Rattle.shard_tables.specs.declared.read_out.ReadOut.TheVariants as store
use Rattle.shard_tables.specs.declared.writes.Wrote.{Wrote}
use Rattle.tao_base.specs.Queries.{query_shard}
use Rattle.tao_base.specs.Writes.{write_shard}
use Rattle.tao_base.specs.declared.query.Query.{Query}
use Rattle.tao_keeper.specs.KeeperState.{KeeperState}
use Rattle.topology.specs.Choices.{leaders_in_turn, master_region, may_lead}
use Rattle.topology.specs.Config.{Settings}
use Rattle.topology.specs.States.{NodeStates, is_up}
use Rattle.core_model.specs.Reads.{Wanted}
use Rattle.write_plan.specs.Plans.{Writing, after_stage, next_of, reply_by, reply_of, stage_from}
use Rattle.write_plan.specs.declared.committed.Committed.{Committed}
use Rattle.write_plan.specs.declared.progress.OtherEnd.{OtherEnd}
use Rattle.write_plan.specs.declared.results.LeftOpen.{LeftOpen}
use Rattle.write_plan.specs.declared.results.LeftOpen.TheVariants as left
use Rattle.write_plan.specs.declared.results.WriteResult.TheVariants as came
use Rattle.write_plan.specs.declared.stage.WriteStage.{WriteStage}
use Rattle.write_plan.specs.declared.stage.WriteStage.TheVariants.{Commit, Inverse, End, Relay, Apply, Done}

-- ---- nodes that are up

none_down : (states : NodeStates) (node : Option NodeName) → IsUpNode states node → down_of states node ≡ None
none_down states None up = refl
none_down states (Some node) up = rw up refl

-- where both are up that a stage needs, none is down
all_up : (states : NodeStates) (needs : Needs) → IsUpNode states needs.acting → IsUpNode states needs.sending → first_down states needs ≡ None
all_up states needs acting sending =
    ap (λ o. or_else o (down_of states needs.sending)) (none_down states needs.acting acting) ∙ none_down states needs.sending sending

chosen_up : (states : NodeStates) (by : ℕ × ℕ) (leaders : List NodeName) → IsUpNode states (find (may_lead states by) leaders)
chosen_up states by [] = tt
chosen_up states by (leader ∷ leaders) = elim (cases_Bool (may_lead states by leader)) [
  | inl may ↦ rw may (and_parts _ _ may).0
  | inr not_may ↦ rw not_may (chosen_up states by leaders)
]

-- the leader that commits a write, and the one that it passes
abbrev AreUp : NodeStates → NodeName → Option NodeName → Type 0
AreUp states leader passed = (is_up states leader ≡ true) × IsUpNode states passed

module _ (s : Settings) (states : NodeStates) (p : Writing) where
  commits_up : IsUpNode states (master_leader s states (tier_of_write p) (write_shard p.write))
  commits_up = elim (cases_Bool (nat_lt (write_shard p.write) s.shards)) [
    | inl here ↦ rw here (chosen_up states (p.region, p.tier)
        (leaders_in_turn states.regions (master_region states (write_shard p.write)) (write_shard p.write)))
    | inr none ↦ rw none tt
  ]

  passes_up : IsUpNode states (leader_to_pass states p)
  passes_up = elim (cases_Bool (p.region == master_region states (write_shard p.write))) [
    | inl own ↦ rw own tt
    | inr other ↦ rw other (chosen_up states (p.region, p.tier) (leaders_in_turn states.regions p.region (write_shard p.write)))
  ]

  chosen_are_up : (found : Option NodeName) (leaders : Leaders) → IsUpNode states found
      → option_map (λ leader. record { leader = leader; passed = leader_to_pass states p }) found ≡ Some leaders
      → AreUp states leaders.leader leaders.passed
  chosen_are_up None leaders up is = absurd (cc)
  chosen_are_up (Some leader) leaders up is =
      let same : record { leader = leader; passed = leader_to_pass states p } ≡ leaders = cc in
      subst (λ (l : Leaders). AreUp states l.leader l.passed) same (up, passes_up)

  -- those that are chosen are up
  leaders_up : (leaders : Leaders) → leaders_of_write s states p ≡ Some leaders → AreUp states leaders.leader leaders.passed
  leaders_up leaders = chosen_are_up (master_leader s states (tier_of_write p) (write_shard p.write)) leaders commits_up

-- ---- refusals

-- the reply is no node's refusal
abbrev IsNoNodes : Reply → Type 0
IsNoNodes reply = (why : NodeRefused) → reply ≡ Refused (refusal.Node why) → ⊥

store_refuses : (r : StoreRefused) → IsNoNodes (Refused (refusal.Store r))
store_refuses r why is = absurd (cc)

memory_wants : (position : ℕ) → IsNoNodes (Refused (refusal.Memory position))
memory_wants position why is = absurd (cc)

link_fails : (r : Refusal) (count : ℕ) → r ≡ refusal.Store (LinkFault count Before) → IsNoNodes (Refused r)
link_fails r count told = subst (λ x. IsNoNodes (Refused x)) (sym told) (store_refuses (LinkFault count Before))

ask_fails : (r : Refusal) (before after : KeeperState) → AskFails r before after → IsNoNodes (Refused r)
ask_fails (refusal.Store r) before after is = store_refuses r
ask_fails (refusal.Memory position) before after is = memory_wants position
ask_fails (refusal.Node why) before after is = absurd is
ask_fails (refusal.Line why) before after is = absurd is
ask_fails (refusal.Plan why) before after is = absurd is
ask_fails (refusal.Session why) before after is = absurd is
ask_fails (refusal.Name why) before after is = absurd is

not_given : (s : Settings) (route : Route) (read : Wanted) (r : Refusal) (old new : World) → IsNotGiven s route read r old new → IsNoNodes (Refused r)
not_given s route read r old new (inl question) = link_fails r _ question.said
not_given s route read r old new (inr (inl nothing)) = ask_fails r old.keepers new.keepers nothing.fails
not_given s route read r old new (inr (inr lost)) = link_fails r _ lost.lost.said

not_read : (s : Settings) (follower : NodeName) (query : Query) (r : Refusal) (old new : World) → IsNotRead s follower query r old new
    → IsNoNodes (Refused r)
not_read s follower query r old new (inl question) = link_fails r _ question.said
not_read s follower query r old new (inr (inl nothing)) = ask_fails r old.keepers new.keepers nothing.fails
not_read s follower query r old new (inr (inr lost)) = link_fails r _ lost.lost.said

refuses_commit : (tells : Bool) (s : Settings) (sent : SentWrite) (r : Refusal) (old new : World) → RefusesCommit tells s sent r old new
    → IsNoNodes (Refused r)
refuses_commit tells s sent (refusal.Store r) old new is = store_refuses r
refuses_commit tells s sent (refusal.Memory position) old new is = memory_wants position
refuses_commit tells s sent (refusal.Node why) old new is = absurd is
refuses_commit tells s sent (refusal.Line why) old new is = absurd is
refuses_commit tells s sent (refusal.Plan why) old new is = absurd is
refuses_commit tells s sent (refusal.Session why) old new is = absurd is
refuses_commit tells s sent (refusal.Name why) old new is = absurd is

refuses_passing : (tells : Bool) (route : Route) (r : Refusal) (old new : World) → RefusesPassing tells route r old new → IsNoNodes (Refused r)
refuses_passing tells route (refusal.Store r) old new is = store_refuses r
refuses_passing tells route (refusal.Memory position) old new is = memory_wants position
refuses_passing tells route (refusal.Node why) old new is = absurd is
refuses_passing tells route (refusal.Line why) old new is = absurd is
refuses_passing tells route (refusal.Plan why) old new is = absurd is
refuses_passing tells route (refusal.Session why) old new is = absurd is
refuses_passing tells route (refusal.Name why) old new is = absurd is

refuses_on_way : (tells : Bool) (passed : Option NodeName) (p : Writing) (r : Refusal) (old new : World) → RefusesOnWay tells passed p r old new
    → IsNoNodes (Refused r)
refuses_on_way tells None p r old new is = absurd is
refuses_on_way tells (Some leader) p r old new is = refuses_passing tells _ r old new is

refuses_write : (led : LedBy) (p : Writing) (r : Refusal) (old new : World) → RefusesWrite led p r old new → IsNoNodes (Refused r)
refuses_write led p r old new (inl on_way) = refuses_on_way led.tells led.passed p r old new on_way
refuses_write led p r old new (inr there) = refuses_commit led.tells led.settings (sent_by led p) r _ new there

-- ---- reads

-- who gave what is to be kept is up, and no node's refusal ended it
abbrev StandsUp : NodeStates → Option NodeName → Standing → Type 0
StandsUp states by (Keeping given) = IsUpNode states by
StandsUp states by (Ended (ended.Refused reply)) = IsNoNodes reply
StandsUp states by (Ended (ended.Answered answer version held)) = ⊤
StandsUp states by Looking = ⊤
StandsUp states by Asking = ⊤
StandsUp states by Mastering = ⊤

record ReadIsUp (p : Reading) (now : World) : Type 0 where
  follower : is_up now.states p.follower ≡ true
  stands : StandsUp now.states p.by p.at

looked_up : (states : NodeStates) (by : Option NodeName) (critical : Bool) (look : Look) → StandsUp states by (after_look critical look)
looked_up states by true look = tt
looked_up states by false (Hit answer version) = tt
looked_up states by false Miss = tt

given_up : (states : NodeStates) (by : Option NodeName) (given : LeaderAnswer) → IsUpNode states by → StandsUp states by (after_ask given)
given_up states by (leads.Filled fill) up = up
given_up states by (leads.Past answer version total note) up = up
given_up states by (leads.Behind version) up = tt

read_up : (states : NodeStates) (by : Option NodeName) (out : ReadOut) → IsUpNode states by → StandsUp states by (after_master out)
read_up states by (store.Filled fill) up = up
read_up states by (store.Past answer version total note) up = up

none_missing : (states : NodeStates) (p : Reading) (at : Standing) → is_up states p.follower ≡ true → StandsUp states p.by at
    → first_down states (read_needs (stage_of at) p) ≡ None
none_missing states p Looking up stands = all_up states (read_needs reads.Look p) up tt
none_missing states p Asking up stands = all_up states (read_needs reads.Ask p) tt up
none_missing states p Mastering up stands = all_up states (read_needs reads.Master p) tt up
none_missing states p (Keeping given) up stands = all_up states (read_needs reads.Keep p) up stands
none_missing states p (Ended end) up stands = refl

module _ (rules : Rules) (p q : Reading) (old new : World) (was : ReadIsUp p old) where
  abbrev Stands : Reading → Type 0
  Stands r = StandsUp old.states r.by r.at

  look_stands : (critical : Bool) → DoesLook rules.settings critical p old q new → Stands q
  look_stands false (inl looks) = subst Stands (sym looks.then) (looked_up old.states p.by p.critical looks.look)
  look_stands false (inr vain) = subst Stands (sym vain.then) (memory_wants 0)
  look_stands true looks = subst Stands (sym looks.then) (looked_up old.states p.by p.critical Miss)

  keep_stands : (given : Given) → p.at ≡ Keeping given → DoesKeep rules.settings p given old q new → Stands q
  keep_stands (Fill fill) at (inl from) =
      subst Stands (sym from.then) (subst (λ a. StandsUp old.states p.by (after_keep p.bound a (Some (from.answer, from.kept)))) (sym at) tt)
  keep_stands (Fill fill) at (inr vain) = subst Stands (sym vain.then) (memory_wants 0)
  keep_stands (Past answer version total seen) at on =
      subst Stands (sym on.then) (subst (λ a. StandsUp old.states p.by (after_keep p.bound a None)) (sym at) tt)
  keep_stands (HandedOut version) at on = absurd on

  stage_stands : (at : Standing) → p.at ≡ at → DoesReadStage rules at p old q new → Stands q
  stage_stands Looking at does = look_stands p.critical does
  stage_stands Asking at (inl asks) =
      subst Stands (sym asks.then) (given_up old.states (Some (asked_of_read old.states p)) asks.given (asked_up old.states p))
  stage_stands Asking at (inr vain) =
      subst Stands (sym vain.then)
      (not_given rules.settings (route_by (asked_of_read old.states p) p) (wanted_by p) vain.refusal old vain.mid vain.fails)
  stage_stands Mastering at (inl asks) =
      subst Stands (sym asks.then) (read_up old.states (Some (master_node rules.settings (query_shard p.query))) asks.out refl)
  stage_stands Mastering at (inr vain) =
      subst Stands (sym vain.then) (not_read rules.settings p.follower p.query vain.refusal old vain.mid vain.fails)
  stage_stands (Keeping given) at does = keep_stands given at does
  stage_stands (Ended end) at does = absurd does

  read_stands : ComesOfRead rules p old q new → Stands q
  read_stands (inl next) = stage_stands p.at refl next.does
  read_stands (inr ends) =
      let none : None ≡ Some ends.node = sym (none_missing old.states p p.at was.follower was.stands) ∙ ends.down in
      absurd (cc)

read_goes_up : (rules : Rules) (p q : Reading) (old new : World) → ReadIsUp p old → PassesStage rules (Read p) old (Read q) new → ReadIsUp q new
read_goes_up rules p q old new was stage =
    let does = stage.steps.steps.does in
    let same = sym (read_same p q old new rules does).follower in
    record {
      follower = subst (λ states. is_up states q.follower ≡ true) (sym stage.on.states) (subst (λ f. is_up old.states f ≡ true) same was.follower);
      stands = subst (λ states. StandsUp states q.by q.at) (sym stage.on.states) (read_stands rules p q old new was does);
    }

ends_up : (states : NodeStates) (q : Reading) (at : Standing) (why : NodeRefused) → StandsUp states q.by at → EndsAt at q (Refused (refusal.Node why)) → ⊥
ends_up states q (Ended (ended.Refused own)) why stands is = stands why (sym is)
ends_up states q (Ended (ended.Answered answer version held)) why stands is = absurd (cc)
ends_up states q Looking why stands is = absurd is
ends_up states q Asking why stands is = absurd is
ends_up states q Mastering why stands is = absurd is
ends_up states q (Keeping given) why stands is = absurd is

read_over : (q : HeldPlan) (now : World) (why : NodeRefused) → OfRead ReadIsUp q now → IsOver q (Refused (refusal.Node why)) → ⊥
read_over (Read q) now why is over = ends_up now.states q q.at why is.stands over
read_over (Write q) now why is over = absurd is

-- ---- writes

-- whoever is on the way back is up
abbrev IsWayUp : NodeStates → Option Committed → Type 0
IsWayUp states committed = IfSome committed (λ c. AreUp states c.leader c.passed)

module _ (states : NodeStates) where
  committer_up : (committed : Option Committed) → IsWayUp states committed → IsUpNode states (option_map (λ (c : Committed). c.leader) committed)
  committer_up None way = tt
  committer_up (Some c) way = way.0

  passed_up : (committed : Option Committed) → IsWayUp states committed → IsUpNode states (option_and_then (λ (c : Committed). c.passed) committed)
  passed_up None way = tt
  passed_up (Some c) way = way.1

  last_of : (c : Committed) (passed : Option NodeName) → c.passed ≡ passed → is_up states c.leader ≡ true → IsUpNode states passed
      → is_up states (last_leader c) ≡ true
  last_of c None is leader up = rw is leader
  last_of c (Some node) is leader up = rw is up

  last_up : (committed : Option Committed) → IsWayUp states committed → IsUpNode states (option_map last_leader committed)
  last_up None way = tt
  last_up (Some c) way = last_of c c.passed refl way.0 way.1

  none_lacks : (p : Writing) (at : WriteStage) → is_up states p.follower ≡ true → IsWayUp states p.committed → first_down states (write_needs at p) ≡ None
  none_lacks p Commit up way = all_up states (write_needs Commit p) tt up
  none_lacks p Inverse up way = all_up states (write_needs Inverse p) tt (committer_up p.committed way)
  none_lacks p End up way = all_up states (write_needs End p) (committer_up p.committed way) tt
  none_lacks p Relay up way = all_up states (write_needs Relay p) (passed_up p.committed way) (committer_up p.committed way)
  none_lacks p Apply up way = all_up states (write_needs Apply p) up (last_up p.committed way)
  none_lacks p Done up way = refl

-- it was committed or refused; who committed it is up, and whom it passed; and a node's refusal ended it only for want of a leader
record IsPastCommit (s : Settings) (states : NodeStates) (first p : Writing) : Type 0 where
  past : p.committed ≡ None → p.refused ≡ None → ⊥
  way : IsWayUp states p.committed
  so : (why : NodeRefused) → p.refused ≡ Some (Refused (refusal.Node why)) → IsForWantOfLeader s states (Write first) why

module _ (rules : Rules) (p q : Writing) (old new : World) (follower_up : is_up old.states p.follower ≡ true) where
  -- the first stage
  module _ (begun : IsBegunWrite p) where
    abbrev Begins : Writing → Type 0
    Begins = IsPastCommit rules.settings old.states p

    no_way : IsWayUp old.states p.committed
    no_way = subst (IsWayUp old.states) (sym begun.uncommitted) tt

    commits : (leaders : Option Leaders) → leaders_of_write rules.settings old.states p ≡ leaders → CommitsBy rules leaders p old q new → Begins q
    commits (Some leaders) is (inl done) =
        let up = leaders_up rules.settings old.states p leaders is in
        let none = begun.unrefused in
        subst Begins (sym done.then) (record {
          past = λ uncommitted unrefused. absurd (cc);
          way = (
            subst (λ n. is_up old.states n ≡ true) (sym done.leader) up.0,
            subst (IsUpNode old.states) (sym done.passed) up.1,
          );
          so = λ why refused. absurd (cc);
        })
    commits (Some leaders) is (inr refuses) = subst Begins (sym refuses.then) (record {
      past = λ uncommitted unrefused. absurd (cc);
      way = no_way;
      so = λ why refused.
          let same : Refused refuses.refusal ≡ Refused (refusal.Node why) = cc in
          absurd (refuses_write (led_by rules leaders) p refuses.refusal old new refuses.refuses why same);
    })
    commits None is finds = subst Begins (sym finds.then) (record {
      past = λ uncommitted unrefused. absurd (cc);
      way = no_way;
      so = λ why refused. (is, (cc));
    })

    begins : ComesOfWrite rules p old q new → Begins q
    begins (inl next) =
        let first : next_of p ≡ Commit = ap (λ r. stage_from r p.committed p.job p.back) begun.unrefused
        ∙ ap (λ c. stage_from None c p.job p.back) begun.uncommitted in
        commits (leaders_of_write rules.settings old.states p) refl (subst (λ at. DoesWriteStage rules at p old q new) first next.does)
    begins (inr ends) =
        let none : None ≡ Some ends.node = sym (none_lacks old.states p (next_of p) follower_up no_way) ∙ ends.down in
        absurd (cc)

  -- and each later one
  module _ (first : Writing) (was : IsPastCommit rules.settings old.states first p) where
    abbrev Goes : Writing → Type 0
    Goes = IsPastCommit rules.settings old.states first

    merges_on : (sent : SentJob) (result : Result Wrote LeftOpen) (hops : ℕ) → MergesOver rules.tells rules.settings sent result old new
        → q ≡ after_stage p (came.Inverse result) hops → Goes q
    merges_on sent (Ok wrote) hops merges then = subst Goes (sym then) (record { past = was.past; way = was.way; so = was.so })
    merges_on sent (Err (left.Scheduled why wrote)) hops merges then = subst Goes (sym then) (record { past = was.past; way = was.way; so = was.so })
    merges_on sent (Err (left.Refused reply)) hops merges then = absurd (merge_refuses_none _ _ sent reply old new merges)

    ends_on : (j : ShardJob) (result : Result ⊤ LeftOpen) (hops : ℕ) → EndsOver rules.tells rules.settings j result old new
        → q ≡ after_stage p (came.End result) hops → Goes q
    ends_on j (Ok done) hops ends then = subst Goes (sym then) (record { past = was.past; way = was.way; so = was.so })
    ends_on j (Err (left.Scheduled why wrote)) hops ends then = subst Goes (sym then) (record { past = was.past; way = was.way; so = was.so })
    ends_on j (Err (left.Refused reply)) hops ends then = absurd ends

    stage_on : (at : WriteStage) → next_of p ≡ at → DoesWriteStage rules at p old q new → Goes q
    stage_on Commit at does = absurd (was.past (before_commit p at) (unrefused_by p.refused p.committed p.job p.back at))
    stage_on Inverse at merges = merges_on (sent_job (job_sender p merges.committed) (job_by p merges.job)) merges.result _ merges.merges merges.then
    stage_on End at ends = ends_on (job_by p ends.job) ends.result 0 ends.ends ends.then
    stage_on Relay at (inl relays) = subst Goes (sym relays.then) (record { past = was.past; way = was.way; so = was.so })
    stage_on Relay at (inr loses) =
        subst Goes (sym loses.then) (record { past = λ c r. absurd (cc); way = was.way; so = λ why refused. absurd (cc) })
    stage_on Apply at (inl applies) = subst Goes (sym applies.then) (record { past = was.past; way = was.way; so = was.so })
    stage_on Apply at (inr loses) =
        subst Goes (sym loses.then) (record { past = λ c r. absurd (cc); way = was.way; so = λ why refused. absurd (cc) })
    stage_on Done at does = absurd does

    goes_past : ComesOfWrite rules p old q new → Goes q
    goes_past (inl next) = stage_on (next_of p) refl next.does
    goes_past (inr ends) =
        let none : None ≡ Some ends.node = sym (none_lacks old.states p (next_of p) follower_up was.way) ∙ ends.down in
        absurd (cc)

record WriteIsUp (s : Settings) (states : NodeStates) (first p : Writing) (now : World) : Type 0 where
  same : now.states ≡ states
  follower : is_up states p.follower ≡ true
  stands : (p ≡ first) ⊎ IsPastCommit s states first p

module _ (rules : Rules) (states : NodeStates) (first : Writing) (begun : IsBegunWrite first) where
  comes_up : (p q : Writing) (old new : World) → old.states ≡ states → is_up states p.follower ≡ true
      → (p ≡ first) ⊎ IsPastCommit rules.settings states first p → ComesOfWrite rules p old q new → IsPastCommit rules.settings states first q
  comes_up p q old new same up (inl is) does =
      subst (λ x. IsPastCommit rules.settings x first q) same
      (begins rules first q old new
      (subst (λ x. is_up x first.follower ≡ true) (sym same) (subst (λ (r : Writing). is_up states r.follower ≡ true) is up)) begun
      (subst (λ r. ComesOfWrite rules r old q new) is does))
  comes_up p q old new same up (inr past) does =
      subst (λ x. IsPastCommit rules.settings x first q) same
      (goes_past rules p q old new (subst (λ x. is_up x p.follower ≡ true) (sym same) up) first
      (subst (λ x. IsPastCommit rules.settings x first p) (sym same) past) does)

  write_goes_up : (p q : Writing) (old new : World) → WriteIsUp rules.settings states first p old → PassesStage rules (Write p) old (Write q) new
      → WriteIsUp rules.settings states first q new
  write_goes_up p q old new was stage = record {
    same = stage.on.states ∙ was.same;
    follower = subst (λ f. is_up states f ≡ true) (sym (write_same p q old new rules stage.steps).follower) was.follower;
    stands = inr (comes_up p q old new was.same was.follower was.stands stage.steps);
  }

  refused_with : (refused : Option Reply) (committed : Option Committed) (job : OtherEnd) (hops : ℕ) (why : NodeRefused)
      → reply_by refused committed job hops ≡ Some (Refused (refusal.Node why)) → refused ≡ Some (Refused (refusal.Node why))
  refused_with (Some own) committed job hops why is = is
  refused_with None None job hops why is = absurd (cc)
  refused_with None (Some c) job hops why is = absurd (cc)

  write_over : (q : HeldPlan) (now : World) (why : NodeRefused) → OfWrite (WriteIsUp rules.settings states first) q now
      → IsOver q (Refused (refusal.Node why)) → IsForWantOfLeader rules.settings states (Write first) why
  write_over (Write q) now why is over = elim is.stands [
    | inl same ↦ (
        let none : None ≡ Some (Refused (refusal.Node why)) =
        sym (ap (λ c. reply_by None c first.job first.hops) begun.uncommitted) ∙ sym (ap (λ r. reply_by r first.committed first.job first.hops) begun.unrefused)
        ∙ subst (λ r. reply_of r ≡ Some (Refused (refusal.Node why))) same over in
        absurd (cc))
    | inr past ↦ past.so why (refused_with q.refused q.committed q.job q.hops why over)
  ]
  write_over (Read q) now why is over = absurd is

-- ---- plans

plan_over : (rules : Rules) (plan : HeldPlan) (old : World) (q : HeldPlan) (new : World) → IsBegun plan → is_up old.states (follower_of plan) ≡ true
    → CarriesOut rules plan old q new → (why : NodeRefused) → IsOver q (Refused (refusal.Node why))
    → IsForWantOfLeader rules.settings old.states plan why
plan_over rules (Read p) old q new begun up out why over =
    absurd (read_over q new why (read_keeps rules ReadIsUp (read_goes_up rules) out.stages p q old new
    (record { follower = up; stands = subst (StandsUp old.states p.by) (sym begun.at) tt }) out.passes) over)
plan_over rules (Write p) old q new begun up out why over =
    write_over rules old.states p begun q new why (write_keeps rules (WriteIsUp rules.settings old.states p) (write_goes_up rules old.states p begun)
    out.stages p q old new (record { same = refl; follower = up; stands = inl refl }) out.passes) over

-- no want of a leader is a node that is down
never_down : (s : Settings) (states : NodeStates) (plan : HeldPlan) (node : NodeName) (when : When) → IsForWantOfLeader s states plan (NodeDown node when) → ⊥
never_down s states (Read p) node when is = absurd is
never_down s states (Write p) node when is = (let no = is.1 in absurd (cc))

pub whole_calls_are_up : (rules : Rules) (plan : HeldPlan) (old : World) (q : HeldPlan) (new : World) → WholeCallIsUp rules plan old q new
whole_calls_are_up rules plan old q new = record {
  refused = plan_over rules plan old q new;
  never_down = λ begun up out node when over.
      never_down rules.settings old.states plan node when (plan_over rules plan old q new begun up out (NodeDown node when) over);
}
