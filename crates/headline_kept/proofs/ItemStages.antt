-- A write, by each of its stages and by all of them, leaves each item that no entry names which it brings to nodes.
use Rattle.std.proofs.Common.{◌≡◌, ◌<◌, ◌∙◌, ◌++◌, [], ℕ, Bool, true, false, List, Option, Some, None, Result, Ok, Err, refl, sym, ap, subst, inl, inr}
use Rattle.std.proofs.lemmas.Bool.{ltb-true}
use Rattle.std.specs.List.{AllByRecursion}
use Rattle.std.specs.Option.{option_map}
use Rattle.std.specs.Prelude.{IfSome, ⊤, if◌then◌else◌, nat_lt, option_and_then, option_to_list}
use Rattle.core_model.specs.Consistent.{IsConsistent}
use Rattle.core_model.specs.Fleet.{Fleet}
use Rattle.core_model.specs.Jobs.{ShardJob, far_shard}
use Rattle.core_model.specs.Stores.{HaveMasterRegions}
use Rattle.core_plans.proofs.HeldWriteStages.{its_own}
use Rattle.core_plans.proofs.InTurn.{write_same}
use Rattle.core_plans.proofs.WholeRuns.{OfWrite, write_keeps}
use Rattle.core_plans.specs.HeldWrites.{ComesOfWrite, CommitsBy, DoesWriteStage, IsAnswerTo, MergesHeld, RefusesOnWay, RefusesWrite, call_of_plan, job_by}
use Rattle.core_plans.specs.HeldWrites.{job_sender}
use Rattle.core_plans.specs.LedBy.{LedBy, Rules, led_by}
use Rattle.core_plans.specs.Needs.{leader_to_pass, leaders_of_write, tier_of_write}
use Rattle.write_plan.specs.Plans.{last_leader}
use Rattle.core_plans.specs.WholeCalls.{CarriesOut, PassesStage}
use Rattle.core_plans.specs.declared.held.HeldPlan.{HeldPlan}
use Rattle.core_plans.specs.declared.held.HeldPlan.TheVariants.{Read, Write}
use Rattle.core_plans.specs.declared.leaders.Leaders.{Leaders}
use Rattle.core_steps.specs.OtherEnds.{EndsOver, JobWay, LeavesJob, MergesAlong, MergesBy, SentJob, TakesMerge, job_way, master_leader, merging_leader}
use Rattle.core_steps.specs.OtherEnds.{sent_job}
use Rattle.core_steps.specs.World.{World}
use Rattle.core_model.specs.Asked.{AuthoredWrite, client_call}
use Rattle.headline_kept.proofs.ItemEntries.{IsUnder, all_later, all_since, merged_is, own_answered}
use Rattle.headline_kept.proofs.NamedLeaders.{all_of}
use Rattle.headline_kept.proofs.ItemWrites.{AllTake, both_take, follower_takes, leader_relays, leader_takes, same_take}
use Rattle.headline_kept.specs.Touches.{IsOfWrite}
use Rattle.node_name.specs.declared.NodeName.{NodeName}
use Rattle.replies.specs.declared.calls.ScheduledWhy.{ScheduledWhy}
use Rattle.replies.specs.declared.calls.ScheduledWhy.TheVariants as why
use Rattle.replies.specs.declared.refusals.Refusal.{Refusal}
use Rattle.replies.specs.declared.refusals.Refusal.TheVariants.{Memory, Store}
use Rattle.replies.specs.declared.refusals.StoreRefused.TheVariants.{LinkFault}
use Rattle.shard_tables.specs.declared.writes.Wrote.{Wrote}
use Rattle.tao_base.specs.Writes.{write_shard}
use Rattle.tao_base.specs.declared.entry.Entry.{Entry}
use Rattle.tao_keeper.proofs.Growing.{growing_laws}
use Rattle.tao_keeper.specs.Growing.{LogsGrow}
use Rattle.tao_keeper.specs.KeeperState.{KeeperState}
use Rattle.topology.specs.Config.{Settings}
use Rattle.write_plan.specs.Plans.{Writing, answered_entry, next_of}
use Rattle.write_plan.specs.declared.committed.Committed.{Committed}
use Rattle.write_plan.specs.declared.results.LeftOpen.{LeftOpen}
use Rattle.write_plan.specs.declared.results.LeftOpen.TheVariants as left
use Rattle.write_plan.specs.declared.stage.WriteStage.{WriteStage}
use Rattle.write_plan.specs.declared.stage.WriteStage.TheVariants.{Apply, Commit, Done, End, Inverse, Relay}

-- entries of the write were brought to nodes since the start, and stand in their logs now
pub record Brings (tells : Bool) (s : Settings) (call : AuthoredWrite) (follower : NodeName) (start now : World) : Type 0 where
  pub brought : List Entry
  pub are : AllByRecursion (IsOfWrite tells s start.keepers.told now.keepers.told call) brought
  pub take : AllTake follower brought start.fleet now.fleet

pub brings_none : (tells : Bool) (s : Settings) (call : AuthoredWrite) (follower : NodeName) (start now : World) → now.fleet ≡ start.fleet
    → Brings tells s call follower start now
brings_none tells s call follower start now same = record { brought = []; are = tt; take = same_take follower [] start.fleet now.fleet same }

-- ---- a commit that is refused

module _ (led : LedBy) (p : Writing) (old new : World) where
  passing_same : (passed : Option NodeName) (refusal : Refusal) → RefusesOnWay led.tells passed p refusal old new → new.fleet ≡ old.fleet
  passing_same None refusal refuses = absurd refuses
  passing_same (Some leader) (Store (LinkFault count when)) refuses = refuses.1.same.fleet
  passing_same (Some leader) (Memory position) refuses = ap (λ (w : World). w.fleet) refuses.1
  passing_same (Some leader) other refuses = absurd refuses

  refused_same : (refusal : Refusal) → RefusesWrite led p refusal old new → new.fleet ≡ old.fleet
  refused_same refusal (inl passing) = passing_same led.passed refusal passing
  refused_same (Store (LinkFault count when)) (inr refuses) = refuses.1.same.fleet
  refused_same (Store other) (inr refuses) = refuses.1.same.fleet
  refused_same (Memory position) (inr refuses) = refuses.1.same.fleet
  refused_same other (inr refuses) = absurd refuses

-- ---- one stage

module _ (rules : Rules) (p : Writing) (old new : World) (regions : HaveMasterRegions rules.settings)
    (before : IsConsistent rules.tells rules.settings old.keepers.told old.fleet)
    (after : IsConsistent rules.tells rules.settings new.keepers.told new.fleet) where
  abbrev s : Settings
  s = rules.settings

  abbrev Brought : Type 0
  Brought = Brings rules.tells s (call_of_plan p) p.follower old new

  rests : new.fleet ≡ old.fleet → Brought
  rests same = brings_none rules.tells s (call_of_plan p) p.follower old new same

  -- who is chosen is chosen for a shard that is configured
  within : (shard most : ℕ) (found : Option NodeName) (leader : NodeName) (test : Bool) → nat_lt shard most ≡ test
      → (if test then found else None) ≡ Some leader → shard < most
  within shard most found leader true at is = ltb-true shard most at
  within shard most found leader false at is = absurd (cc)

  placed_by : (found : Option NodeName) (leaders : Leaders) → master_leader s old.states (tier_of_write p) (write_shard p.write) ≡ found
      → option_map (λ leader. record { leader = leader; passed = leader_to_pass old.states p }) found ≡ Some leaders → write_shard p.write < s.shards
  placed_by None leaders at none = absurd (cc)
  placed_by (Some leader) leaders at some = within (write_shard p.write) s.shards _ leader (nat_lt (write_shard p.write) s.shards) refl at

  commit_brings : (leaders : Option Leaders) (q : Writing) → leaders_of_write s old.states p ≡ leaders → CommitsBy rules leaders p old q new → Brought
  commit_brings (Some leaders) q chosen (inl commits) = record {
    brought = option_to_list commits.committed.wrote.entry;
    are = own_answered rules.tells s new.keepers.told new.fleet.stores regions after.stores old.keepers.told p commits.committed
        (placed_by (master_leader s old.states (tier_of_write p) (write_shard p.write)) leaders refl chosen)
        (its_own (led_by rules leaders) p commits.committed.wrote old new commits.commits) commits.answer;
    take = leader_takes p.follower old.fleet new.fleet s (write_shard p.write) leaders.leader commits.committed.wrote.entry commits.commits.leader
        commits.commits.followers;
  }
  commit_brings (Some leaders) q chosen (inr refuses) = rests (refused_same (led_by rules leaders) p old new refuses.refusal refuses.refuses)
  commit_brings None q chosen finds = rests (ap (λ (w : World). w.fleet) finds.same)

  -- the merge at the other end
  module _ (way : JobWay) (of : way.job.shard ≡ write_shard p.write) (far : far_shard way.job.job < s.shards) where
    takes_brings : (wrote : Wrote) → TakesMerge rules.tells s way wrote old new → Brought
    takes_brings wrote takes = record {
      brought = option_to_list wrote.entry;
      are = merged_is rules.tells s (call_of_plan p) old new way.job of far wrote.entry takes.writes;
      take = leader_takes p.follower old.fleet new.fleet s (far_shard way.job.job) way.merging wrote.entry takes.leader takes.followers;
    }

    leaves_brings : (reason : ScheduledWhy) (wrote : Option Wrote) → LeavesJob rules.tells s way (left.Scheduled reason wrote) old new → Brought
    leaves_brings why.LinkFault None h = rests h.2.fleet
    leaves_brings why.LinkFault (Some wrote) h = takes_brings wrote h.2
    leaves_brings why.KeeperFault None h = rests h.1.fleet
    leaves_brings why.LogFull None h = rests h.1.fleet
    leaves_brings why.Memory None h = rests h.0.fleet
    leaves_brings why.NoServer wrote h = absurd h
    leaves_brings why.KeeperFault (Some wrote) h = absurd h
    leaves_brings why.LogFull (Some wrote) h = absurd h
    leaves_brings why.Memory (Some wrote) h = absurd h

    along_brings : (result : Result Wrote LeftOpen) → MergesAlong rules.tells s way result old new → Brought
    along_brings (Ok wrote) merges = takes_brings wrote merges.0
    along_brings (Err (left.Scheduled reason wrote)) h = leaves_brings reason wrote h
    along_brings (Err (left.Refused reply)) h = absurd h

  by_brings : (sent : SentJob) → sent.job.shard ≡ write_shard p.write → (found : Option NodeName) → merging_leader s old.states sent ≡ found
      → (result : Result Wrote LeftOpen) → MergesBy rules.tells s found sent result old new → Brought
  by_brings sent of (Some merging) chosen result merges =
      along_brings (job_way sent merging) of
      (within (far_shard sent.job.job) s.shards _ merging (nat_lt (far_shard sent.job.job) s.shards) refl chosen) result merges
  by_brings sent of None chosen result merges = rests (ap (λ (w : World). w.fleet) merges.1)

  inverse_brings : (q : Writing) → MergesHeld rules p old q new → Brought
  inverse_brings q merges =
      let sent = sent_job (job_sender p merges.committed) (job_by p merges.job) in
      by_brings sent refl (merging_leader s old.states sent) refl merges.result merges.merges

  end_same : (j : ShardJob) (result : Result ⊤ LeftOpen) → EndsOver rules.tells s j result old new → new.fleet ≡ old.fleet
  end_same j (Ok done) h = ap (λ (w : World). w.fleet) h.1
  end_same j (Err (left.Scheduled why.KeeperFault None)) h = ap (λ (w : World). w.fleet) h.2
  end_same j (Err (left.Scheduled why.Memory None)) h = ap (λ (w : World). w.fleet) h.1
  end_same j (Err other) h = absurd h

  -- what the commit answered, as the plan has it
  answer_is : (committed : Option Committed) (c : Committed) → committed ≡ Some c → IfSome committed (IsAnswerTo s old.fleet.stores p)
      → IsAnswerTo s old.fleet.stores p c
  answer_is None c is answered = absurd (cc)
  answer_is (Some d) c is answered = (let same : d ≡ c = cc in subst (IsAnswerTo s old.fleet.stores p) same answered)

  module _ (answered : IfSome p.committed (IsAnswerTo s old.fleet.stores p)) (own : IsUnder rules.tells p.origin (answered_entry p))
      (placed : (c : Committed) → p.committed ≡ Some c → write_shard p.write < s.shards) where
    -- on the way back
    own_brings : (c : Committed) → p.committed ≡ Some c → new.keepers ≡ old.keepers
        → AllByRecursion (IsOfWrite rules.tells s old.keepers.told new.keepers.told (call_of_plan p)) (option_to_list c.wrote.entry)
    own_brings c is same =
        subst (λ (k : KeeperState). AllByRecursion (IsOfWrite rules.tells s old.keepers.told k.told (call_of_plan p)) (option_to_list c.wrote.entry))
        (sym same)
        (own_answered rules.tells s old.keepers.told old.fleet.stores regions before.stores old.keepers.told p c (placed c is)
        (subst (λ (o : Option Committed). IsUnder rules.tells p.origin (option_and_then (λ d. d.wrote.entry) o)) is own) (answer_is p.committed c is answered))

    stage_brings : (at : WriteStage) (q : Writing) → DoesWriteStage rules at p old q new → Brought
    stage_brings Commit q does = commit_brings (leaders_of_write s old.states p) q refl does
    stage_brings Inverse q does = inverse_brings q does
    stage_brings End q does = rests (end_same _ does.result does.ends)
    stage_brings Relay q (inl relays) = record {
      brought = option_to_list relays.committed.wrote.entry;
      are = own_brings relays.committed relays.answered relays.rest.keepers;
      take = leader_relays p.follower old.fleet new.fleet s (write_shard p.write) relays.passed relays.committed.wrote.entry relays.relays
          (ap (λ (f : Fleet). f.followers) relays.rest.fleet);
    }
    stage_brings Relay q (inr loses) = rests loses.fleet
    stage_brings Apply q (inl applies) = record {
      brought = option_to_list applies.committed.wrote.entry;
      are = own_brings applies.committed applies.answered applies.rest.keepers;
      take = follower_takes p.follower old.fleet new.fleet s (write_shard p.write) (last_leader applies.committed) applies.committed.wrote.entry
          applies.takes (ap (λ (f : Fleet). f.leaders) applies.rest.fleet);
    }
    stage_brings Apply q (inr loses) = rests loses.fleet
    stage_brings Done q does = absurd does

    pub comes_brings : (q : Writing) → ComesOfWrite rules p old q new → Brought
    comes_brings q (inl next) = stage_brings (next_of p) q next.does
    comes_brings q (inr down) = rests (ap (λ (w : World). w.fleet) down.same)

-- ---- all stages

-- the write under way, and what it has brought since the start
record WriteSo (rules : Rules) (call : AuthoredWrite) (follower : NodeName) (start : World) (p : Writing) (now : World) : Type 0 where
  call_is : call_of_plan p ≡ call
  follower_is : p.follower ≡ follower
  answered : IfSome p.committed (IsAnswerTo rules.settings now.fleet.stores p)
  own : IsUnder rules.tells p.origin (answered_entry p)
  consistent : IsConsistent rules.tells rules.settings now.keepers.told now.fleet
  grows : LogsGrow rules.tells start.keepers.told now.keepers.told
  brings : Brings rules.tells rules.settings call follower start now

module _ (rules : Rules) (call : AuthoredWrite) (follower : NodeName) (start : World) (regions : HaveMasterRegions rules.settings) where
  stage_goes_on : (p q : Writing) (old new : World) → WriteSo rules call follower start p old → PassesStage rules (Write p) old (Write q) new
      → WriteSo rules call follower start q new
  stage_goes_on p q old new was passes =
      let s = rules.settings in
      let stays = write_same p q old new rules passes.steps in
      let same : call_of_plan q ≡ call_of_plan p = ap (λ o. client_call o q.write) stays.origin ∙ ap (client_call p.origin) stays.write in
      let here : write_shard p.write < s.shards = subst (λ w. write_shard w < s.shards) stays.write passes.under_way.follower.here in
      let more = comes_brings rules p old new regions was.consistent passes.on.consistent was.answered was.own (λ c is. here) q passes.steps in
      record {
        call_is = same ∙ was.call_is;
        follower_is = stays.follower ∙ was.follower_is;
        answered = passes.under_way.committed;
        own = passes.under_way.own;
        consistent = passes.on.consistent;
        grows = growing_laws.in_turn rules.tells start.keepers.told old.keepers.told new.keepers.told was.grows passes.on.grows.on.logs;
        brings = record {
          brought = was.brings.brought ++ more.brought;
          are = all_of (IsOfWrite rules.tells s start.keepers.told new.keepers.told call) was.brings.brought more.brought
              (all_later rules.tells s old.keepers.told new.keepers.told passes.on.grows.on.logs start.keepers.told call was.brings.brought was.brings.are)
              (all_since rules.tells s start.keepers.told old.keepers.told was.grows new.keepers.told call more.brought
              (subst (λ w. AllByRecursion (IsOfWrite rules.tells s old.keepers.told new.keepers.told w) more.brought) was.call_is more.are));
          take = both_take follower was.brings.brought more.brought start.fleet old.fleet new.fleet was.brings.take
              (subst (λ f. AllTake f more.brought old.fleet new.fleet) was.follower_is more.take);
        };
      }

  so_brings : (q : HeldPlan) (new : World) → OfWrite (WriteSo rules call follower start) q new → Brings rules.tells rules.settings call follower start new
  so_brings (Write q) new so = so.brings
  so_brings (Read q) new so = absurd so

pub whole_brings : (rules : Rules) (p : Writing) (q : HeldPlan) (old new : World) → HaveMasterRegions rules.settings
    → IsConsistent rules.tells rules.settings old.keepers.told old.fleet → p.committed ≡ None → CarriesOut rules (Write p) old q new
    → Brings rules.tells rules.settings (call_of_plan p) p.follower old new
whole_brings rules p q old new regions before none carries =
    let call = call_of_plan p in
    so_brings rules call p.follower old regions q new
    (write_keeps rules (WriteSo rules call p.follower old) (stage_goes_on rules call p.follower old regions) carries.stages p q old new (record {
      call_is = refl;
      follower_is = refl;
      answered = subst (λ o. IfSome o (IsAnswerTo rules.settings old.fleet.stores p)) (sym none) tt;
      own = subst (λ (o : Option Committed). IsUnder rules.tells p.origin (option_and_then (λ c. c.wrote.entry) o)) (sym none) (λ told. tt);
      consistent = before;
      grows = growing_laws.stays rules.tells old.keepers.told old.keepers.told (λ told at. refl);
      brings = brings_none rules.tells rules.settings call p.follower old old refl;
    }) carries.passes)
