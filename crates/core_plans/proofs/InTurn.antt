-- The stages of a plan, one after another: what the call is stays.
use Rattle.std.proofs.Common.{◌≡◌, ℕ, suc, Bool, true, false, Option, Some, None, Ok, Err, refl, sym, subst, inl, inr}
use Rattle.std.specs.Prelude.{IsSome}
use Rattle.core_plans.specs.Held.{IsUnderWay, StepsHeld, next_stage}
use Rattle.core_plans.specs.WholeCalls.{PassesStages}
use Rattle.core_steps.proofs.PostsLemmas.{posts_none, posts_trans}
use Rattle.core_plans.specs.HeldReads.{ComesOfRead, DoesKeep, DoesLook, DoesReadStage}
use Rattle.core_plans.specs.HeldWrites.{ComesOfWrite, CommitsBy, DoesWriteStage, with_notes}
use Rattle.core_plans.specs.LedBy.{Rules}
use Rattle.core_plans.specs.Needs.{leaders_of_write}
use Rattle.core_plans.specs.declared.leaders.Leaders.{Leaders}
use Rattle.core_plans.specs.declared.held.HeldPlan.{HeldPlan}
use Rattle.core_plans.specs.declared.held.HeldPlan.TheVariants.{Read, Write}
use Rattle.core_plans.proofs.StageLemmas.{ended_down, needs_some, read_needs_some}
use Rattle.core_steps.specs.Posting.{CanPost, PostsOn}
use Rattle.core_steps.specs.World.{World}
use Rattle.core_steps.specs.Routes.{hops_between}
use Rattle.node_name.specs.declared.NodeName.{NodeName}
use Rattle.read_plan.specs.Readings.{Reading}
use Rattle.read_plan.specs.Standings.{stage_named, stage_of}
use Rattle.read_plan.specs.declared.standing.Given.{Given}
use Rattle.read_plan.specs.declared.standing.Given.TheVariants.{Fill, HandedOut, Past}
use Rattle.read_plan.specs.declared.standing.Standing.{Standing}
use Rattle.read_plan.specs.declared.standing.Standing.TheVariants.{Looking, Asking, Mastering, Keeping, Ended}
use Rattle.replies.specs.declared.reply.Reply.TheVariants.{Refused as Refused_}
use Rattle.topology.specs.Config.{Settings}
use Rattle.write_plan.specs.Plans.{Writing, after_stage, next_of}
use Rattle.write_plan.specs.Stages.{stage_said}
use Rattle.write_plan.specs.declared.results.LeftOpen.TheVariants.{Refused, Scheduled}
use Rattle.write_plan.specs.declared.results.WriteResult.{WriteResult}
use Rattle.write_plan.specs.declared.results.WriteResult.TheVariants as came
use Rattle.write_plan.specs.declared.stage.WriteStage.{WriteStage}
use Rattle.write_plan.specs.declared.stage.WriteStage.TheVariants.{Apply, Commit, Done, End, Inverse, Relay}

-- ---- reads

-- a read asks the same, at the same follower and floor, for the same session
pub record IsSameRead (p q : Reading) : Type 0 where
  pub query : q.query ≡ p.query
  pub region : q.region ≡ p.region
  pub floor : q.floor ≡ p.floor
  pub critical : q.critical ≡ p.critical
  pub follower : q.follower ≡ p.follower
  pub reader : q.reader ≡ p.reader

module _ (p q : Reading) (old new : World) where
  same_taken : (ask : Option ℕ) (by : Option NodeName) (at : Standing) (hops : ℕ) (store : Bool)
      → q ≡ record p { ask = ask; by = by; at = at; hops = hops; store = store } → IsSameRead p q
  same_taken ask by at hops store then =
      subst (IsSameRead p) (sym then) (record { query = refl; region = refl; floor = refl; critical = refl; follower = refl; reader = refl })

  look_same : (s : Settings) (critical : Bool) → DoesLook s critical p old q new → IsSameRead p q
  look_same s false (inl looks) = same_taken _ _ _ _ _ looks.then
  look_same s false (inr vain) = same_taken _ _ _ _ _ vain.then
  look_same s true looks = same_taken _ _ _ _ _ looks.then

  keep_same : (s : Settings) (given : Given) → DoesKeep s p given old q new → IsSameRead p q
  keep_same s (Fill fill) (inl from) = same_taken _ _ _ _ _ from.then
  keep_same s (Fill fill) (inr vain) = same_taken _ _ _ _ _ vain.then
  keep_same s (Past answer version total seen) on = same_taken _ _ _ _ _ on.then
  keep_same s (HandedOut version) on = absurd on

  stage_same : (rules : Rules) (at : Standing) → DoesReadStage rules at p old q new → IsSameRead p q
  stage_same rules Looking does = look_same rules.settings p.critical does
  stage_same rules Asking (inl asks) = same_taken _ _ _ _ _ asks.then
  stage_same rules Asking (inr vain) = same_taken _ _ _ _ _ vain.then
  stage_same rules Mastering (inl asks) = same_taken _ _ _ _ _ asks.then
  stage_same rules Mastering (inr vain) = same_taken _ _ _ _ _ vain.then
  stage_same rules (Keeping given) does = keep_same rules.settings given does
  stage_same rules (Ended end) does = absurd does

  pub read_same : (rules : Rules) → ComesOfRead rules p old q new → IsSameRead p q
  read_same rules (inl does) = stage_same rules p.at does.does
  read_same rules (inr ends) = same_taken _ _ _ _ _ ends.over.then

  -- a read that did a stage had one before it
  stage_goes : (rules : Rules) (at : Standing) → DoesReadStage rules at p old q new → IsSome (stage_named (stage_of at))
  stage_goes rules Looking does = refl
  stage_goes rules Asking does = refl
  stage_goes rules Mastering does = refl
  stage_goes rules (Keeping given) does = refl
  stage_goes rules (Ended end) does = absurd does

  read_goes : (rules : Rules) → ComesOfRead rules p old q new → IsSome (stage_named (stage_of p.at))
  read_goes rules (inl does) = stage_goes rules p.at does.does
  read_goes rules (inr ends) = read_needs_some old.states (stage_of p.at) p ends.node ends.down

-- ---- writes

-- a write is the same, of the same client, at the same follower
pub record IsSameWrite (p q : Writing) : Type 0 where
  pub write : q.write ≡ p.write
  pub origin : q.origin ≡ p.origin
  pub region : q.region ≡ p.region
  pub follower : q.follower ≡ p.follower

after_same : (p : Writing) (result : WriteResult) (hops : ℕ) → IsSameWrite p (after_stage p result hops)
after_same p (came.Commit (Ok c)) hops = record { write = refl; origin = refl; region = refl; follower = refl }
after_same p (came.Commit (Err reply)) hops = record { write = refl; origin = refl; region = refl; follower = refl }
after_same p (came.Inverse (Ok wrote)) hops = record { write = refl; origin = refl; region = refl; follower = refl }
after_same p (came.Inverse (Err (Scheduled why wrote))) hops = record { write = refl; origin = refl; region = refl; follower = refl }
after_same p (came.Inverse (Err (Refused reply))) hops = record { write = refl; origin = refl; region = refl; follower = refl }
after_same p (came.End (Ok done)) hops = record { write = refl; origin = refl; region = refl; follower = refl }
after_same p (came.End (Err (Scheduled why wrote))) hops = record { write = refl; origin = refl; region = refl; follower = refl }
after_same p (came.End (Err (Refused reply))) hops = record { write = refl; origin = refl; region = refl; follower = refl }
after_same p (came.Relay (Ok done)) hops = record { write = refl; origin = refl; region = refl; follower = refl }
after_same p (came.Relay (Err reply)) hops = record { write = refl; origin = refl; region = refl; follower = refl }
after_same p (came.Apply (Ok done)) hops = record { write = refl; origin = refl; region = refl; follower = refl }
after_same p (came.Apply (Err reply)) hops = record { write = refl; origin = refl; region = refl; follower = refl }

module _ (p q : Writing) (old new : World) (rules : Rules) where
  abbrev hops : ℕ
  hops = hops_between old.link new.link

  commit_same : (leaders : Option Leaders) → CommitsBy rules leaders p old q new → IsSameWrite p q
  commit_same (Some leaders) (inl commits) =
      subst (IsSameWrite p) (sym commits.then) (after_same p (came.Commit (Ok (with_notes commits.committed))) hops)
  commit_same (Some leaders) (inr refuses) =
      subst (IsSameWrite p) (sym refuses.then) (after_same p (came.Commit (Err (Refused_ refuses.refusal))) hops)
  commit_same None finds = subst (IsSameWrite p) (sym finds.then) (record { write = refl; origin = refl; region = refl; follower = refl })

  write_stage_same : (at : WriteStage) → DoesWriteStage rules at p old q new → IsSameWrite p q
  write_stage_same Commit does = commit_same (leaders_of_write rules.settings old.states p) does
  write_stage_same Inverse merges = subst (IsSameWrite p) (sym merges.then) (after_same p (came.Inverse merges.result) hops)
  write_stage_same End ends = subst (IsSameWrite p) (sym ends.then) (after_same p (came.End ends.result) 0)
  write_stage_same Apply (inl applies) = subst (IsSameWrite p) (sym applies.then) (after_same p (came.Apply (Ok tt)) hops)
  write_stage_same Apply (inr loses) =
      subst (IsSameWrite p) (sym loses.then) (record { write = refl; origin = refl; region = refl; follower = refl })
  write_stage_same Relay (inl relays) = subst (IsSameWrite p) (sym relays.then) (after_same p (came.Relay (Ok tt)) hops)
  write_stage_same Relay (inr loses) =
      subst (IsSameWrite p) (sym loses.then) (record { write = refl; origin = refl; region = refl; follower = refl })
  write_stage_same Done does = absurd does

  pub write_same : ComesOfWrite rules p old q new → IsSameWrite p q
  write_same (inl does) = write_stage_same (next_of p) does.does
  write_same (inr ends) =
      let is = ended_down p q old new ends in
      record { write = is.write; origin = is.origin; region = is.region; follower = is.follower }

  -- a write that did a stage had one before it
  write_stage_goes : (at : WriteStage) → DoesWriteStage rules at p old q new → IsSome (stage_said at)
  write_stage_goes Commit does = refl
  write_stage_goes Inverse does = refl
  write_stage_goes End does = refl
  write_stage_goes Apply does = refl
  write_stage_goes Relay does = refl
  write_stage_goes Done does = absurd does

  write_goes : ComesOfWrite rules p old q new → IsSome (stage_said (next_of p))
  write_goes (inl does) = write_stage_goes (next_of p) does.does
  write_goes (inr ends) = needs_some old.states (next_of p) p ends.node ends.down

-- ---- plans

-- only a plan that isn't over does a stage
pub goes_on : (rules : Rules) (p q : HeldPlan) (old new : World) → StepsHeld rules p old q new → IsSome (next_stage p)
goes_on rules (Read p) (Read q) old new steps = read_goes p q old new rules steps.steps.does
goes_on rules (Write p) (Write q) old new steps = write_goes p q old new rules steps
goes_on rules (Read p) (Write q) old new steps = absurd steps
goes_on rules (Write p) (Read q) old new steps = absurd steps

-- ---- all stages

-- so many stages were done from where the plan began, and it can go on
pub record CarriesOn (rules : Rules) (p : HeldPlan) (old : World) (q : HeldPlan) (new : World) : Type 0 where
  pub stages : ℕ
  pub passes : PassesStages rules stages p old q new
  pub under_way : IsUnderWay rules.tells rules.settings new.keepers.told new.fleet q
  pub on : PostsOn rules.tells rules.settings old new

-- none was done yet
pub none_carried : (rules : Rules) (p : HeldPlan) (old : World) → CanPost rules.tells rules.settings old
    → IsUnderWay rules.tells rules.settings old.keepers.told old.fleet p → CarriesOn rules p old p old
none_carried rules p old ready under = record {
  stages = 0;
  passes = (refl, refl);
  under_way = under;
  on = posts_none rules.tells rules.settings old ready;
}

-- one more was
pub one_carried : (rules : Rules) (p m q : HeldPlan) (old mid new : World) → CarriesOn rules p old m mid → StepsHeld rules m mid q new
    → IsUnderWay rules.tells rules.settings new.keepers.told new.fleet q → PostsOn rules.tells rules.settings mid new → CarriesOn rules p old q new
one_carried rules p m q old mid new so_far steps under on = record {
  stages = suc so_far.stages;
  passes = (m, mid, so_far.passes, record { steps = steps; under_way = under; on = on });
  under_way = under;
  on = posts_trans rules.tells rules.settings old mid new so_far.on on;
}
