-- A stage of a read, where stores and nodes are settled, misses nothing that the read didn't miss before.
use Rattle.std.proofs.Common.{◌≡◌, ℕ, ◌≤◌, Bool, true, false, Option, Some, None, refl, sym, subst, inl, inr, arith}
use Rattle.cache_items.specs.declared.look.Look.{Look}
use Rattle.cache_items.specs.declared.look.Look.TheVariants.{Hit, Miss}
use Rattle.core_model.specs.Consistent.{IsConsistent}
use Rattle.core_model.specs.Fleet.{ChangesNode}
use Rattle.core_model.specs.Reads.{LooksFirst}
use Rattle.core_model.specs.States.{AreSettled, nodes_now}
use Rattle.core_steps.specs.World.{World}
use Rattle.core_steps.proofs.LastVersions.{GivesLast, asked_last, hit_last}
use Rattle.read_plan.specs.Readings.{Reading}
use Rattle.read_plan.specs.Standings.{after_ask, after_keep, after_look, stage_of}
use Rattle.read_plan.specs.declared.stages.ReadStage.TheVariants as reads
use Rattle.read_plan.specs.declared.standing.Given.{Given}
use Rattle.read_plan.specs.declared.standing.Given.TheVariants.{Fill, HandedOut, Past}
use Rattle.read_plan.specs.declared.standing.Standing.{Standing}
use Rattle.read_plan.specs.declared.standing.Standing.TheVariants.{Looking, Asking, Mastering, Keeping, Ended}
use Rattle.shard_tables.specs.declared.leader_answer.LeaderAnswer.{LeaderAnswer}
use Rattle.shard_tables.specs.declared.leader_answer.LeaderAnswer.TheVariants as leads
use Rattle.tao_base.specs.Queries.{query_key, query_shard}
use Rattle.tao_keeper.specs.Growing.{LogsGrow}
use Rattle.tao_schema.specs.Schema.{types_of}
use Rattle.topology.specs.Config.{Settings}
use Rattle.topology.specs.States.{is_up}
use Rattle.core_plans.specs.HeldLaws.{StagesMissNothing}
use Rattle.core_plans.specs.HeldReads.{ComesOfRead, DoesKeep, DoesLook, DoesReadStage, HasComeTo, version_now, wanted_by}
use Rattle.core_plans.proofs.Missing.{store_comes, version_later}
use Rattle.core_plans.specs.LedBy.{rules_of}
use Rattle.core_plans.specs.Needs.{asked_of_read, first_down, read_down, read_needs}
use Rattle.core_plans.proofs.ReadRefusals.{ends_refused}
use Rattle.core_plans.proofs.UpNodes.{asked_up, needs_up}

given_comes : (floor last least now : ℕ) (given : LeaderAnswer) → GivesLast floor last given → least ≤ last → last ≤ now
    → HasComeTo least now (after_ask given)
given_comes floor last least now (leads.Filled fill) gives le on = omega (arith, gives, le)
given_comes floor last least now (leads.Past answer version total note) gives le on = omega (arith, gives, le)
given_comes floor last least now (leads.Behind version) gives le on = omega (arith, le, on)

module _ (s : Settings) (p q : Reading) (old new : World) (are : IsConsistent true s old.keepers.told old.fleet)
    (settled : AreSettled s old.keepers.told (nodes_now old.fleet old.states)) (grows : LogsGrow true old.keepers.told new.keepers.told)
    (least : ℕ) where
  abbrev last : ℕ
  last = version_now s p old.keepers

  abbrev now : ℕ
  now = version_now s p new.keepers

  on : last ≤ now
  on = version_later true s old.keepers.told new.keepers.told (query_key p.query) (query_shard p.query) grows refl

  abbrev Comes : Reading → Type 0
  Comes r = HasComeTo least (version_now s r new.keepers) r.at

  -- ---- look

  look_comes : is_up old.states p.follower ≡ true → (look : Look) (ask : Option ℕ)
      → ChangesNode p.follower (LooksFirst (types_of s.schema) (wanted_by p) look ask) old.fleet.followers new.fleet.followers
      → least ≤ last → HasComeTo least now (after_look false look)
  look_comes up (Hit answer version) ask change le =
      let is = hit_last s (wanted_by p) old.keepers old.fleet old.states are settled p.follower answer version ask new.fleet.followers up change in
      omega (arith, is, le)
  look_comes up Miss ask change le = omega (arith, le, on)

  looks_come : is_up old.states p.follower ≡ true → (critical : Bool) → p.critical ≡ critical → DoesLook s critical p old q new → least ≤ last → Comes q
  looks_come up true is looks le =
      let past : HasComeTo least now (after_look true Miss) = omega (arith, le, on) in
      subst Comes (sym looks.then) (subst (λ c. HasComeTo least now (after_look c Miss)) (sym is) past)
  looks_come up false is does le = elim does [
    | inl looks ↦
        subst Comes (sym looks.then)
        (subst (λ c. HasComeTo least now (after_look c looks.look)) (sym is) (look_comes up looks.look looks.ask looks.looks le))
    | inr vain ↦ subst Comes (sym vain.then) tt
  ]

  -- ---- keep

  keeps_come : (given : Given) → p.at ≡ Keeping given → DoesKeep s p given old q new → HasComeTo least last (Keeping given) → Comes q
  keeps_come (Fill fill) at does come = elim does [
    | inl answers ↦
        subst Comes (sym answers.then) (subst (λ a. HasComeTo least now (after_keep p.bound a (Some (answers.answer, answers.kept)))) (sym at) come)
    | inr vain ↦ subst Comes (sym vain.then) tt
  ]
  keeps_come (Past answer version total seen) at hands come =
      subst Comes (sym hands.then) (subst (λ a. HasComeTo least now (after_keep p.bound a None)) (sym at) come)
  keeps_come (HandedOut version) at does come = absurd does

  -- ---- each stage

  stage_comes : (at : Standing) → p.at ≡ at → read_down old.states p ≡ None → DoesReadStage (rules_of true s) at p old q new
      → HasComeTo least last at → Comes q
  stage_comes Looking at up does come =
      looks_come (needs_up old.states (read_needs reads.Look p) (subst (λ a. first_down old.states (read_needs (stage_of a) p) ≡ None) at up)).0
      p.critical refl does come
  stage_comes Asking at up does come = elim does [
    | inl asks ↦
        let gave = asked_last s (wanted_by p) old.states old new (asked_of_read old.states p) asks.given are settled (asked_up old.states p)
        asks.over.gives.asks in
        subst Comes (sym asks.then) (given_comes p.floor last least now asks.given gave come on)
    | inr vain ↦ subst Comes (sym vain.then) tt
  ]
  stage_comes Mastering at up does come = elim does [
    | inl masters ↦
        subst Comes (sym masters.then)
        (store_comes true s p old.keepers new.keepers old.fleet.stores masters.out least now are.stores masters.over.reads refl come)
    | inr vain ↦ subst Comes (sym vain.then) tt
  ]
  stage_comes (Keeping given) at up does come = keeps_come given at does come
  stage_comes (Ended end) at up does come = absurd does

  -- one that ends since a node is down gives no answer
  read_comes : ComesOfRead (rules_of true s) p old q new → HasComeTo least last p.at → Comes q
  read_comes (inl next) come = stage_comes p.at refl next.up next.does come
  read_comes (inr ends) come = subst (HasComeTo least (version_now s q new.keepers)) (sym (ends_refused p q old new ends)) tt

pub stages_miss_nothing : (s : Settings) (p q : Reading) (old new : World) → StagesMissNothing s p old q new
stages_miss_nothing s p q old new = record {
  whole = λ steps are settled grows least come. read_comes s p q old new are settled grows least steps.does come;
}
