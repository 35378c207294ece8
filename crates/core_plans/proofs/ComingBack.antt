-- What the way back of a write comes to: to the leader that it passed, and to its follower.
use Rattle.std.proofs.Common.{◌≡◌, ◌∙◌, true, Option, Some, None, ap, inl, inr, refl, subst}
use Rattle.std.specs.Prelude.{⊤, Err, IfErr, IfSome, IsSome, Ok, OnErr, OnOk, Result, option_and_then}
use Rattle.core_steps.specs.Posting.{AppliesAlone}
use Rattle.core_steps.specs.Relays.{LeaderRelays, RelaysAlone}
use Rattle.core_steps.specs.Routes.{FailsCarry, hops_between}
use Rattle.core_steps.specs.World.{World}
use Rattle.core_steps.specs.Writes.{FollowerTakes}
use Rattle.core_steps.specs.declared.routes.Route.{Route}
use Rattle.graph_model.proofs.Members.{if_some_at}
use Rattle.node_name.specs.declared.NodeName.{NodeName}
use Rattle.replies.specs.declared.refusals.Refusal.TheVariants.{Store}
use Rattle.replies.specs.declared.refusals.StoreRefused.TheVariants.{LinkFault}
use Rattle.replies.specs.declared.reply.Reply.{Reply}
use Rattle.replies.specs.declared.reply.Reply.TheVariants.{Refused}
use Rattle.tao_base.specs.Writes.{write_shard}
use Rattle.tao_link.specs.Shown.{after_carry}
use Rattle.tao_schema.specs.Schema.{types_of}
use Rattle.topology.specs.Config.{Settings}
use Rattle.write_plan.specs.Plans.{Writing, after_stage, answered_entry, answered_passed, when_of}
use Rattle.write_plan.specs.declared.committed.Committed.{Committed}
use Rattle.write_plan.specs.declared.results.WriteResult.TheVariants as came
use Rattle.write_plan.specs.declared.stage.WriteStage.TheVariants.{Apply, Relay}
use Rattle.core_plans.specs.HeldWrites.{DoesWriteStage, way_by}
use Rattle.core_plans.specs.LedBy.{rules_of}
use Rattle.write_plan.specs.Plans.{last_leader}

-- how a way back of a write is refused that the link failed: the write stands, at the position of its entry
abbrev lost_way : World → Option Committed → Reply
lost_way new committed = Refused (Store (LinkFault new.link.faults (when_of (option_and_then (λ c. c.wrote.entry) committed))))

-- ---- to the follower

-- what comes of the way back of a write from a leader
pub record ComesBack (s : Settings) (leader : NodeName) (p : Writing) (outcome : Result ⊤ Reply) (old new : World) : Type 0 where
  pub carried : OnOk outcome (new.link ≡ after_carry old.link)
  pub takes : OnOk outcome
      (IfSome p.committed (λ c. FollowerTakes (types_of s.schema) (way_by leader p) (write_shard p.write) c.wrote.entry old.fleet new.fleet))
  pub failed : IfErr outcome (λ _. FailsCarry leader p.follower old.link new.link)
  pub reply : IfErr outcome (λ reply. reply ≡ Refused (Store (LinkFault new.link.faults (when_of (answered_entry p)))))
  pub stays : OnErr outcome (new.fleet ≡ old.fleet)
  pub rest : AppliesAlone old new

module _ (s : Settings) (p q : Writing) (old new : World) (c : Committed) (answered : p.committed ≡ Some c) where
  came_back : (outcome : Result ⊤ Reply) → ComesBack s (last_leader c) p outcome old new
      → q ≡ after_stage p (came.Apply outcome) (hops_between old.link new.link) → DoesWriteStage (rules_of true s) Apply p old q new
  came_back (Ok done) comes then = inl (record {
    committed = c;
    answered = answered;
    takes = if_some_at (λ a. FollowerTakes (types_of s.schema) (way_by (last_leader c) p) (write_shard p.write) a.wrote.entry old.fleet new.fleet)
        p.committed c comes.takes answered;
    link = comes.carried;
    rest = comes.rest;
    then = then;
  })
  came_back (Err reply) comes then = inr (record {
    committed = c;
    answered = answered;
    carry = comes.failed;
    fleet = comes.stays;
    rest = comes.rest;
    then = then ∙ ap (λ r. after_stage p (came.Apply (Err r)) (hops_between old.link new.link)) (comes.reply ∙ ap (lost_way new) answered);
  })

-- from the last leader of its way, where the note for its follower was handed out for it
pub applies_done : (s : Settings) (last : NodeName) (p mid q : Writing) (old new : World) (outcome : Result ⊤ Reply) → mid ≡ record p { spare = None }
    → IsSome p.committed → IfSome p.committed (λ c. last ≡ last_leader c) → ComesBack s last mid outcome old new
    → q ≡ after_stage mid (came.Apply outcome) (hops_between old.link new.link) → DoesWriteStage (rules_of true s) Apply p old q new
applies_done s last p mid q old new outcome is some last_is comes then =
    by (subst (λ m. ComesBack s last m outcome old new) is comes)
    (then ∙ ap (λ m. after_stage m (came.Apply outcome) (hops_between old.link new.link)) is) p.committed refl some
  where
    by : ComesBack s last (record p { spare = None }) outcome old new → q ≡ after_stage p (came.Apply outcome) (hops_between old.link new.link)
        → (found : Option Committed) → p.committed ≡ found → IsSome found → DoesWriteStage (rules_of true s) Apply p old q new
    by given next None at some = absurd (cc)
    by given next (Some c) at some =
        let there = subst (λ leader. ComesBack s leader (record p { spare = None }) outcome old new)
        (if_some_at (λ a. last ≡ last_leader a) p.committed c last_is at) given in
        came_back s p q old new c at outcome (record {
          carried = there.carried;
          takes = there.takes;
          failed = there.failed;
          reply = there.reply;
          stays = there.stays;
          rest = there.rest;
        }) next

-- ---- to the leader that was passed

-- what comes of the way back of a write to the leader that it passed
pub record ComesPast (s : Settings) (route : Route) (p : Writing) (outcome : Result ⊤ Reply) (old new : World) : Type 0 where
  pub carried : OnOk outcome (new.link ≡ after_carry old.link)
  pub relays : OnOk outcome (IfSome p.committed (λ c. LeaderRelays s route.follower (write_shard p.write) c.wrote.entry old.fleet new.fleet))
  pub failed : IfErr outcome (λ _. FailsCarry route.leader route.follower old.link new.link)
  pub reply : IfErr outcome (λ reply. reply ≡ Refused (Store (LinkFault new.link.faults (when_of (answered_entry p)))))
  pub stays : OnErr outcome (new.fleet ≡ old.fleet)
  pub rest : RelaysAlone old new

-- from the leader that wrote to the one that was passed
abbrev pub way_past : NodeName → NodeName → Route
way_past leader passed = record { follower = passed; leader = leader }

module _ (s : Settings) (p q : Writing) (old new : World) (c : Committed) (answered : p.committed ≡ Some c) (passed : NodeName)
    (passed_is : c.passed ≡ Some passed) where
  came_past : (outcome : Result ⊤ Reply) → ComesPast s (way_past c.leader passed) p outcome old new
      → q ≡ after_stage p (came.Relay outcome) (hops_between old.link new.link) → DoesWriteStage (rules_of true s) Relay p old q new
  came_past (Ok done) comes then = inl (record {
    committed = c;
    answered = answered;
    passed = passed;
    passed_is = passed_is;
    relays = if_some_at (λ a. LeaderRelays s passed (write_shard p.write) a.wrote.entry old.fleet new.fleet) p.committed c comes.relays answered;
    link = comes.carried;
    rest = comes.rest;
    then = then;
  })
  came_past (Err reply) comes then = inr (record {
    committed = c;
    answered = answered;
    passed = passed;
    passed_is = passed_is;
    carry = comes.failed;
    fleet = comes.stays;
    rest = comes.rest;
    then = then ∙ ap (λ r. after_stage p (came.Relay (Err r)) (hops_between old.link new.link)) (comes.reply ∙ ap (lost_way new) answered);
  })

-- where the note for that leader was handed out for it
pub relays_done : (s : Settings) (route : Route) (p mid q : Writing) (old new : World) (outcome : Result ⊤ Reply) → mid ≡ record p { relay = None }
    → answered_passed p ≡ Some route.follower → IfSome p.committed (λ c. route.leader ≡ c.leader) → ComesPast s route mid outcome old new
    → q ≡ after_stage mid (came.Relay outcome) (hops_between old.link new.link) → DoesWriteStage (rules_of true s) Relay p old q new
relays_done s route p mid q old new outcome is passed_is leader_is comes then =
    by (subst (λ m. ComesPast s route m outcome old new) is comes)
    (then ∙ ap (λ m. after_stage m (came.Relay outcome) (hops_between old.link new.link)) is) p.committed refl passed_is
  where
    by : ComesPast s route (record p { relay = None }) outcome old new → q ≡ after_stage p (came.Relay outcome) (hops_between old.link new.link)
        → (found : Option Committed) → p.committed ≡ found → option_and_then (λ c. c.passed) found ≡ Some route.follower
        → DoesWriteStage (rules_of true s) Relay p old q new
    by given next None at none = absurd (cc)
    by given next (Some c) at passes =
        let there = subst (λ leader. ComesPast s (way_past leader route.follower) (record p { relay = None }) outcome old new)
        (if_some_at (λ a. route.leader ≡ a.leader) p.committed c leader_is at) given in
        came_past s p q old new c at route.follower passes outcome (record {
          carried = there.carried;
          relays = there.relays;
          failed = there.failed;
          reply = there.reply;
          stays = there.stays;
          rest = there.rest;
        }) next
