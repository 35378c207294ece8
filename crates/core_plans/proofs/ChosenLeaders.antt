-- The leaders that are chosen for a write may lead it.
use Rattle.std.proofs.Common.{◌≡◌, ℕ, Bool, true, false, Option, Some, None, refl, subst}
use Rattle.std.specs.Option.{option_map}
use Rattle.std.specs.Prelude.{◌==◌, Contains, IfSome, if◌then◌else◌, nat_lt}
use Rattle.core_model.proofs.Turns.{choices_serve}
use Rattle.core_model.specs.Fleet.{leader_names}
use Rattle.core_model.specs.Serving.{IsLeaderIn}
use Rattle.core_model.specs.States.{AreStatesOf}
use Rattle.core_model.specs.Stores.{master_of}
use Rattle.core_plans.specs.HeldWrites.{LeadWrite}
use Rattle.core_plans.specs.Needs.{leader_to_pass, leaders_of_write, tier_of_write}
use Rattle.core_plans.specs.declared.leaders.Leaders.{Leaders}
use Rattle.core_steps.proofs.NotifyLemmas.{master_is}
use Rattle.core_steps.specs.OtherEnds.{master_leader}
use Rattle.core_steps.specs.declared.routes.TierPlace.{TierPlace}
use Rattle.node_name.specs.declared.NodeName.{NodeName}
use Rattle.tao_base.specs.Writes.{write_shard}
use Rattle.topology.specs.Choices.{chosen_leader, master_region}
use Rattle.topology.specs.Config.{Settings}
use Rattle.topology.specs.States.{NodeStates}
use Rattle.write_plan.specs.Plans.{Writing}

module _ (s : Settings) (states : NodeStates) (of : AreStatesOf s states) where
  -- who is chosen in the master's region may write there
  in_master : (by : TierPlace) (shard : ℕ) (leader : NodeName) → master_leader s states by shard ≡ Some leader
      → IsLeaderIn s (master_of s shard) leader
  in_master by shard leader is =
      subst (λ region. IsLeaderIn s region leader) (master_is s states shard of.masters)
      ((choices_serve s states).stand_in (by.region, by.tier) (master_region states shard) shard leader of.regions (chosen (nat_lt shard s.shards) is)).0
    where
      chosen : (here : Bool) → (if here then chosen_leader states (by.region, by.tier) (master_region states shard) shard else None) ≡ Some leader
          → chosen_leader states (by.region, by.tier) (master_region states shard) shard ≡ Some leader
      chosen true at = at
      chosen false at = absurd (cc)

  -- who is passed is one of the configuration
  passed_named : (p : Writing) → IfSome (leader_to_pass states p) (Contains (leader_names s))
  passed_named p = by (p.region == master_region states (write_shard p.write))
    where
      found : (passed : Option NodeName) → chosen_leader states (p.region, p.tier) p.region (write_shard p.write) ≡ passed
          → IfSome passed (Contains (leader_names s))
      found None is = tt
      found (Some leader) is =
          ((choices_serve s states).stand_in (p.region, p.tier) p.region (write_shard p.write) leader of.regions is).0.configured

      by : (own : Bool) → IfSome (if own then None else chosen_leader states (p.region, p.tier) p.region (write_shard p.write)) (Contains (leader_names s))
      by true = tt
      by false = found (chosen_leader states (p.region, p.tier) p.region (write_shard p.write)) refl

  -- one that commits, and the one that is passed
  abbrev passing : Writing → NodeName → Leaders
  passing p leader = record { leader = leader; passed = leader_to_pass states p }

  pub may_lead_write : (p : Writing) (leaders : Leaders) → leaders_of_write s states p ≡ Some leaders → LeadWrite s leaders p
  may_lead_write p leaders is = by (master_leader s states (tier_of_write p) (write_shard p.write)) refl is
    where
      by : (found : Option NodeName) → master_leader s states (tier_of_write p) (write_shard p.write) ≡ found
          → option_map (passing p) found ≡ Some leaders → LeadWrite s leaders p
      by None at none = absurd (cc)
      by (Some leader) at some =
          let same : passing p leader ≡ leaders = cc in
          subst (λ (l : Leaders). LeadWrite s l p) same (record {
            leader = in_master (tier_of_write p) (write_shard p.write) leader at;
            passed = passed_named p;
          })
