-- Who is asked of a read: the preferred leader is the first in turn, and whoever is asked may be.
use Rattle.std.proofs.Common.{◌≡◌, ℕ, suc, ◌-◌, ◌<◌, Bool, true, false, List, [], ◌∷◌, Option, Some, None, map, refl, ap, sym, ◌∙◌, subst, inl, inr, arith}
use Rattle.std.proofs.lemmas.Bool.Decides.{nat_tests}
use Rattle.std.specs.Prelude.{IsTrue, find, not}
use Rattle.std.specs.Option.{option_eq}
use Rattle.std.proofs.lemmas.Bool.{and_parts, cases_Bool, ltb-true}
use Rattle.core_model.proofs.Turns.{choices_serve}
use Rattle.core_model.specs.Fleet.{Fleet}
use Rattle.core_model.specs.States.{AreStatesOf}
use Rattle.core_model.specs.Stores.{region_store}
use Rattle.core_plans.specs.HeldReads.{IsReadUnderWay}
use Rattle.core_plans.specs.Needs.{asked_of_read, leader_or_store}
use Rattle.core_steps.specs.Reads.{MayBeAsked}
use Rattle.node_name.specs.contracts.NodeNamePartialEq.TheImpl.{eq-value}
use Rattle.node_name.specs.declared.NodeName.{NodeName}
use Rattle.node_name.specs.declared.NodeName.TheVariants.{Leader, Store, Follower}
use Rattle.read_plan.specs.Readings.{Reading}
use Rattle.tao_base.specs.Queries.{query_shard}
use Rattle.tao_keeper.specs.Table.{Tables}
use Rattle.topology.specs.Choices.{chosen_leader, leaders_in_turn, may_lead, preferred_leader, round_from}
use Rattle.topology.specs.Config.{Settings}
use Rattle.topology.specs.Counts.{leader_count}
use Rattle.topology.specs.States.{NodeStates, is_cache, is_up}
use Rattle.topology.specs.Suspicions.{suspects, suspicion_of}

-- what is found passes
found_passes : (test : NodeName → Bool) (xs : List NodeName) (x : NodeName) → find test xs ≡ Some x → test x ≡ true
found_passes test [] x h = absurd (cc)
found_passes test (y ∷ ys) x h = elim (cases_Bool (test y)) [
  | inl passes ↦ (let e : Some y ≡ Some x = rw passes at h in let same : y ≡ x = cc in subst (λ z. test z ≡ true) same passes)
  | inr fails ↦ found_passes test ys x (rw fails at h)
]

first_in_turn : (test : NodeName → Bool) (region first count : ℕ) → first < count → test (Leader region first) ≡ true
    → find test (map (λ index. Leader region index) (round_from first count)) ≡ Some (Leader region first)
first_in_turn test region first count lt passes =
    let some : count - first ≡ suc (count - first - 1) = omega (arith, lt) in
    rw some (rw passes refl)

-- where the preferred leader may lead, it is chosen
preferred_is_chosen : (states : NodeStates) (by : ℕ × ℕ) (region shard : ℕ) → may_lead states by (preferred_leader states region shard) ≡ true
    → chosen_leader states by region shard ≡ Some (preferred_leader states region shard)
preferred_is_chosen states by region shard may =
    let leader = preferred_leader states region shard in
    let up = (and_parts (is_up states leader) (not (suspects states (suspicion_of by.0 by.1 leader))) may).0 in
    let known = (and_parts _ _ up).0 in
    first_in_turn (may_lead states by) region _ (leader_count states.regions region) (ltb-true _ _ known) may

same_leader : (region index : ℕ) → eq-value.it (Leader region index) (Leader region index) ≡ true
same_leader region index = grind (arith, nat_tests)

leader_is : (region index : ℕ) (node : NodeName) → eq-value.it node (Leader region index) ≡ true → node ≡ Leader region index
leader_is region index (Store at) is = absurd (cc)
leader_is region index (Follower r tier i) is = absurd (cc)
leader_is region index (Leader r i) is = grind (arith, nat_tests)

-- one that may not lead is never found
never_found : (test : NodeName → Bool) (region index : ℕ) (found : Option NodeName) → test (Leader region index) ≡ false
    → ((node : NodeName) → found ≡ Some node → test node ≡ true) → option_eq eq-value.it found (Some (Leader region index)) ≡ false
never_found test region index None fails passes = refl
never_found test region index (Some node) fails passes = elim (cases_Bool (eq-value.it node (Leader region index))) [
  | inl is ↦ (
      let one : test (Leader region index) ≡ true = subst (λ n. test n ≡ true) (leader_is region index node is) (passes node refl) in
      absurd (cc))
  | inr other ↦ other
]

-- so it is chosen exactly where it may lead
pub is_preferred : (states : NodeStates) (by : ℕ × ℕ) (region shard : ℕ)
    → option_eq eq-value.it (chosen_leader states by region shard) (Some (preferred_leader states region shard))
    ≡ may_lead states by (preferred_leader states region shard)
is_preferred states by region shard =
    let leader = preferred_leader states region shard in
    elim (cases_Bool (may_lead states by leader)) [
      | inl may ↦ ap (λ found. option_eq eq-value.it found (Some leader)) (preferred_is_chosen states by region shard may)
          ∙ same_leader region _ ∙ sym may
      | inr not_may ↦ never_found (may_lead states by) region _ (chosen_leader states by region shard) not_may
          (found_passes (may_lead states by) (leaders_in_turn states.regions region shard)) ∙ sym not_may
    ]

-- whoever is asked may be
pub asked_may_be : (tells : Bool) (s : Settings) (tables : Tables) (f : Fleet) (states : NodeStates) (p : Reading) → AreStatesOf s states
    → IsReadUnderWay tells s tables f p → MayBeAsked s (query_shard p.query) (asked_of_read states p)
asked_may_be tells s tables f states p are is =
    let shard = query_shard p.query in
    let leader = preferred_leader states p.region shard in
    let store : NodeName = Store (region_store p.region shard) in
    elim (cases_Bool (may_lead states (p.region, p.tier) leader)) [
      | inl may ↦ (
          let up = (and_parts (is_up states leader) (not (suspects states (suspicion_of p.region p.tier leader))) may).0 in
          let known : IsTrue (is_cache states.regions leader) = (and_parts _ _ up).0 in
          subst (λ b. MayBeAsked s shard (leader_or_store b leader store)) (sym may)
          ((choices_serve s states).leader p.region shard are.regions is.follower.here known))
      | inr not_may ↦ subst (λ b. MayBeAsked s shard (leader_or_store b leader store)) (sym not_may)
          (record { region = is.region; shard = is.follower.here }, refl)
    ]
