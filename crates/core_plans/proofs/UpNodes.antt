-- What is so where no node is down that a stage needs: those that it needs are up, and so is whoever is asked.
use Rattle.std.proofs.Common.{◌≡◌, true, Option, Some, None, refl, sym, subst, inl, inr}
use Rattle.std.specs.Prelude.{IfSome, not}
use Rattle.std.proofs.lemmas.Bool.{and_parts, cases_Bool}
use Rattle.core_model.specs.Stores.{region_store}
use Rattle.core_plans.specs.Needs.{asked_of_read, down_of, first_down, leader_or_store, or_else}
use Rattle.core_plans.specs.declared.needs.Needs.{Needs}
use Rattle.node_name.specs.declared.NodeName.{NodeName}
use Rattle.node_name.specs.declared.NodeName.TheVariants.{Store}
use Rattle.read_plan.specs.Readings.{Reading}
use Rattle.tao_base.specs.Queries.{query_shard}
use Rattle.topology.specs.Choices.{may_lead, preferred_leader}
use Rattle.topology.specs.States.{NodeStates, is_up}
use Rattle.topology.specs.Suspicions.{suspects, suspicion_of}

-- the node is up, where there is one
abbrev pub IsUpNode : NodeStates → Option NodeName → Type 0
IsUpNode states node = IfSome node (λ n. is_up states n ≡ true)

up_node : (states : NodeStates) (node : Option NodeName) → down_of states node ≡ None → IsUpNode states node
up_node states None none = tt
up_node states (Some node) none = elim (cases_Bool (is_up states node)) [
  | inl up ↦ up
  | inr down ↦ (let is : Some node ≡ None = rw down at none in absurd (cc))
]

none_of_both : (one other : Option NodeName) → or_else one other ≡ None → (one ≡ None) × (other ≡ None)
none_of_both (Some node) other none = absurd (cc)
none_of_both None other none = (refl, none)

-- both that a stage needs are up
pub needs_up : (states : NodeStates) (needs : Needs) → first_down states needs ≡ None → IsUpNode states needs.acting × IsUpNode states needs.sending
needs_up states needs none =
    let both = none_of_both (down_of states needs.acting) (down_of states needs.sending) none in
    (up_node states needs.acting both.0, up_node states needs.sending both.1)

-- whoever is asked is up
pub asked_up : (states : NodeStates) (p : Reading) → is_up states (asked_of_read states p) ≡ true
asked_up states p =
    let leader = preferred_leader states p.region (query_shard p.query) in
    let store : NodeName = Store (region_store p.region (query_shard p.query)) in
    elim (cases_Bool (may_lead states (p.region, p.tier) leader)) [
      | inl may ↦ subst (λ b. is_up states (leader_or_store b leader store) ≡ true) (sym may)
          (and_parts (is_up states leader) (not (suspects states (suspicion_of p.region p.tier leader))) may).0
      | inr not_may ↦ subst (λ b. is_up states (leader_or_store b leader store) ≡ true) (sym not_may) refl
    ]
