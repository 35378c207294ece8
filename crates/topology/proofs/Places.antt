-- Each cache node has a place of its own, and so has each suspicion.
use Rattle.std.proofs.Common.{get_or-set_other, get_or-set_same, ◌≡◌, ◌≢◌, ℕ, ◌<◌, ◌≤◌, ◌%◌, zero, suc, Bool, true, false, not, ◌&&◌, List, [], ◌∷◌}
use Rattle.std.proofs.Common.{length, All, IsTrue, slice_get, slice_set, slice_index_or, nat_lt, unwrap_or, refl, ap, arith}
use Rattle.std.specs.List.{AllByRecursion}
use Rattle.std.proofs.Math.Nat.{mod-lt}
use Rattle.std.proofs.lemmas.Bool.{and_parts, lt-ltb, ltb-true}
use Rattle.std.proofs.lemmas.List.Elements.{recursion_from_All}
use Rattle.node_name.specs.declared.NodeName.{NodeName}
use Rattle.node_name.specs.declared.NodeName.TheVariants.{Store, Leader, Follower}
use Rattle.topology.specs.Counts.{KeepCounts, NodeCounts, follower_count, leader_count, tier_count}
use Rattle.topology.specs.States.{KeepPlaces, NodeStates, SetsUp, is_cache, is_up, node_place}
use Rattle.topology.specs.Suspicions.{SetsTrust, Suspicion, is_leader, leader_index, may_suspect, suspicion_of, suspicion_place}

gate_not : (gate x y : Bool) → (IsTrue gate → x ≡ y) → (gate && not x) ≡ (gate && not y)
gate_not true x y h = ap not (h refl)
gate_not false x y h = refl

gate_same : (gate x y : Bool) → (IsTrue gate → x ≡ y) → (gate && x) ≡ (gate && y)
gate_same true x y h = h refl
gate_same false x y h = refl

same_suspicion : {r s t u : ℕ} {m n : NodeName} → r ≡ s → t ≡ u → m ≡ n → suspicion_of r t m ≡ suspicion_of s u n
same_suspicion region tier leader = rw region (rw tier (rw leader refl))

not_not : (b : Bool) → (true && not (not b)) ≡ b
not_not true = refl
not_not false = refl

-- a number below that of some tier
below_count : (counts : List ℕ) → AllByRecursion (λ count. (1 ≤ count) × (count ≤ 4)) counts → (tier index : ℕ) → index < unwrap_or (slice_get counts tier) 0
    → (tier < length counts) × (index < 4)
below_count [] few tier index lt = absurd (omega (arith, lt))
below_count (c ∷ cs) few zero index lt = (omega arith, omega (arith, lt, few.0.1))
below_count (c ∷ cs) few (suc tier) index lt = let below = below_count cs few.1 tier index lt in (omega (arith, below.0), below.1)

below_leaders : (regions : List NodeCounts) → AllByRecursion KeepCounts regions → (region index : ℕ) → index < leader_count regions region
    → (region < length regions) × (index < 4)
below_leaders [] few region index lt = absurd (omega (arith, lt))
below_leaders (c ∷ cs) few zero index lt = (omega arith, omega (arith, lt, few.0.leaders))
below_leaders (c ∷ cs) few (suc region) index lt = let below = below_leaders cs few.1 region index lt in (omega (arith, below.0), below.1)

-- a configured region has a leader
some_leader : (regions : List NodeCounts) → AllByRecursion KeepCounts regions → (region : ℕ) → region < length regions → 0 < leader_count regions region
some_leader [] few region lt = absurd (omega (arith, lt))
some_leader (c ∷ cs) few zero lt = omega (arith, few.0.leader)
some_leader (c ∷ cs) few (suc region) lt = some_leader cs few.1 region (omega (arith, lt))

pub leads_some : (regions : List NodeCounts) → All KeepCounts regions → (region shard : ℕ) → region < length regions
    → IsTrue (nat_lt (shard % leader_count regions region) (leader_count regions region))
leads_some regions keep region shard lt = lt-ltb _ _ (mod-lt shard (some_leader regions (recursion_from_All KeepCounts regions keep) region lt))

below_tiers : (regions : List NodeCounts) → AllByRecursion KeepCounts regions → (region tier : ℕ) → tier < tier_count regions region → (region < length regions)
    × (tier < 4)
below_tiers [] few region tier lt = absurd (omega (arith, lt))
below_tiers (c ∷ cs) few zero tier lt = (omega arith, omega (arith, lt, few.0.tiers))
below_tiers (c ∷ cs) few (suc region) tier lt = let below = below_tiers cs few.1 region tier lt in (omega (arith, below.0), below.1)

below_followers : (regions : List NodeCounts) → AllByRecursion KeepCounts regions → (region tier index : ℕ) → index < follower_count regions region tier
    → (region < length regions) × (tier < 4) × (index < 4)
below_followers [] few region tier index lt = absurd (omega (arith, lt))
below_followers (c ∷ cs) few zero tier index lt =
    let below = below_count c.followers (recursion_from_All _ c.followers few.0.followers) tier index lt in
    (omega arith, omega (arith, below.0, few.0.tiers), below.1)
below_followers (c ∷ cs) few (suc region) tier index lt = let below = below_followers cs few.1 region tier index lt in
    (omega (arith, below.0), below.1, below.2)

module _ (states : NodeStates) (keep : KeepPlaces states) where
  few : AllByRecursion KeepCounts states.regions
  few = recursion_from_All KeepCounts states.regions keep.counts

  pub leader_below : (region index : ℕ) → IsTrue (is_cache states.regions (Leader region index)) → (region < 4) × (index < 4)
  leader_below region index known = let below = below_leaders states.regions few region index (ltb-true _ _ known) in
      (omega (arith, below.0, keep.regions), below.1)

  follower_below : (region tier index : ℕ) → IsTrue (is_cache states.regions (Follower region tier index)) → (region < 4) × (tier < 4) × (index < 4)
  follower_below region tier index known =
      let below = below_followers states.regions few region tier index (ltb-true _ _ known) in (omega (arith, below.0, keep.regions), below.1, below.2)

  pub node_place_below : (node : NodeName) → IsTrue (is_cache states.regions node) → node_place node < 80
  node_place_below (Store store) known = omega arith
  node_place_below (Leader region index) known = let below = leader_below region index known in omega (arith, below.0, below.1)
  node_place_below (Follower region tier index) known = let below = follower_below region tier index known in omega (arith, below.0, below.1, below.2)

  one_place : (m n : NodeName) → IsTrue (is_cache states.regions m) → IsTrue (is_cache states.regions n) → node_place m ≡ node_place n → m ≡ n
  one_place (Store store) n known other e = absurd cc
  one_place (Leader r i) (Store store) known other e = absurd cc
  one_place (Leader r i) (Leader s j) known other e =
      let b = leader_below r i known in let c = leader_below s j other in
      let same : r ≡ s = omega (arith, b.1, c.1, e) in let index : i ≡ j = omega (arith, b.1, c.1, e, same) in cc
  one_place (Leader r i) (Follower s t j) known other e =
      let b = leader_below r i known in let c = follower_below s t j other in absurd (omega (arith, b.1, c.1, c.2, e))
  one_place (Follower r t i) (Store store) known other e = absurd cc
  one_place (Follower r t i) (Leader s j) known other e =
      let b = follower_below r t i known in let c = leader_below s j other in absurd (omega (arith, b.1, b.2, c.1, e))
  one_place (Follower r t i) (Follower s u j) known other e =
      let b = follower_below r t i known in let c = follower_below s u j other in
      let same : r ≡ s = omega (arith, b.1, b.2, c.1, c.2, e) in
      let tier : t ≡ u = omega (arith, b.1, b.2, c.1, c.2, e, same) in
      let index : i ≡ j = omega (arith, b.2, c.2, e, same, tier) in cc

  -- the flag that was set says the opposite of up
  flag_here : (node : NodeName) → IsTrue (is_cache states.regions node) → (up : Bool)
      → is_cache states.regions node && not (slice_index_or (slice_set states.down (node_place node) (not up)) (node_place node) false) ≡ up
  flag_here node known up =
      rw (get_or-set_same states.down (node_place node) (not up) false (omega (arith, node_place_below node known, keep.down))) (rw known (not_not up))

  flag_there : (node : NodeName) → IsTrue (is_cache states.regions node) → (flag : Bool) → (other : NodeName) → other ≢ node
      → is_cache states.regions other && not (slice_index_or (slice_set states.down (node_place node) flag) (node_place other) false)
      ≡ is_cache states.regions other && not (slice_index_or states.down (node_place other) false)
  flag_there node known flag other differs = gate_not (is_cache states.regions other) _ _
      (λ there. get_or-set_other states.down (node_place node) (node_place other) flag false (λ e. differs (one_place other node there known e)))

  pub sets_up : (node : NodeName) → IsTrue (is_cache states.regions node) → (up : Bool)
      → SetsUp node up states (record states { down = slice_set states.down (node_place node) (not up) })
  sets_up node known up = record { here = here node known; others = others; rest = refl }
    where
      here : (n : NodeName) → IsTrue (is_cache states.regions n) → is_up (record states { down = slice_set states.down (node_place n) (not up) }) n ≡ up
      here (Store store) h = absurd cc
      here (Leader region index) h = flag_here (Leader region index) h up
      here (Follower region tier index) h = flag_here (Follower region tier index) h up

      others : (other : NodeName) → other ≢ node → is_up (record states { down = slice_set states.down (node_place node) (not up) }) other ≡ is_up states other
      others (Store store) differs = refl
      others (Leader region index) differs = flag_there node known (not up) (Leader region index) differs
      others (Follower region tier index) differs = flag_there node known (not up) (Follower region tier index) differs

  -- suspicions that may be have places of their own
  leader_index_below : (node : NodeName) → IsTrue (is_leader states.regions node) → leader_index node < 16
  leader_index_below (Store store) known = absurd cc
  leader_index_below (Follower region tier index) known = absurd cc
  leader_index_below (Leader region index) known = let below = leader_below region index known in omega (arith, below.0, below.1)

  one_leader_place : (m n : NodeName) → IsTrue (is_leader states.regions m) → IsTrue (is_leader states.regions n) → leader_index m ≡ leader_index n → m ≡ n
  one_leader_place (Store store) n known other e = absurd cc
  one_leader_place (Follower r t i) n known other e = absurd cc
  one_leader_place (Leader r i) (Store store) known other e = absurd cc
  one_leader_place (Leader r i) (Follower s t j) known other e = absurd cc
  one_leader_place (Leader r i) (Leader s j) known other e =
      let b = leader_below r i known in let c = leader_below s j other in
      let same : r ≡ s = omega (arith, b.1, c.1, e) in let index : i ≡ j = omega (arith, b.1, c.1, e, same) in cc

  tier_below : (region tier : ℕ) → IsTrue (nat_lt tier (tier_count states.regions region)) → (region < 4) × (tier < 4)
  tier_below region tier known = let below = below_tiers states.regions few region tier (ltb-true _ _ known) in (omega (arith, below.0, keep.regions), below.1)

  pub suspicion_place_below : (s : Suspicion) → IsTrue (may_suspect states.regions s) → suspicion_place s < 256
  suspicion_place_below s may =
      let parts = and_parts _ _ may in
      let tier = tier_below s.region s.tier parts.0 in let leader = leader_index_below s.leader parts.1 in omega (arith, tier.0, tier.1, leader)

  one_suspicion : (s u : Suspicion) → IsTrue (may_suspect states.regions s) → IsTrue (may_suspect states.regions u) → suspicion_place s ≡ suspicion_place u
      → s ≡ u
  one_suspicion s u may other e =
      let p = and_parts _ _ may in let q = and_parts _ _ other in
      let a = tier_below s.region s.tier p.0 in let b = tier_below u.region u.tier q.0 in
      let l = leader_index_below s.leader p.1 in let m = leader_index_below u.leader q.1 in
      let region : s.region ≡ u.region = omega (arith, a.1, b.1, l, m, e) in
      let tier : s.tier ≡ u.tier = omega (arith, a.1, b.1, l, m, e, region) in
      let place : leader_index s.leader ≡ leader_index u.leader = omega (arith, e, region, tier) in
      let leader : s.leader ≡ u.leader = one_leader_place s.leader u.leader p.1 q.1 place in same_suspicion region tier leader

  pub sets_trust : (s : Suspicion) → IsTrue (may_suspect states.regions s) → (trusted : Bool)
      → SetsTrust s trusted states (record states { suspected = slice_set states.suspected (suspicion_place s) (not trusted) })
  sets_trust s may trusted = record {
    here = rw (get_or-set_same states.suspected (suspicion_place s) (not trusted) false (omega (arith, suspicion_place_below s may, keep.suspected)))
        (rw may refl);
    others = λ other differs. gate_same (may_suspect states.regions other) _ _
        (λ there. get_or-set_other states.suspected (suspicion_place s) (suspicion_place other) (not trusted) false
        (λ e. differs (one_suspicion other s there may e)));
    rest = refl;
  }
