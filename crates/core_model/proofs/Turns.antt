-- Nodes take turns: who serves a shard.
use Rattle.std.proofs.Common.{◌≡◌, ℕ, zero, suc, ◌+◌, ◌<◌, ◌≤◌, ◌%◌, Bool, true, List, [], ◌∷◌, map, Some, refl, ap, sym, subst, ◌∙◌, inl, inr, arith}
use Rattle.std.specs.Prelude.{Contains, IsSome, IsTrue, ◌==◌, find, not, slice_get, unwrap_or}
use Rattle.std.specs.List.{range_with_len}
use Rattle.std.proofs.lemmas.Bool.{and_parts, cases_Bool, cases_order, eq-eqb, eqb-false, eqb-true, ltb-true}
use Rattle.graph_model.proofs.Members.{IsIn, contains_from_in, in_append_left, in_append_right, in_filter, in_filter_parts, in_map_parts}
use Rattle.cache_items.specs.Node.{Node}
use Rattle.follower_cache.specs.cache_node.True.{IsServed}
use Rattle.node_name.specs.declared.NodeName.{NodeName}
use Rattle.node_name.specs.declared.NodeName.TheVariants.{Store, Leader, Follower}
use Rattle.served_shards.specs.Served.{ServedShard, served_at}
use Rattle.topology.specs.Choices.{chosen_leader, followers_in_turn, leaders_in_turn, may_lead, preferred_leader, round_from, serving_follower}
use Rattle.topology.specs.Config.{Settings}
use Rattle.topology.specs.Counts.{NodeCounts, follower_count, leader_count, tier_count}
use Rattle.topology.specs.States.{NodeStates, is_cache, is_up}
use Rattle.topology.specs.Suspicions.{suspects, suspicion_of}
use Rattle.core_model.specs.Consistent.{IsNodeOf, IsRightNode}
use Rattle.core_model.specs.Evictions.{IsCacheOf}
use Rattle.core_model.specs.Fleet.{follower_names, followers_from, leader_names, leaders_from, regions_of, served_by, serves, serves_in_turn, tiers_from}
use Rattle.core_model.specs.Laws.{ChoicesServe, RightServesTurn, ServesItsTurn}
use Rattle.core_model.specs.Pens.{IsSeen, Pens, SeenRule}
use Rattle.core_model.specs.Serving.{IsFollowerFor, IsLeaderIn}

-- ---- members of lists

-- a number from the first on, below the end
pub in_numbers : (low count n : ℕ) → low ≤ n → n < low + count → IsIn n (range_with_len low count)
in_numbers low zero n least lt = absurd (omega arith)
in_numbers low (suc count) n least lt = elim (cases_order low n) [
  | inl same ↦ inl same
  | inr (inl below) ↦ inr (in_numbers (low + 1) count n (omega arith) (omega arith))
  | inr (inr above) ↦ absurd (omega arith)
]

-- and none is past it
below_end : (low count n : ℕ) → IsIn n (range_with_len low count) → n < low + count
below_end low zero n h = absurd h
below_end low (suc count) n (inl same) = omega arith
below_end low (suc count) n (inr later) = let lt = below_end (low + 1) count n later in omega arith

-- what the function gives of an element
in_image : {X Y : Type 0} (f : X → Y) (xs : List X) (x : X) → IsIn x xs → IsIn (f x) (map f xs)
in_image f [] x h = absurd h
in_image f (y ∷ ys) x (inl e) = inl (ap f e)
in_image f (y ∷ ys) x (inr h) = inr (in_image f ys x h)

-- what is found is one of the elements, and passes
found_among : {X : Type 0} (test : X → Bool) (xs : List X) (x : X) → find test xs ≡ Some x → IsIn x xs × (test x ≡ true)
found_among test [] x h = absurd (cc)
found_among test (y ∷ ys) x h = elim (cases_Bool (test y)) [
  | inl passes ↦ (
      let e : Some y ≡ Some x = rw passes at h in
      let same : y ≡ x = cc in
      (inl same, subst (λ z. test z ≡ true) same passes))
  | inr fails ↦ (let later = found_among test ys x (rw fails at h) in (inr later.0, later.1))
]

-- ---- a node serves what is its turn

served_number : (shard : ℕ) (served : List ServedShard) → IsIn shard (map (λ t. t.shard) served) → IsSome (served_at shard served)
served_number shard [] h = absurd h
served_number shard (s ∷ ss) h = elim (cases_Bool (s.shard == shard)) [
  | inl here ↦ rw here refl
  | inr there ↦ rw there (elim h [
    | inl e ↦ absurd (eqb-false s.shard shard there e)
    | inr later ↦ served_number shard ss later
  ])
]

number_served : (shard : ℕ) (served : List ServedShard) → IsServed served shard → IsIn shard (map (λ t. t.shard) served)
number_served shard [] h = absurd (cc)
number_served shard (s ∷ ss) h = elim (cases_Bool (s.shard == shard)) [
  | inl here ↦ inl (eqb-true s.shard shard here)
  | inr there ↦ inr (number_served shard ss (rw there at h))
]

-- whatever is right to have seen
pub right_serves_turn : (s : Settings) (Seen : SeenRule) (name : NodeName) (node : Node) (shard : ℕ) → RightServesTurn s Seen name node shard
right_serves_turn s Seen name node shard = record {
  serves = λ is here turn.
      let one : IsIn shard (served_by s name) = in_filter (serves_in_turn (regions_of s) name) (range_with_len 0 s.shards) shard
      (in_numbers 0 s.shards shard (omega arith) (omega arith)) turn in
      served_number shard node.served (subst (IsIn shard) (sym is.shards) one);
}

-- a node has the turn of each shard that it serves, which is configured
pub right_turn_of : (s : Settings) (Seen : SeenRule) (name : NodeName) (node : Node) (shard : ℕ) → IsRightNode s Seen name node → IsServed node.served shard
    → (shard < s.shards) × IsTrue (serves_in_turn (regions_of s) name shard)
right_turn_of s Seen name node shard is served =
    let one = in_filter_parts (serves_in_turn (regions_of s) name) (range_with_len 0 s.shards) shard
    (subst (IsIn shard) is.shards (number_served shard node.served served)) in
    ((let lt = below_end 0 s.shards shard one.0 in omega arith), one.1)

-- so do nodes whose pens are had
pub serves_its_turn : (s : Settings) (pens : Pens) (name : NodeName) (node : Node) (shard : ℕ) → ServesItsTurn s pens name node shard
serves_its_turn s pens = right_serves_turn s (IsSeen pens)

pub turn_of : (s : Settings) (pens : Pens) (name : NodeName) (node : Node) (shard : ℕ) → IsNodeOf s pens name node → IsServed node.served shard
    → (shard < s.shards) × IsTrue (serves_in_turn (regions_of s) name shard)
turn_of s pens = right_turn_of s (IsSeen pens)

-- ---- the names of a configuration

tier_in : (region tier at place index : ℕ) (counts : List ℕ) → at ≡ tier + place → index < unwrap_or (slice_get counts place) 0
    → IsIn (Follower region at index) (tiers_from region tier counts)
tier_in region tier at place index [] same lt = absurd (omega (arith, lt))
tier_in region tier at zero index (count ∷ counts) same lt =
    in_append_left (map (Follower region tier) (range_with_len 0 count)) (tiers_from region (tier + 1) counts) (Follower region at index)
    (subst (λ t. IsIn (Follower region t index) (map (Follower region tier) (range_with_len 0 count))) (let e : tier ≡ at = omega arith in e)
    (in_image (Follower region tier) (range_with_len 0 count) index (in_numbers 0 count index (omega arith) (omega (arith, lt)))))
tier_in region tier at (suc place) index (count ∷ counts) same lt =
    in_append_right (map (Follower region tier) (range_with_len 0 count)) (tiers_from region (tier + 1) counts) (Follower region at index)
    (tier_in region (tier + 1) at place index counts (omega arith) lt)

follower_in : (regions : List NodeCounts) (first at region tier index : ℕ) → at ≡ first + region → index < follower_count regions region tier
    → IsIn (Follower at tier index) (followers_from first regions)
follower_in [] first at region tier index same lt = absurd (omega (arith, lt))
follower_in (r ∷ rs) first at zero tier index same lt =
    in_append_left (tiers_from first 0 r.followers) (followers_from (first + 1) rs) (Follower at tier index)
    (subst (λ n. IsIn (Follower n tier index) (tiers_from first 0 r.followers)) (let e : first ≡ at = omega arith in e)
    (tier_in first 0 tier tier index r.followers (omega arith) lt))
follower_in (r ∷ rs) first at (suc region) tier index same lt =
    in_append_right (tiers_from first 0 r.followers) (followers_from (first + 1) rs) (Follower at tier index)
    (follower_in rs (first + 1) at region tier index (omega arith) lt)

leader_in : (regions : List NodeCounts) (first at region index : ℕ) → at ≡ first + region → index < leader_count regions region
    → IsIn (Leader at index) (leaders_from first regions)
leader_in [] first at region index same lt = absurd (omega (arith, lt))
leader_in (r ∷ rs) first at zero index same lt =
    in_append_left (map (Leader first) (range_with_len 0 r.leaders)) (leaders_from (first + 1) rs) (Leader at index)
    (subst (λ n. IsIn (Leader n index) (map (Leader first) (range_with_len 0 r.leaders))) (let e : first ≡ at = omega arith in e)
    (in_image (Leader first) (range_with_len 0 r.leaders) index (in_numbers 0 r.leaders index (omega arith) (omega (arith, lt)))))
leader_in (r ∷ rs) first at (suc region) index same lt =
    in_append_right (map (Leader first) (range_with_len 0 r.leaders)) (leaders_from (first + 1) rs) (Leader at index)
    (leader_in rs (first + 1) at region index (omega arith) lt)

-- a follower of the configuration is named, and so is a leader
pub named_follower : (s : Settings) (region tier index : ℕ) → IsTrue (is_cache (regions_of s) (Follower region tier index))
    → Contains (follower_names s) (Follower region tier index)
named_follower s region tier index known =
    contains_from_in (follower_names s) (Follower region tier index)
    (follower_in (regions_of s) 0 region region tier index (omega arith) (ltb-true index (follower_count (regions_of s) region tier) known))

pub named_leader : (s : Settings) (region index : ℕ) → IsTrue (is_cache (regions_of s) (Leader region index)) → Contains (leader_names s) (Leader region index)
named_leader s region index known =
    contains_from_in (leader_names s) (Leader region index)
    (leader_in (regions_of s) 0 region region index (omega arith) (ltb-true index (leader_count (regions_of s) region) known))

-- so is what the configuration counts among its cache nodes
pub cache_named : (s : Settings) (name : NodeName) → IsTrue (is_cache (regions_of s) name) → IsCacheOf s name
cache_named s (Store store) known = absurd (cc)
cache_named s (Leader region index) known = named_leader s region index known
cache_named s (Follower region tier index) known = named_follower s region tier index known

-- ---- who is chosen

follower_for : (s : Settings) (states : NodeStates) (region tier shard : ℕ) (name : NodeName) → states.regions ≡ regions_of s → shard < s.shards
    → name ≡ serving_follower states.regions region tier shard → is_up states name ≡ true → IsFollowerFor s shard name
follower_for s states region tier shard name own here is up =
    let index : ℕ = shard % follower_count states.regions region tier in
    let known : IsTrue (is_cache states.regions (Follower region tier index)) = (and_parts _ _ (subst (λ n. is_up states n ≡ true) is up)).0 in
    let there : IsFollowerFor s shard (Follower region tier index) = record {
      here = here;
      configured = named_follower s region tier index (subst (λ (rs : List NodeCounts). IsTrue (is_cache rs (Follower region tier index))) own known);
      serves = eq-eqb (shard % follower_count (regions_of s) region tier) index
          (ap (λ (rs : List NodeCounts). shard % follower_count rs region tier) (sym own));
    } in
    subst (IsFollowerFor s shard) (sym is) there

-- a leader that is up is one of the configuration
leader_here : (s : Settings) (states : NodeStates) (region index : ℕ) → states.regions ≡ regions_of s → is_up states (Leader region index) ≡ true
    → IsLeaderIn s region (Leader region index)
leader_here s states region index own up =
    let known : IsTrue (is_cache states.regions (Leader region index)) = (and_parts _ _ up).0 in
    record {
      index = index;
      name_is = refl;
      configured = named_leader s region index (subst (λ (rs : List NodeCounts). IsTrue (is_cache rs (Leader region index))) own known);
    }

leader_stands_in : (s : Settings) (states : NodeStates) (by : ℕ × ℕ) (region shard : ℕ) (name : NodeName) → states.regions ≡ regions_of s
    → chosen_leader states by region shard ≡ Some name → IsLeaderIn s region name × (is_up states name ≡ true)
leader_stands_in s states by region shard name own chosen =
    let found = found_among (may_lead states by) (leaders_in_turn states.regions region shard) name chosen in
    let turn = in_map_parts (λ index. Leader region index)
    (round_from (shard % leader_count states.regions region) (leader_count states.regions region)) name found.0 in
    let up : is_up states name ≡ true = (and_parts (is_up states name) (not (suspects states (suspicion_of by.0 by.1 name))) found.1).0 in
    (subst (IsLeaderIn s region) turn.2 (leader_here s states region turn.0 own (subst (λ n. is_up states n ≡ true) (sym turn.2) up)), up)

-- a leader of the region serves the shard only where it is the preferred one
prefers_it : (s : Settings) (states : NodeStates) (region shard : ℕ) (name : NodeName) → states.regions ≡ regions_of s → IsLeaderIn s region name
    → IsTrue (serves s name shard) → name ≡ preferred_leader states region shard
prefers_it s states region shard name own is has_turn =
    let turn : shard % leader_count (regions_of s) region ≡ is.index =
    eqb-true (shard % leader_count (regions_of s) region) is.index
    (subst (λ n. serves_in_turn (regions_of s) n shard ≡ true) is.name_is has_turn) in
    let here : shard % leader_count states.regions region ≡ is.index =
    ap (λ (rs : List NodeCounts). shard % leader_count rs region) own ∙ turn in
    is.name_is ∙ ap (Leader region) (sym here)

pub choices_serve : (s : Settings) (states : NodeStates) → ChoicesServe s states
choices_serve s states = record {
  follower = λ region tier shard name own here chosen.
      let found = found_among (is_up states) (followers_in_turn states.regions region tier shard) name chosen in
      let turn = in_map_parts (λ t. serving_follower states.regions region t shard) (round_from tier (tier_count states.regions region)) name found.0 in
      follower_for s states region turn.0 shard name own here (sym turn.2) found.1;
  leader = λ region shard own here known.
      let index : ℕ = shard % leader_count states.regions region in record {
        here = here;
        configured = named_leader s region index (subst (λ (rs : List NodeCounts). IsTrue (is_cache rs (Leader region index))) own known);
        serves = eq-eqb (shard % leader_count (regions_of s) region) index (ap (λ (rs : List NodeCounts). shard % leader_count rs region) (sym own));
      };
  stand_in = leader_stands_in s states;
  follower_up = λ region tier shard name chosen.
      (found_among (is_up states) (followers_in_turn states.regions region tier shard) name chosen).1;
  prefers = prefers_it s states;
}
