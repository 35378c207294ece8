-- Who is chosen of the nodes, all of which are up.
use Rattle.std.proofs.Common.{◌≡◌, ℕ, zero, suc, ◌<◌, ◌≤◌, ◌%◌, ◌&&◌, ◌++◌, ◌∷◌, [], ◌+◌, Bool, true, false, cond, not, List, Option, Some, None, find, length}
use Rattle.std.proofs.Common.{map, slice_get, slice_index_or, nat_lt, unwrap_or, refl, ap, sym, subst, ◌∙◌, arith}
use Rattle.std.proofs.Math.Nat.{mod-lt}
use Rattle.std.proofs.lemmas.Bool.{and_parts, lt-ltb, ltb-true}
use Rattle.std.proofs.lemmas.Bool.Decides.{nat_tests}
use Rattle.std.proofs.lemmas.List.{length-map}
use Rattle.std.proofs.lemmas.Option.{slice_get-map, slice_get_past, slice_get_read}
use Rattle.std.specs.List.{list_all, range_with_len}
use Rattle.std.specs.Option.{option_map}
use Rattle.std.specs.Prelude.{◌-◌, IsTrue, min, nat_le, option_and_then, replicate}
use Rattle.core_model.proofs.Turns.{choices_serve}
use Rattle.core_model.specs.Fleet.{regions_of}
use Rattle.core_model.specs.Serving.{IsFollowerFor, IsLeaderFor}
use Rattle.node_name.specs.declared.NodeName.{NodeName}
use Rattle.node_name.specs.declared.NodeName.TheVariants.{Follower}
use Rattle.topology.specs.Choices.{chosen_follower, preferred_leader, serving_follower}
use Rattle.topology.specs.Config.{Settings}
use Rattle.topology.specs.Counts.{NodeCounts, counts_of, follower_count, tier_count}
use Rattle.topology.specs.Named.{are_different, in_range}
use Rattle.topology.specs.States.{NodeStates, all_up, is_cache, is_up, node_place}
use Rattle.topology.specs.Tiers.{are_tiers, is_reserved, is_tier}
use Rattle.topology.specs.declared.regions.Region.{Region}
use Rattle.topology.specs.declared.tiers.Tier.{Tier}
use Rattle.locked_nodes.specs.Nodes.{HasTier}

pub follower_serves : (s : Settings) (states : NodeStates) (region tier shard : ℕ) (name : NodeName) → states ≡ all_up s → shard < s.shards
    → Some name ≡ chosen_follower states region tier shard → IsFollowerFor s shard name
follower_serves s states region tier shard name up here chosen =
    (choices_serve s states).follower region tier shard name (ap (λ (t : NodeStates). t.regions) up) here (sym chosen)

-- ---- a follower can be chosen

some_tier : (tiers : List Tier) → list_all is_tier tiers ≡ true → (tier : ℕ) → tier < length (map (λ t. t.followers) tiers)
    → 0 < unwrap_or (slice_get (map (λ t. t.followers) tiers) tier) 0
some_tier [] rules tier lt = absurd (omega (arith, lt))
some_tier (t ∷ ts) rules zero lt =
    let own = and_parts (is_tier t) (list_all is_tier ts) rules in
    let range = and_parts (not (is_reserved t.name)) (in_range 1 4 t.followers) own.0 in
    let least : nat_le 1 t.followers ≡ true = (and_parts (nat_le 1 t.followers) (nat_le t.followers 4) range.1).0 in
    grind (arith, nat_tests)
some_tier (t ∷ ts) rules (suc tier) lt =
    some_tier ts (and_parts (is_tier t) (list_all is_tier ts) rules).1 tier (omega (arith, lt))

-- the region at a place, as it is looked up
pub region_found : (s : Settings) (regions : List Region) (place region : ℕ) (found : Region) → regions ≡ s.regions → place ≡ region
    → true ≡ nat_lt place (length regions) → found ≡ slice_index_or regions place found → slice_get s.regions region ≡ Some found
region_found s regions place region found same at less is =
    subst (λ k. slice_get s.regions k ≡ Some found) at (subst (λ (rs : List Region). slice_get rs place ≡ Some found) same
    (slice_get_read regions (length regions) place found refl (ltb-true place (length regions) (sym less)) is))

pub region_missing : (s : Settings) (regions : List Region) (place region : ℕ) → regions ≡ s.regions → place ≡ region → false ≡ nat_lt place (length regions)
    → slice_get s.regions region ≡ None
region_missing s regions place region same at past =
    let far : length regions ≤ place = grind (arith, nat_tests) in
    subst (λ k. slice_get s.regions k ≡ None) at (subst (λ (rs : List Region). slice_get rs place ≡ None) same (slice_get_past regions place far))

-- a configured tier has a follower
pub some_follower : (s : Settings) (region tier : ℕ) (found : Region) → slice_get s.regions region ≡ Some found → IsTrue (are_tiers found.tiers)
    → HasTier s region tier → 0 < follower_count (regions_of s) region tier
some_follower s region tier found at rules has =
    let counts : slice_get (regions_of s) region ≡ Some (counts_of found) = slice_get-map counts_of s.regions region ∙ ap (option_map counts_of) at in
    let long : tier_count (regions_of s) region ≡ length (map (λ t. t.followers) found.tiers) =
    ap (λ (o : Option NodeCounts). unwrap_or (option_map (λ r. length r.followers) o) 0) counts in
    let many : follower_count (regions_of s) region tier ≡ unwrap_or (slice_get (map (λ t. t.followers) found.tiers) tier) 0 =
    ap (λ (o : Option NodeCounts). unwrap_or (option_and_then (λ r. slice_get r.followers tier) o) 0) counts in
    let ranges = and_parts (in_range 1 4 (length found.tiers) && list_all is_tier found.tiers) (are_different (map (λ t. t.name) found.tiers)) rules in
    let each = (and_parts (in_range 1 4 (length found.tiers)) (list_all is_tier found.tiers) ranges.0).1 in
    let some = some_tier found.tiers each tier (omega (arith, has, long)) in
    omega (arith, some, many)

-- no region, no tier
pub no_tier : (s : Settings) (region tier : ℕ) → slice_get s.regions region ≡ None → HasTier s region tier → ⊥
no_tier s region tier at has =
    let counts : slice_get (regions_of s) region ≡ None = slice_get-map counts_of s.regions region ∙ ap (option_map counts_of) at in
    let none : tier_count (regions_of s) region ≡ 0 = ap (λ (o : Option NodeCounts). unwrap_or (option_map (λ r. length r.followers) o) 0) counts in
    absurd (omega (arith, has, none))

-- no node is down
none_down : (count place : ℕ) → slice_index_or (replicate count false) place false ≡ false
none_down zero place = refl
none_down (suc count) zero = refl
none_down (suc count) (suc place) = none_down count place

up_there : (s : Settings) (region tier index : ℕ) → index < follower_count (regions_of s) region tier → is_up (all_up s) (Follower region tier index) ≡ true
up_there s region tier index lt =
    let place : ℕ = node_place (Follower region tier index) in
    let known : nat_lt index (follower_count (regions_of s) region tier) ≡ true = lt-ltb _ _ lt in
    ap (λ b. b && not (slice_index_or (replicate 80 false) place false)) known ∙ ap (λ b. true && not b) (none_down 80 place)

first_found : {X : Type 0} (test : X → Bool) (x : X) (xs : List X) → test x ≡ true → find test (x ∷ xs) ≡ None → ⊥
first_found test x xs passes none =
    let found : find test (x ∷ xs) ≡ Some x = ap (λ b. cond b (Some x) (find test xs)) passes in
    let e : None ≡ Some x = sym none ∙ found in
    absurd (cc)

pub follower_there : (s : Settings) (states : NodeStates) (region tier shard : ℕ) → states ≡ all_up s → HasTier s region tier
    → 0 < follower_count (regions_of s) region tier → None ≡ chosen_follower states region tier shard → ⊥
follower_there s states region tier shard up has some none =
    by (tier_count (regions_of s) region - tier) (omega (arith, has)) (sym (none ∙ ap (λ (t : NodeStates). chosen_follower t region tier shard) up))
  where
    by : (more : ℕ) → 0 < more
        → find (is_up (all_up s)) (map (λ t. serving_follower (regions_of s) region t shard)
        (range_with_len tier more ++ range_with_len 0 (min tier (tier_count (regions_of s) region)))) ≡ None → ⊥
    by zero lt = absurd (omega (arith, lt))
    by (suc more) lt =
        first_found (is_up (all_up s)) (serving_follower (regions_of s) region tier shard)
        (map (λ t. serving_follower (regions_of s) region t shard)
        (range_with_len (tier + 1) more ++ range_with_len 0 (min tier (tier_count (regions_of s) region))))
        (up_there s region tier (shard % follower_count (regions_of s) region tier) (mod-lt shard some))

-- ---- a leader

pub leader_serves : (s : Settings) (states : NodeStates) (region shard : ℕ) (name : NodeName) → states ≡ all_up s → region < length s.regions
    → shard < s.shards → name ≡ preferred_leader states region shard → (region < length states.regions → IsTrue (is_cache states.regions name))
    → IsLeaderFor s shard name
leader_serves s states region shard name up home here preferred configured =
    let same : states.regions ≡ regions_of s = ap (λ (t : NodeStates). t.regions) up in
    let long : length states.regions ≡ length s.regions = ap length same ∙ length-map s.regions counts_of in
    let known = configured (omega (arith, home, long)) in
    subst (IsLeaderFor s shard) (sym preferred)
    ((choices_serve s states).leader region shard same here (subst (λ (n : NodeName). IsTrue (is_cache states.regions n)) preferred known))
