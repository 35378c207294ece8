-- The first that passes a test, and the numbers of a configuration's nodes.
use Rattle.std.proofs.Common.{◌≡◌, ◌↔◌, ℕ, zero, suc, ◌+◌, ◌<◌, length, Bool, true, false, cond, List, [], ◌∷◌, All, find, map, unwrap_or}
use Rattle.std.proofs.Common.{option_map, IsFalse, IsTrue, IsNone, IfSome, Some, bytes_eq, slice_get, refl, ap, arith, subst, sym}
use Rattle.std.specs.List.{AllByRecursion, position_from}
use Rattle.std.proofs.lemmas.List.Elements.{All-from_recursion, recursion_from_All}
use Rattle.std.proofs.lemmas.Bool.{lt-ltb}
use Rattle.node_name.specs.declared.NodeName.TheVariants.{Leader, Follower}
use Rattle.topology.specs.Counts.{counts_of, follower_count, leader_count, tier_count}
use Rattle.topology.specs.Lookup.{followers_of, leaders_of, tier_in}
use Rattle.topology.specs.Regions.{region_at}
use Rattle.topology.specs.States.{is_cache}
use Rattle.topology.specs.declared.regions.Region.{Region}
use Rattle.topology.specs.declared.tiers.Tier.{Tier}

module _ {X : Type 0} (test : X → Bool) where
  pub find_passes : (xs : List X) → IfSome (find test xs) (λ x. IsTrue (test x))
  find_passes [] = tt
  find_passes (x ∷ xs) = at x (test x) refl xs (find_passes xs)
    where
      at : (x : X) (b : Bool) → test x ≡ b → (xs : List X) → IfSome (find test xs) (λ x. IsTrue (test x))
          → IfSome (cond b (Some x) (find test xs)) (λ x. IsTrue (test x))
      at x true e xs later = e
      at x false e xs later = later

  none_passes : (xs : List X) → IsNone (find test xs) → AllByRecursion (λ x. IsFalse (test x)) xs
  none_passes [] = λ e. tt
  none_passes (x ∷ xs) = at (test x) refl (none_passes xs)
    where
      at : (b : Bool) → test x ≡ b → (IsNone (find test xs) → AllByRecursion (λ y. IsFalse (test y)) xs) → IsNone (cond b (Some x) (find test xs))
          → AllByRecursion (λ y. IsFalse (test y)) (x ∷ xs)
      at true e later none = absurd cc
      at false e later none = (e, later none)

  none_found : (xs : List X) → AllByRecursion (λ x. IsFalse (test x)) xs → IsNone (find test xs)
  none_found [] all = refl
  none_found (x ∷ xs) all = rw all.0 (none_found xs all.1)

  pub find_none : (xs : List X) → IsNone (find test xs) ↔ All (λ x. IsFalse (test x)) xs
  find_none xs = (
    λ none. All-from_recursion _ xs (none_passes xs none),
    λ all. none_found xs (recursion_from_All _ xs all),
  )

-- the place of the first that passes is one of the list's
first_below : {X : Type 0} (test : X → Bool) (first total : ℕ) (xs : List X) → total ≡ first + length xs
    → IfSome (position_from test first xs) (λ place. place < total)
first_below test first total [] same = tt
first_below test first total (x ∷ xs) same = at (test x) (first_below test (first + 1) total xs (omega (arith, same)))
  where
    at : (b : Bool) → IfSome (position_from test (first + 1) xs) (λ place. place < total)
        → IfSome (cond b (Some first) (position_from test (first + 1) xs)) (λ place. place < total)
    at true later = omega (arith, same)
    at false later = later

pub region_configured : (regions : List Region) (name : List ℕ) → IfSome (region_at regions name) (λ region. region < length regions)
region_configured regions name = first_below (λ region. bytes_eq name region.name) 0 (length regions) regions (omega arith)

tiers_counted : (tiers : List Tier) → length (map (λ t. t.followers) tiers) ≡ length tiers
tiers_counted [] = refl
tiers_counted (t ∷ ts) = ap suc (tiers_counted ts)

-- a tier that is found is one of the region's
pub tier_configured : (regions : List Region) (region : ℕ) (name : List ℕ)
    → IfSome (tier_in regions region name) (λ tier. tier < tier_count (map counts_of regions) region)
tier_configured [] region name = tt
tier_configured (r ∷ rs) zero name =
    first_below (λ tier. bytes_eq name tier.name) 0 (length (map (λ t. t.followers) r.tiers)) r.tiers (omega (arith, tiers_counted r.tiers))
tier_configured (r ∷ rs) (suc region) name = tier_configured rs region name

pub leaders_counted : (regions : List Region) (region : ℕ) → leader_count (map counts_of regions) region ≡ leaders_of regions region
leaders_counted [] region = refl
leaders_counted (r ∷ rs) zero = refl
leaders_counted (r ∷ rs) (suc region) = leaders_counted rs region

count_at : (tiers : List Tier) (tier : ℕ) → slice_get (map (λ t. t.followers) tiers) tier ≡ option_map (λ t. t.followers) (slice_get tiers tier)
count_at [] tier = refl
count_at (t ∷ ts) zero = refl
count_at (t ∷ ts) (suc tier) = count_at ts tier

pub followers_counted : (regions : List Region) (region tier : ℕ) → follower_count (map counts_of regions) region tier ≡ followers_of regions region tier
followers_counted [] region tier = refl
followers_counted (r ∷ rs) zero tier = ap (λ count. unwrap_or count 0) (count_at r.tiers tier)
followers_counted (r ∷ rs) (suc region) tier = followers_counted rs region tier

-- a number below that of the region's leaders, or of the tier's followers, is one of a node of the configuration
pub leader_known : (regions : List Region) (region index : ℕ) → index < leaders_of regions region
    → IsTrue (is_cache (map counts_of regions) (Leader region index))
leader_known regions region index below = lt-ltb index _ (subst (λ count. index < count) (sym (leaders_counted regions region)) below)

pub follower_known : (regions : List Region) (region tier index : ℕ) → index < followers_of regions region tier
    → IsTrue (is_cache (map counts_of regions) (Follower region tier index))
follower_known regions region tier index below = lt-ltb index _ (subst (λ count. index < count) (sym (followers_counted regions region tier)) below)
