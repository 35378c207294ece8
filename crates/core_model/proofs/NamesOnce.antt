-- No two leaders of a configuration have one name, and no two followers.
use Rattle.std.proofs.Common.{◌≡◌, ℕ, zero, suc, ◌+◌, ◌≤◌, List, [], ◌∷◌, ◌++◌, Some, refl, ap, sym, subst, inl, inr, arith}
use Rattle.std.specs.Prelude.{⊤, map, slice_get}
use Rattle.std.specs.List.{range_with_len}
use Rattle.core_model.specs.Evictions.{IsCacheOf}
use Rattle.core_model.specs.Fleet.{follower_names, followers_from, leader_names, leaders_from, named, node_names, regions_of, tiers_from}
use Rattle.core_model.specs.declared.named.Named.{Named}
use Rattle.core_model.proofs.Places.{one_some}
use Rattle.graph_model.proofs.Members.{IsIn, contains_from_in, in_append_cases}
use Rattle.node_name.specs.declared.NodeName.{NodeName}
use Rattle.node_name.specs.declared.NodeName.TheVariants.{Store, Leader, Follower}
use Rattle.topology.specs.Config.{Settings}
use Rattle.topology.specs.Counts.{NodeCounts}

-- ---- names that stand once

abbrev StandOnce : List NodeName → Type 0
StandOnce [] = ⊤
StandOnce (x ∷ xs) = (IsIn x xs → ⊥) × StandOnce xs

both_once : (xs ys : List NodeName) → StandOnce xs → StandOnce ys → ((name : NodeName) → IsIn name xs → IsIn name ys → ⊥) → StandOnce (xs ++ ys)
both_once [] ys one two apart = two
both_once (x ∷ xs) ys one two apart = (
  (λ h. elim (in_append_cases xs ys x h) [ inl early ↦ one.0 early | inr late ↦ apart x (inl refl) late ]),
  both_once xs ys one.1 two (λ name h. apart name (inr h)),
)

-- an element at a place is one of the list
pub in_place : {X : Type 0} (xs : List X) (place : ℕ) (x : X) → slice_get xs place ≡ Some x → IsIn x xs
in_place [] place x h = absurd (cc)
in_place (y ∷ ys) zero x h = inl (one_some y x h)
in_place (y ∷ ys) (suc place) x h = inr (in_place ys place x h)

one_place : (xs : List NodeName) (m n : ℕ) (name : NodeName) → StandOnce xs → slice_get xs m ≡ Some name → slice_get xs n ≡ Some name → m ≡ n
one_place [] m n name once one two = absurd (cc)
one_place (x ∷ xs) zero zero name once one two = refl
one_place (x ∷ xs) zero (suc n) name once one two = absurd (once.0 (subst (λ y. IsIn y xs) (sym (one_some x name one)) (in_place xs n name two)))
one_place (x ∷ xs) (suc m) zero name once one two = absurd (once.0 (subst (λ y. IsIn y xs) (sym (one_some x name two)) (in_place xs m name one)))
one_place (x ∷ xs) (suc m) (suc n) name once one two = ap suc (one_place xs m n name once.1 one two)

-- ---- the followers of a tier, of a region, and of all

abbrev IsFromIndex : ℕ → ℕ → ℕ → NodeName → Type 0
IsFromIndex region tier low (Follower r t i) = (r ≡ region) × (t ≡ tier) × (low ≤ i)
IsFromIndex region tier low (Leader r i) = ⊥
IsFromIndex region tier low (Store store) = ⊥

abbrev IsFromTier : ℕ → ℕ → NodeName → Type 0
IsFromTier region low (Follower r t i) = (r ≡ region) × (low ≤ t)
IsFromTier region low (Leader r i) = ⊥
IsFromTier region low (Store store) = ⊥

abbrev IsFromRegion : ℕ → NodeName → Type 0
IsFromRegion low (Follower r t i) = low ≤ r
IsFromRegion low (Leader r i) = ⊥
IsFromRegion low (Store store) = ⊥

lower_index : (region tier low : ℕ) (name : NodeName) → IsFromIndex region tier (low + 1) name → IsFromIndex region tier low name
lower_index region tier low (Follower r t i) h = (let le = h.2 in (h.0, h.1, omega arith))
lower_index region tier low (Leader r i) h = absurd h
lower_index region tier low (Store store) h = absurd h

lower_tier : (region low : ℕ) (name : NodeName) → IsFromTier region (low + 1) name → IsFromTier region low name
lower_tier region low (Follower r t i) h = (let le = h.1 in (h.0, omega arith))
lower_tier region low (Leader r i) h = absurd h
lower_tier region low (Store store) h = absurd h

lower_region : (low : ℕ) (name : NodeName) → IsFromRegion (low + 1) name → IsFromRegion low name
lower_region low (Follower r t i) h = omega arith
lower_region low (Leader r i) h = absurd h
lower_region low (Store store) h = absurd h

of_index : (region tier low : ℕ) (name : NodeName) → IsFromIndex region tier low name → IsFromTier region tier name
of_index region tier low (Follower r t i) h = (let same = h.1 in (h.0, omega arith))
of_index region tier low (Leader r i) h = absurd h
of_index region tier low (Store store) h = absurd h

of_tier : (region low : ℕ) (name : NodeName) → IsFromTier region low name → IsFromRegion region name
of_tier region low (Follower r t i) h = (let same = h.0 in omega arith)
of_tier region low (Leader r i) h = absurd h
of_tier region low (Store store) h = absurd h

index_of : (region tier low count : ℕ) (name : NodeName) → IsIn name (map (Follower region tier) (range_with_len low count))
    → IsFromIndex region tier low name
index_of region tier low zero name h = absurd h
index_of region tier low (suc count) name (inl same) = subst (IsFromIndex region tier low) same (refl, refl, omega arith)
index_of region tier low (suc count) name (inr later) = lower_index region tier low name (index_of region tier (low + 1) count name later)

index_once : (region tier low count : ℕ) → StandOnce (map (Follower region tier) (range_with_len low count))
index_once region tier low zero = tt
index_once region tier low (suc count) = (
  (λ h. let le = (index_of region tier (low + 1) count (Follower region tier low) h).2 in absurd (omega arith)),
  index_once region tier (low + 1) count,
)

tier_of : (region low : ℕ) (counts : List ℕ) (name : NodeName) → IsIn name (tiers_from region low counts) → IsFromTier region low name
tier_of region low [] name h = absurd h
tier_of region low (count ∷ counts) name h =
    elim (in_append_cases (map (Follower region low) (range_with_len 0 count)) (tiers_from region (low + 1) counts) name h) [
      | inl here ↦ of_index region low 0 name (index_of region low 0 count name here)
      | inr later ↦ lower_tier region low name (tier_of region (low + 1) counts name later)
    ]

other_tier : (region low : ℕ) (name : NodeName) → IsFromIndex region low 0 name → IsFromTier region (low + 1) name → ⊥
other_tier region low (Follower r t i) here later = (let same = here.1 in let le = later.1 in absurd (omega arith))
other_tier region low (Leader r i) here later = here
other_tier region low (Store store) here later = here

tiers_once : (region low : ℕ) (counts : List ℕ) → StandOnce (tiers_from region low counts)
tiers_once region low [] = tt
tiers_once region low (count ∷ counts) =
    both_once (map (Follower region low) (range_with_len 0 count)) (tiers_from region (low + 1) counts) (index_once region low 0 count)
    (tiers_once region (low + 1) counts)
    (λ name here later. other_tier region low name (index_of region low 0 count name here) (tier_of region (low + 1) counts name later))

of_regions : (low : ℕ) (regions : List NodeCounts) (name : NodeName) → IsIn name (followers_from low regions) → IsFromRegion low name
of_regions low [] name h = absurd h
of_regions low (r ∷ rs) name h = elim (in_append_cases (tiers_from low 0 r.followers) (followers_from (low + 1) rs) name h) [
  | inl here ↦ of_tier low 0 name (tier_of low 0 r.followers name here)
  | inr later ↦ lower_region low name (of_regions (low + 1) rs name later)
]

other_region : (low : ℕ) (name : NodeName) → IsFromTier low 0 name → IsFromRegion (low + 1) name → ⊥
other_region low (Follower r t i) here later = (let same = here.0 in absurd (omega arith))
other_region low (Leader r i) here later = here
other_region low (Store store) here later = here

followers_once : (low : ℕ) (regions : List NodeCounts) → StandOnce (followers_from low regions)
followers_once low [] = tt
followers_once low (r ∷ rs) =
    both_once (tiers_from low 0 r.followers) (followers_from (low + 1) rs) (tiers_once low 0 r.followers) (followers_once (low + 1) rs)
    (λ name here later. other_region low name (tier_of low 0 r.followers name here) (of_regions (low + 1) rs name later))

-- ---- the leaders of a region, and of all

abbrev IsLeaderFrom : ℕ → ℕ → NodeName → Type 0
IsLeaderFrom region low (Leader r i) = (r ≡ region) × (low ≤ i)
IsLeaderFrom region low (Follower r t i) = ⊥
IsLeaderFrom region low (Store store) = ⊥

abbrev LeadsFrom : ℕ → NodeName → Type 0
LeadsFrom low (Leader r i) = low ≤ r
LeadsFrom low (Follower r t i) = ⊥
LeadsFrom low (Store store) = ⊥

lower_leader : (region low : ℕ) (name : NodeName) → IsLeaderFrom region (low + 1) name → IsLeaderFrom region low name
lower_leader region low (Leader r i) h = (let le = h.1 in (h.0, omega arith))
lower_leader region low (Follower r t i) h = absurd h
lower_leader region low (Store store) h = absurd h

lower_leads : (low : ℕ) (name : NodeName) → LeadsFrom (low + 1) name → LeadsFrom low name
lower_leads low (Leader r i) h = omega arith
lower_leads low (Follower r t i) h = absurd h
lower_leads low (Store store) h = absurd h

leader_leads : (region low : ℕ) (name : NodeName) → IsLeaderFrom region low name → LeadsFrom region name
leader_leads region low (Leader r i) h = (let same = h.0 in omega arith)
leader_leads region low (Follower r t i) h = absurd h
leader_leads region low (Store store) h = absurd h

leader_of : (region low count : ℕ) (name : NodeName) → IsIn name (map (Leader region) (range_with_len low count)) → IsLeaderFrom region low name
leader_of region low zero name h = absurd h
leader_of region low (suc count) name (inl same) = subst (IsLeaderFrom region low) same (refl, omega arith)
leader_of region low (suc count) name (inr later) = lower_leader region low name (leader_of region (low + 1) count name later)

leader_once : (region low count : ℕ) → StandOnce (map (Leader region) (range_with_len low count))
leader_once region low zero = tt
leader_once region low (suc count) = (
  (λ h. let le = (leader_of region (low + 1) count (Leader region low) h).1 in absurd (omega arith)),
  leader_once region (low + 1) count,
)

leads_of : (low : ℕ) (regions : List NodeCounts) (name : NodeName) → IsIn name (leaders_from low regions) → LeadsFrom low name
leads_of low [] name h = absurd h
leads_of low (r ∷ rs) name h =
    elim (in_append_cases (map (Leader low) (range_with_len 0 r.leaders)) (leaders_from (low + 1) rs) name h) [
      | inl here ↦ leader_leads low 0 name (leader_of low 0 r.leaders name here)
      | inr later ↦ lower_leads low name (leads_of (low + 1) rs name later)
    ]

other_leader : (low : ℕ) (name : NodeName) → IsLeaderFrom low 0 name → LeadsFrom (low + 1) name → ⊥
other_leader low (Leader r i) here later = (let same = here.0 in absurd (omega arith))
other_leader low (Follower r t i) here later = here
other_leader low (Store store) here later = here

leaders_once : (low : ℕ) (regions : List NodeCounts) → StandOnce (leaders_from low regions)
leaders_once low [] = tt
leaders_once low (r ∷ rs) =
    both_once (map (Leader low) (range_with_len 0 r.leaders)) (leaders_from (low + 1) rs) (leader_once low 0 r.leaders) (leaders_once (low + 1) rs)
    (λ name here later. other_leader low name (leader_of low 0 r.leaders name here) (leads_of (low + 1) rs name later))

-- ---- a name stands at one place

name_at : {N : Type 0} (nodes : List (Named N)) (place : ℕ) (name : NodeName) (node : N) → slice_get nodes place ≡ Some (named name node)
    → slice_get (node_names nodes) place ≡ Some name
name_at [] place name node h = absurd (cc)
name_at {N} (n ∷ ns) zero name node h = ap (λ (x : Named N). Some x.name) (one_some n (named name node) h)
name_at (n ∷ ns) (suc place) name node h = name_at ns place name node h

-- each name of the nodes stands once
abbrev pub StandAlone : {N : Type 0} → List (Named N) → Type 0
StandAlone {N} nodes = (m n : ℕ) (name : NodeName) (f g : N) → slice_get nodes m ≡ Some (named name f) → slice_get nodes n ≡ Some (named name g) → m ≡ n

pub stand_alone : {N : Type 0} (s : Settings) (nodes : List (Named N)) → node_names nodes ≡ follower_names s → StandAlone nodes
stand_alone s nodes is m n name f g one two =
    one_place (node_names nodes) m n name (subst StandOnce (sym is) (followers_once 0 (regions_of s))) (name_at nodes m name f one) (name_at nodes n name g two)

pub leaders_alone : {N : Type 0} (s : Settings) (nodes : List (Named N)) → node_names nodes ≡ leader_names s → StandAlone nodes
leaders_alone s nodes is m n name f g one two =
    one_place (node_names nodes) m n name (subst StandOnce (sym is) (leaders_once 0 (regions_of s))) (name_at nodes m name f one) (name_at nodes n name g two)

-- ---- of which kind a name is

among : {N : Type 0} (nodes : List (Named N)) (place : ℕ) (name : NodeName) (node : N) → slice_get nodes place ≡ Some (named name node)
    → IsIn name (node_names nodes)
among nodes place name node h = in_place (node_names nodes) place name (name_at nodes place name node h)

-- no follower has a leader's name
pub leads_none : {N : Type 0} (s : Settings) (nodes : List (Named N)) (place : ℕ) (region index : ℕ) (node : N) → node_names nodes ≡ follower_names s
    → slice_get nodes place ≡ Some (named (Leader region index) node) → ⊥
leads_none s nodes place region index node is h =
    of_regions 0 (regions_of s) (Leader region index) (subst (IsIn (Leader region index)) is (among nodes place (Leader region index) node h))

-- nor a leader a follower's
pub follows_none : {N : Type 0} (s : Settings) (nodes : List (Named N)) (place : ℕ) (region tier index : ℕ) (node : N) → node_names nodes ≡ leader_names s
    → slice_get nodes place ≡ Some (named (Follower region tier index) node) → ⊥
follows_none s nodes place region tier index node is h =
    leads_of 0 (regions_of s) (Follower region tier index)
    (subst (IsIn (Follower region tier index)) is (among nodes place (Follower region tier index) node h))

-- the name of a leader is one of a leader of the configuration
pub leader_is_cache : (s : Settings) (name : NodeName) → IsIn name (leader_names s) → IsCacheOf s name
leader_is_cache s (Leader region index) h = contains_from_in (leader_names s) (Leader region index) h
leader_is_cache s (Follower region tier index) h = absurd (leads_of 0 (regions_of s) (Follower region tier index) h)
leader_is_cache s (Store store) h = leads_of 0 (regions_of s) (Store store) h

-- and that of a follower one of a follower
pub follower_is_cache : (s : Settings) (name : NodeName) → IsIn name (follower_names s) → IsCacheOf s name
follower_is_cache s (Follower region tier index) h = contains_from_in (follower_names s) (Follower region tier index) h
follower_is_cache s (Leader region index) h = absurd (of_regions 0 (regions_of s) (Leader region index) h)
follower_is_cache s (Store store) h = of_regions 0 (regions_of s) (Store store) h
