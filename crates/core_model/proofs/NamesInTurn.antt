-- The names of a configuration's nodes, one region or tier after another.
use Rattle.std.proofs.Common.{◌≡◌, ℕ, zero, suc, ◌+◌, ◌<◌, List, [], ◌∷◌, ◌++◌, length, take, Option, Some, None, refl, ap, sym, ◌∙◌, append_assoc, arith}
use Rattle.std.specs.Prelude.{map, option_and_then, slice_get, unwrap_or}
use Rattle.std.specs.Option.{option_map}
use Rattle.std.specs.List.{range_with_len}
use Rattle.std.proofs.lemmas.List.{append-nil}
use Rattle.node_name.specs.declared.NodeName.{NodeName}
use Rattle.node_name.specs.declared.NodeName.TheVariants.{Follower, Leader}
use Rattle.topology.specs.Counts.{NodeCounts, follower_count, leader_count, tier_count}
use Rattle.topology.specs.Config.{Settings}
use Rattle.core_model.specs.Fleet.{followers_from, leaders_from, regions_of, tiers_from, tiers_of}

-- one more region's leaders
pub leaders_more : (regions : List NodeCounts) (first place at : ℕ) → place < length regions → first + place ≡ at
    → leaders_from first (take (suc place) regions) ≡ leaders_from first (take place regions) ++ map (Leader at)
    (range_with_len 0 (leader_count regions place))
leaders_more [] first place at lt is = absurd (omega (arith, lt))
leaders_more (r ∷ rs) first zero at lt is =
    let here : first ≡ at = omega (arith, is) in
    append-nil (map (Leader first) (range_with_len 0 r.leaders)) ∙ ap (λ k. map (Leader k) (range_with_len 0 r.leaders)) here
leaders_more (r ∷ rs) first (suc place) at lt is =
    let here = map (Leader first) (range_with_len 0 r.leaders) in
    ap (λ names. here ++ names) (leaders_more rs (first + 1) place at (omega (arith, lt)) (omega (arith, is)))
    ∙ sym (append_assoc here (leaders_from (first + 1) (take place rs)) (map (Leader at) (range_with_len 0 (leader_count rs place))))

-- one more tier's followers
pub tiers_more : (region : ℕ) (counts : List ℕ) (first place at : ℕ) → place < length counts → first + place ≡ at
    → tiers_from region first (take (suc place) counts)
    ≡ tiers_from region first (take place counts) ++ map (Follower region at) (range_with_len 0 (unwrap_or (slice_get counts place) 0))
tiers_more region [] first place at lt is = absurd (omega (arith, lt))
tiers_more region (n ∷ ns) first zero at lt is =
    let here : first ≡ at = omega (arith, is) in
    append-nil (map (Follower region first) (range_with_len 0 n)) ∙ ap (λ k. map (Follower region k) (range_with_len 0 n)) here
tiers_more region (n ∷ ns) first (suc place) at lt is =
    let here = map (Follower region first) (range_with_len 0 n) in
    ap (λ names. here ++ names) (tiers_more region ns (first + 1) place at (omega (arith, lt)) (omega (arith, is)))
    ∙ sym (append_assoc here (tiers_from region (first + 1) (take place ns)) (map (Follower region at) (range_with_len 0 (unwrap_or (slice_get ns place) 0))))

abbrev pub tiers_in : List NodeCounts → ℕ → List ℕ
tiers_in regions place = unwrap_or (option_map (λ r. r.followers) (slice_get regions place)) []

-- one more region's followers
pub followers_more : (regions : List NodeCounts) (first place at : ℕ) → place < length regions → first + place ≡ at
    → followers_from first (take (suc place) regions) ≡ followers_from first (take place regions) ++ tiers_from at 0 (tiers_in regions place)
followers_more [] first place at lt is = absurd (omega (arith, lt))
followers_more (r ∷ rs) first zero at lt is =
    let here : first ≡ at = omega (arith, is) in
    append-nil (tiers_from first 0 r.followers) ∙ ap (λ k. tiers_from k 0 r.followers) here
followers_more (r ∷ rs) first (suc place) at lt is =
    let here = tiers_from first 0 r.followers in
    ap (λ names. here ++ names) (followers_more rs (first + 1) place at (omega (arith, lt)) (omega (arith, is)))
    ∙ sym (append_assoc here (followers_from (first + 1) (take place rs)) (tiers_from at 0 (tiers_in rs place)))

-- ---- counts

count_of : (o : Option NodeCounts) (tier : ℕ)
    → unwrap_or (option_and_then (λ r. slice_get r.followers tier) o) 0 ≡ unwrap_or (slice_get (unwrap_or (option_map (λ r. r.followers) o) []) tier) 0
count_of None tier = refl
count_of (Some r) tier = refl

-- the count of a tier is one of its region's
pub tier_is : (s : Settings) (region tier : ℕ) → follower_count (regions_of s) region tier ≡ unwrap_or (slice_get (tiers_of s region) tier) 0
tier_is s region tier = count_of (slice_get (regions_of s) region) tier

many_of : (o : Option NodeCounts) → unwrap_or (option_map (λ r. length r.followers) o) 0 ≡ length (unwrap_or (option_map (λ r. r.followers) o) [])
many_of None = refl
many_of (Some r) = refl

pub tiers_are : (s : Settings) (region : ℕ) → tier_count (regions_of s) region ≡ length (tiers_of s region)
tiers_are s region = many_of (slice_get (regions_of s) region)

-- names that are added to those so far
pub more_names : (old new added piece whole : List NodeName) (from_first : ℕ → List NodeName) (place : ℕ) → new ≡ old ++ added → added ≡ piece → old ≡ whole
    → from_first (suc place) ≡ whole ++ piece → new ≡ from_first (place + 1)
more_names old new added piece whole from_first place pushed is so_far all =
    let next : suc place ≡ place + 1 = omega arith in
    pushed ∙ (ap (λ l. old ++ l) is ∙ (ap (λ l. l ++ piece) so_far ∙ (sym all ∙ ap from_first next)))
