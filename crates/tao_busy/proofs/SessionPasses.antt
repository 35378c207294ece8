-- The passes of a thread are of the sessions of a workload, and stay so.
use Rattle.std.proofs.Common.{◌≡◌, ◌∙◌, ◌⊎◌, ℕ, zero, suc, ◌+◌, ◌<◌, List, [], ◌∷◌, ◌++◌, Some, length, map, take, ap, sym, subst, refl, inl, inr, arith, length-append}
use Rattle.std.specs.Prelude.{flat_map, get_or, slice_get, slice_set}
use Rattle.std.proofs.lemmas.List.{length-map, take_all}
use Rattle.std.proofs.lemmas.Option.{slice_get-get_or}
use Rattle.core_model.specs.Fleet.{regions_of}
use Rattle.load_gen.specs.Names.{names_of, tiers_of}
use Rattle.session_pass.specs.Passes.{SeenPass}
use Rattle.shared_tiers.specs.locked_nodes.Passes.{PassGoesOn}
use Rattle.topology.specs.Config.{Settings}
use Rattle.topology.specs.Counts.{counts_of, tier_count}
use Rattle.topology.specs.declared.regions.Region.{Region}
use Rattle.tao_busy.specs.Refusing.{AreNumbered, HaveEachSession}

-- ---- one pass more

last_or_before : (xs : List SeenPass) (last found : SeenPass) (place : ℕ) → slice_get (xs ++ last ∷ []) place ≡ Some found
    → (slice_get xs place ≡ Some found) ⊎ ((found ≡ last) × (place ≡ length xs))
last_or_before [] last found zero at = inr (let same : found ≡ last = cc in same, refl)
last_or_before [] last found (suc place) at = absurd (cc)
last_or_before (x ∷ xs) last found zero at = inl at
last_or_before (x ∷ xs) last found (suc place) at = elim (last_or_before xs last found place at) [
  | inl before ↦ inl before
  | inr is ↦ inr (is.0, ap suc is.1)
]

pub numbered_next : (old new : List SeenPass) (pass : SeenPass) → new ≡ old ++ pass ∷ [] → pass.session ≡ length old + 1 → AreNumbered old → AreNumbered new
numbered_next old new pass is session numbered =
    subst AreNumbered (sym is) (λ place found at. elim (last_or_before old pass found place at) [
      | inl before ↦ numbered place found before
      | inr last ↦ (let number = ap (λ (p : SeenPass). p.session) last.0 in let there = last.1 in omega (arith, number, session, there))
    ])

-- ---- all tiers

tiers_long : (r : Region) → length (tiers_of r) ≡ length r.tiers
tiers_long r = length-map r.tiers _

followers_long : (r : Region) → length (counts_of r).followers ≡ length r.tiers
followers_long r = length-map r.tiers _

sessions_next : (regions : List Region) (region : ℕ) → region < length regions
    → length (flat_map tiers_of (take (suc region) regions)) ≡ length (flat_map tiers_of (take region regions)) + tier_count (map counts_of regions) region
sessions_next [] region inside = absurd (omega (arith, inside))
sessions_next (r ∷ rs) zero inside = omega (arith, length-append (tiers_of r) [], tiers_long r, followers_long r)
sessions_next (r ∷ rs) (suc region) inside =
    omega (
      arith,
      sessions_next rs region (omega (arith, inside)),
      length-append (tiers_of r) (flat_map tiers_of (take (suc region) rs)),
      length-append (tiers_of r) (flat_map tiers_of (take region rs)),
    )

-- so many passes as the tiers of the first regions, and those of the next one
pub many_next : (s : Settings) (region before after : ℕ) → region < length s.regions → before ≡ length (flat_map tiers_of (take region s.regions))
    → after ≡ before + tier_count (regions_of s) region → after ≡ length (flat_map tiers_of (take (region + 1) s.regions))
many_next s region before after inside was is =
    let next : region + 1 ≡ suc region = omega arith in
    subst (λ n. after ≡ length (flat_map tiers_of (take n s.regions))) (sym next) (omega (arith, was, is, sessions_next s.regions region inside))

pub many_all : (s : Settings) (count many : ℕ) → count ≡ length s.regions → many ≡ length (flat_map tiers_of (take count s.regions))
    → many ≡ length (names_of s).tiers
many_all s count many all is = is ∙ ap (λ regions. length (flat_map tiers_of regions)) (take_all count s.regions (omega (arith, all)))

-- ---- one of the passes goes on

length_set : (xs : List SeenPass) (place : ℕ) (new : SeenPass) → length (slice_set xs place new) ≡ length xs
length_set [] place new = refl
length_set (x ∷ xs) zero new = refl
length_set (x ∷ xs) (suc place) new = ap suc (length_set xs place new)

set_or_before : (xs : List SeenPass) (place : ℕ) (new found : SeenPass) (at : ℕ) → slice_get (slice_set xs place new) at ≡ Some found
    → (slice_get xs at ≡ Some found) ⊎ ((found ≡ new) × (at ≡ place))
set_or_before [] place new found at is = inl is
set_or_before (x ∷ xs) zero new found zero is = inr (let same : found ≡ new = cc in same, refl)
set_or_before (x ∷ xs) zero new found (suc at) is = inl is
set_or_before (x ∷ xs) (suc place) new found zero is = inl is
set_or_before (x ∷ xs) (suc place) new found (suc at) is = elim (set_or_before xs place new found at is) [
  | inl before ↦ inl before
  | inr here ↦ inr (here.0, ap suc here.1)
]

pub sessions_stay : (s : Settings) (passes : List SeenPass) (place : ℕ) (d new : SeenPass) → place < length passes → PassGoesOn (get_or passes place d) new
    → HaveEachSession s passes → HaveEachSession s (slice_set passes place new)
sessions_stay s passes place d new inside on each = record {
  many = length_set passes place new ∙ each.many;
  numbered = λ at found is. elim (set_or_before passes place new found at is) [
    | inl before ↦ each.numbered at found before
    | inr here ↦ (let number = ap (λ (p : SeenPass). p.session) here.0 in let there = here.1 in let same = on.session in
        let was = each.numbered place (get_or passes place d) (slice_get-get_or passes place d inside) in omega (arith, number, there, same, was))
  ];
}
