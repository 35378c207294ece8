-- What is read keeps the rules of a configuration.
use Rattle.std.proofs.Common.{◌≡◌, ℕ, suc, ◌<◌, ◌+◌, ◌&&◌, cond, Bool, true, false, List, [], ◌∷◌, length, Option, Some, None, Ok, All, IsTrue, refl}
use Rattle.std.proofs.Common.{ap, subst, arith}
use Rattle.std.specs.Prelude.{option_and_then, codes, bytes_eq, is_some, map}
use Rattle.std.specs.Bool.{then_some}
use Rattle.std.specs.List.{position_from, list_all}
use Rattle.std.specs.Result.{result_ok}
use Rattle.std.proofs.lemmas.Bool.{and_parts}
use Rattle.std.proofs.lemmas.Bool.Decides.{nat_tests}
use Rattle.std.proofs.lemmas.List.Elements.{All-nil, All-cons}
use Rattle.std.proofs.lemmas.Option.{none-some, same_Some, option_and_then_some}
use Rattle.serde_json.specs.Data.{Data}
use Rattle.serde_json.specs.Find.{get, as_str}
use Rattle.json_fields.specs.Fields.{whole_at, number_at, number_or}
use Rattle.topology.specs.Named.{in_range, are_different}
use Rattle.topology.specs.Regions.{are_regions, is_region, region_at}
use Rattle.topology.specs.declared.regions.Region.{Region}
use Rattle.config_json.specs.Config.{in_field}
use Rattle.json_fields.specs.Items.{each_at}
use Rattle.config_json.specs.Regions.{places_of, named_masters, masters_at}

-- what a field was read as
pub said_of : {A : Type 0} (field : List ℕ) (read : Option A) (said : A) → in_field field read ≡ Ok said → read ≡ Some said
said_of field None said is = ap result_ok is
said_of field (Some other) said is = ap result_ok is

-- what passes a test
pub passed : {A : Type 0} (test : Bool) (x y : A) → then_some test x ≡ Some y → (test ≡ true) × (x ≡ y)
passed true x y is = (refl, same_Some x y is)
passed false x y is = absurd (none-some y is)

in_range_of : (least most n m : ℕ) → then_some (in_range least most n) n ≡ Some m → IsTrue (in_range least most m)
in_range_of least most n m is =
    let p = passed (in_range least most n) n m is in
    subst (λ k. IsTrue (in_range least most k)) p.1 p.0

-- a number that was read is in its range
pub number_at_range : (name : List ℕ) (least most n : ℕ) (d : Data) → number_at name least most d ≡ Some n → IsTrue (in_range least most n)
number_at_range name least most n d is =
    option_and_then_some (λ k. then_some (in_range least most k) k) (whole_at name d) n is (λ k found kept. in_range_of least most k n kept)

number_or_at : (name : List ℕ) (default least most n : ℕ) (d : Data) (given : Bool) → IsTrue (in_range least most default)
    → cond given (number_at name least most d) (Some default) ≡ Some n → IsTrue (in_range least most n)
number_or_at name default least most n d true kept is = number_at_range name least most n d is
number_or_at name default least most n d false kept is = subst (λ k. IsTrue (in_range least most k)) (same_Some default n is) kept

-- and so it is where its default is
pub number_or_range : (name : List ℕ) (default least most n : ℕ) (d : Data) → IsTrue (in_range least most default)
    → number_or name default least most d ≡ Some n → IsTrue (in_range least most n)
number_or_range name default least most n d kept is = number_or_at name default least most n d (is_some (get name d)) kept is

-- ---- the masters

at_first : (start n place : ℕ) (later : Option ℕ) (here : Bool) → (later ≡ Some place → place < start + 1 + n) → cond here (Some start) later ≡ Some place
    → place < start + suc n
at_first start n place later true after is = let same = same_Some start place is in omega arith
at_first start n place later false after is = let below = after is in omega arith

within : (name : List ℕ) (start : ℕ) (regions : List Region) (place : ℕ) → position_from (λ region. bytes_eq name region.name) start regions ≡ Some place
    → place < start + length regions
within name start [] place is = absurd (none-some place is)
within name start (region ∷ regions) place is =
    at_first start (length regions) place (position_from (λ other. bytes_eq name other.name) (start + 1) regions) (bytes_eq name region.name)
    (within name (start + 1) regions place) is

region_within : (name : List ℕ) (regions : List Region) (place : ℕ) → region_at regions name ≡ Some place → place < length regions
region_within name regions place is = omega (arith, within name 0 regions place is)

-- the places of names are those of regions
places_within : (regions : List Region) (names : List (List ℕ)) (places : List ℕ) → places_of regions names ≡ Some places
    → All (λ place. place < length regions) places
places_within regions [] places is = subst (All (λ place. place < length regions)) (same_Some [] places is) (All-nil (λ place. place < length regions))
places_within regions (name ∷ names) places is =
    option_and_then_some (λ place. option_and_then (λ others. Some (place ∷ others)) (places_of regions names)) (region_at regions name) places is
    (λ place found more. option_and_then_some (λ others. Some (place ∷ others)) (places_of regions names) places more
    (λ others found_others same. subst (All (λ k. k < length regions)) (same_Some (place ∷ others) places same)
    (All-cons (λ k. k < length regions) place others (region_within name regions place found) (places_within regions names others found_others))))

named_within : (regions : List Region) (d : Data) (masters : List ℕ) → named_masters regions d ≡ Some masters → All (λ place. place < length regions) masters
named_within regions d masters is =
    option_and_then_some (λ names. option_and_then (λ places. then_some (in_range 1 64 (length places)) places) (places_of regions names))
    (each_at as_str (codes "masters") d) masters is
    (λ names found more. option_and_then_some (λ places. then_some (in_range 1 64 (length places)) places) (places_of regions names) masters more
    (λ places found_places kept. subst (All (λ k. k < length regions)) (passed (in_range 1 64 (length places)) places masters kept).1
    (places_within regions names places found_places)))

masters_by : (regions : List Region) (d : Data) (masters : List ℕ) (given : Bool) → 0 < length regions
    → cond given (named_masters regions d) (Some (0 ∷ [])) ≡ Some masters → All (λ place. place < length regions) masters
masters_by regions d masters true some is = named_within regions d masters is
masters_by regions d masters false some is =
    subst (All (λ k. k < length regions)) (same_Some (0 ∷ []) masters is) (All-cons (λ k. k < length regions) 0 [] some (All-nil (λ k. k < length regions)))

some_region : (n : ℕ) → IsTrue (in_range 1 4 n) → 0 < n
some_region n kept = grind (arith, nat_tests)

-- each master is one of the regions
pub masters_within : (regions : List Region) (d : Data) (masters : List ℕ) → IsTrue (are_regions regions) → masters_at regions d ≡ Some masters
    → All (λ place. place < length regions) masters
masters_within regions d masters kept is =
    let parts = and_parts (in_range 1 4 (length regions) && list_all is_region regions) (are_different (map (λ region. region.name) regions)) kept in
    let count = and_parts (in_range 1 4 (length regions)) (list_all is_region regions) parts.0 in
    masters_by regions d masters (is_some (get (codes "masters") d)) (some_region (length regions) count.0) is
