-- The followers of a tier that serve a shard, and the one of them that is picked.
use Rattle.std.proofs.Common.{◌≡◌, ◌↔◌, ℕ, zero, suc, ◌+◌, ◌-◌, ◌%◌, ◌<◌, ◌≤◌, Bool, true, false, cond, List, [], ◌∷◌, ◌++◌, length, map, filter, All, find}
use Rattle.std.proofs.Common.{IsTrue, IsNone, IfSome, Option, Some, None, slice_get, nat_lt, refl, sym, ap, arith, subst, option_and_then}
use Rattle.std.proofs.Common.{option_map, ◌∙◌}
use Rattle.std.specs.Prelude.{if◌then◌else◌}
use Rattle.std.specs.List.{AllByRecursion, range_with_len}
use Rattle.std.proofs.Math.Nat.{mod-lt}
use Rattle.std.proofs.lemmas.Bool.{and_parts, lt-ltb, true≢false}
use Rattle.std.proofs.lemmas.List.{length-map}
use Rattle.std.proofs.lemmas.List.Elements.{All-from_recursion, recursion_from_All}
use Rattle.node_name.specs.declared.NodeName.{NodeName}
use Rattle.node_name.specs.declared.NodeName.TheVariants.{Follower}
use Rattle.topology.specs.Choices.{serving_follower}
use Rattle.topology.specs.States.{NodeStates}
use Rattle.shard_clone.specs.Clones.{Clones}
use Rattle.shard_clone.specs.Picks.{at_turn, has_server, is_able, is_other, other_servers, picked, servers_in, tiers_in_turn}

-- of none there is none
pub none_of_none : (number : ℕ) (nodes : List NodeName) → length nodes ≡ 0 → None ≡ at_turn number nodes
none_of_none number [] e = refl
none_of_none number (n ∷ nodes) e = absurd (omega (arith, e))

-- numbers that pass, from one on below a count
module _ (test : ℕ → Bool) (count : ℕ) where
  abbrev pub passing : ℕ → List ℕ
  passing from = filter test (range_with_len from (count - from))

  one_more : (from : ℕ) → from < count → range_with_len from (count - from) ≡ from ∷ range_with_len (from + 1) (count - (from + 1))
  one_more from below = let left : count - from ≡ suc (count - (from + 1)) = omega (arith, below) in ap (range_with_len from) left

  pub passing_here : (from : ℕ) → from < count → test from ≡ true → passing from ≡ from ∷ passing (from + 1)
  passing_here from below is = subst (λ w. passing from ≡ w) (at (test from) is) (ap (filter test) (one_more from below))
    where
      at : (b : Bool) → b ≡ true → cond b (from ∷ passing (from + 1)) (passing (from + 1)) ≡ from ∷ passing (from + 1)
      at true e = refl
      at false e = absurd cc

  pub passing_on : (from : ℕ) → from < count → test from ≡ false → passing from ≡ passing (from + 1)
  passing_on from below is = subst (λ w. passing from ≡ w) (at (test from) is) (ap (filter test) (one_more from below))
    where
      at : (b : Bool) → b ≡ false → cond b (from ∷ passing (from + 1)) (passing (from + 1)) ≡ passing (from + 1)
      at true e = absurd cc
      at false e = refl

  pub none_passing : (from : ℕ) → count ≤ from → passing from ≡ []
  none_passing from over = let left : count - from ≡ 0 = omega (arith, over) in ap (λ n. filter test (range_with_len from n)) left

  -- the steps of a look for the one at a place
  pub found_here : (from left : ℕ) (found : Option ℕ) → from < count → test from ≡ true → left ≡ 0 → slice_get (passing from) left ≡ found → Some from ≡ found
  found_here from left found below is none so =
      let first : slice_get (from ∷ passing (from + 1)) 0 ≡ found = subst (λ place. slice_get (from ∷ passing (from + 1)) place ≡ found) none
      (subst (λ xs. slice_get xs left ≡ found) (passing_here from below is) so) in first

  pub found_later : (from left : ℕ) (found : Option ℕ) → from < count → test from ≡ true → 0 < left → slice_get (passing from) left ≡ found
      → slice_get (passing (from + 1)) (left - 1) ≡ found
  found_later from zero found below is some so = absurd (omega (arith, some))
  found_later from (suc left) found below is some so =
      let same : suc left - 1 ≡ left = omega arith in rw same (subst (λ xs. slice_get xs (suc left) ≡ found) (passing_here from below is) so)

  pub found_on : (from left : ℕ) (found : Option ℕ) → from < count → test from ≡ false → slice_get (passing from) left ≡ found
      → slice_get (passing (from + 1)) left ≡ found
  found_on from left found below is so = subst (λ xs. slice_get xs left ≡ found) (passing_on from below is) so

  pub found_none : (from left : ℕ) (found : Option ℕ) → count ≤ from → slice_get (passing from) left ≡ found → None ≡ found
  found_none from left found over so = subst (λ xs. slice_get xs left ≡ found) (none_passing from over) so

few_pass : (test : ℕ → Bool) (from count : ℕ) → length (filter test (range_with_len from count)) ≤ count
few_pass test from zero = omega arith
few_pass test from (suc count) = at (test from) (few_pass test (from + 1) count)
  where
    at : (b : Bool) → length (filter test (range_with_len (from + 1) count)) ≤ count
        → length (cond b (from ∷ filter test (range_with_len (from + 1) count)) (filter test (range_with_len (from + 1) count))) ≤ suc count
    at true later = omega (arith, later)
    at false later = omega (arith, later)

pub few_others : (test : ℕ → Bool) (count : ℕ) → count < 65536 → length (filter test (range_with_len 0 count)) < 65536
few_others test count few = omega (arith, few_pass test 0 count, few)

name_at : (name : ℕ → NodeName) (xs : List ℕ) (place : ℕ) → option_map name (slice_get xs place) ≡ slice_get (map name xs) place
name_at name [] place = refl
name_at name (x ∷ xs) zero = refl
name_at name (x ∷ xs) (suc place) = name_at name xs place

names_pass : (name : ℕ → NodeName) (test : NodeName → Bool) (xs : List ℕ) → ((place : ℕ) → IfSome (slice_get xs place) (λ i. IsTrue (test (name i))))
    → (place : ℕ) → IfSome (slice_get (map name xs) place) (λ n. IsTrue (test n))
names_pass name test [] each place = tt
names_pass name test (x ∷ xs) each zero = each zero
names_pass name test (x ∷ xs) each (suc place) = names_pass name test xs (λ p. each (suc p)) place

module _ (node : NodeName) (name : ℕ → NodeName) (others : List ℕ) where
  abbrev row : Bool → List NodeName
  row able = (if able then node ∷ [] else []) ++ map name others

  row_with : (able : Bool) → able ≡ true → 1 + length others ≡ length (row able)
  row_with true e = let more : 1 + length others ≡ suc (length (map name others)) = omega (arith, length-map others name) in more
  row_with false e = absurd cc

  row_without : (able : Bool) → able ≡ false → length others ≡ length (row able)
  row_without true e = absurd cc
  row_without false e = sym (length-map others name)

  row_first : (able : Bool) → able ≡ true → (place : ℕ) → place ≡ 0 → Some node ≡ slice_get (row able) place
  row_first true e zero is = refl
  row_first true e (suc place) is = absurd cc
  row_first false e place is = absurd cc

  row_rest : (able : Bool) → able ≡ true → (place : ℕ) → 0 < place → option_map name (slice_get others (place - 1)) ≡ slice_get (row able) place
  row_rest true e zero is = absurd (omega (arith, is))
  row_rest true e (suc place) is = let before : suc place - 1 ≡ place = omega arith in rw before (name_at name others place)
  row_rest false e place is = absurd cc

  row_else : (able : Bool) → able ≡ false → (place : ℕ) → option_map name (slice_get others place) ≡ slice_get (row able) place
  row_else true e place = absurd cc
  row_else false e place = name_at name others place

  row_passes : (test : NodeName → Bool) → ((place : ℕ) → IfSome (slice_get others place) (λ i. IsTrue (test (name i)))) → (able : Bool)
      → (able ≡ true → IsTrue (test node)) → (place : ℕ) → IfSome (slice_get (row able) place) (λ n. IsTrue (test n))
  row_passes test each true first zero = first refl
  row_passes test each true first (suc place) = names_pass name test others each place
  row_passes test each false first place = names_pass name test others each place

filter_passes : (test : ℕ → Bool) (xs : List ℕ) (place : ℕ) → IfSome (slice_get (filter test xs) place) (λ x. IsTrue (test x))
filter_passes test [] place = tt
filter_passes test (x ∷ xs) place = at (test x) refl (filter_passes test xs) place
  where
    at : (b : Bool) → test x ≡ b → ((place : ℕ) → IfSome (slice_get (filter test xs) place) (λ y. IsTrue (test y))) → (place : ℕ)
        → IfSome (slice_get (cond b (x ∷ filter test xs) (filter test xs)) place) (λ y. IsTrue (test y))
    at true e later zero = e
    at true e later (suc place) = later place
    at false e later place = later place

weaken : (o : Option ℕ) {P Q : ℕ → Type 0} → ((x : ℕ) → P x → Q x) → IfSome o P → IfSome o Q
weaken None f h = tt
weaken (Some x) f h = f x h

module _ (c : Clones) (states : NodeStates) (region tier shard : ℕ) where
  abbrev named : ℕ → NodeName
  named index = Follower region tier index

  abbrev first : NodeName
  first = serving_follower c.regions region tier shard

  abbrev others : List ℕ
  others = other_servers c states region tier shard

  abbrev able : Bool
  able = is_able c states shard first

  pub servers_with : able ≡ true → 1 + length others ≡ length (servers_in c states region tier shard)
  servers_with e = row_with first named others able e

  pub servers_without : able ≡ false → length others ≡ length (servers_in c states region tier shard)
  servers_without e = row_without first named others able e

  pub first_at : able ≡ true → (place : ℕ) → place ≡ 0 → Some first ≡ slice_get (servers_in c states region tier shard) place
  first_at e place is = row_first first named others able e place is

  pub rest_at : able ≡ true → (place : ℕ) → 0 < place
      → option_map named (slice_get others (place - 1)) ≡ slice_get (servers_in c states region tier shard) place
  rest_at e place is = row_rest first named others able e place is

  pub others_at : able ≡ false → (place : ℕ) → option_map named (slice_get others place) ≡ slice_get (servers_in c states region tier shard) place
  others_at e place = row_else first named others able e place

  pub servers_able : (place : ℕ) → IfSome (slice_get (servers_in c states region tier shard) place) (λ node. IsTrue (is_able c states shard node))
  servers_able place = row_passes first named others (is_able c states shard)
      (λ p. weaken (slice_get others p) (λ i h. (and_parts _ _ h).1) (filter_passes (is_other c states region tier shard) _ p)) able (λ e. e) place

-- whether a list has an element
abbrev has : List NodeName → Bool
has nodes = nat_lt 0 (length nodes)

some_at : (nodes : List NodeName) (place : ℕ) → place < length nodes → IsNone (slice_get nodes place) → ⊥
some_at [] place lt none = omega (arith, lt)
some_at (n ∷ nodes) zero lt none = absurd cc
some_at (n ∷ nodes) (suc place) lt none = some_at nodes place (omega (arith, lt)) none

-- of some nodes one is taken
turn_taken : (number : ℕ) (nodes : List NodeName) → has nodes ≡ true → IsNone (at_turn number nodes) → ⊥
turn_taken number [] h none = absurd cc
turn_taken number (n ∷ nodes) h none = some_at (n ∷ nodes) (number % length (n ∷ nodes)) (mod-lt number (omega arith)) none

has_none : (nodes : List NodeName) → has nodes ≡ false → nodes ≡ []
has_none [] h = refl
has_none (n ∷ nodes) h = absurd (true≢false (sym (lt-ltb 0 (length (n ∷ nodes)) (omega arith)) ∙ h))

empty_has : (nodes : List NodeName) → nodes ≡ [] → has nodes ≡ false
empty_has [] e = refl
empty_has (n ∷ nodes) e = absurd cc

module _ (c : Clones) (states : NodeStates) (region shard session : ℕ) where
  abbrev servers : ℕ → List NodeName
  servers t = servers_in c states region t shard

  abbrev from : Option ℕ → Option NodeName
  from found = option_and_then (λ t. at_turn session (servers t)) found

  abbrev served : ℕ → Bool
  served t = has_server c states region shard t

  all_empty : (tiers : List ℕ) → IsNone (from (find served tiers)) → AllByRecursion (λ t. servers t ≡ []) tiers
  all_empty [] = λ none. tt
  all_empty (t ∷ tiers) = at (served t) refl (all_empty tiers)
    where
      at : (b : Bool) → served t ≡ b → (IsNone (from (find served tiers)) → AllByRecursion (λ u. servers u ≡ []) tiers)
          → IsNone (from (cond b (Some t) (find served tiers))) → AllByRecursion (λ u. servers u ≡ []) (t ∷ tiers)
      at true e later none = absurd (turn_taken session (servers t) e none)
      at false e later none = (has_none (servers t) e, later none)

  none_found : (tiers : List ℕ) → AllByRecursion (λ t. servers t ≡ []) tiers → IsNone (from (find served tiers))
  none_found [] all = refl
  none_found (t ∷ tiers) all = at (served t) (empty_has (servers t) all.0) (none_found tiers all.1)
    where
      at : (b : Bool) → b ≡ false → IsNone (from (find served tiers)) → IsNone (from (cond b (Some t) (find served tiers)))
      at true e later = absurd cc
      at false e later = later

  pub none_picked : (tier : ℕ)
      → IsNone (picked c states region tier shard session) ↔ All (λ t. servers_in c states region t shard ≡ []) (tiers_in_turn c region tier)
  none_picked tier = (
    λ none. All-from_recursion _ (tiers_in_turn c region tier) (all_empty (tiers_in_turn c region tier) none),
    λ all. none_found (tiers_in_turn c region tier) (recursion_from_All _ (tiers_in_turn c region tier) all),
  )

  able_from : (found : Option ℕ) → IfSome (from found) (λ node. IsTrue (is_able c states shard node))
  able_from None = tt
  able_from (Some t) = servers_able c states region t shard (session % length (servers t))

  pub picked_able : (tier : ℕ) → IfSome (picked c states region tier shard session) (λ node. IsTrue (is_able c states shard node))
  picked_able tier = able_from (find served (tiers_in_turn c region tier))
