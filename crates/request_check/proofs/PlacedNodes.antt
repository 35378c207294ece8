-- The node that a request names is the configuration's.
use Rattle.std.proofs.Common.{◌≡◌, ℕ, ◌<◌, Bool, true, false, ◌&&◌, List, map, Option, None, Some, IfOk, IfSome, IsTrue, refl}
use Rattle.std.specs.Prelude.{bytes_eq, codes, decimal, if◌then◌else◌, nat_lt, option_and_then, option_map}
use Rattle.std.specs.Bool.{then_some}
use Rattle.std.specs.Str.Parse.{digits_value}
use Rattle.std.proofs.lemmas.Bool.{ltb-true}
use Rattle.node_name.specs.declared.NodeName.{NodeName}
use Rattle.node_name.specs.declared.NodeName.TheVariants.{Store, Leader, Follower}
use Rattle.outcomes.specs.Results.{needed}
use Rattle.replies.specs.declared.refusals.NameRefused.{NameRefused}
use Rattle.replies.specs.declared.refusals.NameRefused.TheVariants.{NoNode}
use Rattle.topology.specs.Config.{Settings}
use Rattle.topology.specs.Counts.{counts_of}
use Rattle.topology.specs.Lookup.{followers_of, leaders_of, node_at, node_in, number_below, parts, tier_in}
use Rattle.topology.specs.Regions.{region_at}
use Rattle.topology.specs.States.{is_cache}
use Rattle.topology.proofs.Found.{follower_known, leader_known}
use Rattle.request_check.specs.Kind.{takes}
use Rattle.request_check.specs.Names.{node_named, of_kind}
use Rattle.request_check.specs.Placed.{IsPlacedNode}
use Rattle.request_check.specs.declared.kind.NodeKind.{NodeKind}
use Rattle.request_check.specs.declared.kind.NodeKind.TheVariants.{Cache}

-- ---- what is found

-- what holds of what is needed
pub needed_holds : {A : Type 0} (P : A → Type 0) (refused : NameRefused) (found : Option A) → IfSome found P → IfOk (needed refused found) P
needed_holds P refused None holds = tt
needed_holds P refused (Some a) holds = holds

any_then : {A B : Type 0} (Q : B → Type 0) (found : Option A) (next : A → Option B) → ((a : A) → IfSome (next a) Q) → IfSome (option_and_then next found) Q
any_then Q None next there = tt
any_then Q (Some a) next there = there a

either : (P : NodeName → Type 0) (test : Bool) (found other : Option NodeName) → IfSome found P → IfSome other P → IfSome (if test then found else other) P
either P true found other here there = here
either P false found other here there = there

within : (value count : ℕ) (test same : Bool) → (test ≡ true → value < count) → IfSome (then_some (test && same) value) (λ n. n < count)
within value count true true below = below refl
within value count true false below = tt
within value count false same below = tt

number_found : (count : ℕ) (text : List ℕ) → IfSome (number_below count text) (λ n. n < count)
number_found count text =
    let value : ℕ = digits_value 10 text in within value count (nat_lt value count) (bytes_eq (decimal value) text) (ltb-true value count)

module _ (s : Settings) where
  -- a cache node is the configuration's
  abbrev IsPlacedCache : NodeName → Type 0
  IsPlacedCache node = takes Cache node ≡ true → IsPlacedNode s node

  leader_found : (region : ℕ) (found : Option ℕ) → IfSome found (λ n. n < leaders_of s.regions region)
      → IfSome (option_map (λ index. Leader region index) found) IsPlacedCache
  leader_found region None below = tt
  leader_found region (Some index) below = λ some. below

  follower_found : (region tier : ℕ) (found : Option ℕ) → IfSome found (λ n. n < followers_of s.regions region tier)
      → IfSome (option_map (λ index. Follower region tier index) found) IsPlacedCache
  follower_found region tier None below = tt
  follower_found region tier (Some index) below = λ some. below

  stored : (region : ℕ) (found : Option ℕ) → IfSome (option_map (λ shard. Store (record { region = region; shard = shard })) found) IsPlacedCache
  stored region None = tt
  stored region (Some shard) = λ some. absurd (cc)

  in_region : (region : ℕ) (word number : List ℕ) → IfSome (node_in s region word number) IsPlacedCache
  in_region region word number =
      either _ (bytes_eq word (codes "store")) _ _ (stored region (number_below s.shards number))
      (either _ (bytes_eq word (codes "leader")) _ _ (leader_found region _ (number_found (leaders_of s.regions region) number))
      (any_then _ (tier_in s.regions region word) _ (λ tier. follower_found region tier _ (number_found (followers_of s.regions region tier) number))))

  found_at : (text : List ℕ) → IfSome (node_at s text) IsPlacedCache
  found_at text = any_then _ (parts text) _ (λ first. any_then _ (parts first.1) _ (λ second.
      any_then _ (region_at s.regions first.0) _ (λ region. in_region region second.0 second.1)))

  kind_found : (kind : NodeKind) → ((node : NodeName) → takes kind node ≡ true → takes Cache node ≡ true) → (found : Option NodeName)
      → IfSome found IsPlacedCache → IfSome (of_kind kind found) (λ node. IsPlacedNode s node × (takes kind node ≡ true))
  kind_found kind caches None placed = tt
  kind_found kind caches (Some node) placed = at (takes kind node) refl
    where
      at : (b : Bool) → takes kind node ≡ b → IfSome (if b then Some node else None) (λ n. IsPlacedNode s n × (takes kind n ≡ true))
      at true e = (placed (caches node e), e)
      at false e = tt

  -- a node of a kind of cache nodes is the configuration's, and of the kind
  pub node_placed : (kind : NodeKind) → ((node : NodeName) → takes kind node ≡ true → takes Cache node ≡ true) → (name : List ℕ)
      → IfOk (node_named s kind name) (λ node. IsPlacedNode s node × (takes kind node ≡ true))
  node_placed kind caches name = needed_holds _ (NoNode name) (of_kind kind (node_at s name)) (kind_found kind caches (node_at s name) (found_at name))

  -- a node that is placed is a leader or a follower of the configuration's numbers
  pub placed_known : (node : NodeName) → IsPlacedNode s node → IsTrue (is_cache (map counts_of s.regions) node)
  placed_known (Store store) placed = absurd placed
  placed_known (Leader region index) placed = leader_known s.regions region index placed
  placed_known (Follower region tier index) placed = follower_known s.regions region tier index placed
