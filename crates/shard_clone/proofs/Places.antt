-- Each follower and shard has a flag of its own.
use Rattle.std.proofs.Common.{get_or-set_other, get_or-set_same, ◌≡◌, ◌≢◌, ℕ, ◌<◌, ◌≤◌, zero, suc, Bool, true, false, not, ◌&&◌, ◌||◌, ◌⊎◌, List, [], ◌∷◌}
use Rattle.std.proofs.Common.{length, IsTrue, slice_get, slice_set, unwrap_or, refl, ap, arith, inl, inr, sym}
use Rattle.std.specs.List.{AllByRecursion}
use Rattle.std.proofs.lemmas.Bool.{and_parts, ltb-true}
use Rattle.std.proofs.lemmas.List.Elements.{recursion_from_All}
use Rattle.node_name.specs.declared.NodeName.{NodeName}
use Rattle.node_name.specs.declared.NodeName.TheVariants.{Store, Leader, Follower}
use Rattle.topology.specs.Counts.{KeepCounts, NodeCounts, follower_count}
use Rattle.shard_clone.specs.Clones.{Clones, KeepClones, SetsClone, clone_place, follower_index, is_follower, is_preferred, may_clone}

gate_same : (gate x y : Bool) → (IsTrue gate → x ≡ y) → (gate && x) ≡ (gate && y)
gate_same true x y h = h refl
gate_same false x y h = refl

-- a number below that of some tier
below_count : (counts : List ℕ) → AllByRecursion (λ count. (1 ≤ count) × (count ≤ 4)) counts → (tier index : ℕ) → index < unwrap_or (slice_get counts tier) 0
    → (tier < length counts) × (index < 4)
below_count [] few tier index lt = absurd (omega (arith, lt))
below_count (c ∷ cs) few zero index lt = (omega arith, omega (arith, lt, few.0.1))
below_count (c ∷ cs) few (suc tier) index lt = let below = below_count cs few.1 tier index lt in (omega (arith, below.0), below.1)

below_followers : (regions : List NodeCounts) → AllByRecursion KeepCounts regions → (region tier index : ℕ) → index < follower_count regions region tier
    → (region < length regions) × (tier < 4) × (index < 4)
below_followers [] few region tier index lt = absurd (omega (arith, lt))
below_followers (c ∷ cs) few zero tier index lt =
    let below = below_count c.followers (recursion_from_All _ c.followers few.0.followers) tier index lt in
    (omega arith, omega (arith, below.0, few.0.tiers), below.1)
below_followers (c ∷ cs) few (suc region) tier index lt = let below = below_followers cs few.1 region tier index lt in
    (omega (arith, below.0), below.1, below.2)

module _ (c : Clones) (keep : KeepClones c) where
  follower_below : (region tier index : ℕ) → IsTrue (is_follower c.regions (Follower region tier index)) → (region < 4) × (tier < 4) × (index < 4)
  follower_below region tier index known =
      let below = below_followers c.regions (recursion_from_All KeepCounts c.regions keep.counts) region tier index (ltb-true _ _ known) in
      (omega (arith, below.0, keep.regions), below.1, below.2)

  index_below : (node : NodeName) → IsTrue (is_follower c.regions node) → follower_index node < 64
  index_below (Store store) known = absurd cc
  index_below (Leader region index) known = absurd cc
  index_below (Follower region tier index) known = let below = follower_below region tier index known in omega (arith, below.0, below.1, below.2)

  one_index : (m n : NodeName) → IsTrue (is_follower c.regions m) → IsTrue (is_follower c.regions n) → follower_index m ≡ follower_index n → m ≡ n
  one_index (Store store) n known other e = absurd cc
  one_index (Leader r i) n known other e = absurd cc
  one_index (Follower r t i) (Store store) known other e = absurd cc
  one_index (Follower r t i) (Leader s j) known other e = absurd cc
  one_index (Follower r t i) (Follower s u j) known other e =
      let b = follower_below r t i known in let d = follower_below s u j other in
      let same : r ≡ s = omega (arith, b.1, b.2, d.1, d.2, e) in
      let tier : t ≡ u = omega (arith, b.1, b.2, d.1, d.2, e, same) in
      let index : i ≡ j = omega (arith, b.2, d.2, e, same, tier) in cc

  is_known : (node : NodeName) (shard : ℕ) → IsTrue (may_clone c node shard) → IsTrue (is_follower c.regions node)
  is_known node shard may = (and_parts _ _ (and_parts _ _ may).1).0

  pub place_below : (node : NodeName) (shard : ℕ) → IsTrue (may_clone c node shard) → clone_place node shard < length c.flags
  place_below node shard may =
      let below = ltb-true shard c.shards (and_parts _ _ may).0 in
      let index = index_below node (is_known node shard may) in omega (arith, below, index, keep.shards, keep.flags)

  one_place : (m n : NodeName) (s t : ℕ) → IsTrue (may_clone c m s) → IsTrue (may_clone c n t) → clone_place m s ≡ clone_place n t → (m ≡ n) × (s ≡ t)
  one_place m n s t may other e =
      let a = index_below m (is_known m s may) in let b = index_below n (is_known n t other) in
      let shard : s ≡ t = omega (arith, a, b, e) in
      let index : follower_index m ≡ follower_index n = omega (arith, e, shard) in
      (one_index m n (is_known m s may) (is_known n t other) index, shard)

  here : (preferred gate : Bool) (flag on : Bool) → IsTrue (not preferred) → IsTrue gate → flag ≡ on → (preferred || (gate && flag)) ≡ on
  here true gate flag on apart may e = absurd cc
  here false gate flag on apart may e = rw may e

  differs : (m n : NodeName) (s t : ℕ) → (m ≢ n) ⊎ (s ≢ t) → (n ≡ m) × (t ≡ s) → ⊥
  differs m n s t (inl apart) same = apart (sym same.0)
  differs m n s t (inr apart) same = apart (sym same.1)

  pub sets_clone : (node : NodeName) (shard : ℕ) → IsTrue (may_clone c node shard) → (on : Bool)
      → SetsClone node shard on c (record c { flags = slice_set c.flags (clone_place node shard) on })
  sets_clone node shard may on = record {
    here = here (is_preferred c.regions node shard) (may_clone c node shard) _ on (and_parts _ _ (and_parts _ _ may).1).1 may
        (get_or-set_same c.flags (clone_place node shard) on false (place_below node shard may));
    others = λ other s apart. ap (λ clone. is_preferred c.regions other s || clone) (gate_same (may_clone c other s) _ _
        (λ there. get_or-set_other c.flags (clone_place node shard) (clone_place other s) on false
        (λ e. differs other node s shard apart (one_place node other shard s may there (sym e)))));
    rest = refl;
  }
