-- The shards that a node serves are configured.
use Rattle.std.proofs.Common.{◌≡◌, ℕ, zero, suc, ◌+◌, ◌≤◌, ◌<◌, Bool, true, false, List, [], ◌∷◌, cond, arith}
use Rattle.std.specs.List.{AllByRecursion, range_with_len}
use Rattle.std.specs.Prelude.{filter}
use Rattle.node_name.specs.declared.NodeName.{NodeName}
use Rattle.topology.specs.Config.{Settings}
use Rattle.core_model.specs.Fleet.{regions_of, served_by, serves_in_turn}

range_within : (first count top : ℕ) → first + count ≤ top → AllByRecursion (λ k. k < top) (range_with_len first count)
range_within first zero top le = tt
range_within first (suc count) top le = (omega (arith, le), range_within (first + 1) count top (omega (arith, le)))

keeps_within : (keep : Bool) (top x : ℕ) (xs : List ℕ) → x < top → AllByRecursion (λ k. k < top) xs → AllByRecursion (λ k. k < top) (cond keep (x ∷ xs) xs)
keeps_within true top x xs lt h = (lt, h)
keeps_within false top x xs lt h = h

filter_within : (p : ℕ → Bool) (top : ℕ) (xs : List ℕ) → AllByRecursion (λ k. k < top) xs → AllByRecursion (λ k. k < top) (filter p xs)
filter_within p top [] h = tt
filter_within p top (x ∷ xs) h = keeps_within (p x) top x (filter p xs) h.0 (filter_within p top xs h.1)

pub served_within : (s : Settings) (name : NodeName) (top : ℕ) → s.shards ≡ top → AllByRecursion (λ shard. shard < top) (served_by s name)
served_within s name top is = filter_within (serves_in_turn (regions_of s) name) top (range_with_len 0 s.shards)
    (range_within 0 s.shards top (omega (arith, is)))
