-- Of the lengths of all stores' logs those of the shards' own.
use Rattle.std.proofs.Common.{◌≡◌, ℕ, zero, suc, ◌+◌, ◌<◌, ◌≤◌, Bool, List, ◌∷◌, Err, IfOk, Ok, Result, ap, length, refl, ◌∙◌, arith}
use Rattle.std.specs.List.{range_with_len}
use Rattle.std.specs.Prelude.{map}
use Rattle.graph_model.specs.Told.{WhereTold}
use Rattle.tao_keeper.specs.Table.{Tables}
use Rattle.topology.specs.Config.{Settings}
use Rattle.core_model.specs.Stores.{HaveMasterRegions, master_log, master_store, store_place}
use Rattle.core_nodes.specs.Beginning.{AreLengths, length_at}
use Rattle.core_nodes.specs.Settling.{log_lengths}

-- what is so of each number below a bound is so of those of a range
same_map : {X : Type 0} (f h : ℕ → X) (top : ℕ) → ((n : ℕ) → n < top → f n ≡ h n) → (first count : ℕ) → first + count ≤ top
    → map f (range_with_len first count) ≡ map h (range_with_len first count)
same_map f h top same first zero le = refl
same_map f h top same first (suc count) le =
    ap (λ x. x ∷ map f (range_with_len (first + 1) count)) (same first (omega (arith, le)))
    ∙ ap (λ xs. h first ∷ xs) (same_map f h top same (first + 1) count (omega (arith, le)))

module _ (s : Settings) (lengths : List ℕ) (regions : HaveMasterRegions s) where
  abbrev of_master : ℕ → ℕ
  of_master shard = length_at lengths (store_place s (master_store s shard))

  all_of_shards : (tells : Bool) (tables : Tables) → AreLengths tells s tables lengths
      → WhereTold tells (map of_master (range_with_len 0 s.shards) ≡ log_lengths s tables)
  all_of_shards tells tables are told =
      same_map of_master (λ shard. length (master_log s tables shard)) s.shards
      (λ shard here. are.each (master_store s shard) (record { region = regions shard; shard = here }) told) 0 s.shards (omega arith)

  pub lengths_of_shards : {A E : Type 0} (items : A → List ℕ) (r : Result A E) → IfOk r (λ found. items found ≡ map of_master (range_with_len 0 s.shards))
      → IfOk r (λ found. (tells : Bool) (tables : Tables) → AreLengths tells s tables lengths → WhereTold tells (items found ≡ log_lengths s tables))
  lengths_of_shards items (Ok found) is = λ tells tables are told. is ∙ all_of_shards tells tables are told
  lengths_of_shards items (Err e) is = tt
