-- What a keeper of keepers tells keeps what each keeper's tables keep.
use Rattle.std.proofs.Common.{refl}
use Rattle.std.proofs.Math.Nat.{le_refl}
use Rattle.std.specs.Option.{option_map_or}
use Rattle.std.specs.Prelude.{Bool, Option, Some, None, slice_get}
use Rattle.graph_model.specs.Soundness.{IsSound}
use Rattle.graph_model.specs.Told.{WhereTold}
use Rattle.tao_base.specs.declared.id.StoreName.{StoreName}
use Rattle.tao_keeper.specs.KeeperState.{KeeperState}
use Rattle.tao_keeper.specs.Table.{AreOfEntries, IsCutWithin, Table, empty_table}
use Rattle.keepers.specs.Shown.{kept, place_of, shards_of, shown_by}
use Rattle.keepers.specs.declared.keepers.Keepers.{Keepers}

module _ {M : Type 0} (tells : Bool) (state : M → KeeperState) where
  -- what holds of the empty table and of each that a keeper tells holds of each that the keepers tell together
  each_in : (P : Table → Type 0) → P empty_table → ((keeper : M) (at : StoreName) → WhereTold tells (P ((state keeper).told at)))
      → (all : Keepers M) (at : StoreName) → WhereTold tells (P ((shown_by state all).told at))
  each_in P none each all at told = by (slice_get (kept all) (place_of (shards_of all) at))
    where
      by : (found : Option M) → P (option_map_or (λ keeper. (state keeper).told at) found empty_table)
      by None = none
      by (Some keeper) = each keeper at told

  pub sound_in : ((keeper : M) (at : StoreName) → WhereTold tells (IsSound ((state keeper).told at).log)) → (all : Keepers M) (at : StoreName)
      → WhereTold tells (IsSound ((shown_by state all).told at).log)
  sound_in each = each_in (λ (t : Table). IsSound t.log) (λ n e h. absurd (cc)) each

  pub within_in : ((keeper : M) (at : StoreName) → WhereTold tells (IsCutWithin ((state keeper).told at))) → (all : Keepers M) (at : StoreName)
      → WhereTold tells (IsCutWithin ((shown_by state all).told at))
  within_in each = each_in IsCutWithin (le_refl 0) each

  pub of_entries_in : ((keeper : M) (at : StoreName) → WhereTold tells (AreOfEntries ((state keeper).told at))) → (all : Keepers M) (at : StoreName)
      → WhereTold tells (AreOfEntries ((shown_by state all).told at))
  of_entries_in each = each_in AreOfEntries (record { none_past = λ position past. refl }) each
