-- What a keeper of keepers shows.
use Rattle.std.specs.Prelude.{ℕ, ◌≡◌, ◌≢◌, ◌<◌, ◌+◌, ◌-◌, ◌*◌, ◌^◌, List, length, min, slice_get}
use Rattle.std.specs.List.{sum_by}
use Rattle.std.specs.Option.{option_map_or}
use Rattle.tao_base.specs.declared.id.StoreName.{StoreName}
use Rattle.tao_keeper.specs.KeeperState.{KeeperState}
use Rattle.tao_keeper.specs.Table.{Tables, empty_table}
use Rattle.keepers.specs.declared.keepers.Keepers.{Keepers}

-- the keepers, in their order
abbrev pub kept : {M : Type 0} → Keepers M → List M
kept all = all.keepers.items

-- how many shards each region has
abbrev pub shards_of : {M : Type 0} → Keepers M → ℕ
shards_of all = all.shards

-- how many calls there were on stores that no keeper stands for
abbrev pub strays_of : {M : Type 0} → Keepers M → ℕ
strays_of all = all.strays

-- the place of the keeper of a store: in order of region, then of shard
abbrev pub place_of : ℕ → StoreName → ℕ
place_of shards at = at.region * shards + at.shard

-- of each store what its keeper tells: a store that none stands for is empty
abbrev pub told_in : {M : Type 0} → (M → KeeperState) → ℕ → List M → Tables
told_in state shards keepers at = option_map_or (λ keeper. (state keeper).told at) (slice_get keepers (place_of shards at)) empty_table

-- counts added up, with that many more: as any count the sum stands still at the last value
abbrev pub total : {M : Type 0} → (M → ℕ) → ℕ → List M → ℕ
total count more keepers = min (more + sum_by count keepers) (2 ^ 64 - 1)

-- what the keepers tell together
abbrev pub told_by : {M : Type 0} → (M → KeeperState) → Keepers M → Tables
told_by state all = told_in state (shards_of all) (kept all)

-- what the keepers show together
abbrev pub shown_by : {M : Type 0} → (M → KeeperState) → Keepers M → KeeperState
shown_by state all = record {
  told = told_by state all;
  calls = total (λ keeper. (state keeper).calls) (strays_of all) (kept all);
  faults = total (λ keeper. (state keeper).faults) (strays_of all) (kept all);
}

-- a call on a store: each keeper but the store's own is as it was, in its place; and where that one stands, the call is no stray
pub record KeepsOthers {M : Type 0} (at : StoreName) (old new : Keepers M) : Type 0 where
  pub shards : shards_of new ≡ shards_of old
  pub many : length (kept new) ≡ length (kept old)
  pub others : (place : ℕ) → place ≢ place_of (shards_of old) at → slice_get (kept new) place ≡ slice_get (kept old) place
  pub strays : place_of (shards_of old) at < length (kept old) → strays_of new ≡ strays_of old
