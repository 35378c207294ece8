-- Stores that are taken out of their locks.
use Rattle.std.specs.Prelude.{ℕ, ◌≡◌, ◌≤◌, ◌<◌, ◌+◌, ◌++◌, [], ◌∷◌, IfSome, List, Some, length, slice_get}
use Rattle.std.specs.Vec.{vec_capacity, vec_len}
use Rattle.shard_log.specs.View.{View}
use Rattle.shard_tables.specs.StoreView.{Store}
use Rattle.cluster_closing.specs.declared.freeing.FreedStores.{FreedStores}

-- there is room for so many more
pub record HasRoomLeft {K : Type 0} (many : ℕ) (freed : FreedStores K) : Type 0 where
  pub stores_left : vec_len freed.stores + many ≤ vec_capacity freed.stores
  pub keepers_left : vec_len freed.keepers + many ≤ vec_capacity freed.keepers
  pub noted_left : vec_len freed.noted + many ≤ vec_capacity freed.noted

-- each store is such, with the keeper and the notes at its place
pub record AreEachFreed {K : Type 0} (Is : Store → K → List View → Type 0) (freed : FreedStores K) : Type 0 where
  pub keepers_long : length freed.keepers.items ≡ length freed.stores.items
  pub noted_long : length freed.noted.items ≡ length freed.stores.items
  pub each : (place : ℕ) (store : Store) (keeper : K) → slice_get freed.stores.items place ≡ Some store → slice_get freed.keepers.items place ≡ Some keeper
      → IfSome (slice_get freed.noted.items place) (λ notes. Is store keeper notes.items)

-- those that are there stay, and one more comes last, where there is room, with its keeper and its notes
pub record GainsStore {K : Type 0} (Is : Store → K → List View → Type 0) (old new : FreedStores K) : Type 0 where
  pub store : Store
  pub keeper : K
  pub stores_are : new.stores.items ≡ old.stores.items ++ store ∷ []
  pub keepers_are : new.keepers.items ≡ old.keepers.items ++ keeper ∷ []
  pub noted_long : length new.noted.items ≡ length old.noted.items + 1
  pub noted_front : (place : ℕ) → place < length old.noted.items → slice_get new.noted.items place ≡ slice_get old.noted.items place
  pub is : IfSome (slice_get new.noted.items (length old.noted.items)) (λ notes. Is store keeper notes.items)
  pub room : (many : ℕ) → HasRoomLeft (many + 1) old → HasRoomLeft many new
