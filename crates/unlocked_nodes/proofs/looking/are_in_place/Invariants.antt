use Rattle.std.proofs.Common.{◌≡◌, ℕ, ◌<◌, Some}
use Rattle.std.specs.Prelude.{slice_get}
use Rattle.core_model.specs.Stores.{store_place}
use Rattle.shard_tables.specs.StoreView.{Store}
use Rattle.unlocked_nodes.proofs.looking.are_in_place.Given as goal

-- those so far stand at their places
abbrev pub invariant-loop-place : goal.invariant-loop-place
invariant-loop-place l = (place : ℕ) (store : Store) → place < l.place → slice_get l.stores place ≡ Some store → place ≡ store_place l.config store.name
