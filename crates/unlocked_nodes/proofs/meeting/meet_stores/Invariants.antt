use Rattle.std.proofs.Common.{◌≡◌, ℕ, ◌<◌, Some}
use Rattle.std.specs.Prelude.{slice_get}
use Rattle.core_model.specs.Pens.{IsSeen, pens_of}
use Rattle.shard_tables.specs.StoreView.{Store}
use Rattle.unlocked_nodes.proofs.meeting.meet_stores.Given as goal

-- those so far have met
abbrev pub invariant-loop-place : goal.invariant-loop-place
invariant-loop-place l = record {
  seen : (place : ℕ) (store : Store) → place < l.place → slice_get l.fn.stores place ≡ Some store → IsSeen (pens_of l.fn.stores) store.name.shard store.view;
  same : l.stores ≡ l.fn.stores;
}
