use Rattle.std.proofs.Common.{◌≡◌, ℕ, ◌<◌, Some}
use Rattle.std.specs.Prelude.{slice_get}
use Rattle.core_model.specs.Consistent.{AreSeen}
use Rattle.core_model.specs.Pens.{pens_of}
use Rattle.unlocked_nodes.proofs.meeting.meet_caches.Given as goal

-- those so far have met
abbrev pub invariant-loop-place : goal.invariant-loop-place
invariant-loop-place g l = record {
  seen : (place : ℕ) (cache : _) → place < l.place → slice_get l.fn.caches place ≡ Some cache
      → AreSeen (pens_of l.fn.stores) (g.C.Cache.node cache.node).served;
  same : l.stores ≡ l.fn.stores;
  caches : l.caches ≡ l.fn.caches;
}
