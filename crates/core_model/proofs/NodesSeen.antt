-- What nodes have seen stays seen.
use Rattle.std.proofs.Common.{◌≡◌, ℕ, true, List, [], ◌∷◌, Some, None, ap, sym, subst, ◌∙◌, inl, inr}
use Rattle.std.specs.Prelude.{◌==◌}
use Rattle.std.proofs.lemmas.Bool.{cases_Bool, eqb-true}
use Rattle.cache_items.specs.Node.{Node}
use Rattle.node_name.specs.declared.NodeName.{NodeName}
use Rattle.served_shards.specs.Served.{ServedShard, changed_at, forgetting, marking, seeing, served_at}
use Rattle.shard_log.proofs.GrowthLemmas.{grows-trans, seen-meets}
use Rattle.shard_log.specs.View.{View}
use Rattle.topology.specs.Config.{Settings}
use Rattle.core_model.specs.Consistent.{AreRight, AreSeen, IsNodeOf}
use Rattle.core_model.specs.Laws.{NodesStaySeen}
use Rattle.core_model.specs.Pens.{IsSeen, KeepsMeets, Pens, Rise, SeenRule}
use Rattle.core_model.proofs.Places.{one_some}

pub seen-rises : (old new : Pens) (shard : ℕ) (v : View) → Rise old new → IsSeen old shard v → IsSeen new shard v
seen-rises old new shard v rise seen = grows-trans v (old shard) (new shard) seen (rise shard)

-- what was seen of a told log is told
pub seen-told : (pens : Pens) (shard : ℕ) (view : View) → IsSeen pens shard view → (pens shard).log.told ≡ true → view.log.told ≡ true
seen-told pens shard view seen told = ap (λ l. l.told) (sym seen.log_is) ∙ told

pub served-rises : (old new : Pens) (served : List ServedShard) → Rise old new → AreSeen old served → AreSeen new served
served-rises old new [] rise seen = tt
served-rises old new (s ∷ ss) rise seen = (seen-rises old new s.shard s.view rise seen.0, served-rises old new ss rise seen.1)

-- the longer of two beginnings of a log is one of them
pub seen_meet : (pens : Pens) → KeepsMeets (IsSeen pens)
seen_meet pens shard view note was is = seen-meets view note (pens shard) was is

-- ---- whatever is right to have seen

module _ (Seen : SeenRule) where
  -- one of the served shards changes, and what was seen of it stays right
  changed-right : (shard : ℕ) (f : ServedShard → ServedShard) (served : List ServedShard)
      → ((s : ServedShard) → s.shard ≡ shard → Seen s.shard s.view → Seen (f s).shard (f s).view) → AreRight Seen served
      → AreRight Seen (changed_at shard f served)
  changed-right shard f [] keeps right = tt
  changed-right shard f (s ∷ ss) keeps right = elim (cases_Bool (s.shard == shard)) [
    | inl same ↦ rw same (keeps s (eqb-true s.shard shard same) right.0, right.1)
    | inr other ↦ rw other (right.0, changed-right shard f ss keeps right.1)
  ]

  -- a note of the shard is met
  pub right-meets : KeepsMeets Seen → (shard : ℕ) (note : View) (served : List ServedShard) → Seen shard note → AreRight Seen served
      → AreRight Seen (changed_at shard (seeing note) served)
  right-meets meets shard note served is right =
      changed-right shard (seeing note) served (λ s here was. meets s.shard s.view note was (subst (λ n. Seen n note) (sym here) is)) right

  -- a position is marked, or marks are forgotten
  pub right-marks : (shard position : ℕ) (served : List ServedShard) → AreRight Seen served → AreRight Seen (changed_at shard (marking position) served)
  right-marks shard position served right = changed-right shard (marking position) served (λ s here was. was) right

  pub right-forgets : (shard : ℕ) (served : List ServedShard) → AreRight Seen served → AreRight Seen (changed_at shard forgetting served)
  right-forgets shard served right = changed-right shard forgetting served (λ s here was. was) right

none_is : {X : Type 0} (P : Type 0) (x : X) → None ≡ Some x → P
none_is P x h = absurd (cc)

-- what was seen of a shard is right
pub right-at : (Seen : SeenRule) (shard : ℕ) (served : List ServedShard) (s : ServedShard) → AreRight Seen served → served_at shard served ≡ Some s
    → Seen shard s.view
right-at Seen shard [] s right is = none_is (Seen shard s.view) s is
right-at Seen shard (x ∷ xs) s right is = elim (cases_Bool (x.shard == shard)) [
  | inl same ↦ (
      let found : x ≡ s = one_some x s (rw same at is) in
      subst (λ (y : ServedShard). Seen shard y.view) found (subst (λ n. Seen n x.view) (eqb-true x.shard shard same) right.0))
  | inr other ↦ right-at Seen shard xs s right.1 (rw other at is)
]

-- ---- as the pens have it

pub served-at : (pens : Pens) (shard : ℕ) (served : List ServedShard) (s : ServedShard) → AreSeen pens served → served_at shard served ≡ Some s
    → IsSeen pens shard s.view
served-at pens = right-at (IsSeen pens)

pub node_rises : (s : Settings) (old new : Pens) (name : NodeName) (node : Node) → Rise old new → IsNodeOf s old name node → IsNodeOf s new name node
node_rises s old new name node rise is = record {
  shards = is.shards;
  seen = served-rises old new node.served rise is.seen;
  truth = is.truth;
  within = is.within;
}

pub nodes_stay_seen : NodesStaySeen
nodes_stay_seen = record {
  rises = served-rises;
  meets = λ pens. right-meets (IsSeen pens) (seen_meet pens);
  marks = λ pens. right-marks (IsSeen pens);
  forgets = λ pens. right-forgets (IsSeen pens);
  at = served-at;
  node_rises = node_rises;
}
