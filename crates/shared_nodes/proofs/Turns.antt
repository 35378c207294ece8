-- A node of a cluster serves what is its turn, and has seen beginnings of the logs of these shards.
use Rattle.std.proofs.Common.{◌≡◌, ℕ, ◌<◌, List, Option, Some, None, refl, ap, sym, subst, ◌∙◌}
use Rattle.std.specs.Option.{option_map}
use Rattle.std.specs.Prelude.{IsSome, IsTrue}
use Rattle.cache_items.specs.Node.{Node}
use Rattle.cache_node.specs.True.{AreAlike, AreTold}
use Rattle.core_model.proofs.NodesSeen.{right-at}
use Rattle.core_model.proofs.Turns.{right_serves_turn}
use Rattle.core_model.specs.Fleet.{serves}
use Rattle.graph_model.specs.Told.{WhereTold}
use Rattle.log_names.specs.Names.{IsOfLog, LogNames}
use Rattle.node_name.specs.declared.NodeName.{NodeName}
use Rattle.served_shards.specs.Served.{ServedShard, log_at, served_at, view_at}
use Rattle.shard_log.specs.View.{View}
use Rattle.shared_stores.specs.Making.{Making}
use Rattle.shared_nodes.specs.Nodes.{IsSharedNode}

-- the logs that a node serves are told where one of them is
pub served_told : (shard : ℕ) (served : List ServedShard) (t : ServedShard) → served_at shard served ≡ Some t → AreAlike served
    → WhereTold t.view.log.told (AreTold served)
served_told shard served t at alike = λ told other u there. alike other shard u t there at ∙ told

module _ (m : Making) (log : LogNames) (name : NodeName) (node : Node) (shard : ℕ) where
  -- it serves each configured shard of its turn
  pub serves_turn : IsSharedNode m log name node → shard < m.settings.shards → IsTrue (serves m.settings name shard) → IsSome (served_at shard node.served)
  serves_turn is here turn = (right_serves_turn m.settings (IsOfLog log) name node shard).serves is here turn

  log_found : (found : Option ServedShard) (view : View) → served_at shard node.served ≡ found → IsSome found
      → ((t : ServedShard) → served_at shard node.served ≡ Some t → IsOfLog log shard t.view) → IsOfLog log shard view
      → log_at shard node.served ≡ Some view.log
  log_found None view at found seen is = absurd (cc)
  log_found (Some t) view at found seen is = ap (option_map (λ x. x.view.log)) at ∙ ap Some (seen t at ∙ sym is)

  -- what it has seen of such a shard is of the log of any view of it
  pub log_of_turn : (view : View) → IsSharedNode m log name node → shard < m.settings.shards → IsTrue (serves m.settings name shard)
      → IsOfLog log shard view → log_at shard node.served ≡ Some view.log
  log_of_turn view is here turn of_log =
      log_found (served_at shard node.served) view refl (serves_turn is here turn) (λ t at. right-at (IsOfLog log) shard node.served t is.seen at) of_log

  view_found : (found : Option ServedShard) (note : View) → served_at shard node.served ≡ found
      → ((t : ServedShard) → served_at shard node.served ≡ Some t → IsOfLog log shard t.view) → view_at shard node.served ≡ Some note → IsOfLog log shard note
  view_found None note at seen is = (let none : None ≡ Some note = sym (ap (option_map (λ x. x.view)) at) ∙ is in absurd (cc))
  view_found (Some t) note at seen is =
      let same : Some t.view ≡ Some note = sym (ap (option_map (λ x. x.view)) at) ∙ is in
      let one : t.view ≡ note = cc in
      subst (IsOfLog log shard) one (seen t at)

  -- a note of what it has seen of a shard is of that shard's log
  pub note_of_turn : (note : View) → IsSharedNode m log name node → view_at shard node.served ≡ Some note → IsOfLog log shard note
  note_of_turn note is at =
      view_found (served_at shard node.served) note refl (λ t found. right-at (IsOfLog log) shard node.served t is.seen found) at
