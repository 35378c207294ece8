-- Nodes and stores that came out of their locks under the names of a configuration.
use Rattle.std.proofs.Common.{◌≡◌, ℕ, ◌<◌, List, Some, length, refl, ap, sym, subst, ◌∙◌, inl, inr, arith}
use Rattle.std.proofs.lemmas.Option.{slice_get_cases, slice_get_within}
use Rattle.std.specs.Prelude.{slice_get}
use Rattle.cache_items.specs.Node.{Node}
use Rattle.cache_node.specs.True.{IsServed}
use Rattle.core_model.proofs.FoundStores.{master_found, named_stands}
use Rattle.core_model.proofs.NodesSeen.{right-at}
use Rattle.core_model.proofs.Turns.{right_turn_of}
use Rattle.core_model.specs.Fleet.{EachIs, Fleet, regions_of, serves_in_turn}
use Rattle.core_model.specs.Pens.{pens_of, view_or_none}
use Rattle.core_model.specs.Stores.{AreStores, HaveMasterRegions, IsStoreAt, master_store, store_count, store_place}
use Rattle.core_nodes.proofs.ServedRising.{Rises, each_served, range_rises}
use Rattle.log_names.specs.Names.{IsOfLog, LogNames}
use Rattle.node_name.specs.declared.NodeName.{NodeName}
use Rattle.shard_log.specs.View.{View}
use Rattle.shard_tables.specs.StoreView.{Store}
use Rattle.shared_nodes.specs.Nodes.{IsSharedNode}
use Rattle.shared_stores.specs.Making.{Making}
use Rattle.tao_base.specs.declared.id.StoreName.{StoreName}
use Rattle.topology.specs.Config.{Settings}
use Rattle.unlocked_nodes.specs.Looking.{AreConfigured, AreOfCluster, AreOfLogs, IsOfCluster, NodeIsOfLogs, NotedAreOfLogs}

-- what can be asked of them then
pub record MayMeet (s : Settings) (f : Fleet) (noted : List (List View)) : Type 0 where
  pub configured : AreStores s (store_count s) f.stores
  pub logs : AreOfLogs f.stores
  pub noted_long : length noted ≡ length f.stores
  pub notes : NotedAreOfLogs (pens_of f.stores) s.shards noted
  pub leaders : EachIs (λ name node. NodeIsOfLogs s (pens_of f.stores) name node) f.leaders
  pub followers : EachIs (λ name follower. NodeIsOfLogs s (pens_of f.stores) name follower.node) f.followers

module _ (m : Making) (log : LogNames) (f : Fleet) (noted : List (List View)) (cluster : AreOfCluster m log f noted) (conf : AreConfigured m.settings f)
    (regions : HaveMasterRegions m.settings) where
  abbrev s : Settings
  s = m.settings

  of_cluster : (place : ℕ) (store : Store) → slice_get f.stores place ≡ Some store → (notes : List View) × IsOfCluster m log store notes
  of_cluster place store at =
      let within = slice_get_within f.stores place store at in
      elim (slice_get_cases noted place).1 [
        | inl e ↦ (e.0, cluster.stores place store e.0 at e.2 (conf.stores place store at))
        | inr e ↦ absurd (let past = e.0 in let long = cluster.noted_long in omega (arith, within, past, long))
      ]

  stores_are : AreStores s (store_count s) f.stores
  stores_are = record {
    long = cluster.many;
    each = λ place store at. subst (λ p. IsStoreAt s p store) (sym (conf.stores place store at)) (of_cluster place store at).1.is;
  }

  pen_log : (shard : ℕ) → shard < s.shards → (pens_of f.stores shard).log ≡ log shard
  pen_log shard lt =
      let at = master_store s shard in
      let there = named_stands s f.stores stores_are at (record { region = regions shard; shard = lt }) in
      let master = master_found s f.stores stores_are shard there.0 there.1 in
      ap (λ (v : View). v.log) (ap view_or_none master.1) ∙ (of_cluster (store_place s at) there.0 there.1.stands).1.log_is
      ∙ ap (λ (n : StoreName). log n.shard) there.1.name_is

  node_is : (name : NodeName) (node : Node) → IsSharedNode m log name node → NodeIsOfLogs s (pens_of f.stores) name node
  node_is name node shared = record {
    shards = shared.shards;
    seen = each_served (λ shard t. (pens_of f.stores shard).log ≡ t.view.log) node.served
        (subst Rises (sym shared.shards) (range_rises (serves_in_turn (regions_of s) name) 0 s.shards)) (λ shard t found.
        let served : IsServed node.served shard = rw found refl in
        let turn = right_turn_of s (IsOfLog log) name node shard shared served in
        pen_log shard turn.0 ∙ sym (right-at (IsOfLog log) shard node.served t shared.seen found));
    truth = shared.truth;
    within = shared.within;
  }

  own : MayMeet s f noted
  own = record {
    configured = stores_are;
    logs = λ place store at. (
        let is = (of_cluster place store at).1 in
        pen_log store.name.shard is.is.here.shard ∙ sym is.log_is);
    noted_long = cluster.noted_long;
    notes = λ place notes has shard note lt at. elim (slice_get_cases f.stores place).1 [
      | inl e ↦ (
          let is = cluster.stores place e.0 notes e.2 has (conf.stores place e.0 e.2) in
          pen_log shard lt ∙ sym (is.notes_are shard note at))
      | inr e ↦ (
          let within = slice_get_within noted place notes has in
          absurd (let past = e.0 in let long = cluster.noted_long in omega (arith, within, past, long)))
    ];
    leaders = λ place name node at. node_is name node (cluster.leaders place name node at);
    followers = λ place name follower at. node_is name follower.node (cluster.followers place name follower at);
  }

-- by a configuration that is the cluster's
pub may_meet : (s : Settings) (m : Making) (log : LogNames) (f : Fleet) (noted : List (List View)) → s ≡ m.settings → AreOfCluster m log f noted
    → AreConfigured s f → HaveMasterRegions s → MayMeet s f noted
may_meet s m log f noted same cluster conf regions =
    subst (λ x. MayMeet x f noted) (sym same)
    (own m log f noted cluster (subst (λ x. AreConfigured x f) same conf) (subst HaveMasterRegions same regions))
