-- Nodes stay past the cuts of logs, and stores come to them.
use Rattle.std.proofs.Common.{◌≡◌, ◌≢◌, ◌⊎◌, ℕ, ◌≤◌, ◌<◌, true, length, Option, Some, None, refl, ap, sym, subst, ◌∙◌, inl, inr, arith}
use Rattle.cache_items.specs.Node.{Node}
use Rattle.follower_cache.specs.cache_node.True.{AreTold, IsServed}
use Rattle.low_water.specs.Marks.{Marks}
use Rattle.node_name.specs.declared.NodeName.{NodeName}
use Rattle.served_shards.specs.Served.{ServedShard, served_at}
use Rattle.shard_log.proofs.Beginnings.{begins-length}
use Rattle.tao_base.specs.declared.id.StoreName.{StoreName}
use Rattle.tao_keeper.proofs.Cuts.{cut_laws}
use Rattle.tao_keeper.proofs.Growing.{same_or_other}
use Rattle.tao_keeper.specs.Growing.{CutsStay, LogsGrow}
use Rattle.tao_keeper.specs.Table.{Becomes, Stays, Table, Tables, after_cut}
use Rattle.topology.specs.Config.{Settings}
use Rattle.core_model.specs.Consistent.{GoesOn, IsConsistent, IsNodeOf, MarksGoOn, MarksRise}
use Rattle.core_model.specs.Cuts.{ArePastCuts, AtStoresIsPast, IsPastCuts, NodesStayPastCuts, store_cut}
use Rattle.core_model.specs.Emptied.{IsAtStore}
use Rattle.core_model.specs.Fleet.{EachIs, Fleet, region_of}
use Rattle.core_model.specs.Growing.{StoresGrow}
use Rattle.core_model.specs.Pens.{Pens, pens_of}
use Rattle.core_model.specs.Stores.{ComeToCuts, HaveMasterRegions, IsConfiguredStore, region_store, store_length}
use Rattle.core_model.proofs.Settled.{node_tells}
use Rattle.core_model.proofs.Turns.{turn_of}

-- ---- nodes

-- a node whose marks rise stays past cuts that stay
pub stays_past : (region : ℕ) (before after : Tables) (old new : Node) → MarksGoOn old new → AreTold old.served
    → ((shard : ℕ) → store_cut after region shard ≡ store_cut before region shard) → IsPastCuts before region old → IsPastCuts after region new
stays_past region before after old new goes told same past = record { past = λ shard t at. by_old shard t at (served_at shard old.served) refl }
  where
    by_old : (shard : ℕ) (t : ServedShard) → served_at shard new.served ≡ Some t → (o : Option ServedShard) → served_at shard old.served ≡ o
        → store_cut after region shard ≤ t.marks.low
    by_old shard t at None none = absurd (let log : Some t.view.log ≡ None = rw at at (rw none at (goes shard).log) in cc)
    by_old shard t at (Some u) was =
        let rise : MarksRise u.view.log.told u.marks t.marks = rw at at (rw was at (goes shard).marks) in
        let up : u.marks.low ≤ t.marks.low = rise.low (told shard u was) in
        let old_past : store_cut before region shard ≤ u.marks.low = past.past shard u was in
        let cut : store_cut after region shard ≡ store_cut before region shard = same shard in
        omega arith

module _ (s : Settings) (before after : Tables) (old new : Fleet) (regions : HaveMasterRegions s) (was : IsConsistent true s before old)
    (grow : StoresGrow true s before after) where
  node_stays_past : (name : NodeName) (from to : Node) → IsNodeOf s (pens_of old.stores) name from → MarksGoOn from to
      → IsPastCuts before (region_of name) from → IsPastCuts after (region_of name) to
  node_stays_past name from to is goes past =
      stays_past (region_of name) before after from to goes (node_tells s before old.stores name from regions was.stores is)
      (λ shard. grow.cuts.cuts refl (region_store (region_of name) shard)) past

  all_stay_past : GoesOn old new → ArePastCuts before old → ArePastCuts after new
  all_stay_past goes past = record {
    leaders = λ place name node at. (
        let from = goes.marks.leaders place name node at in
        node_stays_past name from.0 node (was.fleet.leaders place name from.0 from.1) from.2 (past.leaders place name from.0 from.1));
    followers = λ place name f at. (
        let from = goes.marks.followers place name f at in
        node_stays_past name from.0.node f.node (was.fleet.followers place name from.0 from.1).node from.2 (past.followers place name from.0 from.1));
  }

pub nodes_stay_past_cuts : (s : Settings) (before after : Tables) (old new : Fleet) → NodesStayPastCuts s before after old new
nodes_stay_past_cuts s before after old new = record { stay = λ regions was goes grow. all_stay_past s before after old new regions was grow goes }

pub at_stores_is_past : (s : Settings) (tables : Tables) (region : ℕ) (node : Node) → AtStoresIsPast s tables region node
at_stores_is_past s tables region node = record {
  past = λ come here ends. record {
    past = λ shard t at. (
        let there = here shard t at in
        let low : t.marks.low ≡ store_length tables region shard = ap (λ (m : Marks). m.low) (ends shard t at) in
        let within : store_cut tables region shard ≤ store_length tables region shard =
        come.come (region_store region shard) (region_store region shard) there there refl in
        omega arith);
  };
}

-- so is a node of the core, of a region of the configuration
pub node_at_stores : (s : Settings) (pens : Pens) (tables : Tables) (name : NodeName) (node : Node) → ComeToCuts s tables
    → region_of name < length s.regions → IsNodeOf s pens name node → IsAtStore tables (region_of name) node → IsPastCuts tables (region_of name) node
node_at_stores s pens tables name node come region is ends = (at_stores_is_past s tables (region_of name) node).past come (λ shard t at. here shard t at) ends
  where
    here : (shard : ℕ) (t : ServedShard) → served_at shard node.served ≡ Some t → IsConfiguredStore s (region_store (region_of name) shard)
    here shard t at = let served : IsServed node.served shard = rw at refl in record { region = region; shard = (turn_of s pens name node shard is served).0 }

-- a log is cut no further than the node has come with it, where it is one of the node's region
pub cut_is_past : (old new : Tables) (at : StoreName) (upto region : ℕ) (node : Node) → Becomes old new at (after_cut (old at) upto)
    → (region ≡ at.region → (t : ServedShard) → served_at at.shard node.served ≡ Some t → upto ≤ t.marks.low) → IsPastCuts old region node
    → IsPastCuts new region node
cut_is_past old new at upto region node becomes come was = record { past = λ shard t here. by shard t here (same_or_other (region_store region shard) at) }
  where
    by : (shard : ℕ) (t : ServedShard) → served_at shard node.served ≡ Some t → (region_store region shard ≡ at) ⊎ (region_store region shard ≢ at)
        → store_cut new region shard ≤ t.marks.low
    by shard t here (inl this) =
        let cut : store_cut new region shard ≡ upto = ap (λ (n : StoreName). (new n).cut) this ∙ ap (λ (x : Table). x.cut) becomes.here in
        let own : served_at at.shard node.served ≡ Some t = subst (λ n. served_at n node.served ≡ Some t) (ap (λ (n : StoreName). n.shard) this) here in
        let within = come (ap (λ (n : StoreName). n.region) this) t own in
        omega arith
    by shard t here (inr apart) =
        let cut : store_cut new region shard ≡ store_cut old region shard =
        ap (λ (x : Table). x.cut) (becomes.others (region_store region shard) apart) in
        let past = was.past shard t here in
        omega arith

-- and no further than each leader and follower of its region has
pub cut_is_past_all : (old new : Tables) (at : StoreName) (upto : ℕ) (f : Fleet) → Becomes old new at (after_cut (old at) upto)
    → EachIs (λ name node. region_of name ≡ at.region → (t : ServedShard) → served_at at.shard node.served ≡ Some t → upto ≤ t.marks.low) f.leaders
    → EachIs (λ name follower. region_of name ≡ at.region → (t : ServedShard) → served_at at.shard follower.node.served ≡ Some t → upto ≤ t.marks.low)
    f.followers
    → ArePastCuts old f → ArePastCuts new f
cut_is_past_all old new at upto f becomes leaders followers was = record {
  leaders = λ place name node here.
      cut_is_past old new at upto (region_of name) node becomes (leaders place name node here) (was.leaders place name node here);
  followers = λ place name follower here.
      cut_is_past old new at upto (region_of name) follower.node becomes (followers place name follower here) (was.followers place name follower here);
}

-- ---- stores

-- what each store has come to it has come to still, where logs only grow and no cut moves
pub come_on : (s : Settings) (old new : Tables) → LogsGrow true old new → CutsStay true old new → ComeToCuts s old → ComeToCuts s new
come_on s old new grow cuts come = record {
  come = λ at other here there same. (
      let longer = begins-length (old at).log (new at).log (grow.begins refl at) in
      let cut : (new other).cut ≡ (old other).cut = cuts.cuts refl other in
      let was = come.come at other here there same in
      omega arith);
}

-- no table changes
pub come_same : (s : Settings) (old new : Tables) → Stays old new → ComeToCuts s old → ComeToCuts s new
come_same s old new stays come = let same : new ≡ old = λ i at. stays at i in subst (ComeToCuts s) (sym same) come

-- a log is cut no further than each store of its shard has come
pub come_cut : (s : Settings) (old new : Tables) (at : StoreName) (upto : ℕ) → ComeToCuts s old → Becomes old new at (after_cut (old at) upto)
    → ((other : StoreName) → IsConfiguredStore s other → other.shard ≡ at.shard → upto ≤ length (old other).log) → ComeToCuts s new
come_cut s old new at upto come becomes reach = record { come = λ name other here there same. by name other here there same (same_or_other other at) }
  where
    by : (name other : StoreName) → IsConfiguredStore s name → IsConfiguredStore s other → other.shard ≡ name.shard → (other ≡ at) ⊎ (other ≢ at)
        → (new other).cut ≤ length (new name).log
    by name other here there same is =
        let longer = begins-length (old name).log (new name).log ((cut_laws.keeps true old new at upto (λ told. becomes)).begins refl name) in
        elim is [
          | inl this ↦ (
              let cut : (new other).cut ≡ upto = ap (λ (n : StoreName). (new n).cut) this ∙ ap (λ (t : Table). t.cut) becomes.here in
              let within = reach name here (sym same ∙ ap (λ (n : StoreName). n.shard) this) in
              omega arith)
          | inr apart ↦ (
              let cut : (new other).cut ≡ (old other).cut = ap (λ (t : Table). t.cut) (becomes.others other apart) in
              let was = come.come name other here there same in
              omega arith)
        ]
