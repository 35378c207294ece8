-- What a node begins with that comes up.
use Rattle.std.proofs.Common.{◌≡◌, ℕ, ◌<◌, ◌++◌, ◌+◌, ◌∙◌, Bool, true, List, [], ◌∷◌, length, take, ap, sym, subst, arith, Result, Ok, Err, IfOk}
use Rattle.std.specs.Prelude.{map, slice_index_or}
use Rattle.std.proofs.lemmas.List.{take_more}
use Rattle.graph_model.specs.Told.{WhereTold}
use Rattle.cache_items.specs.Node.{Node}
use Rattle.node_name.specs.declared.NodeName.{NodeName}
use Rattle.node_name.specs.declared.NodeName.TheVariants.{Store as StoreName_, Follower, Leader}
use Rattle.served_shards.specs.Begun.{AreNotesOf, AreReached}
use Rattle.served_shards.specs.Served.{ServedShard}
use Rattle.shard_log.proofs.GrowthLemmas.{grows-trans}
use Rattle.shard_log.specs.View.{View}
use Rattle.shard_tables.specs.StoreView.{Store}
use Rattle.shard_tables.specs.Stores.{note_of}
use Rattle.shard_tables.specs.declared.refusal.StoreRefusal.{StoreRefusal}
use Rattle.tao_base.specs.declared.id.StoreName.{StoreName}
use Rattle.tao_keeper.specs.Table.{Stays, Table, Tables}
use Rattle.topology.specs.Config.{Settings}
use Rattle.core_model.proofs.Reaching.{nodes_told}
use Rattle.core_model.specs.Consistent.{AreSeen, HasReached, HaveReached, IsFleetOf, IsNodeOf}
use Rattle.core_model.specs.Emptied.{BeginEach, RegionTables, at_stores, region_tables}
use Rattle.core_model.specs.Evictions.{IsCacheOf}
use Rattle.core_model.specs.Fleet.{Fleet, region_of, served_by}
use Rattle.core_model.specs.Pens.{Pens, pens_of}
use Rattle.core_model.specs.Stores.{AreStoresOf, region_store}
use Rattle.core_nodes.specs.Emptying.{BeginFor, BeginsFor, CacheIs, MayEmpty}
use Rattle.node_stages.specs.declared.standing.Measure.{Measure}
use Rattle.node_stages.specs.declared.standing.Stand.{Stand}
use Rattle.node_stages.proofs.NotesSeen.{role_grows, role_reaches, role_told}
use Rattle.core_nodes.proofs.StoreLemmas.{IsReadStore}

-- ---- one shard

module _ (tells : Bool) (s : Settings) (tables : Tables) (xs : List Store) (at : StoreName) (store : Store)
    (is : IsReadStore tells s tables xs at store) where
  begins_noted : (low : ℕ) (note : View) → WhereTold tells (low ≡ length (tables store.name).log) → note ≡ note_of store
      → BeginsFor (pens_of xs) (region_tables tells tables at.region) at.shard low note
  begins_noted low note low_is note_is =
      let here : BeginsFor (pens_of xs) (region_tables tells tables at.region) at.shard low (note_of store) = record {
        seen = grows-trans (note_of store) store.view (pens_of xs at.shard) (role_grows store.role store.view) is.follow;
        low_is = λ told. low_is told ∙ ap (λ (n : StoreName). length (tables n).log) is.found.name_is;
        reached = λ told.
            let tell : tells ≡ true = sym is.keeper.told_is ∙ (sym (role_told store.role store.view) ∙ told) in
            let long = role_reaches store.role store.view (tables store.name).log (is.keeper.seen tell) in
            omega (arith, low_is tell, long);
      } in
      subst (BeginsFor (pens_of xs) (region_tables tells tables at.region) at.shard low) (sym note_is) here

  pub begins_for : (r : Result Measure StoreRefusal) → IfOk r (λ m. WhereTold tells (m.low ≡ length (tables store.name).log))
      → IfOk r (λ m. m.note ≡ note_of store)
      → IfOk r (λ m. BeginsFor (pens_of xs) (region_tables tells tables at.region) at.shard m.low m.note)
  begins_for (Ok m) low note = begins_noted m.low m.note low note
  begins_for (Err e) low note = tt

-- ---- one more shard

pub begin_more : (pens : Pens) (at : RegionTables) (shards lows : List ℕ) (notes : List View) (shard low : ℕ) (note : View) → BeginFor pens at shards lows notes
    → BeginsFor pens at shard low note → BeginFor pens at (shards ++ shard ∷ []) (lows ++ low ∷ []) (notes ++ note ∷ [])
begin_more pens at [] [] [] shard low note are is = (is, tt)
begin_more pens at [] [] (n ∷ ns) shard low note are is = absurd are
begin_more pens at [] (l ∷ ls) ns shard low note are is = absurd are
begin_more pens at (k ∷ ks) [] ns shard low note are is = absurd are
begin_more pens at (k ∷ ks) (l ∷ ls) [] shard low note are is = absurd are
begin_more pens at (k ∷ ks) (l ∷ ls) (n ∷ ns) shard low note are is = (are.0, begin_more pens at ks ls ns shard low note are.1 is)

-- the tables stay
pub begins_still : (pens : Pens) (tells : Bool) (before after : Tables) (region shard low : ℕ) (note : View) → WhereTold tells (Stays before after)
    → BeginsFor pens (region_tables tells after region) shard low note → BeginsFor pens (region_tables tells before region) shard low note
begins_still pens tells before after region shard low note stays is = record {
  seen = is.seen;
  low_is = λ told. is.low_is told ∙ ap (λ (t : Table). length t.log) (stays told (record { region = region; shard = shard }));
  reached = is.reached;
}

-- so it is where the code measures the next shard
pub restart_next : (tells : Bool) (before after : Tables) (xs ys : List Store) (region : ℕ) (shards : List ℕ) (i d : ℕ) (lows more : List ℕ)
    (notes others : List View) (at : StoreName) (low : ℕ) (note : View)
    → BeginFor (pens_of xs) (region_tables tells before region) (take i shards) lows notes → ys ≡ xs → i < length shards → WhereTold tells (Stays before after)
    → at ≡ region_store region (slice_index_or shards i d) → BeginsFor (pens_of ys) (region_tables tells after at.region) at.shard low note
    → more ≡ lows ++ low ∷ [] → others ≡ notes ++ note ∷ []
    → BeginFor (pens_of xs) (region_tables tells before region) (take (i + 1) shards) more others
restart_next tells before after xs ys region shards i d lows more notes others at low note are same lt stays named is longer and =
    let k = slice_index_or shards i d in
    let there : BeginsFor (pens_of xs) (region_tables tells after region) k low note =
    subst (λ l. BeginsFor (pens_of l) (region_tables tells after region) k low note) same
    (subst (λ (n : StoreName). BeginsFor (pens_of ys) (region_tables tells after n.region) n.shard low note) named is) in
    let next = begin_more (pens_of xs) (region_tables tells before region) (take i shards) lows notes k low note are
    (begins_still (pens_of xs) tells before after region k low note stays there) in
    let P : List ℕ → List ℕ → List View → Type 0 = λ ks ls ns. BeginFor (pens_of xs) (region_tables tells before region) ks ls ns in
    subst (λ ks. P ks more others) (sym (take_more shards i d lt))
    (subst (λ ls. P (take i shards ++ k ∷ []) ls others) (sym longer) (subst (P (take i shards ++ k ∷ []) (lows ++ low ∷ [])) (sym and) next))

pub restart_named : (tells : Bool) (tables : Tables) (xs : List Store) (region other : ℕ) (shards others : List ℕ) (r : Result Stand StoreRefusal)
    → region ≡ other → shards ≡ others
    → IfOk r (λ restart. BeginFor (pens_of xs) (region_tables tells tables region) shards restart.lows.items restart.notes.items)
    → IfOk r (λ restart. BeginFor (pens_of xs) (region_tables tells tables other) others restart.lows.items restart.notes.items)
restart_named tells tables xs region other shards others r same are restart =
    let P : ℕ → List ℕ → Type 0 = λ k ks. IfOk r (λ restart. BeginFor (pens_of xs) (region_tables tells tables k) ks restart.lows.items restart.notes.items) in
    subst (λ k. P k others) same (subst (P region) are restart)

-- ---- all of them

-- what a node begins with that serves these shards
pub record MayRestart (pens : Pens) (at : RegionTables) (served : List ServedShard) (lows : List ℕ) (notes : List View) : Type 0 where
  pub logs : AreNotesOf served notes
  pub each : BeginEach pens (at_stores at) served lows notes

pub restart_may : (pens : Pens) (at : RegionTables) (served : List ServedShard) (lows : List ℕ) (notes : List View)
    → BeginFor pens at (map (λ t. t.shard) served) lows notes → AreSeen pens served → MayRestart pens at served lows notes
restart_may pens at [] [] [] are seen = record { logs = tt; each = tt }
restart_may pens at [] [] (n ∷ ns) are seen = absurd are
restart_may pens at [] (l ∷ ls) ns are seen = absurd are
restart_may pens at (t ∷ ts) [] ns are seen = absurd are
restart_may pens at (t ∷ ts) (l ∷ ls) [] are seen = absurd are
restart_may pens at (t ∷ ts) (l ∷ ls) (n ∷ ns) are seen =
    let rest = restart_may pens at ts ls ns are.1 seen.1 in
    record {
      logs = (sym seen.0.log_is ∙ are.0.seen.log_is, rest.logs);
      each = (record { seen = are.0.seen; low_is = are.0.low_is }, rest.each);
    }

pub restart_reached : (pens : Pens) (at : RegionTables) (shards lows : List ℕ) (notes : List View) → BeginFor pens at shards lows notes → AreReached lows notes
restart_reached pens at [] [] [] are = tt
restart_reached pens at [] [] (n ∷ ns) are = absurd are
restart_reached pens at [] (l ∷ ls) ns are = absurd are
restart_reached pens at (k ∷ ks) [] ns are = absurd are
restart_reached pens at (k ∷ ks) (l ∷ ls) [] are = absurd are
restart_reached pens at (k ∷ ks) (l ∷ ls) (n ∷ ns) are = (are.0.reached, restart_reached pens at ks ls ns are.1)

-- ---- at a node of the configuration

module _ (tells : Bool) (s : Settings) (tables : Tables) (f : Fleet) (stores : AreStoresOf tells s tables f.stores) (fleet : IsFleetOf s f)
    (reached : WhereTold tells (HaveReached tables f)) where
  abbrev Over : NodeName → RegionTables
  Over name = region_tables tells tables (region_of name)

  node_restart : (name : NodeName) (node : Node) (lows : List ℕ) (notes : List View) → IsNodeOf s (pens_of f.stores) name node
      → BeginFor (pens_of f.stores) (Over name) (served_by s name) lows notes → MayRestart (pens_of f.stores) (Over name) node.served lows notes
  node_restart name node lows notes is restart =
      restart_may (pens_of f.stores) (Over name) node.served lows notes
      (subst (λ shards. BeginFor (pens_of f.stores) (Over name) shards lows notes) (sym is.shards) restart) is.seen

  node_may : (name : NodeName) (node : Node) (lows : List ℕ) (notes : List View) → IsNodeOf s (pens_of f.stores) name node
      → WhereTold tells (HasReached tables (region_of name) node)
      → BeginFor (pens_of f.stores) (Over name) (served_by s name) lows notes → MayEmpty (pens_of f.stores) (at_stores (Over name)) lows notes node
  node_may name node lows notes is has restart = record {
    each = (node_restart name node lows notes is restart).each;
    may = ((nodes_told tells s tables f.stores).told name node stores is, has);
  }

  pub cache_logs : (name : NodeName) (lows : List ℕ) (notes : List View) → IsCacheOf s name
      → BeginFor (pens_of f.stores) (Over name) (served_by s name) lows notes → CacheIs name (λ n. AreNotesOf n.served notes) f
  cache_logs (StoreName_ store) lows notes is restart = is
  cache_logs (Leader region index) lows notes is restart = λ place node first at.
      (node_restart (Leader region index) node lows notes (fleet.leaders place (Leader region index) node at) restart).logs
  cache_logs (Follower region tier index) lows notes is restart = λ place follower first at.
      (node_restart (Follower region tier index) follower.node lows notes (fleet.followers place (Follower region tier index) follower at).node restart).logs

  pub cache_may : (name : NodeName) (lows : List ℕ) (notes : List View) → IsCacheOf s name
      → BeginFor (pens_of f.stores) (Over name) (served_by s name) lows notes
      → CacheIs name (MayEmpty (pens_of f.stores) (at_stores (Over name)) lows notes) f
  cache_may (StoreName_ store) lows notes is restart = is
  cache_may (Leader region index) lows notes is restart = λ place node first at.
      node_may (Leader region index) node lows notes (fleet.leaders place (Leader region index) node at)
      (λ told. (reached told).leaders place (Leader region index) node at) restart
  cache_may (Follower region tier index) lows notes is restart = λ place follower first at.
      node_may (Follower region tier index) follower.node lows notes (fleet.followers place (Follower region tier index) follower at).node
      (λ told. (reached told).followers place (Follower region tier index) follower at) restart
