-- What is left where a node comes up.
use Rattle.std.proofs.Common.{◌≡◌, ℕ, Bool, List, ap, sym, subst}
use Rattle.graph_model.specs.Told.{WhereTold}
use Rattle.node_name.specs.declared.NodeName.{NodeName}
use Rattle.node_name.specs.declared.NodeName.TheVariants.{Store as StoreName_, Follower, Leader}
use Rattle.served_shards.specs.Begun.{AreNotesOf, AreReached}
use Rattle.shard_log.specs.View.{View}
use Rattle.tao_keeper.specs.Table.{Stays, Tables}
use Rattle.topology.specs.Config.{Settings}
use Rattle.core_model.specs.Consistent.{GoesOn, HaveReached, IsConsistent}
use Rattle.core_model.specs.Emptied.{Anew, EmptiesCache, RegionTables, at_stores, region_tables}
use Rattle.core_model.specs.Evictions.{IsCacheOf}
use Rattle.core_model.specs.Fleet.{Fleet, region_of, served_by}
use Rattle.core_model.specs.Pens.{Pens, pens_of}
use Rattle.core_model.specs.Stores.{AreStoresOf}
use Rattle.core_nodes.specs.Emptying.{BeginFor, CacheIs, EmptiesThere, MayEmpty}
use Rattle.core_nodes.proofs.AskLemmas.{stores_here}
use Rattle.core_nodes.proofs.FleetLemmas.{reach_stays}
use Rattle.core_nodes.proofs.RestartLemmas.{cache_logs, cache_may, restart_reached}

-- no store changes
pub empties_stores : (name : NodeName) (pens : Pens) (at : Anew) (old new : Fleet) → EmptiesCache name pens at old new → new.stores ≡ old.stores
empties_stores (StoreName_ store) pens at old new does = absurd does
empties_stores (Leader region index) pens at old new does = ap (λ (f : Fleet). f.stores) does.1
empties_stores (Follower region tier index) pens at old new does = ap (λ (f : Fleet). f.stores) does.1

pub record CameUp (tells : Bool) (s : Settings) (before after : Tables) (name : NodeName) (old new : Fleet) : Type 0 where
  pub begins : EmptiesCache name (pens_of old.stores) (at_stores (region_tables tells before (region_of name))) old new
  pub consistent : IsConsistent tells s after new
  pub goes : GoesOn old new

-- the nodes before, as they are once it is known what the node begins with
module _ (tells : Bool) (s : Settings) (before after : Tables) (name : NodeName) (old mid : Fleet) (same : mid ≡ old) (is : IsConsistent tells s before old)
    (cache : IsCacheOf s name) (lows : List ℕ) (notes : List View) where
  abbrev Over_ : RegionTables
  Over_ = region_tables tells before (region_of name)

  module _ (restart : BeginFor (pens_of old.stores) Over_ (served_by s name) lows notes) where
    pub up_logs : CacheIs name (λ n. AreNotesOf n.served notes) mid
    up_logs = subst (CacheIs name (λ n. AreNotesOf n.served notes)) (sym same)
        (cache_logs tells s before old is.stores is.fleet is.reached name lows notes cache restart)

    pub up_reached : (given : List ℕ) → given ≡ lows → AreReached given notes
    up_reached given same_lows =
        subst (λ ls. AreReached ls notes) (sym same_lows) (restart_reached (pens_of old.stores) Over_ (served_by s name) lows notes restart)

    pub comes_up : (given : List ℕ) (new : Fleet) → given ≡ lows → WhereTold tells (Stays before after)
        → ((at : Anew) → CacheIs name (MayEmpty (pens_of mid.stores) at given notes) mid → EmptiesThere s name at mid new)
        → CameUp tells s before after name old new
    comes_up given new same_lows stays gives =
        let at : Anew = at_stores Over_ in
        let P : Fleet → Type 0 = λ m. CacheIs name (MayEmpty (pens_of m.stores) at given notes) m → EmptiesThere s name at m new in
        let there : P old = subst P same (gives at) in
        let may : CacheIs name (MayEmpty (pens_of old.stores) at given notes) old =
        subst (λ ls. CacheIs name (MayEmpty (pens_of old.stores) at ls notes) old) (sym same_lows)
        (cache_may tells s before old is.stores is.fleet is.reached name lows notes cache restart) in
        let done = there may in
        let stores_are = empties_stores name (pens_of old.stores) at old new done.empties in
        let reached : WhereTold tells (HaveReached before new) =
        λ told. done.reached before (ap (λ b. region_tables b before (region_of name)) told) (is.reached told) in
        record {
          begins = done.empties;
          consistent = record {
            stores = subst (AreStoresOf tells s after) (sym stores_are) (stores_here tells s before after old.stores is.stores stays);
            fleet = done.fleet;
            reached = reach_stays tells before after new stays reached;
          };
          goes = done.goes;
        }
