-- Nodes that catch up, step after step.
use Rattle.std.proofs.Common.{◌≡◌, ℕ, ◌+◌, Bool, true, List, [], IfSome, OnErr, OnOk, Result, Ok, Err, length, refl, ap, sym, ◌∙◌}
use Rattle.std.proofs.Common.{false, subst, arith}
use Rattle.cache_items.specs.Node.{Node}
use Rattle.follower_cache.specs.declared.queue.Refill.{Refill}
use Rattle.graph_model.specs.Told.{WhereTold}
use Rattle.low_water.specs.Marks.{marks}
use Rattle.node_name.specs.declared.NodeName.{NodeName}
use Rattle.node_stages.specs.Caches.{ChangesAlone}
use Rattle.node_stages.specs.Catching.{ProcessesRest}
use Rattle.node_stages.specs.Stages.{CacheDoes, NodeDoes}
use Rattle.served_shards.specs.Served.{IsLowWater, low_at, served_at}
use Rattle.shard_log.specs.View.{View}
use Rattle.shard_tables.specs.StoreView.{Store}
use Rattle.shard_tables.specs.Stores.{note_of}
use Rattle.tao_base.specs.declared.entry.Entry.{Entry}
use Rattle.tao_base.specs.declared.id.StoreName.{StoreName}
use Rattle.tao_keeper.specs.Table.{Stays, Table, Tables}
use Rattle.topology.specs.Config.{Settings}
use Rattle.core_model.proofs.Turns.{serves_its_turn}
use Rattle.core_model.specs.Consistent.{IsNodeOf}
use Rattle.core_model.specs.Fleet.{region_of, regions_of, serves_in_turn}
use Rattle.core_model.specs.Messages.{Processes}
use Rattle.core_model.specs.Pens.{Pens, pens_of}
use Rattle.core_model.specs.Stores.{AreStoresOf, IsConfiguredStore, region_store, store_length}
use Rattle.core_model.specs.declared.named.Named.{Named}
use Rattle.core_nodes.specs.Beginning.{AreLengths}
use Rattle.core_nodes.specs.Dues.{KeepsOthers, LogEnds, is_due}
use Rattle.core_nodes.specs.Settling.{AreCaches, CacheGoesOn, CachesGoOn, CatchesUp, GoesInTurn, HaveCaughtUp, IsAtFirstStores, IsRestOf, MayCatchUp}
use Rattle.core_nodes.specs.Settling.{NodeGoesOn, ReachesStore, SeenLogs, seen_logs}
use Rattle.core_nodes.proofs.AskLemmas.{stores_here}
use Rattle.core_nodes.proofs.CatchLemmas.{caught_processed, goes_before, goes_on, goes_same, may_before, so_before}
use Rattle.core_nodes.proofs.DueNodes.{end_not_due}
use Rattle.core_nodes.proofs.KnownStores.{rest_of}
use Rattle.core_nodes.proofs.StoreLemmas.{IsReadStore}

-- ---- step after step

-- a leader or a follower goes on, by tables that were the same before
pub cache_before : {N : Type 0} (node : N → Node) (refills : N → List Refill) (tells : Bool) (s : Settings) (before tables : Tables) (pens : Pens)
    (old new : Named N) → WhereTold tells (Stays before tables) → CacheGoesOn node refills (seen_logs tells s tables pens) old new
    → CacheGoesOn node refills (seen_logs tells s before pens) old new
cache_before node refills tells s before tables pens old new stays goes = record {
  name_is = goes.name_is;
  goes = goes_before tells s tables pens old.name before stays (node old.node) (node new.node) goes.goes;
  rest = goes.rest;
}

-- and goes on
pub cache_goes_on : {N : Type 0} (node : N → Node) (refills : N → List Refill) (tells : Bool) (s : Settings) (tables : Tables) (pens : Pens)
    (start now new : Named N) → CacheGoesOn node refills (seen_logs tells s tables pens) start now
    → CacheGoesOn node refills (seen_logs tells s tables pens) now new
    → CacheGoesOn node refills (seen_logs tells s tables pens) start new
cache_goes_on node refills tells s tables pens start now new first second = record {
  name_is = second.name_is ∙ first.name_is;
  goes = goes_on tells s tables pens start.name (node start.node) (node now.node) (node new.node) first.goes
      (subst (λ (n : NodeName). NodeGoesOn (seen_logs tells s tables pens) n (node now.node) (node new.node)) first.name_is second.goes);
  rest = second.rest ∙ first.rest;
}

-- or stays as it is
pub cache_same : {N : Type 0} (node : N → Node) (refills : N → List Refill) (tells : Bool) (s : Settings) (tables : Tables) (pens : Pens) (cache : Named N)
    → MayCatchUp (seen_logs tells s tables pens) cache.name (node cache.node) → CacheGoesOn node refills (seen_logs tells s tables pens) cache cache
cache_same node refills tells s tables pens cache may =
    record { name_is = refl; goes = goes_same tells s tables pens cache.name (node cache.node) may; rest = refl }

-- it processes the rest of the log of its region's store of a shard that it serves, or stays as it is
module _ {N : Type 0} (node : N → Node) (refills : N → List Refill) (tells : Bool) (s : Settings) (tables : Tables) (stores : List Store)
    (are : AreStoresOf tells s tables stores) (at : StoreName) (here : IsConfiguredStore s at) (cache : Named N)
    (of_region : region_of cache.name ≡ at.region) (may : MayCatchUp (seen_logs tells s tables (pens_of stores)) cache.name (node cache.node))
    (store : Store) (is : IsReadStore tells s tables stores at store) (serves : serves_in_turn (regions_of s) cache.name at.shard ≡ true) where
  abbrev There : SeenLogs
  There = seen_logs tells s tables (pens_of stores)

  pub record CaughtWith {T E : Type 0} (r : Result T E) (new : N) : Type 0 where
    pub goes : CacheGoesOn node refills There cache (record cache { node = new })
    pub others : KeepsOthers at.shard (node cache.node) (node new)
    pub reaches : WhereTold tells (OnOk r (ReachesStore tables at (node cache.node) (node new)))

  pub caught_with : {T E : Type 0} (r : Result T E) (new : N) → OnOk r (ProcessesRest node refills tells (tables store.name).log store cache.node new)
      → OnErr r (new ≡ cache.node) → CaughtWith r new
  caught_with (Ok done) new does err =
      let old : Node = node cache.node in
      let es : List Entry = does.entries in
      let note : View = note_of store in
      let P : ℕ → Type 0 = λ n. IsRestOf There at (low_at n old.served) es note × IfSome (served_at n old.served) (λ t. IsLowWater t.marks)
      × CacheDoes node (ChangesAlone node refills (Processes n es note)) cache.node new in
      let read = rest_of tells s tables stores at store (low_at store.name.shard old.served) es note is does.entries_are refl in
      let there : P at.shard = subst P (ap (λ (n : StoreName). n.shard) is.found.name_is) (read, does.marked, does.does) in
      let processed : NodeDoes (Processes at.shard es note old (node new)) old (node new) =
      record { does = there.2.does.by; apart = there.2.apart; asks = there.2.asks; truth = there.2.truth } in
      let caught = caught_processed tells s tables stores cache.name are at here of_region old may serves es note there.0 (node new) there.1 processed in
      record { goes = record { name_is = refl; goes = caught.goes; rest = there.2.does.rest }; others = caught.others; reaches = caught.reaches }
  caught_with (Err stop) new does err = record {
    goes = subst (λ x. CacheGoesOn node refills There cache (record cache { node = x })) (sym err)
        (cache_same node refills tells s tables (pens_of stores) cache may);
    others = record { others = λ k apart. ap (λ (x : N). served_at k (node x).served) err };
    reaches = λ told. tt;
  }

-- with one more shard it is at the end of one more store
pub ends_next : (tells : Bool) (before now : Tables) (region shard : ℕ) (at : StoreName) (from to : Node) → WhereTold tells (Stays before now)
    → at ≡ region_store region shard → WhereTold tells (IsAtFirstStores before region shard from) → WhereTold tells (ReachesStore now at from to)
    → WhereTold tells (IsAtFirstStores before region (shard + 1) to)
ends_next tells before now region shard at from to stays named ends reaches told =
    (subst (λ n. ReachesStore before n from to) named (so_before (λ t. ReachesStore t at from to) before now (stays told) (reaches told))).next (ends told)

-- the lengths stay with the tables
pub lengths_stay : (tells : Bool) (s : Settings) (before now : Tables) (lengths : List ℕ) → WhereTold tells (Stays before now)
    → AreLengths tells s before lengths → AreLengths tells s now lengths
lengths_stay tells s before now lengths stays are = record {
  long = are.long;
  each = λ at here told. are.each at here told ∙ ap (λ (t : Table). length t.log) (sym (stays told at));
}

-- ---- at a later moment, at which stores and tables are as they were

module _ (tells : Bool) (s : Settings) (before now : Tables) (xs ys : List Store) (same : ys ≡ xs) (stays : WhereTold tells (Stays before now)) where
  abbrev Start : SeenLogs
  Start = seen_logs tells s before (pens_of xs)

  abbrev Now : SeenLogs
  Now = seen_logs tells s now (pens_of ys)

  back : WhereTold tells (Stays now before)
  back told at = sym (stays told at)

  pub stores_now : AreStoresOf tells s before xs → AreStoresOf tells s now ys
  stores_now are = subst (AreStoresOf tells s now) (sym same) (stores_here tells s before now xs are stays)

  pub lengths_now : (lengths : List ℕ) → AreLengths tells s before lengths → AreLengths tells s now lengths
  lengths_now lengths are = lengths_stay tells s before now lengths stays are

  pub may_now : (name : NodeName) (node : Node) → MayCatchUp Start name node → MayCatchUp Now name node
  may_now name node may =
      subst (λ (zs : List Store). MayCatchUp (seen_logs tells s now (pens_of zs)) name node) (sym same)
      (may_before tells s before (pens_of xs) name now back node may)

  pub catches_then : (region : ℕ) (from to : Node) → WhereTold tells (CatchesUp s now region from to) → WhereTold tells (CatchesUp s before region from to)
  catches_then region from to catches told = so_before (λ t. CatchesUp s t region from to) before now (stays told) (catches told)

  module _ {N : Type 0} (node : N → Node) (refills : N → List Refill) where
    pub cache_then : (from to : Named N) → CacheGoesOn node refills Now from to → CacheGoesOn node refills Start from to
    cache_then from to goes =
        cache_before node refills tells s before now (pens_of xs) from to stays
        (subst (λ (zs : List Store). CacheGoesOn node refills (seen_logs tells s now (pens_of zs)) from to) same goes)

    pub turn_then : (turn : Bool) (from to : Named N) → GoesInTurn node refills Now turn from to → GoesInTurn node refills Start turn from to
    turn_then turn from to goes = record { goes = cache_then from to goes.goes; same = goes.same }

    pub caches_now : (caches : List (Named N)) → AreCaches node Start caches → AreCaches node Now caches
    caches_now caches are place cache at = may_now cache.name (node cache.node) (are place cache at)

    pub on_then : (turn : NodeName → Bool) (from to : List (Named N)) → CachesGoOn node refills Now turn from to → CachesGoOn node refills Start turn from to
    on_then turn from to on = record {
      names = on.names;
      each = λ place last at.
          let was = on.each place last at in
          (was.0, was.1, turn_then (turn was.0.name) was.0 last was.2);
    }

    pub caught_then : (turn : NodeName → Bool) (from to : List (Named N)) → WhereTold tells (HaveCaughtUp node s now turn from to)
        → WhereTold tells (HaveCaughtUp node s before turn from to)
    caught_then turn from to caught told = so_before (λ t. HaveCaughtUp node s t turn from to) before now (stays told) (caught told)

-- once it has come to the end of a store nothing of its shard is due any more
pub ends_there : {N T E : Type 0} (node : N → Node) (refills : N → List Refill) (tables : Tables) (pens : Pens) (ends : LogEnds)
    (at : StoreName) (old new : Named N) (r : Result T E) → ends.tells ≡ true → AreLengths ends.tells ends.settings tables ends.lengths
    → IsConfiguredStore ends.settings at → region_of old.name ≡ at.region
    → CacheGoesOn node refills (seen_logs ends.tells ends.settings tables pens) old new
    → OnOk r (ReachesStore tables at (node old.node) (node new.node)) → OnOk r (is_due ends new.name (node new.node) at.shard ≡ false)
ends_there node refills tables pens ends at old new (Ok done) told are here of_region goes reaches =
    let name_is : new.name ≡ old.name = goes.name_is in
    let region : at.region ≡ region_of new.name = sym of_region ∙ ap region_of (sym name_is) in
    let in_regions = here.region in
    let is : IsNodeOf ends.settings pens new.name (node new.node) =
    subst (λ (n : NodeName). IsNodeOf ends.settings pens n (node new.node)) (sym name_is) goes.goes.may.node in
    end_not_due ends tables new.name (node new.node) at.shard are told (omega (arith, in_regions, region)) here.shard
    (λ t found. reaches.there t found ∙ ap (λ k. marks (store_length tables k at.shard) []) region)
    ((serves_its_turn ends.settings pens new.name (node new.node) at.shard).serves is here.shard)
ends_there node refills tables pens ends at old new (Err stop) told are here of_region goes reaches = tt
