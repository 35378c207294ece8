-- A node that is reset, and nodes that are, one after another.
use Rattle.std.proofs.Common.{◌≡◌, ◌<◌, ◌++◌, ◌+◌, ℕ, Bool, List, [], ◌∷◌, length, take, drop, ap, sym, subst, refl, ◌∙◌}
use Rattle.std.specs.Prelude.{All, Some, slice_index_or}
use Rattle.std.proofs.Math.Seq.{drop-append_seam, drop-length}
use Rattle.std.proofs.lemmas.List.{append-nil, append_assoc, map-append, take_more}
use Rattle.std.proofs.lemmas.List.Elements.{All-append, All-cons, All-get_or, All-nil, All-pop}
use Rattle.graph_model.specs.Told.{WhereTold}
use Rattle.core_mail.proofs.Arrivals.{arrived_stay}
use Rattle.core_mail.specs.Inboxes.{AreInboxesOf, Inboxes, LosesAll}
use Rattle.core_model.specs.Consistent.{GoesOn}
use Rattle.core_model.specs.Emptied.{Anew, EmptiesCache, RegionTables, at_stores, region_tables}
use Rattle.core_model.specs.Evictions.{IsCacheOf}
use Rattle.core_model.specs.Fleet.{ChangesNode, Fleet, region_of, served_by}
use Rattle.core_model.specs.Pens.{Pens, pens_of}
use Rattle.core_model.specs.Stores.{AreStoresOf, region_store, store_length}
use Rattle.core_steps.proofs.core_nodes_lemmas.RestartLemmas.{cache_logs, cache_may, restart_reached}
use Rattle.core_steps.proofs.core_nodes_lemmas.UpLemmas.{empties_stores}
use Rattle.core_steps.proofs.core_nodes_lemmas.FleetLemmas.{goes_self}
use Rattle.core_steps.specs.core_nodes.Emptying.{BeginFor, CacheIs, EmptiesThere, IsRestart, MayEmpty}
use Rattle.core_steps.proofs.ReadLemmas.{goes_trans}
use Rattle.core_steps.specs.World.{World}
use Rattle.core_steps.specs.declared.nodes.Nodes.{Nodes}
use Rattle.node_name.specs.declared.NodeName.{NodeName}
use Rattle.served_shards.specs.Begun.{AreNotesOf, AreReached}
use Rattle.shard_log.specs.View.{View}
use Rattle.shard_tables.specs.StoreView.{Store}
use Rattle.tao_keeper.specs.Table.{Stays, Table, Tables}
use Rattle.topology.specs.Config.{Settings}
use Rattle.core_steps.specs.node_stages.declared.standing.Stand.{Stand}
use Rattle.core_trims.specs.Trims.{AreOfRegion, ArePrepared, AreSteady, IsPrepared, ResetEach, ResetsNode, ResetsOn, names_of}
use Rattle.core_trims.specs.declared.trims.Reset.{Reset}

-- what a reset leaves of the nodes and of their messages
pub record ResetWell (tells : Bool) (s : Settings) (tables : Tables) (over : RegionTables) (name : NodeName) (old new : Fleet) (later : Inboxes) : Type 0 where
  pub empties : EmptiesCache name (pens_of old.stores) (at_stores over) old new
  pub order : AreSteady tells s tables new later
  pub goes : GoesOn old new
  pub stores : new.stores ≡ old.stores

module _ (tells : Bool) (s : Settings) (tables : Tables) (old : Fleet) (mail : Inboxes) (is : AreSteady tells s tables old mail) (region : ℕ) (reset : Reset)
    (prepared : IsPrepared s (pens_of old.stores) (region_tables tells tables region) reset) where
  abbrev Name : NodeName
  Name = reset.node

  abbrev Lows : List ℕ
  Lows = reset.stand.lows.items

  abbrev Notes : List View
  Notes = reset.stand.notes.items

  restart_there : BeginFor (pens_of old.stores) (region_tables tells tables (region_of Name)) (served_by s Name) Lows Notes
  restart_there =
      subst (λ k. BeginFor (pens_of old.stores) (region_tables tells tables k) (served_by s Name) Lows Notes) (sym prepared.region_is) prepared.restart

  pub reset_logs : CacheIs Name (λ n. AreNotesOf n.served Notes) old
  reset_logs = cache_logs tells s tables old is.consistent.stores is.consistent.fleet is.consistent.reached Name Lows Notes prepared.cache restart_there

  pub reset_reached : AreReached Lows Notes
  reset_reached = restart_reached (pens_of old.stores) (region_tables tells tables region) (served_by s Name) Lows Notes prepared.restart

  pub resets_well : (given : List ℕ) (new : Fleet) (later : Inboxes) → given ≡ Lows
      → ((at : Anew) → CacheIs Name (MayEmpty (pens_of old.stores) at given Notes) old → EmptiesThere s Name at old new)
      → ChangesNode Name LosesAll mail later → AreInboxesOf s (pens_of old.stores) later
      → ResetWell tells s tables (region_tables tells tables region) Name old new later
  resets_well given new later same_lows gives loses inboxes =
      let at : Anew = at_stores (region_tables tells tables (region_of Name)) in
      let may : CacheIs Name (MayEmpty (pens_of old.stores) at given Notes) old =
      subst (λ ls. CacheIs Name (MayEmpty (pens_of old.stores) at ls Notes) old) (sym same_lows)
      (cache_may tells s tables old is.consistent.stores is.consistent.fleet is.consistent.reached Name Lows Notes prepared.cache restart_there) in
      let done = gives at may in
      let stores_are = empties_stores Name (pens_of old.stores) at old new done.empties in
      record {
        empties = subst (λ k. EmptiesCache Name (pens_of old.stores) (at_stores (region_tables tells tables k)) old new) prepared.region_is done.empties;
        order = record {
          consistent = record {
            stores = subst (AreStoresOf tells s tables) (sym stores_are) is.consistent.stores;
            fleet = done.fleet;
            reached = λ told. done.reached tables (ap (λ b. region_tables b tables (region_of Name)) told) (is.consistent.reached told);
          };
          inboxes = subst (λ xs. AreInboxesOf s (pens_of xs) later) (sym stores_are) inboxes;
          arrived = λ told. (arrived_stay tables).loses Name mail later loses (is.arrived told);
        };
        goes = done.goes;
        stores = stores_are;
      }

-- ---- one after another

-- the last of those that are left comes before those that were reset
module _ {X : Type 0} (all left rest : List X) (last : X) (taken : left ≡ rest ++ last ∷ []) (parts : left ++ drop (length left) all ≡ all) where
  done_is : all ≡ rest ++ (last ∷ drop (length left) all)
  done_is =
      sym parts ∙ ap (λ xs. xs ++ drop (length left) all) taken ∙ append_assoc rest (last ∷ []) (drop (length left) all)

  pub more_done : drop (length rest) all ≡ last ∷ drop (length left) all
  more_done = ap (drop (length rest)) done_is ∙ drop-append_seam rest (last ∷ drop (length left) all)

  pub parts_still : rest ++ drop (length rest) all ≡ all
  parts_still = ap (λ xs. rest ++ xs) more_done ∙ sym done_is

-- none was reset so far
pub none_done : {X : Type 0} (all : List X) → all ++ drop (length all) all ≡ all
none_done all = ap (λ xs. all ++ xs) (drop-length all) ∙ append-nil all

-- nothing was done
pub resets_on_self : (tells : Bool) (s : Settings) (tables : Tables) (now : Nodes) → AreSteady tells s tables now.fleet now.mail
    → ResetsOn tells s tables now now
resets_on_self tells s tables now steady = record { order = steady; goes = goes_self now.fleet; stores = refl }

-- one more
pub resets_on : (tells : Bool) (s : Settings) (tables : Tables) (old mid new : Nodes) → ResetsOn tells s tables old mid → ResetsOn tells s tables mid new
    → ResetsOn tells s tables old new
resets_on tells s tables old mid new one two =
    record { order = two.order; goes = goes_trans old.fleet mid.fleet new.fleet one.goes two.goes; stores = two.stores ∙ one.stores }

pub nodes_in_turn : (old mid new : Nodes) → mid ≡ record old { fleet = mid.fleet; mail = mid.mail } → new ≡ record mid { fleet = new.fleet; mail = new.mail }
    → new ≡ record old { fleet = new.fleet; mail = new.mail }
nodes_in_turn old mid new one two = two ∙ ap (λ (n : Nodes). record n { fleet = new.fleet; mail = new.mail }) one

module _ (over : RegionTables) (all left rest : List Reset) (last : Reset) (taken : left ≡ rest ++ last ∷ []) (parts : left ++ drop (length left) all ≡ all)
    (start now next : World) where
  pub one_more : ResetEach over (names_of (drop (length left) all)) start now → ResetsNode over last.node now next
      → ResetEach over (names_of (drop (length rest) all)) start next
  one_more each one =
      subst (λ xs. ResetEach over (names_of xs) start next) (sym (more_done all left rest last taken parts)) (now, each, one)

-- the last one and the others
pub one_less : {X : Type 0} (P : X → Type 0) (left rest : List X) (last : X) → left ≡ rest ++ last ∷ [] → All P left → All P rest × P last
one_less P left rest last taken are = All-pop P left rest (Some last) taken are

pub rest_prepared : (s : Settings) (over : RegionTables) (before after : List Store) (left rest : List Reset) (last : Reset) → left ≡ rest ++ last ∷ []
    → after ≡ before → ArePrepared s (pens_of before) over left → ArePrepared s (pens_of after) over rest
rest_prepared s over before after left rest last taken same are =
    subst (λ xs. ArePrepared s (pens_of xs) over rest) (sym same) (one_less (IsPrepared s (pens_of before) over) left rest last taken are).0

-- none is left
pub all_reset : (over : RegionTables) (all left : List Reset) (start now : World) → length left ≡ 0
    → ResetEach over (names_of (drop (length left) all)) start now → ResetEach over (names_of all) start now
all_reset over all left start now none each = subst (λ n. ResetEach over (names_of (drop n all)) start now) none each

-- ---- what is prepared

module _ (s : Settings) (pens : Pens) (over : RegionTables) (names : List NodeName) (i : ℕ) (d : NodeName) (resets more : List Reset) (stand : Stand) where
  abbrev One : Reset
  One = record { node = slice_index_or names i d; stand = stand }

  pub prepare_names : names_of resets ≡ take i names → i < length names → more ≡ resets ++ One ∷ [] → names_of more ≡ take (i + 1) names
  prepare_names are lt longer =
      ap names_of longer ∙ map-append (λ (r : Reset). r.node) resets (One ∷ []) ∙ ap (λ ns. ns ++ slice_index_or names i d ∷ []) are
      ∙ sym (take_more names i d lt)

  pub prepare_more : ArePrepared s pens over resets → AreOfRegion s over.region names → i < length names
      → IsRestart s pens (record over { region = region_of (slice_index_or names i d) }) (slice_index_or names i d) stand
      → more ≡ resets ++ One ∷ [] → ArePrepared s pens over more
  prepare_more are of lt restart longer =
      let one = All-get_or (λ name. IsCacheOf s name × (region_of name ≡ over.region)) names i d lt of in
      subst (ArePrepared s pens over) (sym longer)
      (All-append (IsPrepared s pens over) resets (One ∷ []) are
      (All-cons (IsPrepared s pens over) One [] (record {
        cache = one.0;
        region_is = one.1;
        restart = subst (λ k. IsRestart s pens (record over { region = k }) (slice_index_or names i d) stand) one.1 restart;
      }) (All-nil (IsPrepared s pens over))))

-- they begin at the region's stores as these are, where no length of these differs from when they were read
module _ (pens : Pens) (tells : Bool) (from to : Tables) (region : ℕ)
    (same : WhereTold tells ((shard : ℕ) → store_length to region shard ≡ store_length from region shard)) where
  pub restart_moved : (shards lows : List ℕ) (notes : List View) → BeginFor pens (region_tables tells from region) shards lows notes
      → BeginFor pens (region_tables tells to region) shards lows notes
  restart_moved [] [] [] are = tt
  restart_moved [] [] (n ∷ ns) are = absurd are
  restart_moved [] (l ∷ ls) ns are = absurd are
  restart_moved (k ∷ ks) [] ns are = absurd are
  restart_moved (k ∷ ks) (l ∷ ls) [] are = absurd are
  restart_moved (k ∷ ks) (l ∷ ls) (n ∷ ns) are = (
    record { seen = are.0.seen; low_is = λ told. are.0.low_is told ∙ sym (same told k); reached = are.0.reached },
    restart_moved ks ls ns are.1,
  )

  pub prepared_moved : (s : Settings) (resets : List Reset) → ArePrepared s pens (region_tables tells from region) resets
      → ArePrepared s pens (region_tables tells to region) resets
  prepared_moved s resets are = λ k d lt. (
      let one = are k d lt in
      let reset = slice_index_or resets k d in
      record {
        cache = one.cache;
        region_is = one.region_is;
        restart = restart_moved (served_by s reset.node) reset.stand.lows.items reset.stand.notes.items one.restart;
      })

-- so it is what was read before the nodes as they were, over tables that have stayed
pub restart_back : (tells : Bool) (s : Settings) (before now : Tables) (old mid : Nodes) (name : NodeName) (stand : Stand) → mid ≡ old
    → WhereTold tells (Stays before now)
    → IsRestart s (pens_of mid.fleet.stores) (region_tables tells now (region_of name)) name stand
    → IsRestart s (pens_of old.fleet.stores) (region_tables tells before (region_of name)) name stand
restart_back tells s before now old mid name stand same stays restart =
    restart_moved (pens_of old.fleet.stores) tells now before (region_of name)
    (λ told shard. ap (λ (t : Table). length t.log) (sym (stays told (region_store (region_of name) shard)))) (served_by s name) stand.lows.items
    stand.notes.items
    (subst (λ (n : Nodes). IsRestart s (pens_of n.fleet.stores) (region_tables tells now (region_of name)) name stand) same restart)
