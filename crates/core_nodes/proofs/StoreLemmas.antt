-- The stores of a configuration, while one of them is read or changes.
use Rattle.std.proofs.Common.{◌≡◌, ◌≢◌, ℕ, ◌<◌, Bool, true, false, List, length, Option, Some, None, ap, sym, ◌∙◌, subst, arith}
use Rattle.std.proofs.Common.{OnErr, Result, Ok, Err}
use Rattle.std.specs.Bool.{OnTrue}
use Rattle.std.specs.Prelude.{if◌then◌else◌, is_err, is_ok, slice_get, slice_index_or, slice_set}
use Rattle.cache_items.specs.Node.{Node}
use Rattle.node_name.specs.declared.NodeName.{NodeName}
use Rattle.served_shards.specs.Served.{log_at}
use Rattle.shard_tables.specs.declared.refusal.StoreRefusal.{StoreRefusal}
use Rattle.shard_tables.specs.declared.writes.Wrote.{Wrote}
use Rattle.core_model.specs.Fleet.{IsFirstAt}
use Rattle.core_model.specs.declared.named.Named.{Named}
use Rattle.core_nodes.proofs.NodesOfNames.{holds_at}
use Rattle.core_nodes.specs.Stages.{NodeIs}
use Rattle.std.proofs.lemmas.Option.{slice_get-get_or, slice_get_within}
use Rattle.tao_base.specs.declared.entry.Entry.{Entry}
use Rattle.tao_base.specs.declared.id.StoreName.{StoreName}
use Rattle.graph_model.specs.Soundness.{IsSoundOf}
use Rattle.graph_model.specs.Told.{WhereTold}
use Rattle.shard_log.proofs.GrowthLemmas.{grows-self}
use Rattle.shard_log.specs.View.{Grows}
use Rattle.shard_tables.specs.StoreView.{Store}
use Rattle.shard_tables.specs.Stores.{HasSeen, IsStoreOf, store_with}
use Rattle.shard_tables.specs.Written.{TableGains, added_entry}
use Rattle.shard_tables.specs.declared.store.StoreRole.TheVariants.{Master}
use Rattle.tao_keeper.specs.Table.{Stays, Table, Tables}
use Rattle.tao_keeper.specs.declared.jobs.Job.{Job}
use Rattle.tao_schema.specs.Schema.{types_of}
use Rattle.tao_schema.specs.declared.schema.Schema.{Schema}
use Rattle.topology.specs.Config.{Settings}
use Rattle.core_model.proofs.FoundStores.{by_place, master_found, named_stands, stores_go_on}
use Rattle.core_model.proofs.KeptStores.{sound_logs}
use Rattle.core_model.proofs.Places.{one_some, set_same}
use Rattle.core_model.specs.Pens.{IsSeen, master_in, pens_of, store_in}
use Rattle.core_model.specs.StoreLaws.{IsFoundAt, StoreGoesOn}
use Rattle.core_model.specs.Stores.{AreInOrder, AreStoresOf, HaveSeen, IsConfiguredStore, IsStoreAt, master_of, master_store, region_store}
use Rattle.core_model.specs.Stores.{store_count, store_place}

-- ---- a store that is read

-- a store whose table stays
pub seen_here : (tells : Bool) (old new : Tables) (x : Store) → IsStoreOf tells old x → WhereTold tells (new x.name ≡ old x.name) → IsStoreOf tells new x
seen_here tells old new x is stays = record {
  told_is = is.told_is;
  seen = λ told. subst (λ (t : Table). HasSeen x.role t.log x.view.entries) (sym (stays told)) (is.seen told);
}

-- no table changes
pub seen_stay : (tells : Bool) (old new : Tables) (xs : List Store) → HaveSeen tells old xs → WhereTold tells (Stays old new) → HaveSeen tells new xs
seen_stay tells old new xs seen stays n x h = seen_here tells old new x (seen n x h) (λ told. stays told x.name)

-- the store that code reads at the place of a name
pub record IsReadStore (tells : Bool) (s : Settings) (tables : Tables) (xs : List Store) (at : StoreName) (store : Store) : Type 0 where
  pub found : IsFoundAt s xs at store
  pub is : IsStoreAt s (store_place s at) store
  pub keeper : IsStoreOf tells tables store
  pub follow : IsSeen (pens_of xs) at.shard store.view

module _ (tells : Bool) (s : Settings) (tables : Tables) (xs : List Store) (are : AreStoresOf tells s tables xs) where
  pub read_store : (at : StoreName) (place : ℕ) (d : Store) → IsConfiguredStore s at → place ≡ store_place s at
      → IsReadStore tells s tables xs at (slice_index_or xs place d)
  read_store at place d here same =
      let there = named_stands s xs are.configured at here in
      let within = slice_get_within xs (store_place s at) there.0 there.1.stands in
      let read : slice_get xs (store_place s at) ≡ Some (slice_index_or xs place d) =
      subst (λ k. slice_get xs (store_place s at) ≡ Some (slice_index_or xs k d)) (sym same) (slice_get-get_or xs (store_place s at) d within) in
      let one : there.0 ≡ slice_index_or xs place d = one_some there.0 (slice_index_or xs place d) (sym there.1.stands ∙ read) in
      let found : IsFoundAt s xs at (slice_index_or xs place d) = subst (IsFoundAt s xs at) one there.1 in
      record {
        found = found;
        is = are.configured.each (store_place s at) (slice_index_or xs place d) read;
        keeper = are.seen (store_place s at) (slice_index_or xs place d) read;
        follow = subst (λ (n : StoreName). IsSeen (pens_of xs) n.shard (slice_index_or xs place d).view) found.name_is
            (are.follow (store_place s at) (slice_index_or xs place d) read);
      }

  -- there is one there
  pub read_within : (at : StoreName) (place : ℕ) → IsConfiguredStore s at → place ≡ store_place s at → place < length xs
  read_within at place here same =
      let there = named_stands s xs are.configured at here in
      let within = slice_get_within xs (store_place s at) there.0 there.1.stands in
      omega (arith, same, within)

  -- it is put back as it was
  pub put_back : (at : StoreName) (place : ℕ) (d y : Store) → IsConfiguredStore s at → place ≡ store_place s at → y ≡ slice_index_or xs place d
      → slice_set xs place y ≡ xs
  put_back at place d y here same rests =
      ap (slice_set xs place) rests ∙ set_same xs place (slice_index_or xs place d) (slice_get-get_or xs place d (read_within at place here same))

  pub read_stands : (at : StoreName) (place : ℕ) (d : Store) → IsConfiguredStore s at → place ≡ store_place s at
      → slice_get xs place ≡ Some (slice_index_or xs place d)
  read_stands at place d here same = slice_get-get_or xs place d (read_within at place here same)

  -- so where nothing was added
  pub err_back : (at : StoreName) (place : ℕ) (d y : Store) → IsConfiguredStore s at → place ≡ store_place s at → (r : Result Wrote StoreRefusal)
      → y ≡ store_with (slice_index_or xs place d) (added_entry r) → OnErr r (slice_set xs place y ≡ xs)
  err_back at place d y here same (Ok wrote) is = tt
  err_back at place d y here same (Err e) is = put_back at place d y here same is

  -- the master's store of a shard
  pub is_master : (shard : ℕ) (store : Store) → IsFoundAt s xs (master_store s shard) store → store.role ≡ Master
  is_master shard store found = (master_found s xs are.configured shard store found).0

  pub is_pen : (shard : ℕ) (store : Store) → IsFoundAt s xs (master_store s shard) store → master_in xs shard ≡ Some store
  is_pen shard store found = (master_found s xs are.configured shard store found).1

  -- its log is sound
  pub sound_at : (schema : Schema) (shard : ℕ) (x : Store) → schema ≡ s.schema → x.name ≡ master_store s shard → shard < s.shards
      → WhereTold tells (IsSoundOf (types_of schema) x.name.shard (tables x.name).log)
  sound_at schema shard x of_s named lt = λ told.
      let one = subst (λ at. IsSoundOf (types_of s.schema) at.shard (tables at).log) (sym named) (sound_logs s tables (are.kept told) shard lt) in
      subst (λ c. IsSoundOf (types_of c) x.name.shard (tables x.name).log) (sym of_s) one

-- the place of a region's store, as code comes to it
pub place_of : (s : Settings) (region shard coded place : ℕ) (at : StoreName) → place ≡ store_place s at → at ≡ region_store region coded
    → coded ≡ shard → place ≡ store_place s (region_store region shard)
place_of s region shard coded place at is named same = is ∙ ap (store_place s) (named ∙ ap (region_store region) same)

-- so of a master's, once its region was read
pub master_place : (s : Settings) (shard coded region place : ℕ) (at : StoreName) → place ≡ store_place s at → at ≡ region_store region coded
    → region ≡ master_of s coded → coded ≡ shard → place ≡ store_place s (master_store s shard)
master_place s shard coded region place at is named of_region same =
    is ∙ ap (store_place s) (named ∙ ap (λ r. region_store r coded) of_region ∙ ap (master_store s) same)

-- ---- a store that changes

-- only this table changes
abbrev pub OthersStay : Tables → Tables → StoreName → Type 0
OthersStay old new at = (other : StoreName) → other ≢ at → new other ≡ old other

-- so where it gains an entry, or none
pub others_stay : (old new : Tables) (at : StoreName) (e : Option Entry) (job : Option Job) → TableGains old new at e job → OthersStay old new at
others_stay old new at None job gains other differ = gains other
others_stay old new at (Some entry) job gains other differ = gains.others other differ

-- a store that gains an entry, or none, goes on
pub goes_with : (x y : Store) (e : Option Entry) → y ≡ store_with x e → Grows x.view y.view → StoreGoesOn x y
goes_with x y e is grows = record {
  name_is = ap (λ (z : Store). z.name) is;
  limit_is = ap (λ (z : Store). z.log_max) is;
  epoch_is = ap (λ (z : Store). z.epoch) is;
  role_is = ap (λ (z : Store). z.role) is;
  grows = grows;
}

module _ (tells : Bool) (s : Settings) (old new : Tables) (xs : List Store) (place : ℕ) (x y : Store) (are : AreStoresOf tells s old xs)
    (stands : slice_get xs place ≡ Some x) (goes : StoreGoesOn x y) where
  -- the stores after a call of one of them, which may have changed its table and left them in order
  pub stores_changed : IsStoreOf tells new y → WhereTold tells (OthersStay old new x.name) → WhereTold tells (AreInOrder s new)
      → IsSeen (pens_of (slice_set xs place y)) y.name.shard y.view → AreStoresOf tells s new (slice_set xs place y)
  stores_changed keeper others order follow =
      let on = stores_go_on xs place x y stands goes in record {
        configured = on.are s (store_count s) are.configured;
        kept = λ told. (order told).kept;
        cuts = λ told. (order told).cuts;
        seen = on.seen tells old new
            (λ told other store at differ. others told store.name
            (λ same. differ (by_place s (store_count s) xs other place store x are.configured at stands same)))
            keeper are.seen;
        follow = on.follow are.follow follow;
      }

  -- a master's pen is then what its store has seen
  pub pen_after : (shard : ℕ) → x.name ≡ master_store s shard → IsConfiguredStore s (master_store s shard)
      → pens_of (slice_set xs place y) shard ≡ y.view
  pen_after shard named here =
      (stores_go_on xs place x y stands goes).pen s shard are.configured
      ((are.configured.each place x stands).place_is ∙ ap (store_place s) named) here

  pub master_follows : (shard : ℕ) → x.name ≡ master_store s shard → IsConfiguredStore s (master_store s shard)
      → IsSeen (pens_of (slice_set xs place y)) y.name.shard y.view
  master_follows shard named here =
      let shard_is : y.name.shard ≡ shard = ap (λ (n : StoreName). n.shard) (goes.name_is ∙ named) in
      subst (λ k. IsSeen (pens_of (slice_set xs place y)) k y.view) (sym shard_is)
      (subst (λ v. Grows y.view v) (sym (pen_after shard named here)) (grows-self y.view))

-- ---- a leader that is preferred

-- it has the log of the store that was found
pub found_log : (preferred : Bool) (xs : List Store) (at : StoreName) (store : Store) (shard : ℕ) (leaders : List (Named Node)) (name : NodeName)
    (place : ℕ) (d : Named Node) → IsFirstAt name leaders place → store_in xs at ≡ Some store → shard ≡ store.name.shard
    → OnTrue preferred (NodeIs name (λ (node : Node). (x : Store) → store_in xs at ≡ Some x → log_at shard node.served ≡ Some x.view.log) leaders)
    → OnTrue preferred (log_at store.name.shard (slice_index_or leaders place d).node.served ≡ Some store.view.log)
found_log true xs at store shard leaders name place d first found same logs =
    subst (λ k. log_at k (slice_index_or leaders place d).node.served ≡ Some store.view.log) same
    (holds_at (λ (node : Node). (x : Store) → store_in xs at ≡ Some x → log_at shard node.served ≡ Some x.view.log) leaders name place d first logs store found)
found_log false xs at store shard leaders name place d first found same logs = tt

-- ---- a list that one more is pushed to

pub pushed : {A E X : Type 0} (r : Result A E) (b : Bool) (after xs ys : List X) → b ≡ is_err r → b ≡ false → after ≡ (if is_ok r then xs else ys)
    → after ≡ xs
pushed (Ok a) b after xs ys is none h = h
pushed (Err e) b after xs ys is none h = absurd (cc)
