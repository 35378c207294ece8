-- The store of a shard's master, as the code of writes and of jobs reads it, and as it leaves it.
use Rattle.std.proofs.Common.{◌≡◌, ℕ, ◌<◌, Bool, List, Some, Result, Ok, Err, OnErr, sym, ap, ◌∙◌, subst}
use Rattle.std.specs.Prelude.{slice_get, slice_index_or, slice_set}
use Rattle.graph_model.specs.Told.{WhereTold}
use Rattle.shard_log.proofs.GrowthLemmas.{grows-self}
use Rattle.shard_log.specs.View.{Grows}
use Rattle.shard_tables.specs.StoreView.{Store}
use Rattle.shard_tables.specs.Stores.{IsStoreOf, store_with}
use Rattle.shard_tables.specs.Written.{added_entry}
use Rattle.shard_tables.specs.declared.refusal.StoreRefusal.{StoreRefusal}
use Rattle.shard_tables.specs.declared.store.StoreRole.TheVariants.{Master}
use Rattle.shard_tables.specs.declared.writes.Wrote.{Wrote}
use Rattle.tao_base.specs.declared.id.StoreName.{StoreName}
use Rattle.tao_keeper.specs.Table.{Tables}
use Rattle.topology.specs.Config.{Settings}
use Rattle.core_model.proofs.FoundStores.{stores_go_on}
use Rattle.core_model.proofs.Places.{set_same}
use Rattle.core_model.specs.Pens.{Rise, pens_of, store_in}
use Rattle.core_model.specs.StoreLaws.{StoreGoesOn}
use Rattle.core_model.specs.Stores.{AreInOrder, AreStoresOf, HaveMasterRegions, IsConfiguredStore, master_of, master_store, region_store, store_place}
use Rattle.core_nodes.proofs.StoreLemmas.{OthersStay, is_master, master_follows, master_place, pen_after, read_stands, read_store, stores_changed}

module _ (tells : Bool) (s : Settings) (tables : Tables) (xs : List Store) where
  -- the store that stands at the place is the shard's master
  pub record IsMasterRead (shard place : ℕ) (x : Store) : Type 0 where
    pub stands : slice_get xs place ≡ Some x
    pub named : x.name ≡ master_store s shard
    pub found : store_in xs (master_store s shard) ≡ Some x
    pub limit : x.log_max ≡ s.log_max
    pub epoch : x.epoch ≡ 0
    pub role : x.role ≡ Master
    pub keeper : IsStoreOf tells tables x
    pub configured : IsConfiguredStore s (master_store s shard)

  -- so it is where code computes the place from the shard
  pub master_read : AreStoresOf tells s tables xs → HaveMasterRegions s → (shard : ℕ) → shard < s.shards → (coded region place : ℕ) (at : StoreName) (d : Store)
      → place ≡ store_place s at → at ≡ region_store region coded → region ≡ master_of s coded → coded ≡ shard
      → IsMasterRead shard place (slice_index_or xs place d)
  master_read are regions shard within coded region place at d is named of_region same =
      let configured : IsConfiguredStore s (master_store s shard) = record { region = regions shard; shard = within } in
      let spot = master_place s shard coded region place at is named of_region same in
      let read = read_store tells s tables xs are (master_store s shard) place d configured spot in
      record {
        stands = read_stands tells s tables xs are (master_store s shard) place d configured spot;
        named = read.found.name_is;
        found = read.found.found;
        limit = read.is.limit_is;
        epoch = read.is.epoch_is;
        role = is_master tells s tables xs are shard (slice_index_or xs place d) read.found;
        keeper = read.keeper;
        configured = configured;
      }

-- a store that was only read goes on
pub goes_same : (x y : Store) → y ≡ x → StoreGoesOn x y
goes_same x y same = record {
  name_is = ap (λ (z : Store). z.name) same;
  limit_is = ap (λ (z : Store). z.log_max) same;
  epoch_is = ap (λ (z : Store). z.epoch) same;
  role_is = ap (λ (z : Store). z.role) same;
  grows = subst (λ (z : Store). Grows x.view z.view) (sym same) (grows-self x.view);
}

-- and is put back
pub set_again : (xs : List Store) (place : ℕ) (x y : Store) → slice_get xs place ≡ Some x → y ≡ x → slice_set xs place y ≡ xs
set_again xs place x y stands same = ap (slice_set xs place) same ∙ set_same xs place x stands

-- so is one whose write or merge was refused
pub rest_again : (xs : List Store) (place : ℕ) (x y : Store) (r : Result Wrote StoreRefusal) → slice_get xs place ≡ Some x
    → y ≡ store_with x (added_entry r) → OnErr r (slice_set xs place y ≡ xs)
rest_again xs place x y (Ok wrote) stands log = tt
rest_again xs place x y (Err refusal) stands log = set_again xs place x y stands log

-- the stores after a call of the master's
module _ (tells : Bool) (s : Settings) (old new : Tables) (xs : List Store) (shard place : ℕ) (x y : Store) (are : AreStoresOf tells s old xs)
    (is : IsMasterRead tells s old xs shard place x) (goes : StoreGoesOn x y) where
  pub pen_is : pens_of (slice_set xs place y) shard ≡ y.view
  pen_is = pen_after tells s old new xs place x y are is.stands goes shard is.named is.configured

  pub pens_rise : Rise (pens_of xs) (pens_of (slice_set xs place y))
  pens_rise = (stores_go_on xs place x y is.stands goes).rise

  pub stores_left : IsStoreOf tells new y → WhereTold tells (OthersStay old new x.name) → WhereTold tells (AreInOrder s new)
      → AreStoresOf tells s new (slice_set xs place y)
  stores_left keeper others order =
      stores_changed tells s old new xs place x y are is.stands goes keeper others order
      (master_follows tells s old new xs place x y are is.stands goes shard is.named is.configured)
