-- A note that meets the store of a shard's master, once a cluster was closed.
use Rattle.std.proofs.Common.{◌≡◌, ℕ, ◌<◌, Bool, true, false, Some, inl, inr, refl, sym, ap, subst, ◌∙◌, arith}
use Rattle.std.proofs.lemmas.Option.{slice_get_cases, slice_get_within}
use Rattle.std.specs.Prelude.{OnOk, Result, Ok, Err, slice_get}
use Rattle.core_model.proofs.FoundStores.{master_found, named_stands}
use Rattle.core_model.specs.Pens.{view_or_none}
use Rattle.core_model.specs.Stores.{HaveMasterRegions, IsConfiguredStore, master_log, master_store, store_place}
use Rattle.graph_model.specs.Told.{WhereTold}
use Rattle.log_names.specs.Names.{IsOfLog, LogNames}
use Rattle.shard_log.specs.View.{View}
use Rattle.shard_tables.specs.StoreView.{Store}
use Rattle.shard_tables.specs.Slaves.{met_entries}
use Rattle.shard_tables.specs.Stores.{HasSeen}
use Rattle.shard_tables.specs.declared.store.StoreRole.{StoreRole}
use Rattle.shard_tables.specs.declared.store.StoreRole.TheVariants.{Master}
use Rattle.shared_stores.specs.Making.{Making}
use Rattle.tao_base.specs.declared.id.StoreName.{StoreName}
use Rattle.tao_keeper.specs.Table.{Tables}
use Rattle.topology.specs.Config.{Settings}
use Rattle.unlocked_nodes.specs.Looking.{AreOfLog, MeetsMaster}
use Rattle.unlocked_nodes.specs.Unlocked.{IsMet, IsUnlocked, MaySettle, notes_of}
use Rattle.unlocked_nodes.specs.declared.unlocked.Unlocked.{Unlocked}

-- what is known of the store that stands for a shard's master
record IsOfMaster (m : Making) (log : LogNames) (tables : Tables) (tells : Bool) (shard : ℕ) (store : Store) : Type 0 where
  log_is : store.view.log ≡ log shard
  whole : WhereTold tells (store.role ≡ Master → store.view.entries ≡ master_log m.settings tables shard)

module _ (tells : Bool) (m : Making) (log : LogNames) (tables : Tables) (u : Unlocked) (ready : MaySettle tells m log tables u)
    (regions : HaveMasterRegions m.settings) (shard : ℕ) (here : shard < m.settings.shards) where
  abbrev s : Settings
  s = m.settings

  abbrev at : StoreName
  at = master_store s shard

  -- before a settle
  kept_so : IsUnlocked tells m log tables u.fleet (notes_of u.noted.items) → (store : Store) → slice_get u.fleet.stores (store_place s at) ≡ Some store
      → store.name ≡ at → IsOfMaster m log tables tells shard store
  kept_so unlocked store stands name_is =
      let within = slice_get_within u.fleet.stores (store_place s at) store stands in
      elim (slice_get_cases (notes_of u.noted.items) (store_place s at)).1 [
        | inl e ↦ (
            let shared = unlocked.stores (store_place s at) store e.0 stands e.2 (ap (store_place s) (sym name_is)) in
            record {
              log_is = shared.log_is ∙ ap (λ (n : StoreName). log n.shard) name_is;
              whole = λ told role. (shared.master told role).whole ∙ ap (λ (n : StoreName). (tables n).log) name_is;
            })
        | inr e ↦ absurd (let past = e.0 in let long = unlocked.noted_long in omega (arith, within, past, long))
      ]

  -- and from then on
  met_so : IsMet tells m log tables u.fleet → (store : Store) → slice_get u.fleet.stores (store_place s at) ≡ Some store
      → store.name ≡ at → IsOfMaster m log tables tells shard store
  met_so met store stands name_is =
      let configured : IsConfiguredStore s at = record { region = regions shard; shard = here } in
      let there = named_stands s u.fleet.stores met.stores.configured at configured in
      let same : there.0 ≡ store = some_one (sym there.1.stands ∙ stands) in
      let master = master_found s u.fleet.stores met.stores.configured shard there.0 there.1 in
      let pen : view_or_none (Some there.0) ≡ view_or_none (Some store) = ap (λ (x : Store). x.view) same in
      record {
        log_is = ap (λ (v : View). v.log) (sym pen ∙ sym (ap view_or_none master.1)) ∙ met.logs shard here;
        whole = λ told role.
            subst (λ (r : StoreRole). HasSeen r (tables store.name).log store.view.entries) role ((met.stores.seen (store_place s at) store stands).seen told)
            ∙ ap (λ (n : StoreName). (tables n).log) name_is;
      }
    where
      some_one : {x y : Store} → Some x ≡ Some y → x ≡ y
      some_one same = cc

  of_master : (store : Store) → slice_get u.fleet.stores (store_place s at) ≡ Some store → store.name ≡ at → IsOfMaster m log tables tells shard store
  of_master = by u.met refl
    where
      by : (b : Bool) → u.met ≡ b → (store : Store) → slice_get u.fleet.stores (store_place s at) ≡ Some store → store.name ≡ at
          → IsOfMaster m log tables tells shard store
      by true is = met_so (ready.met is)
      by false is = kept_so (ready.unmet is)

  -- the note is of the log of what stands there
  pub of_its_log : (note : View) → IsOfLog log shard note → AreOfLog s shard u.fleet.stores note.log
  of_its_log note of store stands name_is = (of_master store stands name_is).log_is ∙ sym of

  -- and then has seen all of it
  pub sees_all : {T E : Type 0} (r : Result T E) (old new : View) → OnOk r (MeetsMaster s shard u.fleet.stores old new)
      → WhereTold tells (OnOk r (new.entries ≡ master_log s tables shard))
  sees_all (Ok done) old new meets told =
      let entries = subst (λ (r : StoreRole). new.entries ≡ met_entries r old.entries meets.store.view.entries) meets.role_is meets.has_met.entries_are in
      entries ∙ (of_master meets.store meets.stands meets.name_is).whole told meets.role_is
  sees_all (Err why) old new meets told = tt

-- ---- under settings that are those of the locks

pub log_under : (tells : Bool) (m : Making) (log : LogNames) (tables : Tables) (u : Unlocked) (x : Settings) (shard : ℕ) (note : View) → x ≡ m.settings
    → MaySettle tells m log tables u → HaveMasterRegions x → shard < m.settings.shards → IsOfLog log shard note → AreOfLog x shard u.fleet.stores note.log
log_under tells m log tables u x shard note made ready regions here of =
    subst (λ (n : Settings). AreOfLog n shard u.fleet.stores note.log) (sym made)
    (of_its_log tells m log tables u ready (subst HaveMasterRegions made regions) shard here note of)

pub sees_under : {T E : Type 0} (tells : Bool) (m : Making) (log : LogNames) (tables : Tables) (u : Unlocked) (x : Settings) (shard : ℕ) (r : Result T E)
    (old new : View) → x ≡ m.settings → MaySettle tells m log tables u → HaveMasterRegions x → shard < m.settings.shards
    → OnOk r (MeetsMaster x shard u.fleet.stores old new) → WhereTold tells (OnOk r (new.entries ≡ master_log m.settings tables shard))
sees_under tells m log tables u x shard r old new made ready regions here meets =
    sees_all tells m log tables u ready (subst HaveMasterRegions made regions) shard here r old new
    (subst (λ (n : Settings). OnOk r (MeetsMaster n shard u.fleet.stores old new)) made meets)
