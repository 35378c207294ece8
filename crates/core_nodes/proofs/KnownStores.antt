-- What is known of a region's store before nodes of the region, and of what is read of it.
use Rattle.std.proofs.Common.{◌≡◌, ℕ, suc, ◌≤◌, Bool, true, List, [], ◌∷◌, Option, Some, None, drop, length, take, refl, ap, sym, ◌∙◌, subst}
use Rattle.std.proofs.Common.{arith}
use Rattle.std.proofs.lemmas.List.Elements.{All-take}
use Rattle.std.proofs.lemmas.List.{length-take}
use Rattle.std.proofs.lemmas.Option.{slice_get_within}
use Rattle.std.specs.List.{AllByRecursion}
use Rattle.graph_model.proofs.Sound.{sound_take}
use Rattle.graph_model.specs.Soundness.{IsSound, IsSoundOf, KeepsEnds}
use Rattle.graph_model.specs.Told.{WhereTold}
use Rattle.shard_log.proofs.Beginnings.{begins-trans}
use Rattle.shard_log.proofs.GrowthLemmas.{grows-trans}
use Rattle.shard_log.specs.View.{Begins, Grows, View}
use Rattle.shard_tables.specs.StoreView.{Store}
use Rattle.shard_tables.specs.Stores.{HasSeen, note_of}
use Rattle.tao_base.specs.declared.entry.Entry.{Entry}
use Rattle.tao_base.specs.declared.id.StoreName.{StoreName}
use Rattle.tao_keeper.specs.Table.{Tables}
use Rattle.tao_schema.specs.Schema.{types_of}
use Rattle.topology.specs.Config.{Settings}
use Rattle.core_model.proofs.FoundStores.{named_stands, stores_are_found}
use Rattle.core_model.proofs.KeptStores.{sound_logs}
use Rattle.core_model.specs.Pens.{Pens, master_in, pens_of, view_or_none}
use Rattle.core_model.specs.Stores.{AreStoresOf, IsConfiguredStore, master_log, master_store, store_place}
use Rattle.core_nodes.specs.Settling.{IsRestOf, seen_logs}
use Rattle.core_nodes.proofs.CaughtMarks.{first_after}
use Rattle.node_stages.proofs.NotesSeen.{role_entries, role_grows, role_told, seen_begins}
use Rattle.core_nodes.proofs.StoreLemmas.{IsReadStore}

-- the log of the store is sound, and begins its shard's log, which is told
pub record IsKnownStore (s : Settings) (tables : Tables) (pens : Pens) (at : StoreName) : Type 0 where
  pub sound : IsSoundOf (types_of s.schema) at.shard (tables at).log
  pub begins : Begins (tables at).log (pens at.shard).entries
  pub told : (pens at.shard).log.told ≡ true
  pub whole : (pens at.shard).entries ≡ master_log s tables at.shard

module _ (s : Settings) (tables : Tables) (stores : List Store) (are : AreStoresOf true s tables stores) where
  -- a shard's pen that is told is of its master's store
  pen_whole : (shard : ℕ) → (pens_of stores shard).log.told ≡ true → (pens_of stores shard).entries ≡ master_log s tables shard
  pen_whole shard = by_master (master_in stores shard) refl
    where
      by_master : (o : Option Store) → master_in stores shard ≡ o → (view_or_none o).log.told ≡ true → (view_or_none o).entries ≡ master_log s tables shard
      by_master None found told = absurd (cc)
      by_master (Some store) found told =
          let at = (stores_are_found s stores).by_role shard store are.configured found in
          let role = ((stores_are_found s stores).master shard store are.configured at).0 in
          let seen = are.seen (store_place s (master_store s shard)) store at.stands in
          let whole : store.view.entries ≡ (tables store.name).log =
          subst (λ r. HasSeen r (tables store.name).log store.view.entries) role (seen.seen refl) in
          whole ∙ ap (λ (n : StoreName). (tables n).log) at.name_is

  pub known_store : (at : StoreName) → IsConfiguredStore s at → IsKnownStore s tables (pens_of stores) at
  known_store at here =
      let there = named_stands s stores are.configured at here in
      let store : Store = there.0 in
      let seen = are.seen (store_place s at) store there.1.stands in
      let follow : Grows store.view (pens_of stores at.shard) =
      subst (λ (n : StoreName). Grows store.view (pens_of stores n.shard)) there.1.name_is (are.follow (store_place s at) store there.1.stands) in
      let own : Begins (tables at).log store.view.entries =
      subst (λ (n : StoreName). Begins (tables n).log store.view.entries) there.1.name_is
      (seen_begins store.role (tables store.name).log store.view.entries (seen.seen refl)) in
      let begins = begins-trans (tables at).log store.view.entries (pens_of stores at.shard).entries own follow.begins in
      let told : (pens_of stores at.shard).log.told ≡ true = ap (λ l. l.told) follow.log_is ∙ seen.told_is in
      let whole = pen_whole at.shard told in
      let count : ℕ = length (tables at).log in
      let log : List Entry = master_log s tables at.shard in
      let master : IsSoundOf (types_of s.schema) at.shard log = sound_logs s tables (are.kept refl) at.shard here.shard in
      let cut : IsSoundOf (types_of s.schema) at.shard (take count log) =
      record { sound = sound_take log count master.sound; ends = All-take (KeepsEnds (types_of s.schema) at.shard) count log master.ends } in
      let first : Begins (tables at).log log = subst (Begins (tables at).log) whole begins in
      record { sound = subst (IsSoundOf (types_of s.schema) at.shard) (sym first) cut; begins = begins; told = told; whole = whole }

-- ---- the rest of a log

-- the positions of the entries after a place are within the log
pub rest_within : (log : List Entry) (low : ℕ) (es : List Entry) → IsSound log → es ≡ drop low log → AllByRecursion (λ e. e.position ≤ length log) es
rest_within log low [] sound is = tt
rest_within log low (e ∷ es) sound is =
    let first = first_after log low e es is in
    let within = slice_get_within log low e first.0 in
    let cut = length-take low log in
    ((let at = (sound low e first.0).position_is in omega arith), rest_within log (suc low) es sound first.1)

-- ---- what is read of a store

pub rest_of : (tells : Bool) (s : Settings) (tables : Tables) (stores : List Store) (at : StoreName) (store : Store) (low : ℕ) (es : List Entry)
    (note : View) → IsReadStore tells s tables stores at store → WhereTold tells (es ≡ drop low (tables store.name).log) → note ≡ note_of store
    → IsRestOf (seen_logs tells s tables (pens_of stores)) at low es note
rest_of tells s tables stores at store low es note is entries noted =
    let log_is = ap (λ (n : StoreName). (tables n).log) is.found.name_is in
    let here : IsRestOf (seen_logs tells s tables (pens_of stores)) at low es (note_of store) = record {
      entries_are = λ told. entries told ∙ ap (drop low) log_is;
      seen = grows-trans (note_of store) store.view (pens_of stores at.shard) (role_grows store.role store.view) is.follow;
      told_is = role_told store.role store.view ∙ is.keeper.told_is;
      begins = λ told. subst (λ xs. Begins xs (note_of store).entries) log_is
          (subst (Begins (tables store.name).log) (sym (role_entries store.role store.view))
          (seen_begins store.role (tables store.name).log store.view.entries (is.keeper.seen told)));
    } in
    subst (IsRestOf (seen_logs tells s tables (pens_of stores)) at low es) (sym noted) here
