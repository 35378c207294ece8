-- Each store's log begins its shard's, and what is settled stays so until a log grows.
use Rattle.std.proofs.Common.{◌≡◌, ℕ, zero, suc, ◌≤◌, ◌<◌, true, List, [], ◌∷◌, length, take, refl, ap, sym, subst, ◌∙◌, inl, inr, arith}
use Rattle.std.proofs.lemmas.Bool.{cases_Bool, cases_lt}
use Rattle.cache_items.specs.Node.{Node}
use Rattle.follower_cache.specs.cache_node.True.{AreTold, IsServed}
use Rattle.node_name.specs.declared.NodeName.{NodeName}
use Rattle.shard_log.proofs.Beginnings.{begins-length, begins-trans}
use Rattle.shard_log.specs.View.{Begins, Grows, View}
use Rattle.leader_tier.specs.shard_tables.StoreView.{Store}
use Rattle.leader_tier.specs.shard_tables.Stores.{HasSeen}
use Rattle.leader_tier.specs.shard_tables.declared.store.StoreRole.{StoreRole}
use Rattle.leader_tier.specs.shard_tables.declared.store.StoreRole.TheVariants.{Master, Slave}
use Rattle.tao_base.specs.declared.entry.Entry.{Entry}
use Rattle.tao_base.specs.declared.id.StoreName.{StoreName}
use Rattle.tao_keeper.specs.Table.{Table, Tables}
use Rattle.topology.specs.Config.{Settings}
use Rattle.topology.specs.States.{is_up}
use Rattle.core_model.specs.Consistent.{GoesOn, HasReached, IsConsistent, IsNodeOf, MarksGoOn}
use Rattle.core_model.specs.Emptied.{IsAtStore}
use Rattle.core_model.specs.Fleet.{region_of}
use Rattle.core_model.specs.Growing.{TablesGoOn}
use Rattle.core_model.specs.Pens.{IsSeen, pens_of, view_or_none}
use Rattle.core_model.specs.States.{AreUpAtStores, ComeUpAtStores, HaveSameLogs, NodesNow, SettledStays}
use Rattle.core_model.specs.StoreLaws.{LogsFollow}
use Rattle.core_model.specs.Stores.{AreStoresOf, AreWhole, HaveMasterRegions, IsConfiguredStore, master_log, master_store, region_store}
use Rattle.core_model.specs.Stores.{store_length, store_place}
use Rattle.core_model.proofs.FoundStores.{master_found, named_stands}
use Rattle.core_model.proofs.NodesSeen.{served-at}
use Rattle.core_model.proofs.Reaching.{nodes_stay_at}
use Rattle.core_model.proofs.Turns.{turn_of}

-- a beginning that isn't shorter is the whole
whole_begins : (xs ys : List Entry) → Begins xs ys → length ys ≤ length xs → xs ≡ ys
whole_begins xs ys begins long = begins ∙ take_all (length xs) ys long
  where
    take_all : (n : ℕ) (ys : List Entry) → length ys ≤ n → take n ys ≡ ys
    take_all zero [] le = refl
    take_all (suc n) [] le = refl
    take_all zero (y ∷ ys) le = absurd (omega (arith, le))
    take_all (suc n) (y ∷ ys) le = ap (λ l. y ∷ l) (take_all n ys (omega (arith, le)))

-- what a store has seen begins with its keeper's log
seen_begins : (role : StoreRole) (log seen : List Entry) → HasSeen role log seen → Begins log seen
seen_begins Master log seen is = subst (λ l. Begins log l) (sym is) (self log)
  where
    self : (log : List Entry) → Begins log log
    self [] = refl
    self (e ∷ es) = ap (λ l. e ∷ l) (self es)
seen_begins Slave log seen is = is

module _ (s : Settings) (tables : Tables) (stores : List Store) where
  -- the master's store of a configured shard has the whole log
  pub pen_of : (shard : ℕ) → HaveMasterRegions s → AreStoresOf true s tables stores → shard < s.shards
      → ((pens_of stores shard).entries ≡ master_log s tables shard) × ((pens_of stores shard).log.told ≡ true)
  pen_of shard regions are here =
      let at : IsConfiguredStore s (master_store s shard) = record { region = regions shard; shard = here } in
      let there = named_stands s stores are.configured (master_store s shard) at in
      let master = master_found s stores are.configured shard there.0 there.1 in
      let seen = are.seen (store_place s (master_store s shard)) there.0 there.1.stands in
      let whole : there.0.view.entries ≡ (tables there.0.name).log =
      subst (λ r. HasSeen r (tables there.0.name).log there.0.view.entries) master.0 (seen.seen refl) in
      let pen : pens_of stores shard ≡ there.0.view = ap view_or_none master.1 in
      (ap (λ (v : View). v.entries) pen ∙ whole ∙ ap (λ (n : StoreName). (tables n).log) there.1.name_is, ap (λ (v : View). v.log.told) pen ∙ seen.told_is)

  log_follows : (at : StoreName) → HaveMasterRegions s → AreStoresOf true s tables stores → IsConfiguredStore s at
      → Begins (tables at).log (master_log s tables at.shard)
  log_follows at regions are here =
      let there = named_stands s stores are.configured at here in
      let store = there.0 in
      let seen = are.seen (store_place s at) store there.1.stands in
      let follow : Grows store.view (pens_of stores at.shard) =
      subst (λ (n : StoreName). Grows store.view (pens_of stores n.shard)) there.1.name_is (are.follow (store_place s at) store there.1.stands) in
      let own : Begins (tables at).log store.view.entries =
      subst (λ (n : StoreName). Begins (tables n).log store.view.entries) there.1.name_is
      (seen_begins store.role (tables store.name).log store.view.entries (seen.seen refl)) in
      let begins = begins-trans (tables at).log store.view.entries (pens_of stores at.shard).entries own follow.begins in
      subst (Begins (tables at).log) (pen_of at.shard regions are here.shard).0 begins

  seen_tells : (shard : ℕ) (view : View) → HaveMasterRegions s → AreStoresOf true s tables stores → shard < s.shards → IsSeen (pens_of stores) shard view
      → view.log.told ≡ true
  seen_tells shard view regions are here seen = ap (λ l. l.told) (sym seen.log_is) ∙ (pen_of shard regions are here).1

  pub logs_follow : LogsFollow s tables stores
  logs_follow = record { follows = log_follows; tells = seen_tells }

  -- the logs that a node serves are told
  pub node_tells : (name : NodeName) (node : Node) → HaveMasterRegions s → AreStoresOf true s tables stores → IsNodeOf s (pens_of stores) name node
      → AreTold node.served
  node_tells name node regions are is shard t at =
      let served : IsServed node.served shard = rw at refl in
      let turn = turn_of s (pens_of stores) name node shard is served in
      seen_tells shard t.view regions are turn.0 (served-at (pens_of stores) shard node.served t is.seen at)

-- ---- until a log grows

module _ (s : Settings) (before after : Tables) (old new : NodesNow) (regions : HaveMasterRegions s) (was : IsConsistent true s before old.fleet)
    (are : IsConsistent true s after new.fleet) (grow : TablesGoOn true s before after) (same : HaveSameLogs s before after) (whole : AreWhole s before) where
  still_whole : AreWhole s after
  still_whole at here =
      let begins = log_follows s after new.fleet.stores at regions are.stores here in
      let grown : (before at).log ≡ take (length (before at).log) (after at).log = grow.logs.begins refl at in
      let longer = begins-length (before at).log (after at).log grown in
      let full : length (before at).log ≡ length (master_log s after at.shard) = ap length (whole at here ∙ sym (same at.shard here.shard)) in
      whole_begins (after at).log (master_log s after at.shard) begins (omega arith)

  -- each store is as long as it was
  same_length : (region shard : ℕ) → store_length after region shard ≡ store_length before region shard
  same_length region shard = elim (cases_lt shard s.shards) [
    | inl here ↦ elim (cases_lt region (length s.regions)) [
      | inl there ↦ (
          let at : IsConfiguredStore s (region_store region shard) = record { region = there; shard = here } in
          ap length (still_whole (region_store region shard) at ∙ same shard here ∙ sym (whole (region_store region shard) at)))
      | inr past ↦ other region shard (λ is. omega (arith, is.region, past))
    ]
    | inr past ↦ other region shard (λ is. omega (arith, is.shard, past))
  ]
    where
      other : (region shard : ℕ) → (IsConfiguredStore s (region_store region shard) → ⊥)
          → store_length after region shard ≡ store_length before region shard
      other region shard isnt = ap (λ (t : Table). length t.log) (grow.others refl (region_store region shard) isnt)

  node_stays : (name : NodeName) (from to : Node) → IsNodeOf s (pens_of old.fleet.stores) name from → MarksGoOn from to
      → HasReached after (region_of name) to → IsAtStore before (region_of name) from → IsAtStore after (region_of name) to
  node_stays name from to is goes reached ends =
      (nodes_stay_at (region_of name)).stays before after from to goes (node_tells s before old.fleet.stores name from regions was.stores is) reached
      (same_length (region_of name)) ends

  all_stay : GoesOn old.fleet new.fleet → ComeUpAtStores after old new → AreUpAtStores before old → AreUpAtStores after new
  all_stay goes come ends = record {
    leaders = λ place name node at up. (
        let from = goes.marks.leaders place name node at in
        elim (cases_Bool (is_up old.states name)) [
          | inl was_up ↦ node_stays name from.0 node (was.fleet.leaders place name from.0 from.1) from.2 ((are.reached refl).leaders place name node at)
              (ends.leaders place name from.0 from.1 was_up)
          | inr down ↦ come.leaders place name node at (record { down = down; up = up })
        ]);
    followers = λ place name f at up. (
        let from = goes.marks.followers place name f at in
        elim (cases_Bool (is_up old.states name)) [
          | inl was_up ↦ node_stays name from.0.node f.node (was.fleet.followers place name from.0 from.1).node from.2
              ((are.reached refl).followers place name f at) (ends.followers place name from.0 from.1 was_up)
          | inr down ↦ come.followers place name f at (record { down = down; up = up })
        ]);
  }

pub settled_stays : (s : Settings) (before after : Tables) (old new : NodesNow) → SettledStays s before after old new
settled_stays s before after old new = record {
  stay = λ regions was are goes come grow same settled. record {
    whole = still_whole s before after old new regions was are grow same settled.whole;
    ends = all_stay s before after old new regions was are grow same settled.whole goes come settled.ends;
  };
}
