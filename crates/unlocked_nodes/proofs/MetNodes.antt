-- Nodes and stores that came out of their locks, and that were looked at, are a core's.
use Rattle.std.proofs.Common.{◌≡◌, ℕ, zero, suc, ◌≤◌, ◌<◌, Bool, true, List, [], ◌∷◌, length, Result, Ok, Err, Some, refl, ap, sym, subst, ◌∙◌, inl, inr}
use Rattle.std.proofs.Common.{arith}
use Rattle.std.proofs.lemmas.List.Elements.{recursion_from_All}
use Rattle.std.proofs.lemmas.Option.{slice_get_cases, slice_get_within}
use Rattle.std.specs.List.{AllByRecursion}
use Rattle.std.specs.Option.{option_map_or}
use Rattle.std.proofs.lemmas.List.{with_items_is}
use Rattle.std.specs.Prelude.{OnOk, Vec, slice_get}
use Rattle.std.specs.Vec.{with_items}
use Rattle.cache_items.specs.Node.{Node}
use Rattle.cache_node.specs.True.{IsServed}
use Rattle.core_model.proofs.FoundStores.{master_found, named_stands}
use Rattle.core_model.proofs.Turns.{right_turn_of}
use Rattle.core_model.specs.Consistent.{IsFleetOf}
use Rattle.core_model.specs.Cuts.{ArePastCuts, IsPastCuts, store_cut}
use Rattle.core_model.specs.Fleet.{Fleet, named, node_names, region_of}
use Rattle.core_model.specs.Messages.{AreRefillsFor}
use Rattle.core_model.specs.Pens.{pens_of, view_or_none}
use Rattle.core_model.specs.Stores.{AreKeptIn, AreStoresOf, ComeToCuts, HaveMasterRegions, HaveSeen, master_store, store_place}
use Rattle.core_model.specs.declared.named.Named.{Named}
use Rattle.core_nodes.proofs.FleetBegins.{follower_regions, leader_regions}
use Rattle.core_nodes.specs.Beginning.{length_at}
use Rattle.follower_cache.specs.Seen.{FollowerState}
use Rattle.graph_model.specs.Told.{WhereTold}
use Rattle.locked_model.specs.LockedLaws.{LocksCover}
use Rattle.log_names.specs.Names.{IsOfLog, LogNames}
use Rattle.node_name.specs.declared.NodeName.{NodeName}
use Rattle.served_shards.specs.Served.{ServedShard, low_at}
use Rattle.shard_log.specs.View.{View}
use Rattle.shard_tables.specs.StoreView.{Store}
use Rattle.shard_tables.specs.Stores.{HasSeen}
use Rattle.shard_tables.specs.declared.store.StoreRole.{StoreRole}
use Rattle.shard_tables.specs.declared.store.StoreRole.TheVariants.{Master, Slave}
use Rattle.shared_nodes.specs.Nodes.{IsSharedNode}
use Rattle.shared_stores.specs.Locked.{IsSharedStore, locked}
use Rattle.shared_stores.specs.Making.{Making}
use Rattle.tao_base.specs.EdgeTypes.{InversesMatch}
use Rattle.tao_base.specs.declared.id.StoreName.{StoreName}
use Rattle.tao_keeper.specs.Table.{Stays, Tables}
use Rattle.tao_schema.specs.Schema.{types_of}
use Rattle.topology.specs.Config.{Settings}
use Rattle.unlocked_nodes.specs.Looking.{AllHaveMet, AreOfCluster, IsPastBounds, TablesFit}
use Rattle.unlocked_nodes.specs.Unlocked.{IsMet, IsUnlocked, fleet_with}
use Rattle.unlocked_nodes.proofs.OutsideLocks.{kept_outside}

-- what is so of all names is so of the name of each node
pub named_so : {N : Type 0} (P : NodeName → Type 0) (nodes : List (Named N)) (place : ℕ) (name : NodeName) (node : N) → AllByRecursion P (node_names nodes)
    → slice_get nodes place ≡ Some (named name node) → P name
named_so P [] place name node all at = absurd (cc)
named_so P (n ∷ nodes) zero name node all at = let same : n ≡ named name node = cc in subst (λ (m : Named _). P m.name) same all.0
named_so P (n ∷ nodes) (suc place) name node all at = named_so P nodes place name node all.1 at

-- what is so of each element is so of the one at a place
all_at : {X : Type 0} (P : X → Type 0) (xs : List X) (place : ℕ) (x : X) → AllByRecursion P xs → slice_get xs place ≡ Some x → P x
all_at P [] place x all at = absurd (cc)
all_at P (y ∷ ys) zero x all at = let same : y ≡ x = cc in subst P same all.0
all_at P (y ∷ ys) (suc place) x all at = all_at P ys place x all.1 at

module _ (tells : Bool) (m : Making) (log : LogNames) (tables : Tables) (f : Fleet) (noted : List (List View))
    (unlocked : IsUnlocked tells m log tables f noted) (met : AllHaveMet m.settings f noted) (regions : HaveMasterRegions m.settings) where
  abbrev s : Settings
  s = m.settings

  -- each store is such as its lock kept
  shared_with : (place : ℕ) (store : Store) → slice_get f.stores place ≡ Some store
      → (notes : List View) × IsSharedStore tells m log (locked store tables notes)
  shared_with place store at =
      let within = slice_get_within f.stores place store at in
      elim (slice_get_cases noted place).1 [
        | inl e ↦ (e.0, unlocked.stores place store e.0 at e.2 (met.configured.each place store at).place_is)
        | inr e ↦ absurd (let past = e.0 in let long = unlocked.noted_long in omega (arith, within, past, long))
      ]

  seen_by : tells ≡ true → (store : Store) (notes : List View) → IsSharedStore tells m log (locked store tables notes) → (role : StoreRole)
      → store.role ≡ role → HasSeen role (tables store.name).log store.view.entries
  seen_by told store notes shared Master is = (shared.master told is).whole
  seen_by told store notes shared Slave is = (shared.slave told is).begins

  have_seen : HaveSeen tells tables f.stores
  have_seen place store at =
      let shared = shared_with place store at in
      record { told_is = shared.1.told_is; seen = λ told. seen_by told store shared.0 shared.1 store.role refl }

  come_to_cuts : TablesFit s tables f → ComeToCuts s tables
  come_to_cuts fit = record {
    come = λ at other here there same. (
        let bounds = fit.each at.shard here.shard in
        let cut = subst (λ shard. (tables (record { region = other.region; shard = shard })).cut ≤ length_at fit.bounds at.shard) (sym same)
        (bounds.cuts other.region there.region) in
        let come = bounds.come at.region here.region in
        omega (arith, cut, come));
  }

  stores_are : (WhereTold tells (TablesFit s tables f)) → LocksCover → InversesMatch (types_of s.schema) → AreStoresOf tells s tables f.stores
  stores_are fit cover match = record {
    configured = met.configured;
    kept = λ told. kept_outside m log tables f noted (subst (λ t. IsUnlocked t m log tables f noted) told unlocked) met regions cover match (fit told).logs;
    cuts = λ told. come_to_cuts (fit told);
    seen = have_seen;
    follow = met.follow;
  }

  logs_are : (shard : ℕ) → shard < s.shards → IsOfLog log shard (pens_of f.stores shard)
  logs_are shard lt =
      let at = master_store s shard in
      let there = named_stands s f.stores met.configured at (record { region = regions shard; shard = lt }) in
      let master = master_found s f.stores met.configured shard there.0 there.1 in
      let shared = shared_with (store_place s at) there.0 there.1.stands in
      ap (λ (v : View). v.log) (ap view_or_none master.1) ∙ shared.1.log_is ∙ ap (λ (n : StoreName). log n.shard) there.1.name_is

  fleet_is : IsFleetOf s f
  fleet_is = record {
    leader_names = met.leader_names_are;
    follower_names = met.follower_names_are;
    leaders = λ place name node at. (
        let shared = unlocked.leaders place name node at in
        record { shards = shared.shards; seen = met.leaders place name node at; truth = shared.truth; within = shared.within });
    followers = λ place name follower at. (
        let freed = unlocked.followers place name follower at in
        record {
          node = record {
            shards = freed.shared.shards;
            seen = met.followers place name follower at;
            truth = freed.shared.truth;
            within = freed.shared.within;
          };
          refills = subst (AreRefillsFor s (pens_of f.stores) name) (sym freed.none) tt;
        });
  }

  -- a node past the bounds is past the cuts of its region's stores
  past_cuts : TablesFit s tables f → (bounds : List ℕ) (name : NodeName) (node : Node) → IsSharedNode m log name node → region_of name < length s.regions
      → ((shard : ℕ) → shard < s.shards → store_cut tables (region_of name) shard ≤ length_at bounds shard) → IsPastBounds s bounds name node
      → IsPastCuts tables (region_of name) node
  past_cuts fit bounds name node shared here cuts past = record {
    past = λ shard t found. (
        let served : IsServed node.served shard = rw found refl in
        let turn = right_turn_of s (IsOfLog log) name node shard shared served in
        let low : low_at shard node.served ≡ t.marks.low = ap (λ o. option_map_or (λ (x : ServedShard). x.marks.low) o 0) found in
        let cut = cuts shard turn.0 in
        let mark = past shard turn.0 turn.1 in
        omega (arith, cut, mark, low));
  }

  past_are : TablesFit s tables f → ArePastCuts tables f
  past_are fit = record {
    leaders = λ place name node at. (
        let here = named_so (λ n. region_of n < length s.regions) f.leaders place name node
        (subst (AllByRecursion (λ n. region_of n < length s.regions)) (sym met.leader_names_are) (leader_regions s)) at in
        past_cuts fit fit.bounds name node (unlocked.leaders place name node at) here (λ shard lt. (fit.each shard lt).cuts (region_of name) here)
        (all_at (λ (n : Named Node). IsPastBounds s fit.bounds n.name n.node) f.leaders place (named name node)
        (recursion_from_All (λ (n : Named Node). IsPastBounds s fit.bounds n.name n.node) f.leaders fit.leaders) at));
    followers = λ place name follower at. (
        let here = named_so (λ n. region_of n < length s.regions) f.followers place name follower
        (subst (AllByRecursion (λ n. region_of n < length s.regions)) (sym met.follower_names_are) (follower_regions s)) at in
        past_cuts fit fit.bounds name follower.node (unlocked.followers place name follower at).shared here
        (λ shard lt. (fit.each shard lt).cuts (region_of name) here)
        (all_at (λ (n : Named FollowerState). IsPastBounds s fit.bounds n.name n.node.node) f.followers place (named name follower)
        (recursion_from_All (λ (n : Named FollowerState). IsPastBounds s fit.bounds n.name n.node.node) f.followers fit.followers) at));
  }

  met_over : (WhereTold tells (TablesFit s tables f)) → LocksCover → InversesMatch (types_of s.schema) → IsMet tells m log tables f
  met_over fit cover match = record {
    stores = stores_are fit cover match;
    logs = logs_are;
    fleet = fleet_is;
    past = λ told. past_are (fit told);
  }

-- what is met stays so while keepers are only read
pub met_stays : (tells : Bool) (m : Making) (log : LogNames) (old new : Tables) (f : Fleet) → WhereTold tells (Stays old new) → IsMet tells m log old f
    → IsMet tells m log new f
met_stays tells m log old new f stays met = record {
  stores = record {
    configured = met.stores.configured;
    kept = λ told. subst (AreKeptIn m.settings) (same told) (met.stores.kept told);
    cuts = λ told. subst (ComeToCuts m.settings) (same told) (met.stores.cuts told);
    seen = λ place store at. record {
      told_is = (met.stores.seen place store at).told_is;
      seen = λ told. subst (λ (t : Tables). HasSeen store.role (t store.name).log store.view.entries) (same told) ((met.stores.seen place store at).seen told);
    };
    follow = met.stores.follow;
  };
  logs = met.logs;
  fleet = met.fleet;
  past = λ told. subst (λ t. ArePastCuts t f) (same told) (met.past told);
}
  where
    same : tells ≡ true → old ≡ new
    same told = λ i at. sym (stays told at) i

pub is_met : (tells : Bool) (m : Making) (log : LogNames) (tables later : Tables) (f : Fleet) (noted : List (List View))
    → IsUnlocked tells m log tables f noted → AllHaveMet m.settings f noted → HaveMasterRegions m.settings → WhereTold tells (TablesFit m.settings tables f)
    → LocksCover → InversesMatch (types_of m.settings.schema) → WhereTold tells (Stays tables later) → IsMet tells m log later f
is_met tells m log tables later f noted unlocked met regions fit cover match stays =
    met_stays tells m log tables later f stays (met_over tells m log tables f noted unlocked met regions fit cover match)

-- what can be asked of them by no keeper
pub of_cluster : (tells : Bool) (m : Making) (log : LogNames) (tables : Tables) (f lent : Fleet) (noted : List (List View)) → lent ≡ f
    → IsUnlocked tells m log tables f noted → AreOfCluster m log lent noted
of_cluster tells m log tables f lent noted same unlocked = subst (λ x. AreOfCluster m log x noted) (sym same) (record {
  many = unlocked.many;
  noted_long = unlocked.noted_long;
  stores = λ place store notes at has is. (
      let shared = unlocked.stores place store notes at has is in
      record { is = shared.is; log_is = shared.log_is; notes_are = λ shard note there. (shared.notes shard note there).log_is });
  leaders = unlocked.leaders;
  followers = λ place name follower at. (unlocked.followers place name follower at).shared;
})

-- and of what the keepers were asked, once they were
pub met_or_not : {T E : Type 0} (tells : Bool) (s : Settings) (m : Making) (log : LogNames) (tables later : Tables) (f lent left : Fleet)
    (noted : List (List View)) (r : Result T E) → s ≡ m.settings → lent ≡ f → left ≡ f → IsUnlocked tells m log tables f noted → AllHaveMet s lent noted
    → HaveMasterRegions s → WhereTold tells (OnOk r (TablesFit s tables left)) → LocksCover → InversesMatch (types_of s.schema)
    → WhereTold tells (Stays tables later) → OnOk r (IsMet tells m log later f)
met_or_not tells s m log tables later f lent left noted (Ok done) same from to unlocked met regions fit cover match stays =
    is_met tells m log tables later f noted unlocked (subst (λ x. AllHaveMet m.settings x noted) from (subst (λ x. AllHaveMet x lent noted) same met))
    (subst HaveMasterRegions same regions)
    (λ told. subst (λ x. TablesFit m.settings tables x) to (subst (λ x. TablesFit x tables left) same (fit told))) cover
    (subst (λ (x : Settings). InversesMatch (types_of x.schema)) same match) stays
met_or_not tells s m log tables later f lent left noted (Err e) same from to unlocked met regions fit cover match stays = tt

-- nodes that are lent, as they are
pub lent_as : {a b : List (Named Node)} {c d : List (Named FollowerState)} {e f : List Store} → a ≡ b → c ≡ d → e ≡ f → fleet_with a c e ≡ fleet_with b d f
lent_as leaders followers stores i = fleet_with (leaders i) (followers i) (stores i)

-- a list that was lent and comes back as it was
pub back_as : {X Z : Type 0} (v : Vec X Z) (left lent : List X) → left ≡ lent → lent ≡ v.items → length lent ≡ v.len → (with_items v left).items ≡ v.items
back_as v left lent same value long = with_items_is v left (ap length same ∙ long) ∙ (same ∙ value)
