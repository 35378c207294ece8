-- What is known of the nodes that a core begins with.
use Rattle.std.proofs.Common.{◌≡◌, ℕ, ◌+◌, ◌≤◌, ◌<◌, Bool, true, List, [], ◌∷◌, ◌++◌, length, get_or, Option, Some}
use Rattle.std.proofs.Common.{None, refl, ap, sym, ◌∙◌, subst, inl, inr, arith, length-append}
use Rattle.std.specs.Prelude.{◌==◌, map, slice_get, slice_index_or}
use Rattle.std.specs.List.{AllByRecursion}
use Rattle.std.proofs.lemmas.Bool.{cases_Bool, cases_eq, eqb-true}
use Rattle.std.proofs.lemmas.Option.{slice_get-get_or, slice_get_cases, slice_get_within, unwrap_or-slice_get}
use Rattle.std.proofs.Math.ListN.{get_or-append}
use Rattle.std.proofs.Math.Seq.{get_or-append_seam}
use Rattle.cache_items.specs.Node.{Node, empty_node}
use Rattle.graph_model.proofs.Sound.{slice_get-push}
use Rattle.graph_model.specs.Told.{WhereTold}
use Rattle.low_water.specs.Marks.{marks}
use Rattle.node_name.specs.declared.NodeName.{NodeName}
use Rattle.served_shards.specs.Begun.{AreReached, AreToldAlike, begun_at}
use Rattle.served_shards.specs.Served.{ServedShard, served_at}
use Rattle.shard_log.proofs.Beginnings.{begins-self}
use Rattle.shard_log.proofs.GrowthLemmas.{grows-trans}
use Rattle.shard_log.specs.View.{View, as_note}
use Rattle.shard_tables.specs.StoreView.{Store}
use Rattle.shard_tables.specs.Stores.{IsStoreOf, note_of, seen_by}
use Rattle.shard_tables.specs.declared.store.StoreRole.TheVariants.{Master}
use Rattle.tao_base.specs.declared.id.StoreName.{StoreName}
use Rattle.tao_keeper.specs.Table.{Tables}
use Rattle.topology.specs.Config.{Settings}
use Rattle.core_model.proofs.FoundStores.{master_found, named_stands}
use Rattle.core_model.proofs.Places.{one_some}
use Rattle.core_model.specs.Consistent.{AreSeen}
use Rattle.core_model.specs.Fleet.{region_of, served_by}
use Rattle.core_model.specs.Pens.{AreFirstNotes, IsSeen, Pens, pens_of, view_or_none}
use Rattle.core_model.specs.Stores.{AreStores, FollowMasters, HaveMasterRegions, HaveSeen, IsConfiguredStore, master_store, region_store, store_count}
use Rattle.core_model.specs.Stores.{store_place}
use Rattle.core_nodes.specs.Beginning.{AreFirstLengths, AreLengths, AreMeasured, HaveSeenLengths, IsTurn, length_at, length_in, note_at}
use Rattle.core_nodes.specs.Beginning.{begun_node, note_in, note_or_none}
use Rattle.node_stages.specs.declared.standing.Stand.{Stand}
use Rattle.node_stages.proofs.NotesSeen.{role_entries, role_grows, seen_long}
use Rattle.core_model.proofs.leader_tier_lemmas.LegalReads.{role_log}
use Rattle.core_nodes.proofs.OpenLemmas.{place_within}

-- ---- the lengths of the logs

pub lengths_none : (tells : Bool) (tables : Tables) (stores : List Store) → AreFirstLengths tells tables stores 0 []
lengths_none tells tables stores = record { long = refl; each = λ place store at lt. absurd (omega (arith, lt)) }

module _ (tells : Bool) (tables : Tables) (stores : List Store) where
  -- one more store's
  lengths_more : (count n : ℕ) (ls : List ℕ) → AreFirstLengths tells tables stores count ls
      → ((store : Store) → slice_get stores count ≡ Some store → WhereTold tells (n ≡ length (tables store.name).log))
      → AreFirstLengths tells tables stores (count + 1) (ls ++ n ∷ [])
  lengths_more count n ls are is = record {
    long = (let long = are.long in omega (arith, long, length-append ls (n ∷ [])));
    each = λ place store at lt. elim (cases_eq place count) [
      | inl same ↦ (
          let here : place ≡ length ls = same ∙ sym are.long in
          let read : length_at (ls ++ n ∷ []) place ≡ n =
          unwrap_or-slice_get (ls ++ n ∷ []) place 0 ∙ (ap (λ k. get_or (ls ++ n ∷ []) k 0) here ∙ get_or-append_seam ls n [] 0) in
          λ told. read ∙ is store (subst (λ k. slice_get stores k ≡ Some store) same at) told)
      | inr differ ↦ (
          let before : place < count = omega (arith, lt, differ) in
          let read : length_at (ls ++ n ∷ []) place ≡ length_at ls place =
          unwrap_or-slice_get (ls ++ n ∷ []) place 0 ∙ (get_or-append ls (n ∷ []) 0 place (let long = are.long in omega (arith, before, long)) ∙ sym
          (unwrap_or-slice_get ls place 0)) in
          λ told. read ∙ are.each place store at before told)
    ];
  }

  -- so it is where the code reads the next store
  pub lengths_next : (ys : List Store) (ls more : List ℕ) (place n : ℕ) (d : Store) → AreFirstLengths tells tables stores place ls → ys ≡ stores
      → place < length ys → more ≡ ls ++ n ∷ [] → WhereTold tells (n ≡ length (tables (slice_index_or ys place d).name).log)
      → AreFirstLengths tells tables stores (place + 1) more
  lengths_next ys ls more place n d are same lt pushed is =
      let read : slice_get stores place ≡ Some (slice_index_or ys place d) = ap (λ l. slice_get l place) (sym same) ∙ slice_get-get_or ys place d lt in
      subst (AreFirstLengths tells tables stores (place + 1)) (sym pushed)
      (lengths_more place n ls are (λ store at.
      let one : slice_index_or ys place d ≡ store = one_some (slice_index_or ys place d) store (sym read ∙ at) in
      subst (λ (x : Store). WhereTold tells (n ≡ length (tables x.name).log)) one is))

-- the store that the code reads has seen its log
pub seen_read : (tells : Bool) (tables : Tables) (xs ys : List Store) (place : ℕ) (d : Store) → HaveSeen tells tables xs → ys ≡ xs → place < length ys
    → IsStoreOf tells tables (slice_index_or ys place d)
seen_read tells tables xs ys place d seen same lt =
    seen place (slice_index_or ys place d) (ap (λ l. slice_get l place) (sym same) ∙ slice_get-get_or ys place d lt)

-- and is of a shard of the configuration
pub shard_read : (s : Settings) (xs ys : List Store) (place : ℕ) (d : Store) → AreStores s (store_count s) xs → ys ≡ xs → place < length ys
    → (slice_index_or ys place d).name.shard < s.shards
shard_read s xs ys place d are same lt =
    (are.each place (slice_index_or ys place d) (ap (λ l. slice_get l place) (sym same) ∙ slice_get-get_or ys place d lt)).here.shard

module _ (tells : Bool) (tables : Tables) (s : Settings) (xs : List Store) (ls : List ℕ) (count : ℕ) (are : AreStores s (store_count s) xs)
    (seen : HaveSeen tells tables xs) (all : length xs ≤ count) (count_is : count ≤ length xs) (lengths : AreFirstLengths tells tables xs count ls) where
  -- all are measured
  pub measured : AreMeasured s xs ls
  measured = record {
    configured = are;
    seen = λ place store at told.
        (let is = seen place store at in
        let tell : tells ≡ true = sym is.told_is ∙ told in
        let n = lengths.each place store at (let lt = slice_get_within xs place store at in omega (arith, lt, all)) tell in
        let long = seen_long store.role (tables store.name).log store.view.entries (is.seen tell) in
        omega (arith, n, long));
    alike = record { told = tells; each = λ place store at. (seen place store at).told_is };
  }

  pub all_lengths : AreLengths tells s tables ls
  all_lengths = record {
    long = (let long = lengths.long in let stores = are.long in omega (arith, long, stores, all, count_is));
    each = λ at here told.
        let found = named_stands s xs are at here in
        let lt = slice_get_within xs (store_place s at) found.0 found.1.stands in
        lengths.each (store_place s at) found.0 found.1.stands (omega (arith, lt, all)) told ∙ ap (λ a. length (tables a).log) found.1.name_is;
  }

-- ---- what a note has seen

-- the store at a place, or none
by_store : (stores : List Store) (place : ℕ) (P : Option Store → Type 0) → ((store : Store) → slice_get stores place ≡ Some store
    → P (Some store)) → P None → P (slice_get stores place)
by_store stores place P some none = elim (slice_get_cases stores place).1 [
  | inl e ↦ subst P (sym e.2) (some e.0 e.2)
  | inr e ↦ subst P (sym e.1) none
]

reaches : (stores : List Store) (lengths : List ℕ) (place : ℕ) → HaveSeenLengths stores lengths
    → WhereTold (note_at stores place).log.told (length_at lengths place ≤ length (note_at stores place).entries)
reaches stores lengths place are =
    by_store stores place (λ o. WhereTold (note_or_none o).log.told (length_at lengths place ≤ length (note_or_none o).entries))
    (λ store is told. let log = role_log store.role store.view in
    let within = are place store is (ap (λ l. l.told) (sym log) ∙ told) in
    let same : length (note_of store).entries ≡ length store.view.entries = ap length (role_entries store.role store.view) in omega (arith, within, same))
    (λ told. absurd (cc))

alike_here : (stores : List Store) (told : Bool) (place : ℕ) → ((n : ℕ) (store : Store) → slice_get stores n ≡ Some store → store.view.log.told ≡ told)
    → place < length stores → (note_at stores place).log.told ≡ told
alike_here stores told place are lt = elim (slice_get_cases stores place).1 [
  | inl e ↦ ap (λ o. (note_or_none o).log.told) e.2 ∙ (ap (λ l. l.told) (role_log e.0.role e.0.view) ∙ are place e.0 e.2)
  | inr e ↦ absurd (let past = e.0 in omega (arith, lt, past))
]

-- ---- what a node begins with

module _ (s : Settings) (stores : List Store) (lengths : List ℕ) (region : ℕ) (are : AreMeasured s stores lengths) (here : region < length s.regions) where
  -- there is a store of each shard
  pub region_within : (shard : ℕ) → shard < s.shards → store_place s (region_store region shard) < length stores
  region_within shard lt =
      let within = place_within s (region_store region shard) (record { region = here; shard = lt }) in
      let long = are.configured.long in
      omega (arith, within, long)

  reached : (shards : List ℕ) → AreReached (map (length_in s lengths region) shards) (map (note_in s stores region) shards)
  reached [] = tt
  reached (shard ∷ shards) = (reaches stores lengths (store_place s (region_store region shard)) are.seen, reached shards)

  alike_all : (shards : List ℕ) → AllByRecursion (λ shard. shard < s.shards) shards
      → AllByRecursion (λ v. v.log.told ≡ are.alike.told) (map (note_in s stores region) shards)
  alike_all [] within = tt
  alike_all (shard ∷ shards) within = (
    alike_here stores are.alike.told (store_place s (region_store region shard)) are.alike.each (region_within shard within.0),
    alike_all shards within.1,
  )

  pub turn_is : (shards : List ℕ) (turn : Stand) → AllByRecursion (λ shard. shard < s.shards) shards
      → turn.lows.items ≡ map (length_in s lengths region) shards → turn.notes.items ≡ map (note_in s stores region) shards
      → IsTurn s stores lengths region shards turn
  turn_is shards turn within lows notes = record {
    lows = lows;
    notes = notes;
    reached = subst (λ ls. AreReached ls turn.notes.items) (sym lows)
        (subst (AreReached (map (length_in s lengths region) shards)) (sym notes) (reached shards));
    alike = subst AreToldAlike (sym notes) (record { told = are.alike.told; each = alike_all shards within });
  }

-- the node that is made with it
pub begun_is : (s : Settings) (stores : List Store) (lengths : List ℕ) (name : NodeName) (node : Node) (most : ℕ) (shards lows : List ℕ) (notes : List View)
    → node ≡ empty_node most (begun_at shards lows notes) → most ≡ s.cache_items → shards ≡ served_by s name
    → lows ≡ map (length_in s lengths (region_of name)) (served_by s name) → notes ≡ map (note_in s stores (region_of name)) (served_by s name)
    → node ≡ begun_node s stores lengths name
begun_is s stores lengths name node most shards lows notes is most_is shards_are lows_are notes_are =
    is ∙ ap (λ m. empty_node m (begun_at shards lows notes)) most_is
    ∙ ap (λ ks. empty_node s.cache_items (begun_at ks lows notes)) shards_are
    ∙ ap (λ ls. empty_node s.cache_items (begun_at (served_by s name) ls notes)) lows_are
    ∙ ap (λ ns. empty_node s.cache_items (begun_at (served_by s name) (map (length_in s lengths (region_of name)) (served_by s name)) ns)) notes_are

-- what it begins with, by its name
pub turn_named : (s : Settings) (stores : List Store) (lengths : List ℕ) (region other : ℕ) (shards others : List ℕ) (turn : Stand) → region ≡ other
    → shards ≡ others → IsTurn s stores lengths region shards turn → IsTurn s stores lengths other others turn
turn_named s stores lengths region other shards others turn same are is =
    subst (λ k. IsTurn s stores lengths k others turn) same (subst (λ ks. IsTurn s stores lengths region ks turn) are is)

-- ---- what is then served

module _ (low : ℕ → ℕ) (note : ℕ → View) where
  pub shards_begun : (shards : List ℕ) → map (λ t. t.shard) (begun_at shards (map low shards) (map note shards)) ≡ shards
  shards_begun [] = refl
  shards_begun (shard ∷ shards) = ap (λ xs. shard ∷ xs) (shards_begun shards)

  pub seen_begun : (pens : Pens) (shards : List ℕ) → AllByRecursion (λ shard. IsSeen pens shard (note shard)) shards
      → AreSeen pens (begun_at shards (map low shards) (map note shards))
  seen_begun pens [] seen = tt
  seen_begun pens (shard ∷ shards) seen = (seen.0, seen_begun pens shards seen.1)

  -- each shard begins at its length
  pub marks_begun : (Within : ℕ → Type 0) (shards : List ℕ) (shard : ℕ) (t : ServedShard) → AllByRecursion Within shards
      → served_at shard (begun_at shards (map low shards) (map note shards)) ≡ Some t → Within shard × (t.marks ≡ marks (low shard) [])
  marks_begun Within [] shard t all is = absurd (cc)
  marks_begun Within (k ∷ shards) shard t all is = elim (cases_Bool (k == shard)) [
    | inl same ↦ (
        let number : k ≡ shard = eqb-true k shard same in
        let found : record { shard = k; marks = marks (low k) []; view = note k } ≡ t = one_some _ t (rw same at is) in
        (subst Within number all.0, ap (λ (x : ServedShard). x.marks) (sym found) ∙ ap (λ n. marks (low n) []) number))
    | inr other ↦ marks_begun Within shards shard t all.1 (rw other at is)
  ]

-- a note of a region's store has seen what begins the shard's log
pub note_seen : (s : Settings) (stores : List Store) (region shard : ℕ) → AreStores s (store_count s) stores → FollowMasters stores
    → IsConfiguredStore s (region_store region shard) → IsSeen (pens_of stores) shard (note_in s stores region shard)
note_seen s stores region shard are follow here =
    let found = named_stands s stores are (region_store region shard) here in
    let store : Store = found.0 in
    let own = follow (store_place s (region_store region shard)) store found.1.stands in
    let seen : IsSeen (pens_of stores) shard (note_of store) =
    grows-trans (note_of store) store.view (pens_of stores shard) (role_grows store.role store.view)
    (subst (λ (n : StoreName). IsSeen (pens_of stores) n.shard store.view) found.1.name_is own) in
    subst (λ o. IsSeen (pens_of stores) shard (note_or_none o)) (sym found.1.stands) seen

-- ---- notes of whole logs

module _ (s : Settings) (regions : HaveMasterRegions s) (stores : List Store) (are : AreStores s (store_count s) stores) (shard : ℕ) (lt : shard < s.shards)
  where
    abbrev place : ℕ
    place = store_place s (master_store s shard)

    -- the master's store stands at its place
    pub master_within : (here : ℕ) → here ≡ place → here < length stores
    master_within here same =
        let within = place_within s (master_store s shard) (record { region = regions shard; shard = lt }) in
        let long = are.long in
        omega (arith, within, long, same)

    pub record IsPen (store : Store) : Type 0 where
      pub role_is : store.role ≡ Master
      pub view_is : pens_of stores shard ≡ store.view

    pub pen_at : (here : ℕ) (store : Store) → here ≡ place → slice_get stores here ≡ Some store → IsPen store
    pen_at here store same stands =
        let found = named_stands s stores are (master_store s shard) (record { region = regions shard; shard = lt }) in
        let one : found.0 ≡ store = one_some found.0 store (sym found.1.stands ∙ subst (λ k. slice_get stores k ≡ Some store) same stands) in
        let master = master_found s stores are shard found.0 found.1 in
        subst IsPen one (record { role_is = master.0; view_is = ap view_or_none master.1 })

    -- a note at that place has seen the whole log
    pub pen_note : (here : ℕ) (note : View) → here ≡ place → note ≡ note_at stores here → note ≡ as_note (pens_of stores shard)
    pen_note here note same is = elim (slice_get_cases stores here).1 [
      | inl e ↦ (
          let pen = pen_at here e.0 same e.2 in
          is ∙ ap note_or_none e.2 ∙ ap (λ r. seen_by r e.0.view) pen.role_is ∙ ap as_note (sym pen.view_is))
      | inr e ↦ absurd (let past = e.0 in let inside = master_within here same in omega (arith, past, inside))
    ]

-- one more note, of the next shard
pub notes_more : (pens : Pens) (shard : ℕ) (note : View) (notes more : List View) → AreFirstNotes pens shard notes → note ≡ as_note (pens shard)
    → more ≡ notes ++ note ∷ [] → AreFirstNotes pens (shard + 1) more
notes_more pens shard note notes more are is pushed =
    let whole : IsSeen pens shard (as_note (pens shard)) = record { log_is = refl; begins = begins-self (pens shard).entries } in
    let seen : IsSeen pens shard note = subst (IsSeen pens shard) (sym is) whole in
    record {
      long = (let long = are.long in omega (arith, ap length pushed, length-append notes (note ∷ []), long));
      seen = λ n v h. elim (slice_get-push notes note n v (ap (λ l. slice_get l n) (sym pushed) ∙ h)) [
        | inl e ↦ are.seen n v e
        | inr e ↦ subst (IsSeen pens n) e.1 (subst (λ k. IsSeen pens k note) (sym (e.0 ∙ are.long)) seen)
      ];
    }
