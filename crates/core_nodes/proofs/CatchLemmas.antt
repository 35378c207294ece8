-- A node that processes the rest of a log is still one of its core, and holds what it held that isn't behind its region's store.
use Rattle.std.proofs.Common.{◌≡◌, ℕ, suc, ◌+◌, ◌<◌, ◌≤◌, Bool, true, false, List, [], ◌∷◌, drop, length, take, Option, Some, None, refl, ap, sym}
use Rattle.std.proofs.Common.{◌∙◌, subst, inl, inr, arith}
use Rattle.std.proofs.lemmas.Bool.{and_from, and_parts, cases_Bool, eq-eqb, eqb-false, eqb-true, le-leb, le-ltb, leb-true, ltb-false, ne_eqb}
use Rattle.std.proofs.lemmas.List.Elements.{All-weaker, recursion_from_All}
use Rattle.std.proofs.lemmas.Option.{get_or_from_slice_get, slice_get_within}
use Rattle.std.specs.List.{AllByRecursion, IsDistinct}
use Rattle.std.specs.Map.{keys_of as keys_held}
use Rattle.std.specs.Prelude.{◌==◌, ◌&&◌, All, IfSome, IsSome, filter, map, nat_lt, slice_get}
use Rattle.ask_table.specs.Asks.{Asks, with_floor}
use Rattle.cache_items.specs.Node.{Node, caught_up, item_at, met, processed, raised_all}
use Rattle.cache_items.specs.declared.item.Item.{Item}
use Rattle.cache_node.proofs.Filling.{content_reached}
use Rattle.cache_node.proofs.Marked.{items_reach_the_mark, low_is_marked}
use Rattle.cache_node.specs.True.{AreTold, IsServed, IsTrueServed}
use Rattle.graph_model.proofs.Exact.{version_take}
use Rattle.graph_model.proofs.Keys.{same_key-same}
use Rattle.graph_model.proofs.Rising.{touches_tell}
use Rattle.graph_model.specs.Log.{version}
use Rattle.graph_model.specs.Soundness.{IsSoundOf, KeepsEnds}
use Rattle.graph_model.specs.Told.{WhereTold}
use Rattle.low_water.specs.Marks.{IsWindow, marks}
use Rattle.maint_msg.specs.KeyVersions.{key_version, keys_of}
use Rattle.maint_msg.specs.declared.key_versions.KeyVersion.{KeyVersion}
use Rattle.node_name.specs.declared.NodeName.{NodeName}
use Rattle.served_shards.specs.Served.{IsLowWater, ServedShard, log_at, low_at, served_at}
use Rattle.shard_log.proofs.Beginnings.{begins-shorter}
use Rattle.shard_log.specs.View.{Begins, Grows, View}
use Rattle.shard_tables.specs.StoreView.{Store}
use Rattle.tao_base.specs.EdgeTypes.{EdgeTypes}
use Rattle.tao_base.specs.Keys.{key_shard, same_key}
use Rattle.tao_base.specs.declared.entry.Entry.{Entry}
use Rattle.tao_base.specs.declared.entry.Touch.{Touch}
use Rattle.tao_base.specs.declared.id.Key.{Key}
use Rattle.tao_base.specs.declared.id.StoreName.{StoreName}
use Rattle.tao_keeper.specs.Table.{Stays, Tables}
use Rattle.tao_schema.specs.Schema.{types_of}
use Rattle.topology.specs.Config.{Settings}
use Rattle.core_model.proofs.AskingOn.{nodes_ask_on}
use Rattle.core_model.proofs.AsksOn.{asks_go_on, asks_stay}
use Rattle.core_model.proofs.MarkingOn.{marks_go_on, marks_stay, nodes_mark_on}
use Rattle.core_model.proofs.NodesSeen.{served-at}
use Rattle.core_model.proofs.PastCuts.{stays_past}
use Rattle.core_model.proofs.Reaching.{nodes_reach}
use Rattle.core_model.proofs.Staying.{nodes_stay}
use Rattle.core_model.proofs.Turns.{serves_its_turn, turn_of}
use Rattle.core_model.specs.Consistent.{HasReached, IsNodeOf}
use Rattle.core_model.specs.Cuts.{IsPastCuts}
use Rattle.core_model.specs.Fleet.{region_of, regions_of, serves_in_turn}
use Rattle.core_model.specs.Messages.{Processes}
use Rattle.core_model.specs.Pens.{Pens, pens_of}
use Rattle.core_model.specs.Stores.{AreStoresOf, AreWhole, IsConfiguredStore, master_log, region_store, store_length}
use Rattle.core_nodes.specs.Dues.{KeepsOthers}
use Rattle.core_nodes.specs.Settling.{CatchesUp, IsAtFirstStores, IsRestOf, MayCatchUp, NodeGoesOn, ReachesStore, SeenLogs}
use Rattle.core_nodes.specs.Settling.{is_last, keeps_pace, lies_behind, open_numbers, seen_logs}
use Rattle.node_stages.specs.Catching.{TouchShard}
use Rattle.node_stages.specs.Stages.{NodeDoes}
use Rattle.core_nodes.proofs.CaughtMarks.{at_end, first_after, processes_elsewhere, reaches_end}
use Rattle.core_nodes.proofs.KeptItems.{all_held, caught_filter, filter_all, filter_both, filter_same, is_fresh, keeps_by, keeps_through}
use Rattle.core_nodes.proofs.KnownStores.{IsKnownStore, known_store, rest_within}
use Rattle.core_nodes.proofs.ReadLemmas.{log_of_shard}
use Rattle.core_nodes.proofs.StoreLemmas.{IsReadStore}
use Rattle.ask_table.proofs.Tables.{numbers-raised}
use Rattle.cache_node.proofs.ServedAt.{some_is}

-- ---- the keys of entries

-- a key that an entry of the log names lies on its shard, and has come to its version
abbrev pub IsKnown : List Entry → ℕ → KeyVersion → Type 0
IsKnown log shard k = (key_shard k.key ≡ shard) × (k.version ≤ version log k.key)

touches_known : (log : List Entry) (shard n : ℕ) (ts : List Touch) → AllByRecursion (λ t. key_shard t.key ≡ shard) ts
    → AllByRecursion (λ t. t.version ≡ version (take n log) t.key) ts → AllByRecursion (IsKnown log shard) (map key_version ts)
touches_known log shard n [] here are = tt
touches_known log shard n (t ∷ ts) here are = (
  (here.0, (let is = are.0 in let most = version_take n log t.key in omega arith)),
  touches_known log shard n ts here.1 are.1,
)

entry_known : (types : EdgeTypes) (log : List Entry) (shard n : ℕ) (e : Entry) → IsSoundOf types shard log → slice_get log n ≡ Some e
    → AllByRecursion (IsKnown log shard) (keys_of e)
entry_known types log shard n e sound at =
    let within = slice_get_within log n e at in
    let kept : KeepsEnds types shard e = subst (KeepsEnds types shard) (get_or_from_slice_get log n e e at) (sound.ends n e within) in
    touches_known log shard (n + 1) e.touches (recursion_from_All (λ t. key_shard t.key ≡ shard) e.touches kept.here)
    (recursion_from_All (λ t. t.version ≡ version (take (n + 1) log) t.key) e.touches (touches_tell log sound.sound n e at).versions)

rest_known : (types : EdgeTypes) (log : List Entry) (shard low : ℕ) (es : List Entry) → IsSoundOf types shard log → es ≡ drop low log
    → AllByRecursion (λ e. AllByRecursion (IsKnown log shard) (keys_of e)) es
rest_known types log shard low [] sound is = tt
rest_known types log shard low (e ∷ es) sound is =
    let first = first_after log low e es is in
    (entry_known types log shard low e sound first.0, rest_known types log shard (suc low) es sound first.1)

-- ---- what isn't behind logs is kept

-- one key is known of each log that goes on
known_more : (log whole : List Entry) (shard : ℕ) (ks : List KeyVersion) → Begins log whole → AllByRecursion (IsKnown log shard) ks
    → AllByRecursion (IsKnown whole shard) ks
known_more log whole shard [] begins known = tt
known_more log whole shard (k ∷ ks) begins known = (
  (
    known.0.0,
    (
        let least = known.0.1 in
        let most : version log k.key ≤ version whole k.key =
        subst (λ l. version l k.key ≤ version whole k.key) (sym begins) (version_take (length log) whole k.key) in
        omega arith),
  ),
  known_more log whole shard ks begins known.1,
)

rest_more_known : (log whole : List Entry) (shard : ℕ) (es : List Entry) → Begins log whole
    → AllByRecursion (λ e. AllByRecursion (IsKnown log shard) (keys_of e)) es → AllByRecursion (λ e. AllByRecursion (IsKnown whole shard) (keys_of e)) es
rest_more_known log whole shard [] begins known = tt
rest_more_known log whole shard (e ∷ es) begins known =
    (known_more log whole shard (keys_of e) begins known.0, rest_more_known log whole shard es begins known.1)

module _ (logs : ℕ → List Entry) (shard : ℕ) where
  -- the log of its key's shard has no later version
  abbrev IsAhead : Key × Item → Type 0
  IsAhead held = version (logs (key_shard held.0)) held.0 ≤ held.1.version

  ahead_fresh : (k : KeyVersion) (held : Key × Item) → IsKnown (logs shard) shard k → IsAhead held → is_fresh k held ≡ true
  ahead_fresh k held known ahead = elim (cases_Bool (same_key k.key held.0)) [
    | inl same ↦ (
        let key : k.key ≡ held.0 = same_key-same k.key held.0 same in
        let here : key_shard held.0 ≡ shard = subst (λ q. key_shard q ≡ shard) key known.0 in
        let least : version (logs shard) held.0 ≤ held.1.version = subst (λ n. version (logs n) held.0 ≤ held.1.version) here ahead in
        let most : k.version ≤ version (logs shard) held.0 = subst (λ q. k.version ≤ version (logs shard) q) key known.1 in
        let fresh : nat_lt held.1.version k.version ≡ false = le-ltb held.1.version k.version (omega arith) in
        rw (same, fresh) refl)
    | inr other ↦ rw other refl
  ]

  ahead_kept : (ks : List KeyVersion) (held : Key × Item) → AllByRecursion (IsKnown (logs shard) shard) ks → IsAhead held → keeps_by ks held ≡ true
  ahead_kept [] held known ahead = refl
  ahead_kept (k ∷ ks) held known ahead =
      and_from (is_fresh k held) (keeps_by ks held) (ahead_fresh k held known.0 ahead) (ahead_kept ks held known.1 ahead)

  ahead_through : (es : List Entry) (held : Key × Item) → AllByRecursion (λ e. AllByRecursion (IsKnown (logs shard) shard) (keys_of e)) es
      → IsAhead held → keeps_through es held ≡ true
  ahead_through [] held known ahead = refl
  ahead_through (e ∷ es) held known ahead =
      and_from (keeps_by (keys_of e) held) (keeps_through es held) (ahead_kept (keys_of e) held known.0 ahead) (ahead_through es held known.1 ahead)

caught_most : (shard : ℕ) (es : List Entry) (n : Node) → (caught_up shard es n).most ≡ n.most
caught_most shard [] n = refl
caught_most shard (e ∷ es) n = caught_most shard es (processed shard e.position (keys_of e) n)

raised_numbers : (keys : List KeyVersion) (t : Asks) → map (λ a. a.number) (raised_all keys t).asks ≡ map (λ a. a.number) t.asks
raised_numbers [] t = refl
raised_numbers (k ∷ keys) t = raised_numbers keys (with_floor k.key k.version t) ∙ numbers-raised k.key k.version t.asks

-- no ask begins or ends
caught_numbers : (shard : ℕ) (es : List Entry) (n : Node) → open_numbers (caught_up shard es n) ≡ open_numbers n
caught_numbers shard [] n = refl
caught_numbers shard (e ∷ es) n = caught_numbers shard es (processed shard e.position (keys_of e) n) ∙ raised_numbers (keys_of e) n.asks

pub some_served : (served : List ServedShard) (shard : ℕ) → IsServed served shard → (t : ServedShard) × (served_at shard served ≡ Some t)
some_served served shard is = by_option (served_at shard served) refl is
  where
    by_option : (o : Option ServedShard) → served_at shard served ≡ o → IsSome o → (t : ServedShard) × (served_at shard served ≡ Some t)
    by_option None none some = absurd (cc)
    by_option (Some t) found some = (t, found)

-- ---- a node goes on

-- what is so by tables is so by those that were the same before
pub so_before : (P : Tables → Type 0) (before tables : Tables) → Stays before tables → P tables → P before
so_before P before tables stays is = let same : tables ≡ before = λ i at. stays at i in subst P same is

module _ (tells : Bool) (s : Settings) (tables : Tables) (pens : Pens) (name : NodeName) where
  abbrev Logs : SeenLogs
  Logs = seen_logs tells s tables pens

  pub goes_same : (node : Node) → MayCatchUp Logs name node → NodeGoesOn Logs name node node
  goes_same node may = record {
    may = may;
    asks = asks_stay node.asks;
    on = record {
      keeps = λ held. true;
      items = sym (filter_all node.items);
      pace = λ told held paces. refl;
      last = λ told held is. refl;
      marks = marks_stay node;
      asks = refl;
      most = refl;
    };
  }

  pub goes_on : (old mid new : Node) → NodeGoesOn Logs name old mid → NodeGoesOn Logs name mid new → NodeGoesOn Logs name old new
  goes_on old mid new first second = record {
    may = second.may;
    asks = asks_go_on old.asks mid.asks new.asks first.asks second.asks;
    on = record {
      keeps = λ held. first.on.keeps held && second.on.keeps held;
      items = second.on.items ∙ ap (filter second.on.keeps) first.on.items ∙ filter_both first.on.keeps second.on.keeps old.items;
      pace = λ told held paces.
          and_from (first.on.keeps held) (second.on.keeps held) (first.on.pace told held paces) (second.on.pace told held paces);
      last = λ told held is. and_from (first.on.keeps held) (second.on.keeps held) (first.on.last told held is) (second.on.last told held is);
      marks = marks_go_on old mid new first.on.marks second.on.marks;
      asks = second.on.asks ∙ first.on.asks;
      most = second.on.most ∙ first.on.most;
    };
  }

  module _ (before : Tables) (stays : WhereTold tells (Stays before tables)) where
    abbrev Before : SeenLogs
    Before = seen_logs tells s before pens

    -- the tables were the same before
    pub may_before : (node : Node) → MayCatchUp Logs name node → MayCatchUp Before name node
    may_before node may = record {
      configured = may.configured;
      node = may.node;
      reached = λ told. so_before (λ t. HasReached t (region_of name) node) before tables (stays told) (may.reached told);
      past = λ told. so_before (λ t. IsPastCuts t (region_of name) node) before tables (stays told) (may.past told);
    }

    pub goes_before : (old new : Node) → NodeGoesOn Logs name old new → NodeGoesOn Before name old new
    goes_before old new goes = record {
      may = may_before new goes.may;
      asks = goes.asks;
      on = record {
        keeps = goes.on.keeps;
        items = goes.on.items;
        pace = λ told. so_before (λ t. (held : Key × Item) → keeps_pace t (region_of name) held ≡ true → goes.on.keeps held ≡ true) before tables
            (stays told) (goes.on.pace told);
        last = λ told. so_before (λ t. (held : Key × Item) → is_last s t held ≡ true → goes.on.keeps held ≡ true) before tables (stays told)
            (goes.on.last told);
        marks = goes.on.marks;
        asks = goes.on.asks;
        most = goes.on.most;
      };
    }

module _ (tells : Bool) (s : Settings) (tables : Tables) (stores : List Store) (name : NodeName) (are : AreStoresOf tells s tables stores)
    (there : region_of name < length s.regions) where
  abbrev Own : SeenLogs
  Own = seen_logs tells s tables (pens_of stores)

  abbrev OwnStore : ℕ → StoreName
  OwnStore shard = region_store (region_of name) shard

  known : (shard : ℕ) → tells ≡ true → shard < s.shards → IsKnownStore s tables (pens_of stores) (OwnStore shard)
  known shard told here =
      known_store s tables stores (subst (λ b. AreStoresOf b s tables stores) told are) (OwnStore shard) (record { region = there; shard = here })

  told_all : (node : Node) → IsNodeOf s (pens_of stores) name node → tells ≡ true → AreTold node.served
  told_all node is told shard t at =
      let seen = served-at (pens_of stores) shard node.served t is.seen at in
      let turn = turn_of s (pens_of stores) name node shard is (some_is (served_at shard node.served) t at) in
      ap (λ l. l.told) (sym seen.log_is) ∙ (known shard told turn.0).told

  -- it processes the rest of a log
  pub goes_processed : (shard : ℕ) (es : List Entry) (note : View) (old new : Node) → MayCatchUp Own name old → shard < s.shards
      → IsRestOf Own (OwnStore shard) (low_at shard old.served) es note → NodeDoes (Processes shard es note old new) old new → NodeGoesOn Own name old new
  goes_processed shard es note old new may here rest does =
      let mid : Node = met shard note old in
      let log : List Entry = (tables (OwnStore shard)).log in
      let low : ℕ = low_at shard old.served in
      record {
        may = record {
          configured = may.configured;
          node = (nodes_stay s (pens_of stores) name).processes shard es note old new does.does rest.seen does.apart does.truth may.node;
          reached = λ told.
              (nodes_reach tables (region_of name)).processes shard es note old new does.does
              (rest_within log low es (known shard told here).sound.sound (rest.entries_are told)) (may.reached told);
          past = λ told.
              stays_past (region_of name) tables tables old new (nodes_mark_on.processes shard es note old new does.does) (told_all old may.node told)
              (λ k. refl) (may.past told);
        };
        asks = nodes_ask_on.processes shard es note old new does.does;
        on = record {
          keeps = keeps_through es;
          items = ap (λ (n : Node). n.items) does.does ∙ caught_filter shard es mid does.apart;
          pace = λ told held paces.
              ahead_through (λ n. (tables (OwnStore n)).log) shard es held
              (rest_known (types_of s.schema) log shard low es (known shard told here).sound (rest.entries_are told)) (leb-true _ _ paces);
          last = λ told held is. (
              let store = known shard told here in
              let version_is = eqb-true held.1.version (version (master_log s tables (key_shard held.0)) held.0) is in
              let first : Begins log (master_log s tables shard) = subst (Begins log) store.whole store.begins in
              ahead_through (master_log s tables) shard es held
              (rest_more_known log (master_log s tables shard) shard es first
              (rest_known (types_of s.schema) log shard low es store.sound (rest.entries_are told))) (omega arith));
          marks = nodes_mark_on.processes shard es note old new does.does;
          asks = ap open_numbers does.does ∙ caught_numbers shard es mid;
          most = ap (λ (n : Node). n.most) does.does ∙ caught_most shard es mid;
        };
      }

  -- ---- what it has of a shard that it serves

  pub record HasOf (shard : ℕ) (t : ServedShard) : Type 0 where
    pub here : shard < s.shards
    pub serves : serves_in_turn (regions_of s) name shard ≡ true
    pub seen : Grows t.view (pens_of stores shard)
    pub truth : IsTrueServed t
    pub known : IsKnownStore s tables (pens_of stores) (OwnStore shard)

  pub has_of : (node : Node) (shard : ℕ) (t : ServedShard) → IsNodeOf s (pens_of stores) name node → tells ≡ true → served_at shard node.served ≡ Some t
      → HasOf shard t
  has_of node shard t is told at =
      let turn = turn_of s (pens_of stores) name node shard is (some_is (served_at shard node.served) t at) in
      record {
        here = turn.0;
        serves = turn.1;
        seen = served-at (pens_of stores) shard node.served t is.seen at;
        truth = (is.truth.told (told_all node is told)).served shard t at;
        known = known shard told turn.0;
      }

  -- ---- it reaches the end of its store of a shard

  other_end : (shard : ℕ) (old new : Node) (k : ℕ) (t : ServedShard) → k < shard + 1 → (k == shard) ≡ false
      → served_at k new.served ≡ served_at k old.served → served_at k new.served ≡ Some t → IsAtFirstStores tables (region_of name) shard old
      → t.marks ≡ marks (store_length tables (region_of name) k) []
  other_end shard old new k t lt apart same at was =
      was.ends k t (let differ = eqb-false k shard apart in omega (arith, lt, differ)) (sym same ∙ at)

  own_end : (shard : ℕ) (node : Node) (t : ServedShard) → HasReached tables (region_of name) node → served_at shard node.served ≡ Some t → IsWindow t.marks
      → store_length tables (region_of name) shard ≤ t.marks.low → t.marks ≡ marks (store_length tables (region_of name) shard) []
  own_end shard node t reached at window low =
      at_end (store_length tables (region_of name) shard) t.marks window (λ p on. reached shard p (rw at on)) low

  pub reaches_processed : (shard : ℕ) (es : List Entry) (note : View) (old new : Node) → tells ≡ true → MayCatchUp Own name old → MayCatchUp Own name new
      → shard < s.shards → serves_in_turn (regions_of s) name shard ≡ true → IfSome (served_at shard old.served) (λ t. IsLowWater t.marks)
      → es ≡ drop (low_at shard old.served) (tables (OwnStore shard)).log → Processes shard es note old new → ReachesStore tables (OwnStore shard) old new
  reaches_processed shard es note old new told was may here serves marked rest does =
      let some = some_served old.served shard ((serves_its_turn s (pens_of stores) name old shard).serves was.node here serves) in
      let low : low_at shard old.served ≡ some.0.marks.low = rw some.1 refl in
      let window : IsWindow some.0.marks = (rw some.1 at marked).window in
      let log : List Entry = (tables (OwnStore shard)).log in
      let end = reaches_end shard log es note old new some.0 does some.1 window (known shard told here).sound.sound (rest ∙ ap (λ n. drop n log) low) in
      let own : (t : ServedShard) → served_at shard new.served ≡ Some t → t.marks ≡ marks (store_length tables (region_of name) shard) [] =
      λ t there. (
      let one : Some end.0 ≡ Some t = sym end.1 ∙ there in
      let after : end.0 ≡ t = cc in
      own_end shard new t (may.reached told) there (subst (λ (u : ServedShard). IsWindow u.marks) after end.3)
      (subst (λ (u : ServedShard). length log ≤ u.marks.low) after end.2)) in
      record {
        there = own;
        next = λ first. record {
          ends = λ k t lt at. elim (cases_Bool (k == shard)) [
            | inl same ↦ (
                let k_is : k ≡ shard = eqb-true k shard same in
                subst (λ n. t.marks ≡ marks (store_length tables (region_of name) n) []) (sym k_is)
                (own t (subst (λ n. served_at n new.served ≡ Some t) k_is at)))
            | inr apart ↦ other_end shard old new k t lt apart (processes_elsewhere shard k es note old new does apart) at first
          ];
        };
      }

  -- it does so too where it doesn't lie behind
  pub reaches_same : (shard until : ℕ) (node : Node) → tells ≡ true → MayCatchUp Own name node
      → IfSome (served_at shard node.served) (λ t. IsLowWater t.marks) → until ≡ store_length tables (region_of name) shard
      → lies_behind s name shard (low_at shard node.served) until ≡ false → ReachesStore tables (OwnStore shard) node node
  reaches_same shard until node told may marked all ahead =
      let own : (t : ServedShard) → served_at shard node.served ≡ Some t → t.marks ≡ marks (store_length tables (region_of name) shard) [] =
      λ t there. (
      let has = has_of node shard t may.node told there in
      let window : IsWindow t.marks = (rw there at marked).window in
      let low : low_at shard node.served ≡ t.marks.low = rw there refl in
      let none : nat_lt (low_at shard node.served) until ≡ false = rw has.serves at ahead in
      let reached : until ≤ low_at shard node.served = ltb-false (low_at shard node.served) until none in
      own_end shard node t (may.reached told) there window (omega arith)) in
      record {
        there = own;
        next = λ first. record {
          ends = λ k t lt at. elim (cases_Bool (k == shard)) [
            | inl same ↦ (
                let k_is : k ≡ shard = eqb-true k shard same in
                subst (λ n. t.marks ≡ marks (store_length tables (region_of name) n) []) (sym k_is)
                (own t (subst (λ n. served_at n node.served ≡ Some t) k_is at)))
            | inr apart ↦ other_end shard node node k t lt apart refl at first
          ];
        };
      }

  -- ---- all its shards

  -- what it holds isn't behind a store to whose end it has come
  pub pace_held : (node : Node) (key : Key) (item : Item) → tells ≡ true → IsNodeOf s (pens_of stores) name node
      → IsAtFirstStores tables (region_of name) s.shards node → item_at node.items key ≡ Some item → keeps_pace tables (region_of name) (key, item) ≡ true
  pace_held node key item told is ends at =
      let some = some_served node.served (key_shard key) (is.truth.items_here key item at) in
      let t : ServedShard = some.0 in
      let log : List Entry = (tables (OwnStore (key_shard key))).log in
      let has = has_of node (key_shard key) t is told some.1 in
      let low : t.marks.low ≡ length log = ap (λ m. m.low) (ends.ends (key_shard key) t has.here some.1) in
      let truth = (is.truth.told (told_all node is told)).items key item t at some.1 in
      let within : t.marks.low ≤ length t.view.entries = has.truth.within t.marks.low (low_is_marked t.marks) in
      let first : Begins log t.view.entries =
      begins-shorter log t.view.entries (pens_of stores (key_shard key)).entries has.known.begins has.seen.begins (omega arith) in
      let cut : take t.marks.low t.view.entries ≡ log = ap (λ n. take n t.view.entries) low ∙ sym first in
      let least : version log key ≤ item.version =
      subst (λ l. version l key ≤ item.version) cut (items_reach_the_mark.reaches t key item has.truth truth) in
      le-leb (version log key) item.version least

  -- nor is it past the last version
  pub held_within : (node : Node) (key : Key) (item : Item) → tells ≡ true → IsNodeOf s (pens_of stores) name node → item_at node.items key ≡ Some item
      → item.version ≤ version (master_log s tables (key_shard key)) key
  held_within node key item told is at =
      let some = some_served node.served (key_shard key) (is.truth.items_here key item at) in
      let t : ServedShard = some.0 in
      let has = has_of node (key_shard key) t is told some.1 in
      let truth = (is.truth.told (told_all node is told)).items key item t at some.1 in
      let seen : item.version ≤ version t.view.entries key = content_reached t.view.entries key item.version item.content truth.exact in
      let more : version t.view.entries key ≤ version (pens_of stores (key_shard key)).entries key =
      subst (λ l. version l key ≤ version (pens_of stores (key_shard key)).entries key) (sym has.seen.begins)
      (version_take (length t.view.entries) (pens_of stores (key_shard key)).entries key) in
      subst (λ l. item.version ≤ version l key) has.known.whole (omega arith)

  -- so it has the last version, where the stores are whole
  pub last_held : (node : Node) (key : Key) (item : Item) → tells ≡ true → IsNodeOf s (pens_of stores) name node
      → IsAtFirstStores tables (region_of name) s.shards node → AreWhole s tables → item_at node.items key ≡ Some item
      → item.version ≡ version (master_log s tables (key_shard key)) key
  last_held node key item told is ends whole at =
      let some = some_served node.served (key_shard key) (is.truth.items_here key item at) in
      let has = has_of node (key_shard key) some.0 is told some.1 in
      let log_is = whole (OwnStore (key_shard key)) (record { region = there; shard = has.here }) in
      let paces = leb-true (version (tables (OwnStore (key_shard key))).log key) item.version (pace_held node key item told is ends at) in
      let least : version (master_log s tables (key_shard key)) key ≤ item.version = subst (λ l. version l key ≤ item.version) log_is paces in
      let most = held_within node key item told is at in
      omega arith

  pub catches_up : (old new : Node) → tells ≡ true → IsDistinct same_key (keys_held new.items) → NodeGoesOn Own name old new
      → IsAtFirstStores tables (region_of name) s.shards new → CatchesUp s tables (region_of name) old new
  catches_up old new told apart goes ends = record {
    items = goes.on.items ∙ filter_same goes.on.keeps (keeps_pace tables (region_of name)) old.items (goes.on.pace told)
        (subst (AllByRecursion (λ held. keeps_pace tables (region_of name) held ≡ true)) goes.on.items
        (all_held (λ held. keeps_pace tables (region_of name) held ≡ true) new.items apart
        (λ key item at. pace_held new key item told goes.may.node ends at)));
    last = λ whole. goes.on.items ∙ filter_same goes.on.keeps (is_last s tables) old.items (goes.on.last told)
        (subst (AllByRecursion (λ held. is_last s tables held ≡ true)) goes.on.items
        (all_held (λ held. is_last s tables held ≡ true) new.items apart
        (λ key item at. eq-eqb item.version (version (master_log s tables (key_shard key)) key)
        (last_held new key item told goes.may.node ends whole at))));
    ends = λ shard t at. ends.ends shard t (has_of new shard t goes.may.node told at).here at;
  }

-- ---- at its region's store of a shard

-- it has gone on, and come to the end of the store, with what it had of the other shards
pub record CaughtAt (logs : SeenLogs) (name : NodeName) (at : StoreName) (old new : Node) : Type 0 where
  pub goes : NodeGoesOn logs name old new
  pub others : KeepsOthers at.shard old new
  pub reaches : WhereTold logs.tells (ReachesStore logs.tables at old new)

-- a node that lies behind serves the shard
pub serves_there : (s : Settings) (name : NodeName) (shard low until : ℕ) (lies : Bool) → lies ≡ lies_behind s name shard low until → lies ≡ true
    → serves_in_turn (regions_of s) name shard ≡ true
serves_there s name shard low until lies is behind = (and_parts (serves_in_turn (regions_of s) name shard) (nat_lt low until) (sym is ∙ behind)).0

module _ (tells : Bool) (s : Settings) (tables : Tables) (stores : List Store) (name : NodeName) (are : AreStoresOf tells s tables stores)
    (at : StoreName) (here : IsConfiguredStore s at) (of_region : region_of name ≡ at.region) (old : Node)
    (may : MayCatchUp (seen_logs tells s tables (pens_of stores)) name old) where
  abbrev There : SeenLogs
  There = seen_logs tells s tables (pens_of stores)

  pub named_at : region_store (region_of name) at.shard ≡ at
  named_at = ap (λ r. region_store r at.shard) of_region

  pub of_regions : region_of name < length s.regions
  of_regions = (let in_regions = here.region in omega arith)

  pub caught_same : (low until : ℕ) → low ≡ low_at at.shard old.served → IfSome (served_at at.shard old.served) (λ t. IsLowWater t.marks)
      → WhereTold tells (until ≡ length (tables at).log) → (lies : Bool) → lies ≡ lies_behind s name at.shard low until → lies ≡ false
      → CaughtAt There name at old old
  caught_same low until is marked all lies is_lies ahead = record {
    goes = goes_same tells s tables (pens_of stores) name old may;
    others = record { others = λ k apart. refl };
    reaches = λ told.
        subst (λ n. ReachesStore tables n old old) named_at
        (reaches_same tells s tables stores name are of_regions at.shard until old told may marked
        (all told ∙ ap (λ n. length (tables n).log) (sym named_at)) (subst (λ n. lies_behind s name at.shard n until ≡ false) is (sym is_lies ∙ ahead)));
  }

  -- what a store is asked with of a shard that it serves
  module _ (store : Store) (is : IsReadStore tells s tables stores at store) (serves : serves_in_turn (regions_of s) name at.shard ≡ true) where
    pub log_there : log_at store.name.shard old.served ≡ Some store.view.log
    log_there =
        let turn = (serves_its_turn s (pens_of stores) name old at.shard).serves may.node here.shard serves in
        let own = log_of_shard (pens_of stores) at.shard s name old may.node turn ∙ ap Some is.follow.log_is in
        subst (λ (n : StoreName). log_at n.shard old.served ≡ Some store.view.log) (sym is.found.name_is) own

    -- it has processed what is old there
    pub past_there : WhereTold tells ((tables store.name).cut ≤ low_at store.name.shard old.served)
    past_there told =
        let some = some_served old.served at.shard ((serves_its_turn s (pens_of stores) name old at.shard).serves may.node here.shard serves) in
        let low : low_at at.shard old.served ≡ some.0.marks.low = rw some.1 refl in
        let past = (may.past told).past at.shard some.0 some.1 in
        let own : (tables at).cut ≤ low_at at.shard old.served =
        subst (λ n. (tables n).cut ≤ low_at at.shard old.served) named_at (omega (arith, past, low)) in
        subst (λ (n : StoreName). (tables n).cut ≤ low_at n.shard old.served) (sym is.found.name_is) own

    pub touches_there : WhereTold tells (TouchShard store.name.shard (tables store.name).log)
    touches_there told =
        let sound = (known_store s tables stores (subst (λ b. AreStoresOf b s tables stores) told are) at here).sound in
        let lie : TouchShard at.shard (tables at).log =
        All-weaker (KeepsEnds (types_of s.schema) at.shard) (λ e. All (λ t. key_shard t.key ≡ at.shard) e.touches) (λ e kept. kept.here) (tables at).log
        sound.ends in
        subst (λ (n : StoreName). TouchShard n.shard (tables n).log) (sym is.found.name_is) lie

  module _ (serves : serves_in_turn (regions_of s) name at.shard ≡ true) (es : List Entry) (note : View)
      (rest : IsRestOf There at (low_at at.shard old.served) es note) where
    rest_there : IsRestOf There (region_store (region_of name) at.shard) (low_at at.shard old.served) es note
    rest_there = subst (λ n. IsRestOf There n (low_at at.shard old.served) es note) (sym named_at) rest

    pub caught_processed : (new : Node) → IfSome (served_at at.shard old.served) (λ t. IsLowWater t.marks)
        → NodeDoes (Processes at.shard es note old new) old new → CaughtAt There name at old new
    caught_processed new marked does =
        let goes = goes_processed tells s tables stores name are of_regions at.shard es note old new may here.shard rest_there does in
        record {
          goes = goes;
          others = record { others = λ k apart. processes_elsewhere at.shard k es note old new does.does (ne_eqb k at.shard apart) };
          reaches = λ told.
              subst (λ n. ReachesStore tables n old new) named_at
              (reaches_processed tells s tables stores name are of_regions at.shard es note old new told may goes.may here.shard serves marked
              (rest_there.entries_are told) does.does);
        }
