-- No node marks what its region's store hasn't.
use Rattle.std.proofs.Common.{◌≡◌, ◌⊎◌, ℕ, ◌≤◌, ◌+◌, Bool, true, false, List, [], ◌∷◌, Option, Some, None, refl, ap, sym, subst, ◌∙◌, inl, inr, arith}
use Rattle.std.proofs.lemmas.Bool.{and_parts, cases_Bool, eq-eqb, eqb-true, leb-true, or_cases, or_left, or_right}
use Rattle.std.specs.List.{AllByRecursion, list_any}
use Rattle.std.specs.Prelude.{◌==◌, ◌&&◌, IfSome, if◌then◌else◌, nat_le}
use Rattle.tao_base.specs.EdgeTypes.{EdgeTypes}
use Rattle.tao_base.specs.Keys.{key_shard}
use Rattle.tao_base.specs.Queries.{query_key}
use Rattle.tao_base.specs.declared.entry.Entry.{Entry}
use Rattle.tao_base.specs.declared.id.Key.{Key}
use Rattle.cache_items.specs.Kept.{is_yes, item_of, took, with_item}
use Rattle.cache_items.specs.Node.{Node, caught_up, delivered, met, processed, with_ended_ask}
use Rattle.cache_items.specs.declared.look.Kept.{Kept}
use Rattle.cache_items.specs.declared.look.Look.{Look}
use Rattle.cache_items.specs.declared.look.Look.TheVariants.{Hit, Miss}
use Rattle.follower_cache.specs.cache_node.Laws.{KeepsShard}
use Rattle.follower_cache.specs.Seen.{FollowerState}
use Rattle.leader_tier.specs.LeaderReads.{KeepsGiven}
use Rattle.leader_tier.specs.TakenWrites.{TakesWritten}
use Rattle.follower_cache.proofs.cache_node_lemmas.Marked.{low_is_marked}
use Rattle.follower_cache.specs.cache_node.True.{AreTold}
use Rattle.low_water.proofs.AddedMarks.{mark_adds, window_none}
use Rattle.low_water.specs.Marks.{IsWindow, Marks, is_marked, marks, with_mark}
use Rattle.maint_msg.specs.KeyVersions.{keys_of}
use Rattle.maint_msg.specs.Maints.{SeenMaint}
use Rattle.node_name.specs.declared.NodeName.{NodeName}
use Rattle.cache_items.specs.sealed_item.Fills.{SealedItem}
use Rattle.served_shards.specs.Begun.{restarted}
use Rattle.served_shards.specs.Served.{ServedShard, changed_at, forgetting, log_at, marking, restarting, seeing, served_at}
use Rattle.shard_log.proofs.Beginnings.{begins-length}
use Rattle.shard_log.specs.View.{View}
use Rattle.leader_tier.specs.shard_tables.StoreView.{Store}
use Rattle.leader_tier.specs.shard_tables.declared.leader_answer.LeaderAnswer.{LeaderAnswer}
use Rattle.leader_tier.specs.shard_tables.declared.leader_answer.LeaderAnswer.TheVariants as leader
use Rattle.tao_keeper.specs.Growing.{LogsGrow}
use Rattle.tao_keeper.specs.Table.{Tables}
use Rattle.topology.specs.Config.{Settings}
use Rattle.core_model.specs.Consistent.{AreToldAs, HasReached, IsNodeOf, MarksGoOn, MarksRise, is_told, marks_at}
use Rattle.core_model.specs.Emptied.{BeginEach, IsAtStore, at_marks, at_stores, region_tables}
use Rattle.core_model.specs.Evictions.{Evicts}
use Rattle.core_model.specs.Laws.{NodesAreToldAs, NodesReachNoFurther, NodesStayAtStores}
use Rattle.core_model.specs.Messages.{Processes}
use Rattle.core_model.specs.Pens.{Pens, is_master_for, master_in, pens_of, view_or_none}
use Rattle.core_model.specs.Reads.{AfterLook, LeaderAnswers, StoreCalls, Wanted}
use Rattle.core_model.specs.Stores.{AreStoresOf, region_store, store_length}
use Rattle.core_model.proofs.FoundStores.{found_at}
use Rattle.core_model.proofs.NodesSeen.{served-at}
use Rattle.core_model.proofs.Places.{one_some}
use Rattle.tao_base.specs.Ids.{IsRising}

-- ---- the shards that are served

-- what is had of one shard changes, or its marks stay
abbrev MarkedAs : ℕ → ℕ → (ServedShard → ServedShard) → List ServedShard → Type 0
MarkedAs shard k f served = (marks_at k (changed_at shard f served) ≡ marks_at k served)
    ⊎ ((k ≡ shard) × (t : ServedShard) × (marks_at k served ≡ t.marks) × (marks_at k (changed_at shard f served) ≡ (f t).marks))

marked_as : (shard k : ℕ) (f : ServedShard → ServedShard) (served : List ServedShard) → KeepsShard f → MarkedAs shard k f served
marked_as shard k f [] keeps = inl refl
marked_as shard k f (s ∷ ss) keeps = elim (cases_Bool (s.shard == shard)) [
  | inl on ↦ rw on (elim (cases_Bool (s.shard == k)) [
    | inl here ↦ (
        let there : ((f s).shard == k) ≡ true = ap (λ n. n == k) (keeps s) ∙ here in
        rw (here, there) (inr (sym (eqb-true s.shard k here) ∙ eqb-true s.shard shard on, s, refl, refl)))
    | inr other ↦ (
        let there : ((f s).shard == k) ≡ false = ap (λ n. n == k) (keeps s) ∙ other in
        rw (other, there) (inl refl))
  ])
  | inr off ↦ rw off (elim (cases_Bool (s.shard == k)) [
    | inl here ↦ rw here (inl refl)
    | inr other ↦ rw other (marked_as shard k f ss keeps)
  ])
]

-- more than the low-water mark isn't marked once the rest is forgotten
forgotten : (m : Marks) (p : ℕ) → is_marked (marks m.low []) p ≡ true → is_marked m p ≡ true
forgotten m p on = elim (or_cases (nat_le p m.low) false on) [
  | inl below ↦ or_left (nat_le p m.low) (list_any (λ x. p == x) m.ahead) below
  | inr never ↦ absurd (cc)
]

-- a position that is marked once one was added was marked, or is that one
added : (m : Marks) (position p : ℕ) → is_marked (with_mark position m) p ≡ true → (is_marked m p ≡ true) ⊎ (p ≡ position)
added m position p on = elim (or_cases (is_marked m p) ((p == position) && nat_le position (m.low + 1024)) (sym ((mark_adds m position).marked p) ∙ on)) [
  | inl was ↦ inl was
  | inr new ↦ inr (eqb-true p position (and_parts (p == position) (nat_le position (m.low + 1024)) new).0)
]

-- up to a low-water mark alone
pub up_to : (low p : ℕ) → is_marked (marks low []) p ≡ true → p ≤ low
up_to low p on = elim (or_cases (nat_le p low) false on) [
  | inl below ↦ leb-true p low below
  | inr never ↦ absurd (cc)
]

module _ (tables : Tables) (region : ℕ) where
  -- what is served was marked by no more than the stores have
  abbrev Reached : List ServedShard → Type 0
  Reached served = (shard position : ℕ) → is_marked (marks_at shard served) position ≡ true → position ≤ store_length tables region shard

  reached_at : (shard : ℕ) (f : ServedShard → ServedShard) (served : List ServedShard) → KeepsShard f
      → ((t : ServedShard) (p : ℕ) → is_marked (f t).marks p ≡ true → (is_marked t.marks p ≡ true) ⊎ (p ≤ store_length tables region shard))
      → Reached served → Reached (changed_at shard f served)
  reached_at shard f served keeps only reached k p on = elim (marked_as shard k f served keeps) [
    | inl same ↦ reached k p (subst (λ m. is_marked m p ≡ true) same on)
    | inr changed ↦ elim (only changed.1 p (subst (λ m. is_marked m p ≡ true) changed.3 on)) [
      | inl was ↦ reached k p (subst (λ m. is_marked m p ≡ true) (sym changed.2) was)
      | inr within ↦ subst (λ n. p ≤ store_length tables region n) (sym changed.0) within
    ]
  ]

  -- a stage that leaves what is served
  so : (from to : Node) (served : List ServedShard) → to.served ≡ served → Reached served → HasReached tables region to
  so from to served same reached = subst Reached (sym same) reached

  same_served : (from to : Node) → to.served ≡ from.served → HasReached tables region from → HasReached tables region to
  same_served from to same reached = so from to from.served same reached

  meets : (shard : ℕ) (note : View) (n : Node) → HasReached tables region n → HasReached tables region (met shard note n)
  meets shard note n reached = reached_at shard (seeing note) n.served (λ s. refl) (λ t p on. inl on) reached

  marks_one : (shard position : ℕ) (served : List ServedShard) → position ≤ store_length tables region shard → Reached served
      → Reached (changed_at shard (marking position) served)
  marks_one shard position served within reached =
      reached_at shard (marking position) served (λ s. refl)
      (λ t p on. elim (added t.marks position p on) [
        | inl was ↦ inl was
        | inr is ↦ inr (omega (arith, is, within))
      ]) reached

  takes : (fill : SealedItem) (kept : Kept) (n : Node) → HasReached tables region n → HasReached tables region (took fill kept n)
  takes fill kept n reached =
      let mid : Node = if is_yes kept then with_item fill.key (item_of fill) n else n in
      meets (key_shard fill.key) fill.note mid (same_served n mid (keeps_served (is_yes kept)) reached)
    where
      keeps_served : (kept : Bool) → (if kept then with_item fill.key (item_of fill) n else n).served ≡ n.served
      keeps_served true = refl
      keeps_served false = refl

  ended : (ask : Option ℕ) (n : Node) → HasReached tables region n → HasReached tables region (with_ended_ask ask n)
  ended None n reached = reached
  ended (Some number) n reached = reached

  becomes : (to mid : Node) → to ≡ mid → HasReached tables region mid → HasReached tables region to
  becomes to mid same reached = subst (HasReached tables region) (sym same) reached

  caught : (shard : ℕ) (es : List Entry) (n : Node) → AllByRecursion (λ e. e.position ≤ store_length tables region shard) es → HasReached tables region n
      → HasReached tables region (caught_up shard es n)
  caught shard [] n within reached = reached
  caught shard (e ∷ es) n within reached =
      let once : Node = processed shard e.position (keys_of e) n in
      caught shard es once within.1 (marks_one shard e.position n.served within.0 reached)

  -- ---- each stage

  looks_reach : (key : Key) (look : Look) (ask : Option ℕ) (from to : Node) → AfterLook key look ask from to → HasReached tables region from
      → HasReached tables region to
  looks_reach key (Hit answer version) ask from to looks reached = same_served from to (ap (λ (n : Node). n.served) looks.1) reached
  looks_reach key Miss None from to looks reached = becomes to from looks.1 reached
  looks_reach key Miss (Some number) from to looks reached =
      so from to (changed_at (key_shard key) forgetting from.served) (ap (λ (n : Node). n.served) looks.2)
      (reached_at (key_shard key) forgetting from.served (λ s. refl) (λ t p on. inl (forgotten t.marks p on)) reached)

  copies : (fill : SealedItem) (kept : Kept) (yes : Bool) (n : Node) → HasReached tables region n
      → HasReached tables region (if yes then took fill kept n else n)
  copies fill kept true n reached = takes fill kept n reached
  copies fill kept false n reached = reached

  keeps_given : (from to : Node) (given : LeaderAnswer) → KeepsGiven from given to → HasReached tables region from → HasReached tables region to
  keeps_given from to (leader.Filled fill) keeps reached =
      becomes to (if is_yes keeps.0 then took fill keeps.0 from else from) keeps.2 (copies fill keeps.0 (is_yes keeps.0) from reached)
  keeps_given from to (leader.Past answer version total note) keeps reached = becomes to from keeps reached
  keeps_given from to (leader.Behind version) keeps reached = becomes to from keeps reached

  answers_reach : (types : EdgeTypes) (read : Wanted) (given : LeaderAnswer) (calls : StoreCalls) (from to : Node)
      → LeaderAnswers types read given calls from to → HasReached tables region from → HasReached tables region to
  answers_reach types read given calls from to does reached = elim does.answers [
    | inl own ↦ same_served from to (ap (λ (n : Node). n.served) own.node_is) reached
    | inr reads ↦ keeps_given from to given reads.keeps reached
  ]

  keeps_reach : (ask : Option ℕ) (fill : SealedItem) (kept : Kept) (from to : Node) → to ≡ took fill kept (with_ended_ask ask from)
      → HasReached tables region from → HasReached tables region to
  keeps_reach ask fill kept from to same reached =
      let mid : Node = with_ended_ask ask from in
      becomes to (took fill kept mid) same (takes fill kept mid (ended ask from reached))

  writes_reach : (types : EdgeTypes) (shard : ℕ) (entry : Option Entry) (note : View) (from to : Node) → TakesWritten types shard entry note from to
      → IfSome entry (λ e. e.position ≤ store_length tables region shard) → HasReached tables region from → HasReached tables region to
  writes_reach types shard None note from to takes_none within reached = becomes to from takes_none reached
  writes_reach types shard (Some e) note from to entry within reached =
      let mid : Node = met shard note from in
      so from to (changed_at shard (marking e.position) mid.served) (ap (λ (n : Node). n.served) entry.node_is)
      (marks_one shard e.position mid.served within (meets shard note from reached))

  evicts_reach : (key : Option Key) (held : Bool) (from to : Node) → Evicts key held from to → HasReached tables region from → HasReached tables region to
  evicts_reach (Some key) held from to does reached = same_served from to (ap (λ (n : Node). n.served) does.1) reached
  evicts_reach None held from to does reached = same_served from to (ap (λ (n : Node). n.served) does.1) reached

  delivers_reach : (m : SeenMaint) (from to : Node) → to ≡ delivered m from → m.position ≤ store_length tables region m.shard
      → HasReached tables region from → HasReached tables region to
  delivers_reach m from to same within reached =
      let mid : Node = met m.shard m.note from in
      becomes to (delivered m from) same (marks_one m.shard m.position mid.served within (meets m.shard m.note from reached))

  processes_reach : (shard : ℕ) (es : List Entry) (note : View) (from to : Node) → Processes shard es note from to
      → AllByRecursion (λ e. e.position ≤ store_length tables region shard) es → HasReached tables region from → HasReached tables region to
  processes_reach shard es note from to same within reached =
      let mid : Node = met shard note from in
      becomes to (caught_up shard es mid) same (caught shard es mid within (meets shard note from reached))

  -- ---- a node that begins anew

  begun_reach : (pens : Pens) (ss : List ServedShard) (lows : List ℕ) (notes : List View)
      → BeginEach pens (at_stores (region_tables true tables region)) ss lows notes
      → Reached (restarted ss lows notes)
  begun_reach pens [] [] [] each k p on = let none = up_to 0 p on in omega arith
  begun_reach pens [] [] (note ∷ notes) each k p on = absurd each
  begun_reach pens [] (low ∷ lows) notes each k p on = absurd each
  begun_reach pens (s ∷ ss) [] notes each k p on = absurd each
  begun_reach pens (s ∷ ss) (low ∷ lows) [] each k p on = absurd each
  begun_reach pens (s ∷ ss) (low ∷ lows) (note ∷ notes) each k p on = elim (cases_Bool (s.shard == k)) [
    | inl here ↦ (
        let below = up_to low p (rw here at on) in
        let low_is = each.0.low_is refl in
        let same : store_length tables region s.shard ≡ store_length tables region k = ap (store_length tables region) (eqb-true s.shard k here) in
        omega arith)
    | inr other ↦ begun_reach pens ss lows notes each.1 k p (rw other at on)
  ]

  -- at the marks that it had
  kept_reach : (pens : Pens) (ss : List ServedShard) (lows : List ℕ) (notes : List View) → BeginEach pens at_marks ss lows notes
      → (k p : ℕ) → is_marked (marks_at k (restarted ss lows notes)) p ≡ true → is_marked (marks_at k ss) p ≡ true
  kept_reach pens [] [] [] each k p on = on
  kept_reach pens [] [] (note ∷ notes) each k p on = absurd each
  kept_reach pens [] (low ∷ lows) notes each k p on = absurd each
  kept_reach pens (s ∷ ss) [] notes each k p on = absurd each
  kept_reach pens (s ∷ ss) (low ∷ lows) [] each k p on = absurd each
  kept_reach pens (s ∷ ss) (low ∷ lows) (note ∷ notes) each k p on = elim (cases_Bool (s.shard == k)) [
    | inl here ↦ (
        let low_is : low ≡ s.marks.low = each.0.low_is in
        rw here (forgotten s.marks p (subst (λ n. is_marked (marks n []) p ≡ true) low_is (rw here at on))))
    | inr other ↦ rw other (kept_reach pens ss lows notes each.1 k p (rw other at on))
  ]

  begun_ends : (pens : Pens) (ss : List ServedShard) (lows : List ℕ) (notes : List View)
      → BeginEach pens (at_stores (region_tables true tables region)) ss lows notes
      → (k : ℕ) (t : ServedShard) → served_at k (restarted ss lows notes) ≡ Some t → t.marks ≡ marks (store_length tables region k) []
  begun_ends pens [] [] [] each k t at = absurd (cc)
  begun_ends pens [] [] (note ∷ notes) each k t at = absurd each
  begun_ends pens [] (low ∷ lows) notes each k t at = absurd each
  begun_ends pens (s ∷ ss) [] notes each k t at = absurd each
  begun_ends pens (s ∷ ss) (low ∷ lows) [] each k t at = absurd each
  begun_ends pens (s ∷ ss) (low ∷ lows) (note ∷ notes) each k t at = elim (cases_Bool (s.shard == k)) [
    | inl here ↦ (
        let first : restarting low note s ≡ t = one_some (restarting low note s) t (rw here at at) in
        ap (λ (u : ServedShard). u.marks) (sym first) ∙ ap (λ n. marks n []) (each.0.low_is refl ∙ ap (store_length tables region) (eqb-true s.shard k here)))
    | inr other ↦ begun_ends pens ss lows notes each.1 k t (rw other at at)
  ]

  grows_reach : (later : Tables) (node : Node) → LogsGrow true tables later → HasReached tables region node → HasReached later region node
  grows_reach later node grow reached shard p on =
      let was = reached shard p on in
      let longer = begins-length (tables (region_store region shard)).log (later (region_store region shard)).log
      (grow.begins refl (region_store region shard)) in
      omega arith

  pub nodes_reach : NodesReachNoFurther tables region
  nodes_reach = record {
    grows = grows_reach;
    looks = λ types read look ask old new looks. looks_reach (query_key read.query) look ask old.node new.node looks.node;
    answers = answers_reach;
    keeps = λ types read ask fill answer kept old new keeps.
        keeps_reach ask fill kept old.node new.node (ap (λ (f : FollowerState). f.node) keeps.node_is);
    ends = λ ask old new ends reached.
        becomes new.node (with_ended_ask ask old.node) (ap (λ (f : FollowerState). f.node) ends) (ended ask old.node reached);
    applies = λ types shard entry note old new applies reached.
        so old.node new.node (met shard note old.node).served (ap (λ (n : Node). n.served) applies.node.node_is) (meets shard note old.node reached);
    evicts = evicts_reach;
    begins_at_marks = λ pens old new begins reached.
        so old new (restarted old.served begins.lows begins.notes) (ap (λ (n : Node). n.served) begins.node_is)
        (λ k p on. reached k p (kept_reach pens old.served begins.lows begins.notes begins.each k p on));
    writes = writes_reach;
    delivers = λ m dropped old new delivers. delivers_reach m old new delivers.node_is;
    processes = processes_reach;
    begins_at_stores = λ pens old new begins.
        so old new (restarted old.served begins.lows begins.notes) (ap (λ (n : Node). n.served) begins.node_is)
        (begun_reach pens old.served begins.lows begins.notes begins.each);
    comes_up = λ pens old new begins.
        subst (λ (n : Node). IsAtStore tables region n) (sym begins.node_is)
        (begun_ends pens old.served begins.lows begins.notes begins.each);
  }

-- ---- until a store grows

-- marks that rose to the end of a log, past which nothing is marked
marks_end : (m : Marks) (count : ℕ) → count ≤ m.low → IsWindow m → ((p : ℕ) → is_marked m p ≡ true → p ≤ count) → m ≡ marks count []
marks_end m count reached window within =
    let most : m.low ≤ count = within m.low (low_is_marked m) in
    let low : m.low ≡ count = omega arith in
    let none : m.ahead ≡ [] = none_ahead m.ahead refl in
    ap (λ n. marks n m.ahead) low ∙ ap (marks count) none
  where
    none_ahead : (ahead : List ℕ) → m.ahead ≡ ahead → m.ahead ≡ []
    none_ahead [] is = is
    none_ahead (q ∷ qs) is =
        let rising : IsRising ((m.low + 1) ∷ q ∷ qs) = subst (λ xs. IsRising ((m.low + 1) ∷ xs)) is window.rising in
        let first : list_any (λ x. q == x) (q ∷ qs) ≡ true = rw (eq-eqb q q refl) refl in
        let on : is_marked m q ≡ true =
        or_right (nat_le q m.low) (list_any (λ x. q == x) m.ahead) (subst (λ xs. list_any (λ x. q == x) xs ≡ true) (sym is) first) in
        let far = within q on in
        let next = rising.0 in
        absurd (omega arith)

stays_at : (region : ℕ) (before after : Tables) (old new : Node) → MarksGoOn old new → AreTold old.served → HasReached after region new
    → ((shard : ℕ) → store_length after region shard ≡ store_length before region shard) → IsAtStore before region old → IsAtStore after region new
stays_at region before after old new goes told reached same ends shard t at = by_old (served_at shard old.served) refl
  where
    by_old : (o : Option ServedShard) → served_at shard old.served ≡ o → t.marks ≡ marks (store_length after region shard) []
    by_old None none =
        absurd (let log : Some t.view.log ≡ None = rw at at (rw none at (goes shard).log) in cc)
    by_old (Some u) was =
        let rise : MarksRise u.view.log.told u.marks t.marks = rw at at (rw was at (goes shard).marks) in
        let end : u.marks ≡ marks (store_length before region shard) [] = ends shard u was in
        let low : u.marks.low ≡ store_length before region shard = ap (λ (m : Marks). m.low) end in
        let up : u.marks.low ≤ t.marks.low = rise.low (told shard u was) in
        let count : store_length after region shard ≡ store_length before region shard = same shard in
        let window : IsWindow t.marks = rise.window (subst IsWindow (sym end) (window_none (store_length before region shard))) in
        marks_end t.marks (store_length after region shard) (omega arith) window (λ p on. reached shard p (rw at on))

pub nodes_stay_at : (region : ℕ) → NodesStayAtStores region
nodes_stay_at region = record { stays = stays_at region }

-- ---- what is told

module _ (tells : Bool) (s : Settings) (tables : Tables) (stores : List Store) where
  notified_by_store : (shard : ℕ) → AreStoresOf tells s tables stores → (pens_of stores shard).log.told ≡ true → tells ≡ true
  notified_by_store shard are told = by_master (master_in stores shard) refl told
    where
      by_master : (o : Option Store) → master_in stores shard ≡ o → (view_or_none o).log.told ≡ true → tells ≡ true
      by_master None none told = absurd (cc)
      by_master (Some store) found told =
          let there = found_at (is_master_for shard) stores store found in
          sym (are.seen there.0 store there.1).told_is ∙ told

  node_told : (name : NodeName) (node : Node) → AreStoresOf tells s tables stores → IsNodeOf s (pens_of stores) name node → AreToldAs tells node.served
  node_told name node are is shard told = by_served (served_at shard node.served) refl (by_log (served_at shard node.served) refl told)
    where
      by_log : (o : Option ServedShard) → served_at shard node.served ≡ o → is_told (log_at shard node.served) ≡ true
          → (t : ServedShard) × (served_at shard node.served ≡ Some t) × (t.view.log.told ≡ true)
      by_log None none is = absurd (let never : false ≡ true = rw none at is in cc)
      by_log (Some t) at is = (t, at, rw at at is)

      by_served : (o : Option ServedShard) → served_at shard node.served ≡ o
          → (t : ServedShard) × (served_at shard node.served ≡ Some t) × (t.view.log.told ≡ true) → tells ≡ true
      by_served o same found =
          let seen = served-at (pens_of stores) shard node.served found.0 is.seen found.1 in
          notified_by_store shard are (ap (λ l. l.told) seen.log_is ∙ found.2)

  pub nodes_told : NodesAreToldAs tells s tables stores
  nodes_told = record { told = node_told }
