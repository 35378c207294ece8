-- What keeps a node true of its logs.
use Rattle.std.proofs.Common.{◌≡◌, ℕ, zero, suc, ◌+◌, ◌<◌, ◌≤◌, true, false, [], length, Some, None, refl, sym, ◌∙◌, ap, subst, inl, inr, ◌⊎◌, arith, get_or}
use Rattle.std.proofs.lemmas.Bool.{and_parts, eqb-true, leb-true, or_cases}
use Rattle.std.proofs.lemmas.Option.{slice_get_cases}
use Rattle.std.specs.List.{AllByRecursion}
use Rattle.std.specs.Prelude.{◌==◌, ◌&&◌, nat_le, slice_get}
use Rattle.tao_base.specs.declared.entry.Entry.{Entry}
use Rattle.tao_base.specs.declared.id.Key.{Key}
use Rattle.graph_model.proofs.Later.{all_map as all_weaker}
use Rattle.graph_model.proofs.Members.{IsIn, all_from_in, all_in}
use Rattle.tao_base.specs.Keys.{key_shard}
use Rattle.shard_log.proofs.Beginnings.{begins-length}
use Rattle.shard_log.proofs.GrowthLemmas.{entry_stays, versions_stay}
use Rattle.shard_log.specs.View.{View, Grows, longer_view}
use Rattle.low_water.proofs.AddedMarks.{mark_adds}
use Rattle.low_water.specs.Marks.{Marks, is_marked, marks, with_mark}
use Rattle.ask_table.specs.declared.ask.Ask.{Ask}
use Rattle.ask_table.specs.Asks.{Asks}
use Rattle.cache_items.proofs.sealed_item_lemmas.FillLemmas.{content_stays}
use Rattle.cache_node.proofs.ServedAt.{KeepsLog, alike_stays, changed_back, changed_cases, changed_served, told_before}
use Rattle.served_shards.specs.Meetings.{Meets, MeetsAt}
use Rattle.cache_items.specs.Node.{Items, Node, item_at, met}
use Rattle.served_shards.specs.Served.{ServedShard, changed_at, forgetting, marking, seeing, served_at}
use Rattle.cache_node.specs.True.{AreTold, IsServed, IsTrueAsk, IsTrueAskOf, IsTrueItem, IsTrueNode, IsTrueOfLogs, IsTrueServed, touched}
use Rattle.cache_node.specs.Within.{AreFewer}
use Rattle.cache_items.specs.declared.item.Item.{Item}

-- what is had of a shard after a change of it is true where it was
pub record Step (n : Node) (shard : ℕ) (s after : ServedShard) : Type 0 where
  pub served : IsTrueServed s → IsTrueServed after
  pub items : (key : Key) (item : Item) → key_shard key ≡ shard → item_at n.items key ≡ Some item → IsTrueServed s → IsTrueItem s key item
      → IsTrueItem after key item
  pub asks : (a : Ask) → key_shard a.key ≡ shard → IsIn a n.asks.asks → IsTrueServed s → IsTrueAsk s a → IsTrueAsk after a

pub change_served : (n : Node) (shard : ℕ) (f : ServedShard → ServedShard) → KeepsLog f → IsTrueNode n
    → ((s : ServedShard) → served_at shard n.served ≡ Some s → s.view.log.told ≡ true → Step n shard s (f s))
    → IsTrueNode (record n { served = changed_at shard f n.served })
change_served n shard f keeps is step = record {
  items_here = λ key item h. changed_served shard (key_shard key) f n.served keeps (is.items_here key item h);
  asks_here = all_weaker (λ a. IsServed n.served (key_shard a.key)) (λ a. IsServed (changed_at shard f n.served) (key_shard a.key))
      (λ a h. changed_served shard (key_shard a.key) f n.served keeps h) n.asks.asks is.asks_here;
  alike = alike_stays n.served (changed_at shard f n.served) (λ k s at. changed_back shard k f n.served s keeps at) is.alike;
  told = λ told.
      let before = told_before shard f n.served keeps told in
      let was = is.told before in
      record {
        served = λ k after h. elim (changed_cases shard k f n.served after keeps h) [
          | inl c ↦ subst IsTrueServed (sym c.is) ((step c.before c.was (before shard c.before c.was)).served (was.served shard c.before c.was))
          | inr same ↦ was.served k after same
        ];
        items = λ key item after h at. elim (changed_cases shard (key_shard key) f n.served after keeps at) [
          | inl c ↦ (
              let there : served_at (key_shard key) n.served ≡ Some c.before = ap (λ k. served_at k n.served) c.here ∙ c.was in
              subst (λ s. IsTrueItem s key item) (sym c.is)
              ((step c.before c.was (before shard c.before c.was)).items key item c.here h (was.served shard c.before c.was)
              (was.items key item c.before h there)))
          | inr same ↦ was.items key item after h same
        ];
        asks = all_from_in (IsTrueAskOf (changed_at shard f n.served)) n.asks.asks
            (λ a here after at. elim (changed_cases shard (key_shard a.key) f n.served after keeps at) [
              | inl c ↦ (
                  let there : served_at (key_shard a.key) n.served ≡ Some c.before = ap (λ k. served_at k n.served) c.here ∙ c.was in
                  subst (λ s. IsTrueAsk s a) (sym c.is)
                  ((step c.before c.was (before shard c.before c.was)).asks a c.here here (was.served shard c.before c.was)
                  (all_in (IsTrueAskOf n.served) n.asks.asks a was.asks here c.before there)))
              | inr same ↦ all_in (IsTrueAskOf n.served) n.asks.asks a was.asks here after same
            ]);
      };
}

-- a position within a view touches a key in what it grew into as it does in it
pub touched_back : (v w : View) (p : ℕ) (key : Key) (x : ℕ) → Grows v w → p ≤ length v.entries → touched w.entries p key ≡ Some x
    → touched v.entries p key ≡ Some x
touched_back v w zero key x grows le h = h
touched_back v w (suc m) key x grows le h = by_place (slice_get_cases v.entries m).1
  where
    by_place : ((e : Entry) × (m < length v.entries) × (slice_get v.entries m ≡ Some e) × (get_or v.entries m e ≡ e))
        ⊎ ((length v.entries ≤ m) × (slice_get v.entries m ≡ None)) → touched v.entries (suc m) key ≡ Some x
    by_place (inr past) = absurd (let out = past.0 in omega arith)
    by_place (inl here) =
        let there : slice_get w.entries m ≡ Some here.0 = entry_stays v w (suc m) here.0 grows here.2 in
        rw here.2 (rw there at h)

pub seeing_keeps : (note : View) → KeepsLog (seeing note)
seeing_keeps note = record { shard = λ s. refl; log = λ s. refl }

meets_step : (n : Node) (shard : ℕ) (note : View) (s : ServedShard) → Meets s note → s.view.log.told ≡ true → Step n shard s (seeing note s)
meets_step n shard note s meets told =
    let v : View = s.view in
    let w : View = longer_view s.view note in
    record {
      served = λ is. record {
        sound = meets.sound told;
        within = λ p on. let le = is.within p on in let longer = begins-length v.entries w.entries meets.grows.begins in omega arith;
      };
      items = λ key item here h served is. record {
        exact = content_stays v w key item.version item.content meets.grows (λ on. is.exact) told;
        reaches = λ p x on at. is.reaches p x on (touched_back v w p key x meets.grows (served.within p on) at);
      };
      asks = λ a here in_asks served is. record {
        begun = is.begun;
        known = let le = is.known in let rises = versions_stay.version_rises v w a.key meets.grows in omega arith;
        since = λ p x on above at. is.since p x on above (touched_back v w p a.key x meets.grows (served.within p on) at);
      };
    }

-- a note was met
pub met_is_true : (n : Node) (shard : ℕ) (note : View) → IsTrueNode n → MeetsAt shard note n.served → IsTrueNode (met shard note n)
met_is_true n shard note is meets = change_served n shard (seeing note) (seeing_keeps note) is (λ s at told. meets_step n shard note s (meets.meets s at) told)

pub forgetting_keeps : KeepsLog forgetting
forgetting_keeps = record { shard = λ s. refl; log = λ s. refl }

-- forgetting what is ahead leaves what is marked up to the low-water mark alone
pub forgotten : (m : Marks) (q : ℕ) → is_marked (marks m.low []) q ≡ true → (q ≤ m.low) × (is_marked m q ≡ true)
forgotten m q on = elim (or_cases (nat_le q m.low) false on) [
  | inl low ↦ (leb-true q m.low low, rw low refl)
  | inr never ↦ absurd (cc)
]

forgetting_step : (n : Node) (shard : ℕ) (s : ServedShard) → Step n shard s (forgetting s)
forgetting_step n shard s = record {
  served = λ is. record { sound = is.sound; within = λ p on. is.within p (forgotten s.marks p on).1 };
  items = λ key item here h served is. record { exact = is.exact; reaches = λ p x on at. is.reaches p x (forgotten s.marks p on).1 at };
  asks = λ a here in_asks served is. record { begun = is.begun; known = is.known; since = λ p x on above at. is.since p x (forgotten s.marks p on).1 above at };
}

-- what was marked ahead was forgotten
pub forgot_is_true : (n : Node) (shard : ℕ) → IsTrueNode n → IsTrueNode (record n { served = changed_at shard forgetting n.served })
forgot_is_true n shard is = change_served n shard forgetting forgetting_keeps is (λ s at told. forgetting_step n shard s)

pub marking_keeps : (position : ℕ) → KeepsLog (marking position)
marking_keeps position = record { shard = λ s. refl; log = λ s. refl }

-- a position is marked where it was, or is the one
marked_by : (m : Marks) (position q : ℕ) → is_marked (with_mark position m) q ≡ true → (is_marked m q ≡ true) ⊎ (q ≡ position)
marked_by m position q on = elim (or_cases (is_marked m q) (q == position && nat_le position (m.low + 1024)) (sym ((mark_adds m position).marked q) ∙ on)) [
  | inl was ↦ inl was
  | inr one ↦ inr (eqb-true q position (and_parts (q == position) (nat_le position (m.low + 1024)) one).0)
]

-- what a position has to say before it is marked: it is within the log, and items and asks have its touches
pub record CanMark (n : Node) (shard position : ℕ) (s : ServedShard) : Type 0 where
  pub within : position ≤ length s.view.entries
  pub items : (key : Key) (item : Item) (v : ℕ) → key_shard key ≡ shard → item_at n.items key ≡ Some item → touched s.view.entries position key ≡ Some v
      → v ≤ item.version
  pub asks : (a : Ask) (v : ℕ) → key_shard a.key ≡ shard → IsIn a n.asks.asks → touched s.view.entries position a.key ≡ Some v → v ≤ a.floor

marking_step : (n : Node) (shard position : ℕ) (s : ServedShard) → CanMark n shard position s → Step n shard s (marking position s)
marking_step n shard position s can = record {
  served = λ is. record {
    sound = is.sound;
    within = λ p on. elim (marked_by s.marks position p on) [
      | inl was ↦ is.within p was
      | inr here ↦ (let le = can.within in omega arith)
    ];
  };
  items = λ key item here h served is. record {
    exact = is.exact;
    reaches = λ p x on at. elim (marked_by s.marks position p on) [
      | inl was ↦ is.reaches p x was at
      | inr now ↦ can.items key item x here h (subst (λ q. touched s.view.entries q key ≡ Some x) now at)
    ];
  };
  asks = λ a here in_asks served is. record {
    begun = let rises = (mark_adds s.marks position).later in let begun = is.begun in omega arith;
    known = is.known;
    since = λ p x on above at. elim (marked_by s.marks position p on) [
      | inl was ↦ is.since p x was above at
      | inr now ↦ can.asks a x here in_asks (subst (λ q. touched s.view.entries q a.key ≡ Some x) now at)
    ];
  };
}

-- a position was marked
pub marked_is_true : (n : Node) (shard position : ℕ) → IsTrueNode n
    → ((s : ServedShard) → served_at shard n.served ≡ Some s → s.view.log.told ≡ true → CanMark n shard position s)
    → IsTrueNode (record n { served = changed_at shard (marking position) n.served })
marked_is_true n shard position is can =
    change_served n shard (marking position) (marking_keeps position) is (λ s at told. marking_step n shard position s (can s at told))

-- items were dropped, or changed their order
pub fewer_is_true : (n : Node) (items : Items) → IsTrueNode n → AreFewer n.items items → IsTrueNode (record n { items = items })
fewer_is_true n items is fewer = record {
  items_here = λ key item h. is.items_here key item (fewer key item h);
  asks_here = is.asks_here;
  alike = is.alike;
  told = λ told. let was = is.told told in record {
    served = was.served;
    items = λ key item s h at. was.items key item s (fewer key item h) at;
    asks = was.asks;
  };
}

-- an item was added
pub added_is_true : (n : Node) (items : Items) (key : Key) (new : Item) → IsTrueNode n
    → ((q : Key) (item : Item) → item_at items q ≡ Some item → ((q ≡ key) × (item ≡ new)) ⊎ (item_at n.items q ≡ Some item))
    → IsServed n.served (key_shard key)
    → ((s : ServedShard) → AreTold n.served → IsTrueOfLogs n → served_at (key_shard key) n.served ≡ Some s → IsTrueItem s key new)
    → IsTrueNode (record n { items = items })
added_is_true n items key new is cases served true_item = record {
  items_here = λ q item h. elim (cases q item h) [
    | inl here ↦ subst (λ k. IsServed n.served (key_shard k)) (sym here.0) served
    | inr was ↦ is.items_here q item was
  ];
  asks_here = is.asks_here;
  alike = is.alike;
  told = λ told. let was = is.told told in record {
    served = was.served;
    items = λ q item s h at. elim (cases q item h) [
      | inl here ↦ (
          let there : served_at (key_shard key) n.served ≡ Some s = subst (λ k. served_at (key_shard k) n.served ≡ Some s) here.0 at in
          subst (λ k. IsTrueItem s k item) (sym here.0) (subst (IsTrueItem s key) (sym here.1) (true_item s told was there)))
      | inr before ↦ was.items q item s before at
    ];
    asks = was.asks;
  };
}

-- asks were ended, begun or raised
pub asks_are_true : (n : Node) (asks : Asks) → IsTrueNode n → AllByRecursion (λ a. IsServed n.served (key_shard a.key)) asks.asks
    → (AreTold n.served → IsTrueOfLogs n → AllByRecursion (IsTrueAskOf n.served) asks.asks) → IsTrueNode (record n { asks = asks })
asks_are_true n asks is here true_asks = record {
  items_here = is.items_here;
  asks_here = here;
  alike = is.alike;
  told = λ told. let was = is.told told in record { served = was.served; items = was.items; asks = true_asks told was };
}
