-- A node that takes all changesets of an entry stays true of its logs, whether it marks the entry's position or not.
use Rattle.std.proofs.Common.{◌≡◌, ℕ, ◌+◌, ◌-◌, ◌<◌, ◌≤◌, ◌^◌, true, cond, List, [], ◌∷◌, length, map, Option, Some, None, refl, sym, ◌∙◌, ap, subst, inl, inr}
use Rattle.std.proofs.Common.{arith}
use Rattle.std.proofs.lemmas.Bool.{both_ways, cases_Bool}
use Rattle.std.proofs.lemmas.List.Elements.{All-contains, All-contains_itself, All-weaker, recursion_from_All}
use Rattle.std.proofs.lemmas.List.Sums.{count_by-le-length}
use Rattle.std.proofs.lemmas.Map.{keys-set_value, lookup-set_value}
use Rattle.std.specs.List.{AllByRecursion, IsDistinct}
use Rattle.std.specs.Map.{keys_of as keys_held, set_value}
use Rattle.std.specs.Option.{option_map}
use Rattle.std.specs.Prelude.{All, Contains, IsSome}
use Rattle.tao_base.specs.EdgeTypes.{EdgeTypes}
use Rattle.tao_base.specs.declared.entry.Entry.{Entry}
use Rattle.tao_base.specs.declared.entry.Touch.{Touch}
use Rattle.tao_base.specs.declared.id.Key.{Key}
use Rattle.tao_base.specs.Keys.{key_shard, same_key}
use Rattle.graph_model.proofs.Keys.{same_key-same, same_key-self}
use Rattle.graph_model.specs.Log.{IsTouchOf, entry_at, touches_key, version}
use Rattle.graph_model.specs.Soundness.{IsSound}
use Rattle.graph_model.specs.Told.{WhereTold}
use Rattle.shard_log.specs.View.{Grows, LogName, View, most_entries}
use Rattle.cache_items.proofs.changeset_lemmas.ChangeLemmas.{is_one_touch, touch_at, touches_stay}
use Rattle.cache_items.specs.changeset.Changes.{SeenChange, change_by, own_touch}
use Rattle.cache_items.specs.maint_msg.KeyVersions.{key_version, keys_of}
use Rattle.cache_items.specs.maint_msg.Maints.{NamesEntry}
use Rattle.served_shards.specs.Meetings.{MeetsAt}
use Rattle.served_shards.specs.Served.{ServedShard, log_at, seeing, served_at}
use Rattle.cache_items.specs.declared.item.Item.{Item}
use Rattle.cache_items.specs.Node.{Items, Node, item_at, met, without}
use Rattle.tao_schema.specs.Schema.{key_bound}
use Rattle.cache_items.specs.Taken.{TakesChange, changed_item}
use Rattle.cache_items.specs.TakenEntry.{TakesTouches, with_applied, with_entry}
use Rattle.cache_node.proofs.Changing.{touch_is_true, touch_reached}
use Rattle.cache_node.proofs.Keys.{distinct_without, held_fewer, held_gone, key_laws}
use Rattle.cache_node.proofs.Nodes.{served_of_log}
use Rattle.cache_node.proofs.Processing.{entry_named, processed_with, raised_with}
use Rattle.cache_node.proofs.ServedAt.{changed_there}
use Rattle.cache_node.proofs.Truth.{met_is_true, seeing_keeps}
use Rattle.cache_node.specs.True.{AreTold, IsTrueNode, version_among}

-- an item that is held after a changeset was held before it, at no greater version, and has the changeset's version where it is of its key
record Rises (old : Items) (c : SeenChange) (key : Key) (item : Item) : Type 0 where
  was : Item
  held : item_at old key ≡ Some was
  rises : was.version ≤ item.version
  reaches : same_key key c.key ≡ true → c.after ≤ item.version

-- what is held after a value was set at a key that is held
after_set : (items : Items) (key : Key) (new : Item) (q : Key) → IsSome (item_at items key)
    → item_at (set_value (same_key key) items new) q ≡ cond (same_key key q) (Some new) (item_at items q)
after_set items key new q some = lookup-set_value key_laws (same_key key) (λ x y h. ap (λ k. same_key k y) (same_key-same key x h)) q new items some

-- where nothing changed
same_rises : (old : Items) (c : SeenChange) (key : Key) (item : Item) → ((other : Item) → item_at old c.key ≡ Some other → c.after ≤ other.version)
    → item_at old key ≡ Some item → Rises old c key item
same_rises old c key item high held =
    record {
      was = item;
      held = held;
      rises = omega arith;
      reaches = λ on. high item (subst (λ k. item_at old k ≡ Some item) (same_key-same key c.key on) held);
    }

-- where the item of the key took the change
set_rises : (old : Items) (c : SeenChange) (was new : Item) (key : Key) (item : Item) → item_at old c.key ≡ Some was → was.version ≤ c.after
    → new.version ≡ c.after
    → item_at (set_value (same_key c.key) old new) key ≡ Some item → Rises old c key item
set_rises old c was new key item some up version h =
    let found : cond (same_key c.key key) (Some new) (item_at old key) ≡ Some item = sym (after_set old c.key new key (rw some refl)) ∙ h in
    elim (cases_Bool (same_key c.key key)) [
      | inl on ↦ (
          let e : Some new ≡ Some item = rw on at found in
          let same : new ≡ item = cc in
          let high : item.version ≡ c.after = ap (λ (i : Item). i.version) (sym same) ∙ version in
          record {
            was = was;
            held = subst (λ k. item_at old k ≡ Some was) (same_key-same c.key key on) some;
            rises = omega arith;
            reaches = λ same. omega arith;
          })
      | inr off ↦ record {
        was = item;
        held = rw off at found;
        rises = omega arith;
        reaches = λ on. absurd (both_ways (same_key c.key key) off (subst (λ k. same_key k key ≡ true) (same_key-same key c.key on) (same_key-self key)));
      }
    ]

change_rises : (bound : ℕ) (old new : Items) (c : SeenChange) (key : Key) (item : Item) → IsDistinct same_key (keys_held old) → c.after ≡ c.before + 1
    → TakesChange bound (item_at old c.key) c old new
    → item_at new key ≡ Some item → Rises old c key item
change_rises bound old new c key item distinct next takes h = by_item (item_at old c.key) refl takes
  where
    by_item : (o : Option Item) → item_at old c.key ≡ o → TakesChange bound o c old new → Rises old c key item
    by_item None none same =
        same_rises old c key item (λ other is. absurd (let e : None ≡ Some other = sym none ∙ is in cc)) (subst (λ xs. item_at xs key ≡ Some item) same h)
    by_item (Some was) some (inl stays) =
        same_rises old c key item (λ other is. (let e : Some was ≡ Some other = sym some ∙ is in let i : was ≡ other = cc in subst (λ x. c.after ≤ x.version) i
        stays.0))
        (subst (λ xs. item_at xs key ≡ Some item) stays.1 h)
    by_item (Some was) some (inr (inr goes)) =
        let left : item_at (without c.key old) key ≡ Some item = subst (λ xs. item_at xs key ≡ Some item) goes.1 h in
        record {
          was = item;
          held = held_fewer c.key key old item distinct left;
          rises = omega arith;
          reaches = λ on. absurd (held_gone c.key key old item distinct on left);
        }
    by_item (Some was) some (inr (inl takes)) =
        set_rises old c was (changed_item was c.change c.after bound) key item some (let same = takes.0 in omega arith) refl
        (subst (λ xs. item_at xs key ≡ Some item) takes.1 h)

-- no key is held twice after a changeset
pub distinct_change : (bound : ℕ) (old new : Items) (c : SeenChange) → IsDistinct same_key (keys_held old) → TakesChange bound (item_at old c.key) c old new
    → IsDistinct same_key (keys_held new)
distinct_change bound old new c distinct takes = by_item (item_at old c.key) takes
  where
    by_item : (o : Option Item) → TakesChange bound o c old new → IsDistinct same_key (keys_held new)
    by_item None same = subst (λ xs. IsDistinct same_key (keys_held xs)) (sym same) distinct
    by_item (Some was) (inl stays) = subst (λ xs. IsDistinct same_key (keys_held xs)) (sym stays.1) distinct
    by_item (Some was) (inr (inr goes)) = subst (λ xs. IsDistinct same_key (keys_held xs)) (sym goes.1) (distinct_without (same_key c.key) old distinct)
    by_item (Some was) (inr (inl takes)) =
        subst (λ xs. IsDistinct same_key (keys_held xs)) (sym takes.1)
        (subst (IsDistinct same_key) (sym (keys-set_value (same_key c.key) old (changed_item was c.change c.after bound))) distinct)

-- an item that is held after the changesets of some touches was held before, at no greater version, and has at least the version that is named for its key
record RisesBy (old : Items) (ts : List Touch) (key : Key) (item : Item) : Type 0 where
  was : Item
  held : item_at old key ≡ Some was
  rises : was.version ≤ item.version
  reaches : (v : ℕ) → version_among (map key_version ts) key ≡ Some v → v ≤ item.version

touches_rise : (types : EdgeTypes) (note : View) (ts : List Touch) (old new : Items) (key : Key) (item : Item) → IsDistinct same_key (keys_held old)
    → TakesTouches types note ts old new
    → item_at new key ≡ Some item → RisesBy old ts key item
touches_rise types note [] old new key item distinct same h =
    record { was = item; held = subst (λ xs. item_at xs key ≡ Some item) same h; rises = omega arith; reaches = λ v none. absurd (cc) }
touches_rise types note (t ∷ ts) old new key item distinct takes h =
    let c : SeenChange = change_by t note in
    let bound = key_bound types t.key in
    let later = touches_rise types note ts takes.0 new key item (distinct_change bound old takes.0 c distinct takes.1) takes.2 h in
    let first = change_rises bound old takes.0 c key later.was distinct refl takes.1 later.held in
    record {
      was = first.was;
      held = first.held;
      rises = let a = first.rises in let b = later.rises in omega arith;
      reaches = λ v at. elim (cases_Bool (same_key key t.key)) [
        | inl on ↦ (
            let e : Some t.version ≡ Some v = rw on at at in
            let i : t.version ≡ v = cc in
            let a = first.reaches on in let b = later.rises in omega arith)
        | inr off ↦ later.reaches v (rw off at at)
      ];
    }

-- a touch that each served log of its key's shard has, whose version has 64 bits
abbrev IsSeenBy : View → List ServedShard → Touch → Type 0
IsSeenBy note served t =
    (s : ServedShard) → AreTold served → served_at (key_shard t.key) served ≡ Some s → IsTouchOf s.view.entries (own_touch (change_by t note))
    × ((change_by t note).after < 2 ^ 64)

-- the items took the changesets of some touches
touches_are_true : (types : EdgeTypes) (note : View) (ts : List Touch) (n : Node) (items : Items) → IsDistinct same_key (keys_held n.items) → IsTrueNode n
    → AllByRecursion (IsSeenBy note n.served) ts → TakesTouches types note ts n.items items → IsTrueNode (record n { items = items })
touches_are_true types note [] n items distinct is seen same = subst (λ xs. IsTrueNode (record n { items = xs })) (sym same) is
touches_are_true types note (t ∷ ts) n items distinct is seen takes =
    let c : SeenChange = change_by t note in
    let bound = key_bound types t.key in
    let one = touch_is_true n c bound takes.0 distinct is refl seen.0 takes.1 in
    touches_are_true types note ts (record n { items = takes.0 }) items (distinct_change bound n.items takes.0 c distinct takes.1) one seen.1 takes.2

-- the touches of an entry that a note has seen
touches_seen : (shard : ℕ) (e : Entry) (note : View) (m : List ServedShard) (s : ServedShard) → served_at shard m ≡ Some s → Grows note s.view
    → (AreTold m → note.log.told ≡ true)
    → length note.entries ≤ most_entries → WhereTold note.log.told (IsSound note.entries) → WhereTold note.log.told (entry_at note.entries e.position ≡ Some e)
    → WhereTold note.log.told (All (λ t. key_shard t.key ≡ shard) e.touches) → AllByRecursion (IsSeenBy note m) e.touches
touches_seen shard e note m s at grows on few sound stands here =
    recursion_from_All (IsSeenBy note m) e.touches
    (All-weaker (Contains e.touches) (IsSeenBy note m) (λ t in_touches. seen t in_touches) e.touches (All-contains_itself e.touches))
  where
    seen : (t : Touch) → Contains e.touches t → IsSeenBy note m t
    seen t in_touches other told there =
        let is = on told in
        let one = is_one_touch note t (t.version - 1) t.change refl refl sound (λ told. touch_at note.entries e.position e t (stands told) in_touches) in
        let touch = one.touched is in
        let on_shard = All-contains (λ (t : Touch). key_shard t.key ≡ shard) e.touches t (here is) in_touches in
        let found : Some s ≡ Some other = sym at ∙ (ap (λ k. served_at k m) (sym on_shard) ∙ there) in
        let same : s ≡ other = cc in
        let reached = touch_reached note.entries (own_touch (change_by t note)) (sound is) touch in
        let within = count_by-le-length (touches_key t.key) note.entries in (
          subst (λ (o : ServedShard). IsTouchOf o.view.entries (own_touch (change_by t note))) same
              (touches_stay.stays note s.view (own_touch (change_by t note)) grows (λ told. touch) (ap (λ (l : LogName). l.told) grows.log_is ∙ is)),
          omega arith,
        )

-- a node met the note of an entry that its log has, and its items took the changesets of the entry
module _ (types : EdgeTypes) (old new : Node) (shard : ℕ) (e : Entry) (note : View) (distinct : IsDistinct same_key (keys_held old.items)) (is : IsTrueNode old)
    (log : log_at shard old.served ≡ Some note.log) (few : length note.entries ≤ most_entries) (sound : WhereTold note.log.told (IsSound note.entries))
    (stands : WhereTold note.log.told (entry_at note.entries e.position ≡ Some e))
    (here : WhereTold note.log.told (All (λ t. key_shard t.key ≡ shard) e.touches))
    (meets : MeetsAt shard note old.served) (takes : TakesTouches types note e.touches old.items new.items) where
  -- what was had of the shard
  was : (s : ServedShard) × (served_at shard old.served ≡ Some s) × (s.view.log ≡ note.log)
  was = served_of_log old.served shard note.log log

  -- what is had of it now
  abbrev seen_shard : ServedShard
  seen_shard = seeing note was.0

  there : served_at shard (met shard note old).served ≡ Some seen_shard
  there = changed_there shard (seeing note) (seeing_keeps note).shard old.served ∙ ap (option_map (seeing note)) was.1

  grows : Grows note seen_shard.view
  grows = (meets.meets was.0 was.1).from_note

  taken : IsTrueNode (record (met shard note old) { items = new.items })
  taken =
      let on : AreTold (met shard note old).served → note.log.told ≡ true = λ told. ap (λ (l : LogName). l.told) (sym was.2) ∙ told shard seen_shard there in
      let seen = touches_seen shard e note (met shard note old).served seen_shard there grows on few sound stands here in
      touches_are_true types note e.touches (met shard note old) new.items distinct (met_is_true old shard note is meets) seen takes

  named : seen_shard.view.log.told ≡ true → NamesEntry seen_shard.view.entries shard e.position (keys_of e)
  named told =
      let is_told : note.log.told ≡ true = ap (λ (l : LogName). l.told) (sym was.2) ∙ told in
      entry_named note seen_shard.view shard e grows (stands is_told) (here is_told)

  -- nothing was marked
  pub entry_applied : new ≡ with_applied shard e note new.items old → IsTrueNode new
  entry_applied node_is =
      subst IsTrueNode (sym node_is) (raised_with shard e.position (keys_of e) (record (met shard note old) { items = new.items }) taken seen_shard there named)

  -- the position was marked
  pub entry_came : new ≡ with_entry shard e note new.items old → IsTrueNode new
  entry_came node_is =
      subst IsTrueNode (sym node_is)
      (processed_with shard e.position (keys_of e) new.items (met shard note old) taken
      (λ key item h. (touches_rise types note e.touches old.items new.items key item distinct takes h).reaches) seen_shard there named)
