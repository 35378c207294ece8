-- A node that processes a position stays true of its logs.
use Rattle.std.proofs.Common.{◌≡◌, ℕ, zero, suc, ◌+◌, ◌≤◌, true, false, List, [], ◌∷◌, length, take, drop, Option, Some, None, refl, sym, ◌∙◌, ap, subst, inl}
use Rattle.std.proofs.Common.{inr, arith}
use Rattle.std.proofs.lemmas.Bool.{cases_Bool, ltb-false}
use Rattle.std.proofs.lemmas.List.{length-take}
use Rattle.std.proofs.lemmas.List.Elements.{All-map, recursion_from_All}
use Rattle.std.proofs.lemmas.Option.{slice_get_within}
use Rattle.std.specs.List.{AllByRecursion, IsDistinct}
use Rattle.std.specs.Map.{keys_of as keys_held}
use Rattle.std.specs.Option.{option_map}
use Rattle.std.specs.Prelude.{All, nat_lt, slice_get}
use Rattle.tao_base.specs.declared.entry.Entry.{Entry}
use Rattle.tao_base.specs.declared.id.Key.{Key}
use Rattle.graph_model.proofs.Exact.{version_take}
use Rattle.graph_model.proofs.Keys.{same_key-same}
use Rattle.graph_model.proofs.Later.{all_map as all_weaker}
use Rattle.graph_model.proofs.Members.{all_in}
use Rattle.graph_model.proofs.Rising.{touches_tell}
use Rattle.tao_base.specs.Keys.{key_shard, same_key}
use Rattle.graph_model.specs.Log.{version, entry_at}
use Rattle.graph_model.specs.Soundness.{IsSound}
use Rattle.shard_log.proofs.GrowthLemmas.{entry_stays}
use Rattle.shard_log.specs.View.{View, Grows}
use Rattle.ask_table.specs.Asks.{with_floor}
use Rattle.lru.proofs.Splits.{all_map}
use Rattle.cache_items.specs.maint_msg.KeyVersions.{key_version, keys_of}
use Rattle.cache_items.specs.maint_msg.Maints.{NamesEntry}
use Rattle.cache_items.specs.maint_msg.declared.key_versions.KeyVersion.{KeyVersion}
use Rattle.cache_node.proofs.Keys.{distinct_without, held_fewer, held_gone}
use Rattle.cache_node.proofs.Raised.{floors_reach, raised_is_true}
use Rattle.cache_node.proofs.ServedAt.{changed_there}
use Rattle.cache_node.proofs.Truth.{CanMark, fewer_is_true, marked_is_true, marking_keeps}
use Rattle.cache_items.specs.Node.{Items, Node, caught_up, dropped, item_at, is_stale, processed, raised_all, without}
use Rattle.served_shards.specs.Served.{ServedShard, changed_at, marking, served_at}
use Rattle.cache_node.specs.True.{AreTold, IsTrueNode, IsTrueOfLogs, touched, version_among}
use Rattle.cache_items.specs.declared.item.Item.{Item}

-- what is left was held, and has at least the version that is named for it
pub held_dropped : (ks : List KeyVersion) (items : Items) (key : Key) (item : Item) → IsDistinct same_key (keys_held items)
    → item_at (dropped items ks) key ≡ Some item
    → (item_at items key ≡ Some item) × ((v : ℕ) → version_among ks key ≡ Some v → v ≤ item.version)
held_dropped [] items key item distinct is = (is, λ v none. absurd (cc))
held_dropped (k ∷ ks) items key item distinct is = elim (cases_Bool (is_stale items k)) [
  | inl stale ↦ (
      let rest = held_dropped ks (without k.key items) key item (distinct_without (same_key k.key) items distinct) (rw stale at is) in
      (held_fewer k.key key items item distinct rest.0, λ v at. rest.1 v (later stale rest.0 v at)))
  | inr fresh ↦ (
      let rest = held_dropped ks items key item distinct (rw fresh at is) in
      (rest.0, λ v at. above fresh rest.0 rest.1 v at))
]
  where
    later : is_stale items k ≡ true → item_at (without k.key items) key ≡ Some item → (v : ℕ) → version_among (k ∷ ks) key ≡ Some v
        → version_among ks key ≡ Some v
    later stale left v at = elim (cases_Bool (same_key key k.key)) [
      | inl same ↦ absurd (held_gone k.key key items item distinct same left)
      | inr other ↦ rw other at at
    ]

    above : is_stale items k ≡ false → item_at items key ≡ Some item → ((v : ℕ) → version_among ks key ≡ Some v → v ≤ item.version) → (v : ℕ)
        → version_among (k ∷ ks) key ≡ Some v → v ≤ item.version
    above fresh at_key rest v at = elim (cases_Bool (same_key key k.key)) [
      | inl same ↦ (
          let there : item_at items k.key ≡ Some item = subst (λ q. item_at items q ≡ Some item) (same_key-same key k.key same) at_key in
          let high : nat_lt item.version k.version ≡ false = rw there at fresh in
          let e : Some k.version ≡ Some v = rw same at at in
          let i : k.version ≡ v = cc in
          let le = ltb-false item.version k.version high in
          omega arith)
      | inr other ↦ rest v (rw other at at)
    ]

pub distinct_dropped : (ks : List KeyVersion) (items : Items) → IsDistinct same_key (keys_held items) → IsDistinct same_key (keys_held (dropped items ks))
distinct_dropped [] items distinct = distinct
distinct_dropped (k ∷ ks) items distinct = elim (cases_Bool (is_stale items k)) [
  | inl stale ↦ rw stale (distinct_dropped ks (without k.key items) (distinct_without (same_key k.key) items distinct))
  | inr fresh ↦ rw fresh (distinct_dropped ks items distinct)
]

-- what an entry that is named gives a key is what is named for it
touched_named : (log : List Entry) (position : ℕ) (keys : List KeyVersion) (key : Key) (v : ℕ) → option_map keys_of (entry_at log position) ≡ Some keys
    → touched log position key ≡ Some v
    → version_among keys key ≡ Some v
touched_named log position keys key v names at = by_entry (entry_at log position) refl
  where
    by_entry : (found : Option Entry) → entry_at log position ≡ found → version_among keys key ≡ Some v
    by_entry None is = absurd (let none : None ≡ Some keys = rw is at names in cc)
    by_entry (Some e) is =
        let some : Some (keys_of e) ≡ Some keys = rw is at names in
        let same : keys_of e ≡ keys = cc in
        let there : version_among (keys_of e) key ≡ Some v = rw is at at in
        subst (λ ks. version_among ks key ≡ Some v) same there

-- the place of an entry that is named, and the entry
named_at : (log : List Entry) (position : ℕ) (keys : List KeyVersion) → option_map keys_of (entry_at log position) ≡ Some keys
    → (n : ℕ) × (e : Entry) × (position ≡ suc n) × (slice_get log n ≡ Some e) × (keys ≡ keys_of e)
named_at log zero keys names = absurd (cc)
named_at log (suc n) keys names = by_entry (slice_get log n) refl
  where
    by_entry : (found : Option Entry) → slice_get log n ≡ found → (m : ℕ) × (e : Entry) × (suc n ≡ suc m) × (slice_get log m ≡ Some e) × (keys ≡ keys_of e)
    by_entry None is = absurd (let none : None ≡ Some keys = rw is at names in cc)
    by_entry (Some e) is = (n, e, refl, is, (let some : Some (keys_of e) ≡ Some keys = rw is at names in cc))

named_within : (log : List Entry) (position : ℕ) (keys : List KeyVersion) → option_map keys_of (entry_at log position) ≡ Some keys → position ≤ length log
named_within log position keys names =
    let at = named_at log position keys names in
    let within = slice_get_within log at.0 at.1 at.3 in
    let is = at.2 in
    omega arith

-- each version that is named is one that the key has reached
pub named_versions : (log : List Entry) (position : ℕ) (keys : List KeyVersion) → IsSound log → option_map keys_of (entry_at log position) ≡ Some keys
    → AllByRecursion (λ k. k.version ≤ version log k.key) keys
named_versions log position keys sound names =
    let at = named_at log position keys names in
    let tells = recursion_from_All (λ t. t.version ≡ version (take (at.0 + 1) log) t.key) at.1.touches (touches_tell log sound at.0 at.1 at.3).versions in
    subst (AllByRecursion (λ k. k.version ≤ version log k.key)) (sym at.4)
    (all_map key_version (λ k. k.version ≤ version log k.key) at.1.touches
    (all_weaker (λ t. t.version ≡ version (take (at.0 + 1) log) t.key) (λ t. t.version ≤ version log t.key)
    (λ t is. let le = version_take (at.0 + 1) log t.key in omega arith) at.1.touches tells))

-- each of the keys has reached its version, in the log of its shard
abbrev AreReachedBy : List ServedShard → List KeyVersion → Type 0
AreReachedBy served keys = AllByRecursion (λ k. (s : ServedShard) → served_at (key_shard k.key) served ≡ Some s → k.version ≤ version s.view.entries k.key) keys

raise_all_is_true : (ks : List KeyVersion) (n : Node) → IsTrueNode n → (AreTold n.served → IsTrueOfLogs n → AreReachedBy n.served ks)
    → IsTrueNode (record n { asks = raised_all ks n.asks })
raise_all_is_true [] n is high = is
raise_all_is_true (k ∷ ks) n is high =
    let one = raised_is_true n k.key k.version is (λ s told was at. (high told was).0 s at) in
    raise_all_is_true ks (record n { asks = with_floor k.key k.version n.asks }) one (λ told was. (high told (is.told told)).1)

-- what is had of a shard is one thing
one_served : (served : List ServedShard) (shard : ℕ) (s other : ServedShard) → served_at shard served ≡ Some s → served_at shard served ≡ Some other → other ≡ s
one_served served shard s other at there = let e : Some other ≡ Some s = sym there ∙ at in cc

-- the asks on the keys that are named at a position were raised
pub raised_with : (shard position : ℕ) (keys : List KeyVersion) (n : Node) → IsTrueNode n → (s : ServedShard) → served_at shard n.served ≡ Some s
    → (s.view.log.told ≡ true → NamesEntry s.view.entries shard position keys) → IsTrueNode (record n { asks = raised_all keys n.asks })
raised_with shard position keys n is s at names = raise_all_is_true keys n is reached
  where
    reached : AreTold n.served → IsTrueOfLogs n → AreReachedBy n.served keys
    reached told was =
        let named = names (told shard s at) in
        let here = recursion_from_All (λ k. key_shard k.key ≡ shard) keys named.here in
        let versions = named_versions s.view.entries position keys (was.served shard s at).sound named.names in
        both keys here versions
      where
        both : (ks : List KeyVersion) → AllByRecursion (λ k. key_shard k.key ≡ shard) ks → AllByRecursion (λ k. k.version ≤ version s.view.entries k.key) ks
            → AreReachedBy n.served ks
        both [] here versions = tt
        both (k ∷ ks) here versions = (
          λ other there. (
              let same : other ≡ s = one_served n.served shard s other at (subst (λ i. served_at i n.served ≡ Some other) here.0 there) in
              subst (λ o. k.version ≤ version o.view.entries k.key) (sym same) versions.0),
          both ks here.1 versions.1,
        )

-- a position that is named was processed, after which each item has at least the version that is named for it
pub processed_with : (shard position : ℕ) (keys : List KeyVersion) (items : Items) (n : Node) → IsTrueNode (record n { items = items })
    → ((key : Key) (item : Item) → item_at items key ≡ Some item → (v : ℕ) → version_among keys key ≡ Some v → v ≤ item.version)
    → (s : ServedShard) → served_at shard n.served ≡ Some s → (s.view.log.told ≡ true → NamesEntry s.view.entries shard position keys)
    → IsTrueNode (record n { items = items; asks = raised_all keys n.asks; served = changed_at shard (marking position) n.served })
processed_with shard position keys items n left held s at names =
    let n1 : Node = record n { items = items } in
    let raised = raised_with shard position keys n1 left s at names in
    marked_is_true (record n1 { asks = raised_all keys n.asks }) shard position raised
    (λ other there told. can_mark other (one_served n.served shard s other at there) told)
  where
    can_mark : (other : ServedShard) → other ≡ s → other.view.log.told ≡ true
        → CanMark (record n { items = items; asks = raised_all keys n.asks }) shard position other
    can_mark other same told =
        subst (CanMark (record n { items = items; asks = raised_all keys n.asks }) shard position) (sym same)
        (can (names (subst (λ o. o.view.log.told ≡ true) same told)))
      where
        can : NamesEntry s.view.entries shard position keys → CanMark (record n { items = items; asks = raised_all keys n.asks }) shard position s
        can named = record {
          within = named_within s.view.entries position keys named.names;
          items = λ key item v here h at_key. held key item h v (touched_named s.view.entries position keys key v named.names at_key);
          asks = λ a v here in_asks at_key.
              all_in (λ a. (v : ℕ) → version_among keys a.key ≡ Some v → v ≤ a.floor) (raised_all keys n.asks).asks a (floors_reach keys n.asks) in_asks v
              (touched_named s.view.entries position keys a.key v named.names at_key);
        }

-- a position that is named was processed as a message of it
pub processed_is_true : (shard position : ℕ) (keys : List KeyVersion) (n : Node) → IsDistinct same_key (keys_held n.items) → IsTrueNode n → (s : ServedShard)
    → served_at shard n.served ≡ Some s
    → (s.view.log.told ≡ true → NamesEntry s.view.entries shard position keys) → IsTrueNode (processed shard position keys n)
processed_is_true shard position keys n distinct is s at names =
    processed_with shard position keys (dropped n.items keys) n
    (fewer_is_true n (dropped n.items keys) is (λ key item h. (held_dropped keys n.items key item distinct h).0))
    (λ key item h. (held_dropped keys n.items key item distinct h).1) s at names

-- entries that are named in what was seen were processed
pub caught_up_is_true : (shard : ℕ) (entries : List Entry) (n : Node) → IsDistinct same_key (keys_held n.items) → IsTrueNode n → (s : ServedShard)
    → served_at shard n.served ≡ Some s
    → (s.view.log.told ≡ true → AllByRecursion (λ e. NamesEntry s.view.entries shard e.position (keys_of e)) entries) → IsTrueNode (caught_up shard entries n)
caught_up_is_true shard [] n distinct is s at names = is
caught_up_is_true shard (e ∷ es) n distinct is s at names =
    let one = processed_is_true shard e.position (keys_of e) n distinct is s at (λ told. (names told).0) in
    let there : served_at shard (changed_at shard (marking e.position) n.served) ≡ Some (marking e.position s) =
    changed_there shard (marking e.position) (marking_keeps e.position).shard n.served ∙ ap (option_map (marking e.position)) at in
    caught_up_is_true shard es (processed shard e.position (keys_of e) n) (distinct_dropped (keys_of e) n.items distinct) one (marking e.position s) there
    (λ told. (names told).1)

-- the first of the entries from a place on, and the place after it
first_from : (log : List Entry) (low n : ℕ) (e : Entry) (es : List Entry) → e ∷ es ≡ take (suc n) (drop low log)
    → (slice_get log low ≡ Some e) × (es ≡ take n (drop (suc low) log))
first_from [] zero n e es is = absurd (cc)
first_from [] (suc low) n e es is = absurd (cc)
first_from (x ∷ log) zero n e es is = (cc, cc)
first_from (x ∷ log) (suc low) n e es is = first_from log low n e es is

-- each of the entries after a position stands at its own
stand_at : (log : List Entry) (low : ℕ) (entries : List Entry) → IsSound log → entries ≡ take (length entries) (drop low log)
    → AllByRecursion (λ e. entry_at log e.position ≡ Some e) entries
stand_at log low [] sound is = tt
stand_at log low (e ∷ es) sound is =
    let first = first_from log low (length es) e es is in
    let within = slice_get_within log low e first.0 in
    let cut = length-take low log in
    let position : e.position ≡ suc low = let at = (sound low e first.0).position_is in omega arith in
    (ap (entry_at log) position ∙ first.0, stand_at log (suc low) es sound first.1)

-- an entry of what a note has seen is named in what it grew into
pub entry_named : (v w : View) (shard : ℕ) (e : Entry) → Grows v w → entry_at v.entries e.position ≡ Some e → All (λ t. key_shard t.key ≡ shard) e.touches
    → NamesEntry w.entries shard e.position (keys_of e)
entry_named v w shard e grows stands here = record {
  names = ap (option_map keys_of) (entry_stays v w e.position e grows stands);
  here = All-map (λ (k : KeyVersion). key_shard k.key ≡ shard) key_version e.touches here;
}

-- entries that follow each other in what a note has seen are named in what it grew into
pub follow_named : (v w : View) (shard low : ℕ) (entries : List Entry) → Grows v w → IsSound v.entries → entries ≡ take (length entries) (drop low v.entries)
    → All (λ e. All (λ t. key_shard t.key ≡ shard) e.touches) entries → AllByRecursion (λ e. NamesEntry w.entries shard e.position (keys_of e)) entries
follow_named v w shard low entries grows sound is here =
    both entries (stand_at v.entries low entries sound is) (recursion_from_All (λ e. All (λ t. key_shard t.key ≡ shard) e.touches) entries here)
  where
    both : (es : List Entry) → AllByRecursion (λ e. entry_at v.entries e.position ≡ Some e) es
        → AllByRecursion (λ e. All (λ t. key_shard t.key ≡ shard) e.touches) es
        → AllByRecursion (λ e. NamesEntry w.entries shard e.position (keys_of e)) es
    both [] stand on = tt
    both (e ∷ es) stand on = (entry_named v w shard e grows stand.0 on.0, both es stand.1 on.1)
