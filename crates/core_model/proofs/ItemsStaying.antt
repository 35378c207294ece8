-- Items stay as they were, unless a stage is of their key.
use Rattle.std.proofs.Common.{◌≡◌, ◌≢◌, ◌⊎◌, ℕ, zero, suc, ◌+◌, ◌-◌, ◌≤◌, Bool, true, false, List, [], ◌∷◌, length, map, take, Option, Some, None, refl, ap}
use Rattle.std.proofs.Common.{◌∙◌, sym, subst, inl, inr, arith}
use Rattle.std.proofs.lemmas.Bool.{cases_Bool}
use Rattle.std.specs.List.{AllByRecursion}
use Rattle.std.specs.Map.{lookup_entry, set_value}
use Rattle.std.specs.Option.{option_map, option_map_or}
use Rattle.std.specs.Prelude.{IfSome, if◌then◌else◌, slice_get}
use Rattle.tao_base.specs.EdgeTypes.{EdgeTypes}
use Rattle.tao_base.specs.Keys.{same_key}
use Rattle.tao_base.specs.Queries.{query_key}
use Rattle.tao_base.specs.declared.entry.Entry.{Entry}
use Rattle.tao_base.specs.declared.entry.Touch.{Touch}
use Rattle.tao_base.specs.declared.id.Key.{Key}
use Rattle.cache_items.specs.Kept.{is_yes, item_of, kept_items, stays, took, with_item}
use Rattle.cache_items.specs.Node.{Items, Node, caught_up, delivered, dropped, is_stale, item_at, met, processed, with_ended_ask, without, without_last}
use Rattle.cache_items.specs.Taken.{TakesChange}
use Rattle.cache_items.specs.TakenEntry.{TakesTouches}
use Rattle.cache_items.specs.declared.item.Item.{Item}
use Rattle.cache_items.specs.declared.look.Kept.{Kept}
use Rattle.cache_items.specs.declared.look.Look.{Look}
use Rattle.cache_items.specs.declared.look.Look.TheVariants.{Hit, Miss}
use Rattle.follower_cache.proofs.cache_node_lemmas.Keys.{distinct_without, held_without}
use Rattle.follower_cache.proofs.cache_node_lemmas.Processing.{distinct_dropped}
use Rattle.follower_cache.proofs.cache_node_lemmas.TakenEntries.{distinct_change}
use Rattle.cache_items.specs.changeset.Changes.{SeenChange, change_by}
use Rattle.follower_cache.specs.Seen.{FollowerState}
use Rattle.graph_model.proofs.Keys.{same_key-same, same_key-self}
use Rattle.leader_tier.specs.LeaderReads.{KeepsGiven}
use Rattle.leader_tier.specs.TakenWrites.{TakesWritten}
use Rattle.lru.proofs.CallerLemmas.{Contains-lookup_entry}
use Rattle.lru.proofs.Pairs.{lookup-lookup_entry}
use Rattle.lru.specs.LruCache.{last_entry, lru_cache, promoted, put_entries}
use Rattle.maint_msg.specs.KeyVersions.{key_version, keys_of}
use Rattle.maint_msg.specs.declared.key_versions.KeyVersion.{KeyVersion}
use Rattle.cache_items.specs.sealed_item.Fills.{SealedItem}
use Rattle.shard_log.specs.View.{View}
use Rattle.leader_tier.specs.shard_tables.declared.leader_answer.LeaderAnswer.{LeaderAnswer}
use Rattle.leader_tier.specs.shard_tables.declared.leader_answer.LeaderAnswer.TheVariants as leader
use Rattle.tao_schema.specs.Schema.{key_bound}
use Rattle.core_model.specs.Items.{AreApart, AreWellHeld, IsNotNamed, IsOfRead, ItemsStay, KeepsItem, KeepsUnlessLast}
use Rattle.core_model.specs.Reads.{AfterLook, LeaderAnswers, StoreCalls, Wanted}

-- keys that differ
apart_keys : (other key : Key) → key ≢ other → same_key other key ≡ false
apart_keys other key differ = elim (cases_Bool (same_key other key)) [
  | inl same ↦ absurd (differ (sym (same_key-same other key same)))
  | inr off ↦ off
]

module _ (key : Key) where
  -- ---- one thing that is done to the items

  kept_without : (other : Key) (items : Items) → key ≢ other → AreApart items → KeepsItem key items (without other items)
  kept_without other items differ apart item is = held_without other key items apart ∙ rw (apart_keys other key differ) is

  kept_promoted : (used : Key) (items : Items) → AreApart items → KeepsItem key items (promoted (same_key used) items)
  kept_promoted used items apart item is = by_entry (lookup_entry (same_key used) items) refl
    where
      by_entry : (o : Option (Key × Item)) → lookup_entry (same_key used) items ≡ o
          → item_at (option_map_or (λ e. e ∷ without used items) o items) key ≡ Some item
      by_entry None none = is
      by_entry (Some e) some =
          let on : used ≡ e.0 = same_key-same used e.0 (Contains-lookup_entry (same_key used) items e some).1 in
          elim (cases_Bool (same_key key e.0)) [
            | inl here ↦ (
                let same : used ≡ key = on ∙ sym (same_key-same key e.0 here) in
                let found : item_at items used ≡ Some e.1 = sym (lookup-lookup_entry (same_key used) items) ∙ ap (option_map (λ (p : Key × Item). p.1)) some in
                rw here (sym (subst (λ k. item_at items k ≡ Some e.1) same found) ∙ is))
            | inr off ↦ (
                let differ : key ≢ used = λ same. (let on_key : same_key key e.0 ≡ true =
                subst (λ k. same_key key k ≡ true) (same ∙ on) (same_key-self key) in absurd (let both : true ≡ false = sym on_key ∙ off in cc)) in
                rw off (kept_without used items differ apart item is))
          ]

  -- what is held among the first, or stands last
  take_or_last : (n : ℕ) (items : Items) (item : Item) → length items ≤ n + 1 → item_at items key ≡ Some item
      → (item_at (take n items) key ≡ Some item) ⊎ (last_entry items ≡ Some (key, item))
  take_or_last n [] item few is = absurd (cc)
  take_or_last zero (e ∷ []) item few is = elim (cases_Bool (same_key key e.0)) [
    | inl here ↦ (
        let found : Some e.1 ≡ Some item = rw here at is in
        let value : e.1 ≡ item = cc in
        let at : e.0 ≡ key = sym (same_key-same key e.0 here) in
        inr (ap Some (λ i. (at i, value i))))
    | inr off ↦ absurd (let none : None ≡ Some item = rw off at is in cc)
  ]
  take_or_last zero (e ∷ f ∷ es) item few is = absurd (omega (arith, few))
  take_or_last (suc n) (e ∷ es) item few is = elim (cases_Bool (same_key key e.0)) [
    | inl here ↦ inl (rw here (rw here at is))
    | inr off ↦ (
        let rest : item_at es key ≡ Some item = rw off at is in
        elim (take_or_last n es item (omega (arith, few)) rest) [
          | inl kept ↦ inl (rw off kept)
          | inr last ↦ inr (last_behind e es last)
        ])
  ]
    where
      last_behind : (e : Key × Item) (es : Items) → last_entry es ≡ Some (key, item) → last_entry (e ∷ es) ≡ Some (key, item)
      last_behind e [] last = absurd (cc)
      last_behind e (f ∷ fs) last =
          let here : suc (length fs) - 1 ≡ length fs = omega arith in
          let behind : suc (suc (length fs)) - 1 ≡ suc (length fs) = omega arith in
          subst (λ k. slice_get (e ∷ f ∷ fs) k ≡ Some (key, item)) (sym behind)
          (subst (λ k. slice_get (f ∷ fs) k ≡ Some (key, item)) here last)

  kept_put : (other : Key) (new : Item) (items : Items) (most : ℕ) → key ≢ other → AreApart items → length items ≤ most
      → KeepsUnlessLast key items (put_entries same_key (lru_cache items most) other new)
  kept_put other new items most differ apart few item is = by_entry (lookup_entry (same_key other) items) refl
    where
      off : same_key key other ≡ false
      off = apart_keys key other (λ same. differ (sym same))

      by_entry : (o : Option (Key × Item)) → lookup_entry (same_key other) items ≡ o
          → (item_at (option_map_or (λ e. (e.0, new) ∷ without other items) o ((other, new) ∷ take (most - 1) items)) key ≡ Some item)
          ⊎ (last_entry items ≡ Some (key, item))
      by_entry None none = elim (take_or_last (most - 1) items item (omega (arith, few)) is) [
        | inl kept ↦ inl (rw off kept)
        | inr last ↦ inr last
      ]
      by_entry (Some e) some =
          let on : other ≡ e.0 = same_key-same other e.0 (Contains-lookup_entry (same_key other) items e some).1 in
          let off_there : same_key key e.0 ≡ false = subst (λ k. same_key key k ≡ false) on off in
          inl (rw off_there (kept_without other items differ apart item is))

  kept_kept : (other : Key) (new : Item) (items : Items) (most : ℕ) → key ≢ other → AreApart items → length items ≤ most
      → KeepsUnlessLast key items (kept_items items most other new)
  kept_kept other new items most differ apart few item is = elim (cases_Bool (stays (item_at items other) new)) [
    | inl longer ↦ rw longer (inl (kept_promoted other items apart item is))
    | inr shorter ↦ rw shorter (kept_put other new items most differ apart few item is)
  ]

  kept_set : (other : Key) (new : Item) (items : Items) → key ≢ other → KeepsItem key items (set_value (same_key other) items new)
  kept_set other new [] differ item is = is
  kept_set other new (e ∷ es) differ item is = elim (cases_Bool (same_key other e.0)) [
    | inl on ↦ (
        let off : same_key key e.0 ≡ false =
        subst (λ k. same_key key k ≡ false) (same_key-same other e.0 on) (apart_keys key other (λ same. differ (sym same))) in
        rw on (rw off (rw off at is)))
    | inr off ↦ rw off (elim (cases_Bool (same_key key e.0)) [
      | inl here ↦ rw here (rw here at is)
      | inr there ↦ rw there (kept_set other new es differ item (rw there at is))
    ])
  ]

  kept_change : (bound : ℕ) (o : Option Item) (c : SeenChange) (old new : Items) → TakesChange bound o c old new → key ≢ c.key → AreApart old
      → KeepsItem key old new
  kept_change bound None c old new takes differ apart item is = subst (λ l. item_at l key ≡ Some item) (sym takes) is
  kept_change bound (Some held) c old new (inl late) differ apart item is = subst (λ l. item_at l key ≡ Some item) (sym late.1) is
  kept_change bound (Some held) c old new (inr (inl next)) differ apart item is =
      subst (λ l. item_at l key ≡ Some item) (sym next.1) (kept_set c.key _ old differ item is)
  kept_change bound (Some held) c old new (inr (inr older)) differ apart item is =
      subst (λ l. item_at l key ≡ Some item) (sym older.1) (kept_without c.key old differ apart item is)

  kept_touches : (types : EdgeTypes) (note : View) (ts : List Touch) (old new : Items) → TakesTouches types note ts old new
      → IsNotNamed key (map key_version ts) → AreApart old → KeepsItem key old new
  kept_touches types note [] old new takes named apart item is = subst (λ l. item_at l key ≡ Some item) (sym takes) is
  kept_touches types note (t ∷ ts) old new takes named apart item is =
      kept_touches types note ts takes.0 new takes.2 named.1
      (distinct_change (key_bound types t.key) old takes.0 (change_by t note) apart takes.1) item
      (kept_change (key_bound types t.key) (item_at old t.key) (change_by t note) old takes.0 takes.1 named.0 apart item is)

  kept_dropped : (ks : List KeyVersion) (items : Items) → IsNotNamed key ks → AreApart items → KeepsItem key items (dropped items ks)
  kept_dropped [] items named apart item is = is
  kept_dropped (k ∷ ks) items named apart item is = elim (cases_Bool (is_stale items k)) [
    | inl stale ↦ rw stale (kept_dropped ks (without k.key items) named.1 (distinct_without (same_key k.key) items apart) item
        (kept_without k.key items named.0 apart item is))
    | inr fresh ↦ rw fresh (kept_dropped ks items named.1 apart item is)
  ]

  kept_caught : (shard : ℕ) (es : List Entry) (n : Node) → AllByRecursion (λ e. IsNotNamed key (keys_of e)) es → AreApart n.items
      → KeepsItem key n.items (caught_up shard es n).items
  kept_caught shard [] n named apart item is = is
  kept_caught shard (e ∷ es) n named apart item is =
      kept_caught shard es (processed shard e.position (keys_of e) n) named.1 (distinct_dropped (keys_of e) n.items apart) item
      (kept_dropped (keys_of e) n.items named.0 apart item is)

  -- ---- each stage

  by_items : (old new after : Items) → new ≡ after → KeepsItem key old after → KeepsItem key old new
  by_items old new after same keeps item is = subst (λ l. item_at l key ≡ Some item) (sym same) (keeps item is)

  unless_last : (old new after : Items) → new ≡ after → KeepsUnlessLast key old after → KeepsUnlessLast key old new
  unless_last old new after same keeps item is =
      subst (λ l. (item_at l key ≡ Some item) ⊎ (last_entry old ≡ Some (key, item))) (sym same) (keeps item is)

  sure : (old new : Items) → KeepsItem key old new → KeepsUnlessLast key old new
  sure old new keeps item is = inl (keeps item is)

  looks_keep : (read_key : Key) (look : Look) (ask : Option ℕ) (from to : Node) → AfterLook read_key look ask from to → AreApart from.items
      → KeepsItem key from.items to.items
  looks_keep read_key (Hit answer version) ask from to looks apart =
      by_items from.items to.items (promoted (same_key read_key) from.items) (ap (λ (n : Node). n.items) looks.1) (kept_promoted read_key from.items apart)
  looks_keep read_key Miss None from to looks apart = by_items from.items to.items from.items (ap (λ (n : Node). n.items) looks.1) (λ item is. is)
  looks_keep read_key Miss (Some number) from to looks apart =
      by_items from.items to.items from.items (ap (λ (n : Node). n.items) looks.2) (λ item is. is)

  ended_items : (ask : Option ℕ) (n : Node) → ((with_ended_ask ask n).items ≡ n.items) × ((with_ended_ask ask n).most ≡ n.most)
  ended_items None n = (refl, refl)
  ended_items (Some number) n = (refl, refl)

  took_keep : (fill : SealedItem) (kept : Bool) (n : Node) → key ≢ fill.key → AreWellHeld n
      → KeepsUnlessLast key n.items (if kept then with_item fill.key (item_of fill) n else n).items
  took_keep fill true n differ well = kept_kept fill.key (item_of fill) n.items n.most differ well.apart well.few
  took_keep fill false n differ well = λ item is. inl is

  keeps_keep : (ask : Option ℕ) (fill : SealedItem) (kept : Kept) (from to : Node) → to ≡ took fill kept (with_ended_ask ask from) → key ≢ fill.key
      → AreWellHeld from → KeepsUnlessLast key from.items to.items
  keeps_keep ask fill kept from to same differ well =
      let mid : Node = with_ended_ask ask from in
      let end = ended_items ask from in
      let held : AreWellHeld mid = record {
        apart = subst AreApart (sym end.0) well.apart;
        few = omega (arith, well.few, ap length end.0, end.1);
      } in
      unless_last from.items to.items (took fill kept mid).items (ap (λ (n : Node). n.items) same)
      (subst (λ l. KeepsUnlessLast key l (took fill kept mid).items) end.0 (took_keep fill (is_yes kept) mid differ held))

  copies_keep : (fill : SealedItem) (kept : Kept) (yes : Bool) (n : Node) → key ≢ fill.key → AreWellHeld n
      → KeepsUnlessLast key n.items (if yes then took fill kept n else n).items
  copies_keep fill kept true n differ well = took_keep fill (is_yes kept) n differ well
  copies_keep fill kept false n differ well = λ item is. inl is

  given_keep : (read : Wanted) (given : LeaderAnswer) (from to : Node) → KeepsGiven from given to → IsOfRead read given → key ≢ query_key read.query
      → AreWellHeld from → KeepsUnlessLast key from.items to.items
  given_keep read (leader.Filled fill) from to keeps of differ well =
      unless_last from.items to.items (if is_yes keeps.0 then took fill keeps.0 from else from).items (ap (λ (n : Node). n.items) keeps.2)
      (copies_keep fill keeps.0 (is_yes keeps.0) from (λ same. differ (same ∙ of)) well)
  given_keep read (leader.Past answer version total note) from to keeps of differ well =
      unless_last from.items to.items from.items (ap (λ (n : Node). n.items) keeps) (λ item is. inl is)
  given_keep read (leader.Behind version) from to keeps of differ well =
      unless_last from.items to.items from.items (ap (λ (n : Node). n.items) keeps) (λ item is. inl is)

  answers_keep : (types : EdgeTypes) (read : Wanted) (given : LeaderAnswer) (calls : StoreCalls) (from to : Node) → LeaderAnswers types read given calls from to
      → IsOfRead read given → key ≢ query_key read.query → AreWellHeld from → KeepsUnlessLast key from.items to.items
  answers_keep types read given calls from to does of differ well = elim does.answers [
    | inl own ↦
        unless_last from.items to.items (promoted (same_key (query_key read.query)) from.items) (ap (λ (n : Node). n.items) own.node_is)
        (sure from.items (promoted (same_key (query_key read.query)) from.items) (kept_promoted (query_key read.query) from.items well.apart))
    | inr reads ↦ given_keep read given from to reads.keeps of differ well
  ]

  writes_keep : (types : EdgeTypes) (shard : ℕ) (entry : Option Entry) (note : View) (from to : Node) → TakesWritten types shard entry note from to
      → IfSome entry (λ e. IsNotNamed key (keys_of e)) → AreApart from.items → KeepsItem key from.items to.items
  writes_keep types shard None note from to takes named apart = by_items from.items to.items from.items (ap (λ (n : Node). n.items) takes) (λ item is. is)
  writes_keep types shard (Some e) note from to takes named apart = kept_touches types note e.touches from.items to.items takes.items named apart

  last_or_not : (items : Items) → KeepsUnlessLast key items (without_last items)
  last_or_not items item is = take_or_last (length items - 1) items item (omega arith) is

  pub items_stay : ItemsStay key
  items_stay = record {
    looks = λ types read look ask old new looks apart. looks_keep (query_key read.query) look ask old.node new.node looks.node apart;
    ends = λ ask old new ends.
        by_items old.node.items new.node.items old.node.items
        (ap (λ (f : FollowerState). f.node.items) ends ∙ (ended_items ask old.node).0) (λ item is. is);
    keeps = λ types read ask fill answer kept old new keeps differ well.
        keeps_keep ask fill kept old.node new.node (ap (λ (f : FollowerState). f.node) keeps.node_is) differ well;
    evicts = λ other old new same differ apart.
        by_items old.items new.items (without other old.items) (ap (λ (n : Node). n.items) same) (kept_without other old.items differ apart);
    evicts_last = λ old new same.
        unless_last old.items new.items (without_last old.items) (ap (λ (n : Node). n.items) same) (last_or_not old.items);
    answers = answers_keep;
    writes = writes_keep;
    applies = λ types shard entry note old new applies named apart.
        kept_touches types note entry.touches old.node.items new.node.items applies.node.items named apart;
    processes = λ shard es note old new same named apart.
        by_items old.items new.items (caught_up shard es (met shard note old)).items (ap (λ (n : Node). n.items) same)
        (kept_caught shard es (met shard note old) named apart);
    delivers = λ m dropped old new delivers named apart.
        by_items old.items new.items (delivered m old).items (ap (λ (n : Node). n.items) delivers.node_is) (kept_dropped m.keys old.items named apart);
  }
