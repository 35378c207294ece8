-- What each thing that a node does leaves of its items of other keys.
use Rattle.std.proofs.Common.{◌≡◌, ◌≢◌, ℕ, zero, suc, ◌-◌, Bool, true, false, List, [], ◌∷◌, map, take, Option, Some, None, refl, ap, ◌∙◌, sym, subst, inl, inr}
use Rattle.std.proofs.lemmas.Bool.{cases_Bool}
use Rattle.std.specs.Map.{lookup_entry, set_value}
use Rattle.std.specs.Option.{option_map, option_map_or}
use Rattle.std.specs.Prelude.{if◌then◌else◌}
use Rattle.cache_items.specs.Kept.{is_yes, item_of, kept_items, stays, took, with_item}
use Rattle.cache_items.specs.Node.{Items, Node, dropped, is_stale, item_at, with_ended_ask, without}
use Rattle.cache_items.specs.Taken.{TakesChange}
use Rattle.cache_items.specs.TakenEntry.{TakesTouches}
use Rattle.cache_items.specs.declared.item.Item.{Item}
use Rattle.cache_items.specs.declared.look.Kept.{Kept}
use Rattle.changeset.specs.Changes.{SeenChange, change_by}
use Rattle.core_model.specs.Evictions.{Evicts}
use Rattle.core_model.specs.Items.{IsNotNamed, IsOfRead, KeepsItem}
use Rattle.core_model.specs.Messages.{Delivers}
use Rattle.core_model.specs.Reads.{KeepsFill, LeaderAnswers, StoreCalls, Wanted, taken_fill}
use Rattle.follower_cache.specs.Seen.{FollowerState}
use Rattle.graph_model.proofs.Keys.{same_key-same, same_key-self}
use Rattle.headline_kept.specs.Touches.{KeepsFirst}
use Rattle.leader_tier.specs.LeaderReads.{KeepsGiven}
use Rattle.lru.proofs.CallerLemmas.{Contains-lookup_entry}
use Rattle.lru.proofs.Pairs.{lookup-lookup_entry}
use Rattle.lru.specs.LruCache.{lru_cache, promoted, put_entries}
use Rattle.maint_msg.specs.KeyVersions.{key_version}
use Rattle.maint_msg.specs.Maints.{SeenMaint}
use Rattle.maint_msg.specs.declared.key_versions.KeyVersion.{KeyVersion}
use Rattle.sealed_item.specs.Fills.{SealedItem}
use Rattle.shard_log.specs.View.{View}
use Rattle.shard_tables.specs.declared.leader_answer.LeaderAnswer.{LeaderAnswer}
use Rattle.shard_tables.specs.declared.leader_answer.LeaderAnswer.TheVariants as leader
use Rattle.tao_base.specs.EdgeTypes.{EdgeTypes}
use Rattle.tao_base.specs.Keys.{same_key}
use Rattle.tao_base.specs.Queries.{query_key}
use Rattle.tao_base.specs.declared.entry.Touch.{Touch}
use Rattle.tao_base.specs.declared.id.Key.{Key}
use Rattle.tao_base.specs.declared.query.Answer.{Answer}
use Rattle.tao_schema.specs.Schema.{key_bound}

-- keys that differ
apart_keys : (other key : Key) → key ≢ other → same_key other key ≡ false
apart_keys other key differ = elim (cases_Bool (same_key other key)) [
  | inl same ↦ absurd (differ (sym (same_key-same other key same)))
  | inr off ↦ off
]

module _ (key : Key) where
  off_key : (other : Key) → key ≢ other → same_key key other ≡ false
  off_key other differ = apart_keys key other (λ same. differ (sym same))

  -- ---- one thing that is done to the items

  kept_without : (other : Key) (items : Items) → key ≢ other → KeepsItem key items (without other items)
  kept_without other [] differ item is = is
  kept_without other (e ∷ es) differ item is = elim (cases_Bool (same_key other e.0)) [
    | inl here ↦ (
        let off : same_key key e.0 ≡ false = subst (λ k. same_key key k ≡ false) (same_key-same other e.0 here) (off_key other differ) in
        rw here (rw off at is))
    | inr there ↦ rw there (elim (cases_Bool (same_key key e.0)) [
      | inl own ↦ rw own (rw own at is)
      | inr off ↦ rw off (kept_without other es differ item (rw off at is))
    ])
  ]

  kept_promoted : (used : Key) (items : Items) → KeepsItem key items (promoted (same_key used) items)
  kept_promoted used items item is = by_entry (lookup_entry (same_key used) items) refl
    where
      by_entry : (o : Option (Key × Item)) → lookup_entry (same_key used) items ≡ o
          → item_at (option_map_or (λ e. e ∷ without used items) o items) key ≡ Some item
      by_entry None none = is
      by_entry (Some e) some =
          let on : used ≡ e.0 = same_key-same used e.0 (Contains-lookup_entry (same_key used) items e some).1 in
          elim (cases_Bool (same_key key e.0)) [
            | inl here ↦ (
                let same : used ≡ key = on ∙ sym (same_key-same key e.0 here) in
                let found : item_at items used ≡ Some e.1 = sym (lookup-lookup_entry (same_key used) items) ∙ ap (option_map (λ (p : Key × Item). p.1)) some in
                rw here (sym (subst (λ k. item_at items k ≡ Some e.1) same found) ∙ is))
            | inr off ↦ (
                let differ : key ≢ used = λ same. (let on_key : same_key key e.0 ≡ true =
                subst (λ k. same_key key k ≡ true) (same ∙ on) (same_key-self key) in absurd (let both : true ≡ false = sym on_key ∙ off in cc)) in
                rw off (kept_without used items differ item is))
          ]

  -- what is among the first is there
  among : (n : ℕ) (items : Items) (item : Item) → item_at (take n items) key ≡ Some item → item_at items key ≡ Some item
  among zero items item is = absurd (cc)
  among (suc n) [] item is = absurd (cc)
  among (suc n) (e ∷ es) item is = elim (cases_Bool (same_key key e.0)) [
    | inl here ↦ rw here (rw here at is)
    | inr off ↦ rw off (among n es item (rw off at is))
  ]

  pub first_of : (n : ℕ) (old new : Items) → KeepsItem key old new → KeepsFirst n key old new
  first_of n old new keeps item is = keeps item (among n old item is)

  kept_put : (other : Key) (new : Item) (items : Items) (most : ℕ) → key ≢ other
      → KeepsFirst (most - 1) key items (put_entries same_key (lru_cache items most) other new)
  kept_put other new items most differ item is = by_entry (lookup_entry (same_key other) items) refl
    where
      by_entry : (o : Option (Key × Item)) → lookup_entry (same_key other) items ≡ o
          → item_at (option_map_or (λ e. (e.0, new) ∷ without other items) o ((other, new) ∷ take (most - 1) items)) key ≡ Some item
      by_entry None none = (let off = off_key other differ in rw off is)
      by_entry (Some e) some =
          let on : other ≡ e.0 = same_key-same other e.0 (Contains-lookup_entry (same_key other) items e some).1 in
          let off : same_key key e.0 ≡ false = subst (λ k. same_key key k ≡ false) on (off_key other differ) in
          rw off (kept_without other items differ item (among (most - 1) items item is))

  kept_kept : (other : Key) (new : Item) (items : Items) (most : ℕ) → key ≢ other → KeepsFirst (most - 1) key items (kept_items items most other new)
  kept_kept other new items most differ = elim (cases_Bool (stays (item_at items other) new)) [
    | inl longer ↦ rw longer (first_of (most - 1) items (promoted (same_key other) items) (kept_promoted other items))
    | inr shorter ↦ rw shorter (kept_put other new items most differ)
  ]

  kept_set : (other : Key) (new : Item) (items : Items) → key ≢ other → KeepsItem key items (set_value (same_key other) items new)
  kept_set other new [] differ item is = is
  kept_set other new (e ∷ es) differ item is = elim (cases_Bool (same_key other e.0)) [
    | inl on ↦ (
        let off : same_key key e.0 ≡ false = subst (λ k. same_key key k ≡ false) (same_key-same other e.0 on) (off_key other differ) in
        rw on (rw off (rw off at is)))
    | inr there ↦ rw there (elim (cases_Bool (same_key key e.0)) [
      | inl own ↦ rw own (rw own at is)
      | inr off ↦ rw off (kept_set other new es differ item (rw off at is))
    ])
  ]

  same_keeps : (old new : Items) → new ≡ old → KeepsItem key old new
  same_keeps old new same item is = subst (λ l. item_at l key ≡ Some item) (sym same) is

  kept_change : (bound : ℕ) (o : Option Item) (c : SeenChange) (old new : Items) → TakesChange bound o c old new → key ≢ c.key → KeepsItem key old new
  kept_change bound None c old new takes differ item is = same_keeps old new takes item is
  kept_change bound (Some held) c old new (inl late) differ item is = same_keeps old new late.1 item is
  kept_change bound (Some held) c old new (inr (inl next)) differ item is =
      subst (λ l. item_at l key ≡ Some item) (sym next.1) (kept_set c.key _ old differ item is)
  kept_change bound (Some held) c old new (inr (inr older)) differ item is =
      subst (λ l. item_at l key ≡ Some item) (sym older.1) (kept_without c.key old differ item is)

  pub kept_touches : (types : EdgeTypes) (note : View) (ts : List Touch) (old new : Items) → TakesTouches types note ts old new
      → IsNotNamed key (map key_version ts) → KeepsItem key old new
  kept_touches types note [] old new takes named item is = same_keeps old new takes item is
  kept_touches types note (t ∷ ts) old new takes named item is =
      kept_touches types note ts takes.0 new takes.2 named.1 item
      (kept_change (key_bound types t.key) (item_at old t.key) (change_by t note) old takes.0 takes.1 named.0 item is)

  kept_dropped : (ks : List KeyVersion) (items : Items) → IsNotNamed key ks → KeepsItem key items (dropped items ks)
  kept_dropped [] items named item is = is
  kept_dropped (k ∷ ks) items named item is = elim (cases_Bool (is_stale items k)) [
    | inl stale ↦ rw stale (kept_dropped ks (without k.key items) named.1 item (kept_without k.key items named.0 item is))
    | inr fresh ↦ rw fresh (kept_dropped ks items named.1 item is)
  ]

  -- ---- what a node does

  -- it answers of its own item, which comes first then
  pub hit_keeps : (used : Key) (old new : Node) → new.items ≡ promoted (same_key used) old.items → KeepsItem key old.items new.items
  hit_keeps used old new same item is = subst (λ l. item_at l key ≡ Some item) (sym same) (kept_promoted used old.items item is)

  pub evicted_keeps : (other : Key) (gone : Bool) (old new : Node) → Evicts (Some other) gone old new → key ≢ other → KeepsItem key old.items new.items
  evicted_keeps other gone old new evicts differ item is =
      subst (λ (n : Node). item_at n.items key ≡ Some item) (sym evicts.1) (kept_without other old.items differ item is)

  pub delivered_keeps : (m : SeenMaint) (gone : ℕ) (old new : Node) → Delivers m gone old new → IsNotNamed key m.keys → KeepsItem key old.items new.items
  delivered_keeps m gone old new delivers named item is =
      subst (λ (n : Node). item_at n.items key ≡ Some item) (sym delivers.node_is) (kept_dropped m.keys old.items named item is)

  took_keeps : (fill : SealedItem) (kept : Bool) (n : Node) → key ≢ fill.key
      → KeepsFirst (n.most - 1) key n.items (if kept then with_item fill.key (item_of fill) n else n).items
  took_keeps fill true n differ = kept_kept fill.key (item_of fill) n.items n.most differ
  took_keeps fill false n differ = first_of (n.most - 1) n.items n.items (λ item is. is)

  -- it answers from a fill of another key, and keeps it or not
  pub filled_keeps : (types : EdgeTypes) (read : Wanted) (ask : Option ℕ) (fill : SealedItem) (answer : Answer) (kept : Kept) (old new : FollowerState)
      → KeepsFill types read.query (taken_fill ask fill answer kept) old new → key ≢ fill.key
      → KeepsFirst (old.node.most - 1) key old.node.items new.node.items
  filled_keeps types read None fill answer kept old new keeps differ =
      subst (λ (f : FollowerState). KeepsFirst (old.node.most - 1) key old.node.items f.node.items) (sym keeps.node_is)
      (took_keeps fill (is_yes kept) old.node differ)
  filled_keeps types read (Some number) fill answer kept old new keeps differ =
      subst (λ (f : FollowerState). KeepsFirst (old.node.most - 1) key old.node.items f.node.items) (sym keeps.node_is)
      (took_keeps fill (is_yes kept) (with_ended_ask (Some number) old.node) differ)

  copies_keep : (fill : SealedItem) (kept : Kept) (yes : Bool) (n : Node) → key ≢ fill.key
      → KeepsFirst (n.most - 1) key n.items (if yes then took fill kept n else n).items
  copies_keep fill kept true n differ = took_keeps fill (is_yes kept) n differ
  copies_keep fill kept false n differ = first_of (n.most - 1) n.items n.items (λ item is. is)

  given_keep : (read : Wanted) (given : LeaderAnswer) (old new : Node) → KeepsGiven old given new → IsOfRead read given → key ≢ query_key read.query
      → KeepsFirst (old.most - 1) key old.items new.items
  given_keep read (leader.Filled fill) old new keeps of differ =
      subst (λ (n : Node). KeepsFirst (old.most - 1) key old.items n.items) (sym keeps.2)
      (copies_keep fill keeps.0 (is_yes keeps.0) old (λ same. differ (same ∙ of)))
  given_keep read (leader.Past answer version total note) old new keeps of differ =
      first_of (old.most - 1) old.items new.items (same_keeps old.items new.items (ap (λ (n : Node). n.items) keeps))
  given_keep read (leader.Behind version) old new keeps of differ =
      first_of (old.most - 1) old.items new.items (same_keeps old.items new.items (ap (λ (n : Node). n.items) keeps))

  -- a leader answers, and keeps a copy of what its store read, or not
  pub answered_keeps : (types : EdgeTypes) (read : Wanted) (given : LeaderAnswer) (calls : StoreCalls) (old new : Node)
      → LeaderAnswers types read given calls old new → IsOfRead read given → key ≢ query_key read.query
      → KeepsFirst (old.most - 1) key old.items new.items
  answered_keeps types read given calls old new does of differ = elim does.answers [
    | inl own ↦ first_of (old.most - 1) old.items new.items (hit_keeps (query_key read.query) old new (ap (λ (n : Node). n.items) own.node_is))
    | inr reads ↦ given_keep read given old new reads.keeps of differ
  ]
