-- Items by key.
use Rattle.std.proofs.Common.{◌≡◌, ℕ, zero, suc, ◌-◌, Bool, true, false, cond, [], ◌∷◌, take, Option, Some, None, refl, sym, ◌∙◌, ap, subst, inl, inr, ◌⊎◌}
use Rattle.std.proofs.lemmas.Bool.{both_ways, cases_Bool}
use Rattle.std.proofs.lemmas.Map.{lookup-remove_entry}
use Rattle.std.specs.Cmp.{IsEquivalence}
use Rattle.std.specs.List.{AllByRecursion, IsDistinct}
use Rattle.std.specs.Map.{keys_of, lookup_entry, remove_entry, set_value}
use Rattle.std.specs.Option.{option_map, option_map_or}
use Rattle.lru.proofs.CallerLemmas.{Contains-lookup_entry}
use Rattle.lru.proofs.Pairs.{lookup-lookup_entry}
use Rattle.lru.specs.LruCache.{lru_cache, promoted, put_entries}
use Rattle.tao_base.specs.declared.id.Key.{Key}
use Rattle.graph_model.proofs.Keys.{same_key-same, same_key-self}
use Rattle.tao_base.specs.Keys.{same_key}
use Rattle.cache_items.specs.declared.item.Item.{Item}
use Rattle.cache_items.specs.Kept.{kept_items, stays}
use Rattle.cache_items.specs.Node.{Items, item_at, without}

same_key-symm : (x y : Key) → same_key x y ≡ same_key y x
same_key-symm x y = elim (cases_Bool (same_key x y)) [
  | inl t ↦ t ∙ sym (subst (λ k. same_key k x ≡ true) (same_key-same x y t) (same_key-self x))
  | inr f ↦ elim (cases_Bool (same_key y x)) [
    | inl t ↦ absurd (both_ways (same_key x y) f (subst (λ k. same_key k y ≡ true) (same_key-same y x t) (same_key-self y)))
    | inr g ↦ f ∙ sym g
  ]
]

pub key_laws : IsEquivalence same_key
key_laws = record { refl = same_key-self; symm = same_key-symm; congr = λ x y z h. ap (λ k. same_key k z) (same_key-same x y h) }

-- what is held without a key
pub held_without : (key q : Key) (items : Items) → IsDistinct same_key (keys_of items)
    → item_at (without key items) q ≡ cond (same_key key q) None (item_at items q)
held_without key q items distinct = lookup-remove_entry key_laws (same_key key) (λ x y h. ap (λ k. same_key k y) (same_key-same key x h)) q items distinct

pub held_fewer : (key q : Key) (items : Items) (item : Item) → IsDistinct same_key (keys_of items) → item_at (without key items) q ≡ Some item
    → item_at items q ≡ Some item
held_fewer key q items item distinct is = elim (cases_Bool (same_key key q)) [
  | inl t ↦ (let gone : None ≡ Some item = rw t at (sym (held_without key q items distinct) ∙ is) in absurd (cc))
  | inr f ↦ rw f at (sym (held_without key q items distinct) ∙ is)
]

pub held_gone : (key q : Key) (items : Items) (item : Item) → IsDistinct same_key (keys_of items) → same_key q key ≡ true
    → item_at (without key items) q ≡ Some item → ⊥
held_gone key q items item distinct same is =
    let on : same_key key q ≡ true = same_key-symm key q ∙ same in
    let gone : None ≡ Some item = rw on at (sym (held_without key q items distinct) ∙ is) in
    cc

all_without : (P : Key → Type 0) (test : Key → Bool) (es : Items) → AllByRecursion P (keys_of es) → AllByRecursion P (keys_of (remove_entry test es))
all_without P test [] all = all
all_without P test (e ∷ es) all = elim (test e.0) as (λ b. AllByRecursion P (keys_of (cond b es (e ∷ remove_entry test es)))) [
  | true ↦ all.1
  | false ↦ (all.0, all_without P test es all.1)
]

pub distinct_without : (test : Key → Bool) (es : Items) → IsDistinct same_key (keys_of es) → IsDistinct same_key (keys_of (remove_entry test es))
unfolding IsDistinct
distinct_without test [] distinct = distinct
distinct_without test (e ∷ es) distinct = elim (test e.0) as (λ b. IsDistinct same_key (keys_of (cond b es (e ∷ remove_entry test es)))) [
  | true ↦ distinct.1
  | false ↦ (all_without (λ y. same_key e.0 y ≡ false) test es distinct.0, distinct_without test es distinct.1)
]

-- what is held among the first was held
pub held_take : (n : ℕ) (items : Items) (q : Key) (item : Item) → item_at (take n items) q ≡ Some item → item_at items q ≡ Some item
held_take zero items q item is = absurd (cc)
held_take (suc n) [] q item is = is
held_take (suc n) (e ∷ items) q item is = elim (cases_Bool (same_key q e.0)) [
  | inl t ↦ rw t (rw t at is)
  | inr f ↦ rw f (held_take n items q item (rw f at is))
]

-- what is held after a put is the new item or was held
pub held_put : (items : Items) (most : ℕ) (key : Key) (new : Item) (q : Key) (item : Item) → IsDistinct same_key (keys_of items)
    → item_at (put_entries same_key (lru_cache items most) key new) q ≡ Some item → ((q ≡ key) × (item ≡ new)) ⊎ (item_at items q ≡ Some item)
held_put items most key new q item distinct is = put_case (lookup_entry (same_key key) items) refl is
  where
    put_case : (o : Option (Key × Item)) → lookup_entry (same_key key) items ≡ o
        → item_at (option_map_or (λ e. (e.0, new) ∷ remove_entry (same_key key) items) o ((key, new) ∷ take (most - 1) items)) q ≡ Some item
        → ((q ≡ key) × (item ≡ new)) ⊎ (item_at items q ≡ Some item)
    put_case None none is = elim (cases_Bool (same_key q key)) [
      | inl t ↦ (let e : Some new ≡ Some item = rw t at is in let i : item ≡ new = cc in inl (same_key-same q key t, i))
      | inr f ↦ inr (held_take (most - 1) items q item (rw f at is))
    ]
    put_case (Some e) some is =
        let on = same_key-same key e.0 (Contains-lookup_entry (same_key key) items e some).1 in
        elim (cases_Bool (same_key q e.0)) [
          | inl t ↦ (let f : Some new ≡ Some item = rw t at is in let i : item ≡ new = cc in inl (same_key-same q e.0 t ∙ sym on, i))
          | inr f ↦ inr (held_fewer key q items item distinct (rw f at is))
        ]

-- what is held after a use was held
pub held_promoted : (items : Items) (key q : Key) (item : Item) → IsDistinct same_key (keys_of items) → item_at (promoted (same_key key) items) q ≡ Some item
    → item_at items q ≡ Some item
held_promoted items key q item distinct is = promoted_case (lookup_entry (same_key key) items) refl is
  where
    promoted_case : (o : Option (Key × Item)) → lookup_entry (same_key key) items ≡ o
        → item_at (option_map_or (λ e. e ∷ remove_entry (same_key key) items) o items) q ≡ Some item → item_at items q ≡ Some item
    promoted_case None none is = is
    promoted_case (Some e) some is =
        let on = same_key-same key e.0 (Contains-lookup_entry (same_key key) items e some).1 in
        elim (cases_Bool (same_key q e.0)) [
          | inl t ↦ (
              let f : Some e.1 ≡ Some item = rw t at is in
              let same : key ≡ q = on ∙ sym (same_key-same q e.0 t) in
              let found : item_at items key ≡ Some e.1 = sym (lookup-lookup_entry (same_key key) items) ∙ ap (option_map (λ (p : Key × Item). p.1)) some in
              subst (λ k. item_at items k ≡ Some item) same (found ∙ f))
          | inr f ↦ held_fewer key q items item distinct (rw f at is)
        ]

-- what is held after a fill was kept is its item or was held
pub held_kept : (items : Items) (most : ℕ) (key : Key) (new : Item) (q : Key) (item : Item) → IsDistinct same_key (keys_of items)
    → item_at (kept_items items most key new) q ≡ Some item → ((q ≡ key) × (item ≡ new)) ⊎ (item_at items q ≡ Some item)
held_kept items most key new q item distinct is = elim (cases_Bool (stays (item_at items key) new)) [
  | inl t ↦ inr (held_promoted items key q item distinct (rw t at is))
  | inr f ↦ held_put items most key new q item distinct (rw f at is)
]

-- what is held after a value was set is the new item or was held
pub held_set : (items : Items) (key : Key) (new : Item) (q : Key) (item : Item) → item_at (set_value (same_key key) items new) q ≡ Some item
    → ((q ≡ key) × (item ≡ new)) ⊎ (item_at items q ≡ Some item)
held_set [] key new q item is = inr is
held_set (e ∷ es) key new q item is = elim (cases_Bool (same_key key e.0)) [
  | inl on ↦ elim (cases_Bool (same_key q e.0)) [
    | inl t ↦ (
        let f : Some new ≡ Some item = rw t at (rw on at is) in
        let i : item ≡ new = cc in
        inl (same_key-same q e.0 t ∙ sym (same_key-same key e.0 on), i))
    | inr g ↦ inr (rw g (rw g at (rw on at is)))
  ]
  | inr off ↦ elim (cases_Bool (same_key q e.0)) [
    | inl t ↦ inr (rw t (rw t at (rw off at is)))
    | inr g ↦ elim (held_set es key new q item (rw g at (rw off at is))) [
      | inl here ↦ inl here
      | inr was ↦ inr (rw g was)
    ]
  ]
]
