-- The items that a node keeps when it processes entries.
use Rattle.std.proofs.Common.{◌≡◌, ℕ, Bool, true, false, not, cond, List, [], ◌∷◌, Some, None, refl, ap, sym, ◌∙◌, subst, inl, inr}
use Rattle.std.proofs.lemmas.Bool.{both_ways, cases_Bool}
use Rattle.std.specs.List.{AllByRecursion, IsDistinct}
use Rattle.std.specs.Map.{keys_of as keys_held, remove_entry}
use Rattle.std.specs.Prelude.{◌&&◌, filter, nat_lt}
use Rattle.cache_items.specs.Node.{Items, Node, caught_up, dropped, is_stale, item_at, processed, without_stale}
use Rattle.cache_items.specs.declared.item.Item.{Item}
use Rattle.cache_node.proofs.Processing.{distinct_dropped}
use Rattle.graph_model.proofs.Keys.{same_key-same, same_key-self}
use Rattle.maint_msg.specs.KeyVersions.{keys_of}
use Rattle.maint_msg.specs.declared.key_versions.KeyVersion.{KeyVersion}
use Rattle.tao_base.specs.Keys.{same_key}
use Rattle.tao_base.specs.declared.entry.Entry.{Entry}
use Rattle.tao_base.specs.declared.id.Key.{Key}

-- what is held is not of the key and below its version
abbrev pub is_fresh : KeyVersion → Key × Item → Bool
is_fresh k held = not (same_key k.key held.0 && nat_lt held.1.version k.version)

-- it is not so for any of the keys
abbrev pub keeps_by : List KeyVersion → Key × Item → Bool
keeps_by [] held = true
keeps_by (k ∷ ks) held = is_fresh k held && keeps_by ks held

-- and of any of the entries
abbrev pub keeps_through : List Entry → Key × Item → Bool
keeps_through [] held = true
keeps_through (e ∷ es) held = keeps_by (keys_of e) held && keeps_through es held

-- ---- filters

-- one filter after another
pub filter_both : {X : Type 0} (p q : X → Bool) (xs : List X) → filter q (filter p xs) ≡ filter (λ x. p x && q x) xs
filter_both p q [] = refl
filter_both p q (x ∷ xs) = elim (cases_Bool (p x)) [
  | inl passes ↦ rw (passes, filter_both p q xs) refl
  | inr fails ↦ rw (fails, filter_both p q xs) refl
]

-- one that keeps all
pub filter_all : {X : Type 0} (xs : List X) → filter (λ x. true) xs ≡ xs
filter_all [] = refl
filter_all (x ∷ xs) = ap (λ ys. x ∷ ys) (filter_all xs)

filter_passing : {X : Type 0} (p : X → Bool) (xs : List X) → AllByRecursion (λ x. p x ≡ true) xs → filter p xs ≡ xs
filter_passing p [] all = refl
filter_passing p (x ∷ xs) all = rw all.0 (ap (λ ys. x ∷ ys) (filter_passing p xs all.1))

-- a filter that keeps what a second one keeps, and nothing that this doesn't, is that one
pub filter_same : {X : Type 0} (p q : X → Bool) (xs : List X) → ((x : X) → q x ≡ true → p x ≡ true) → AllByRecursion (λ x. q x ≡ true) (filter p xs)
    → filter p xs ≡ filter q xs
filter_same p q [] more all = refl
filter_same {X} p q (x ∷ xs) more all = elim (cases_Bool (p x)) [
  | inl passes ↦ (
      let those : AllByRecursion (λ y. q y ≡ true) (x ∷ filter p xs) =
      subst (λ b. AllByRecursion (λ (y : X). q y ≡ true) (cond b (x ∷ filter p xs) (filter p xs))) passes all in
      rw (passes, those.0) (ap (λ ys. x ∷ ys) (filter_same p q xs more those.1)))
  | inr fails ↦ (
      let those : AllByRecursion (λ y. q y ≡ true) (filter p xs) =
      subst (λ b. AllByRecursion (λ (y : X). q y ≡ true) (cond b (x ∷ filter p xs) (filter p xs))) fails all in
      elim (cases_Bool (q x)) [
        | inl on ↦ absurd (both_ways (p x) fails (more x on))
        | inr off ↦ rw (fails, off) (filter_same p q xs more those)
      ])
]

-- ---- what is dropped

-- no key is the one at which an item is dropped
others_fresh : (k : KeyVersion) (key : Key) (items : Items) → same_key k.key key ≡ true → AllByRecursion (λ y. same_key key y ≡ false) (keys_held items)
    → AllByRecursion (λ held. is_fresh k held ≡ true) items
others_fresh k key [] same apart = tt
others_fresh k key (e ∷ es) same apart =
    let other : same_key k.key e.0 ≡ false = subst (λ (q : Key). same_key q e.0 ≡ false) (sym (same_key-same k.key key same)) apart.0 in
    (rw other refl, others_fresh k key es same apart.1)

stale_filter : (k : KeyVersion) (items : Items) → IsDistinct same_key (keys_held items) → without_stale k items ≡ filter (is_fresh k) items
unfolding IsDistinct
stale_filter k [] distinct = refl
stale_filter k (e ∷ es) distinct = elim (cases_Bool (same_key k.key e.0)) [
  | inl here ↦ (
      let rest : filter (is_fresh k) es ≡ es = filter_passing (is_fresh k) es (others_fresh k e.0 es here distinct.0) in
      elim (cases_Bool (nat_lt e.1.version k.version)) [
        | inl below ↦ rw (here, below, rest) refl
        | inr not_below ↦ rw (here, not_below, rest) refl
      ])
  | inr there ↦ (
      let later = stale_filter k es distinct.1 in
      elim (cases_Bool (is_stale es k)) [
        | inl stale ↦ (let left : remove_entry (same_key k.key) es ≡ filter (is_fresh k) es = rw stale at later in rw (there, stale, left) refl)
        | inr fresh ↦ (let left : es ≡ filter (is_fresh k) es = rw fresh at later in rw (there, fresh) (ap (λ ys. e ∷ ys) left))
      ])
]

dropped_filter : (ks : List KeyVersion) (items : Items) → IsDistinct same_key (keys_held items) → dropped items ks ≡ filter (keeps_by ks) items
dropped_filter [] items distinct = sym (filter_all items)
dropped_filter (k ∷ ks) items distinct =
    dropped_filter ks (without_stale k items) (distinct_dropped (k ∷ []) items distinct)
    ∙ ap (filter (keeps_by ks)) (stale_filter k items distinct) ∙ filter_both (is_fresh k) (keeps_by ks) items

-- what is left after entries were processed
pub caught_filter : (shard : ℕ) (es : List Entry) (n : Node) → IsDistinct same_key (keys_held n.items)
    → (caught_up shard es n).items ≡ filter (keeps_through es) n.items
caught_filter shard [] n distinct = sym (filter_all n.items)
caught_filter shard (e ∷ es) n distinct =
    caught_filter shard es (processed shard e.position (keys_of e) n) (distinct_dropped (keys_of e) n.items distinct)
    ∙ ap (filter (keeps_through es)) (dropped_filter (keys_of e) n.items distinct) ∙ filter_both (keeps_by (keys_of e)) (keeps_through es) n.items

-- ---- what is held at the keys of items

not_among : (key : Key) (items : Items) → AllByRecursion (λ y. same_key key y ≡ false) (keys_held items) → item_at items key ≡ None
not_among key [] apart = refl
not_among key (e ∷ es) apart = rw apart.0 (not_among key es apart.1)

-- what is so of what is held at each key is so of each item
pub all_held : (P : Key × Item → Type 0) (items : Items) → IsDistinct same_key (keys_held items)
    → ((key : Key) (item : Item) → item_at items key ≡ Some item → P (key, item)) → AllByRecursion P items
unfolding IsDistinct
all_held P [] distinct each = tt
all_held P (e ∷ es) distinct each = (
  each e.0 e.1 (rw same_key-self refl),
  all_held P es distinct.1 (λ key item at. each key item (elim (cases_Bool (same_key key e.0)) [
    | inl same ↦ (
        let none = not_among key es (subst (λ (q : Key). AllByRecursion (λ y. same_key q y ≡ false) (keys_held es))
        (sym (same_key-same key e.0 same)) distinct.0) in
        absurd (let clash : None ≡ Some item = sym none ∙ at in cc))
    | inr other ↦ rw other at
  ])),
)
