-- Items stay no longer than the bounds of their types.
use Rattle.std.proofs.Common.{◌≡◌, ℕ, ◌-◌, List, [], ◌∷◌, length, Option, Some, None, refl, sym, subst, inl, inr, ◌⊎◌, arith}
use Rattle.std.specs.List.{IsDistinct}
use Rattle.std.specs.Map.{keys_of as keys_held}
use Rattle.tao_base.specs.EdgeTypes.{EdgeTypes}
use Rattle.tao_base.specs.declared.entry.Change.{Change}
use Rattle.tao_base.specs.declared.entry.Entry.{Entry}
use Rattle.tao_base.specs.declared.id.Key.{Key}
use Rattle.tao_base.specs.declared.id.Key.TheVariants.{Obj, List as Assocs}
use Rattle.tao_base.specs.Keys.{same_key}
use Rattle.cache_items.proofs.list_prefix_lemmas.Exact.{after_bounded}
use Rattle.cache_items.specs.changeset.Changes.{SeenChange}
use Rattle.cache_items.specs.maint_msg.KeyVersions.{keys_of}
use Rattle.cache_items.specs.sealed_item.declared.content.Content.{Content}
use Rattle.cache_items.specs.sealed_item.declared.content.Content.TheVariants.{Object as ObjectIs, List as ListIs}
use Rattle.cache_node.proofs.Keys.{held_fewer, held_kept, held_promoted, held_set, held_take}
use Rattle.cache_node.proofs.Processing.{distinct_dropped, held_dropped}
use Rattle.cache_items.specs.declared.item.Item.{Item}
use Rattle.cache_items.specs.Kept.{kept_items}
use Rattle.cache_node.specs.Laws.{ItemsAreFewer, ItemsStayWithin}
use Rattle.cache_items.specs.Node.{Items, Node, caught_up, item_at, processed}
use Rattle.tao_schema.specs.Schema.{key_bound}
use Rattle.cache_items.specs.Taken.{TakesChange, changed_content, changed_item}
use Rattle.cache_node.specs.Within.{AreFewer, AreWithin}
use Rattle.cache_items.specs.sealed_item.Decided.{IsWithinBound}

pub items_are_fewer : (items : Items) (distinct : IsDistinct same_key (keys_held items)) → ItemsAreFewer items distinct
items_are_fewer items distinct = record {
  without_one = λ key q item h. held_fewer key q items item distinct h;
  without_the_last = λ q item h. held_take (length items - 1) items q item h;
  used = λ key q item h. held_promoted items key q item distinct h;
  left = λ keys q item h. (held_dropped keys items q item distinct h).0;
}

content_within : (types : EdgeTypes) (key : Key) (content : Content) (change : Change) → IsWithinBound types key content
    → IsWithinBound types key (changed_content content change (key_bound types key))
content_within types (Obj id) (ObjectIs found) change within = tt
content_within types (Obj id) (ListIs prefix) change within = tt
content_within types (Assocs id1 atype) (ObjectIs found) change within = tt
content_within types (Assocs id1 atype) (ListIs prefix) change within = let few = after_bounded change prefix (types.bound atype) in omega arith

added_within : (types : EdgeTypes) (items new : Items) (key : Key) (item : Item)
    → ((q : Key) (other : Item) → item_at new q ≡ Some other → ((q ≡ key) × (other ≡ item)) ⊎ (item_at items q ≡ Some other))
    → IsWithinBound types key item.content → AreWithin types items → AreWithin types new
added_within types items new key item cases bound within q other h = elim (cases q other h) [
  | inl here ↦ subst (λ k. IsWithinBound types k other.content) (sym here.0) (subst (λ (i : Item). IsWithinBound types key i.content) (sym here.1) bound)
  | inr was ↦ within q other was
]

changed_within : (types : EdgeTypes) (items : Items) (c : SeenChange) (new : Items) (o : Option Item) → IsDistinct same_key (keys_held items)
    → item_at items c.key ≡ o → TakesChange (key_bound types c.key) o c items new → AreWithin types items → AreWithin types new
changed_within types items c new None distinct held same within = subst (AreWithin types) (sym same) within
changed_within types items c new (Some item) distinct held (inl stays) within = subst (AreWithin types) (sym stays.1) within
changed_within types items c new (Some item) distinct held (inr (inl takes)) within =
    added_within types items new c.key (changed_item item c.change c.after (key_bound types c.key))
    (λ q other h. held_set items c.key (changed_item item c.change c.after (key_bound types c.key)) q other (subst (λ xs. item_at xs q ≡ Some other) takes.1 h))
    (content_within types c.key item.content c.change (within c.key item held)) within
changed_within types items c new (Some item) distinct held (inr (inr goes)) within =
    λ q other h. within q other (held_fewer c.key q items other distinct (subst (λ xs. item_at xs q ≡ Some other) goes.1 h))

caught_fewer : (shard : ℕ) (entries : List Entry) (n : Node) → IsDistinct same_key (keys_held n.items) → AreFewer n.items (caught_up shard entries n).items
caught_fewer shard [] n distinct q item h = h
caught_fewer shard (e ∷ es) n distinct q item h =
    (held_dropped (keys_of e) n.items q item distinct
    (caught_fewer shard es (processed shard e.position (keys_of e) n) (distinct_dropped (keys_of e) n.items distinct) q item h)).0

pub items_stay_within : (types : EdgeTypes) (items : Items) → ItemsStayWithin types items
items_stay_within types items = record {
  fewer = λ new less within q item h. within q item (less q item h);
  kept = λ most key item distinct bound within. added_within types items (kept_items items most key item) key item
      (λ q other h. held_kept items most key item q other distinct h) bound within;
  changed = λ c new distinct takes within. changed_within types items c new (item_at items c.key) distinct refl takes within;
  caught = λ shard entries n same distinct within q item h.
      within q item (subst (λ xs. item_at xs q ≡ Some item) same
      (caught_fewer shard entries n (subst (λ xs. IsDistinct same_key (keys_held xs)) (sym same) distinct) q item h));
}
