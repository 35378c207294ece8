-- A node that takes a changeset stays true of its logs.
use Rattle.std.proofs.Common.{◌≡◌, ℕ, ◌+◌, ◌<◌, ◌≤◌, ◌^◌, List, Option, Some, None, refl, sym, subst, inl, inr, arith, take}
use Rattle.std.proofs.lemmas.List.Elements.{All-contains}
use Rattle.std.specs.List.{IsDistinct}
use Rattle.std.specs.Map.{keys_of as keys_held}
use Rattle.tao_base.specs.declared.entry.Entry.{Entry}
use Rattle.tao_base.specs.declared.entry.Touch.{Touch}
use Rattle.tao_base.specs.declared.id.Key.{Key}
use Rattle.tao_base.specs.declared.id.Key.TheVariants.{Obj, List as Assocs}
use Rattle.graph_model.proofs.Exact.{exact_follows, version_take}
use Rattle.graph_model.proofs.Rising.{touches_tell}
use Rattle.tao_base.specs.Keys.{key_shard, same_key}
use Rattle.graph_model.specs.Log.{IsTouchOf, version}
use Rattle.graph_model.specs.Soundness.{IsSound}
use Rattle.shard_log.specs.View.{longer_view}
use Rattle.cache_items.proofs.list_prefix_lemmas.Exact.{stays_exact}
use Rattle.cache_items.specs.list_prefix.Changes.{prefix_after}
use Rattle.cache_items.proofs.changeset_lemmas.ChangeLemmas.{touches_stay}
use Rattle.cache_items.specs.changeset.Changes.{IsOneTouch, SeenChange, own_touch}
use Rattle.cache_items.specs.sealed_item.Fills.{IsExactContent}
use Rattle.cache_items.specs.sealed_item.declared.content.Content.{Content}
use Rattle.cache_items.specs.sealed_item.declared.content.Content.TheVariants.{Object as ObjectIs, List as ListIs}
use Rattle.cache_node.proofs.Keys.{held_fewer, held_set}
use Rattle.cache_node.proofs.Raised.{raised_is_true}
use Rattle.cache_node.proofs.ServedAt.{changed_here, told_before}
use Rattle.cache_node.proofs.Truth.{added_is_true, fewer_is_true, seeing_keeps, met_is_true}
use Rattle.cache_items.specs.declared.item.Item.{Item}
use Rattle.served_shards.specs.Meetings.{MeetsAt}
use Rattle.cache_items.specs.Node.{Items, Node, item_at, met}
use Rattle.served_shards.specs.Served.{ServedShard, changed_at, seeing, served_at}
use Rattle.cache_items.specs.Taken.{TakesChange, changed_content, changed_item, with_change}
use Rattle.cache_node.specs.True.{AreTold, IsTrueNode}

-- a content that is exact below a touch's version is exact at it after the touch's change
content_follows : (log : List Entry) (t : Touch) (key : Key) (v : ℕ) (content : Content) (bound : ℕ) → IsSound log → IsTouchOf log t → t.key ≡ key
    → t.version ≡ v + 1 → t.version < 2 ^ 64
    → IsExactContent log key v content → IsExactContent log key (v + 1) (changed_content content t.change bound)
content_follows log t (Obj id) v (ObjectIs found) bound sound touch key next bits exact =
    (exact_follows log t).object_follows sound touch id v found key next exact
content_follows log t (Obj id) v (ListIs prefix) bound sound touch key next bits exact = absurd exact
content_follows log t (Assocs id1 atype) v (ObjectIs found) bound sound touch key next bits exact = absurd exact
content_follows log t (Assocs id1 atype) v (ListIs prefix) bound sound touch key next bits exact =
    (stays_exact t.change prefix (prefix_after t.change prefix bound) bound refl).exact log t id1 atype v sound touch key refl next bits exact

-- the version of a touch is one that its key has reached
pub touch_reached : (log : List Entry) (t : Touch) → IsSound log → IsTouchOf log t → t.version ≤ version log t.key
touch_reached log t sound touch =
    let tells =
    All-contains (λ t. t.version ≡ version (take (touch.place + 1) log) t.key) touch.entry.touches t
    (touches_tell log sound touch.place touch.entry touch.stands).versions touch.touches in
    let le = version_take (touch.place + 1) log t.key in
    omega arith

-- the items took a changeset
pub touch_is_true : (n : Node) (c : SeenChange) (bound : ℕ) (items : Items) → IsDistinct same_key (keys_held n.items) → IsTrueNode n → c.after ≡ c.before + 1
    → ((s : ServedShard) → AreTold n.served → served_at (key_shard c.key) n.served ≡ Some s → IsTouchOf s.view.entries (own_touch c) × (c.after < 2 ^ 64))
    → TakesChange bound (item_at n.items c.key) c n.items items → IsTrueNode (record n { items = items })
touch_is_true n c bound items distinct is next seen takes = by_item (item_at n.items c.key) refl takes
  where
    by_item : (o : Option Item) → item_at n.items c.key ≡ o → TakesChange bound o c n.items items → IsTrueNode (record n { items = items })
    by_item None none same = fewer_is_true n items is (λ key item h. subst (λ xs. item_at xs key ≡ Some item) same h)
    by_item (Some item) some (inl stays) = fewer_is_true n items is (λ key other h. subst (λ xs. item_at xs key ≡ Some other) stays.1 h)
    by_item (Some item) some (inr (inr goes)) =
        fewer_is_true n items is (λ key other h. held_fewer c.key key n.items other distinct (subst (λ xs. item_at xs key ≡ Some other) goes.1 h))
    by_item (Some item) some (inr (inl takes)) =
        let new = changed_item item c.change c.after bound in
        added_is_true n items c.key new is (λ q other h. held_set n.items c.key new q other (subst (λ xs. item_at xs q ≡ Some other) takes.1 h))
        (is.items_here c.key item some)
        (λ s told was at.
        let before = was.items c.key item s some at in
        let there = seen s told at in
        let version : c.after ≡ item.version + 1 = let same = takes.0 in omega arith in
        record {
          exact = subst (λ v. IsExactContent s.view.entries c.key v (changed_content item.content c.change bound)) (sym version)
              (content_follows s.view.entries (own_touch c) c.key item.version item.content bound
              (was.served (key_shard c.key) s at).sound there.0 refl version there.1 before.exact);
          reaches = λ p v on there. let le = before.reaches p v on there in omega arith;
        })

-- a changeset was taken
pub changed_is_true : (n : Node) (c : SeenChange) (bound : ℕ) (items : Items) → IsDistinct same_key (keys_held n.items) → IsTrueNode n
    → MeetsAt (key_shard c.key) c.note n.served
    → IsOneTouch c → c.after < 2 ^ 64 → TakesChange bound (item_at n.items c.key) c n.items items → IsTrueNode (with_change c items n)
changed_is_true n c bound items distinct is meets touch bits takes =
    let m : Node = met (key_shard c.key) c.note n in
    let taken =
    touch_is_true m c bound items distinct (met_is_true n (key_shard c.key) c.note is meets) touch.next (λ s told at. (in_view s told at, bits)) takes in
    raised_is_true (record m { items = items }) c.key c.after taken
    (λ s told was at. touch_reached s.view.entries (own_touch c) (was.served (key_shard c.key) s at).sound (in_view s told at))
  where
    in_view : (s : ServedShard) → AreTold (changed_at (key_shard c.key) (seeing c.note) n.served)
        → served_at (key_shard c.key) (changed_at (key_shard c.key) (seeing c.note) n.served) ≡ Some s
        → IsTouchOf s.view.entries (own_touch c)
    in_view s told at =
        let here = changed_here (key_shard c.key) (seeing c.note) n.served s (seeing_keeps c.note) at in
        let before = told_before (key_shard c.key) (seeing c.note) n.served (seeing_keeps c.note) told (key_shard c.key) here.before here.was in
        subst (λ s. IsTouchOf s.view.entries (own_touch c)) (sym here.is)
        (touches_stay.stays c.note (longer_view here.before.view c.note) (own_touch c) (meets.meets here.before here.was).from_note touch.touched before)
