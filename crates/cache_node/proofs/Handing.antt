-- What a true node hands on is a fill of what was seen, and a node that hands on or keeps a copy stays true.
use Rattle.std.proofs.Common.{◌≡◌, ℕ, Bool, true, false, List, Option, Some, None, Result, Ok, Err, IfOk, OnErr, refl, sym, ◌∙◌, ap, subst, inl, inr}
use Rattle.std.proofs.lemmas.Bool.{cases_Bool}
use Rattle.std.specs.Bool.{OnTrue}
use Rattle.std.specs.List.{IsDistinct}
use Rattle.std.specs.Map.{keys_of as keys_held}
use Rattle.std.specs.Prelude.{if◌then◌else◌, is_some}
use Rattle.tao_base.specs.EdgeTypes.{EdgeTypes}
use Rattle.tao_base.specs.Keys.{key_shard, same_key}
use Rattle.tao_base.specs.Queries.{query_key}
use Rattle.tao_base.specs.declared.id.Key.{Key}
use Rattle.tao_base.specs.declared.query.Query.{Query}
use Rattle.shard_log.specs.View.{View}
use Rattle.lru.specs.LruCache.{promoted}
use Rattle.cache_items.proofs.sealed_item_lemmas.Deciding.{fronts_decide}
use Rattle.cache_items.specs.sealed_item.Fills.{IsFill, IsSealed, SealedItem}
use Rattle.served_shards.specs.Meetings.{MeetsAt}
use Rattle.served_shards.specs.Served.{ServedShard, log_at, low_at, served_at, top_at, view_at}
use Rattle.cache_items.specs.declared.item.Item.{Item}
use Rattle.cache_items.specs.declared.look.Kept.{Kept}
use Rattle.cache_items.specs.HandedOn.{HandsOn, IsFrontHeld, handed_on, with_copy}
use Rattle.cache_items.specs.Kept.{GivesKept, is_yes, item_of, own_kept_of}
use Rattle.cache_items.specs.Node.{Node, item_at}
use Rattle.cache_node.proofs.Filling.{took_own_is_true}
use Rattle.cache_node.proofs.Keys.{held_promoted}
use Rattle.cache_node.proofs.Marked.{items_reach_the_mark, low_is_marked}
use Rattle.cache_node.proofs.Nodes.{is_served}
use Rattle.cache_node.proofs.Truth.{fewer_is_true}
use Rattle.cache_node.specs.True.{AreTold, IsTrueNode}

-- what is had of a shard of whose log that was seen
served_of_view : (served : List ServedShard) (shard : ℕ) (view : View) → view_at shard served ≡ Some view
    → (s : ServedShard) × (served_at shard served ≡ Some s) × (s.view ≡ view)
served_of_view served shard view is = by_option (served_at shard served) refl
  where
    by_option : (o : Option ServedShard) → served_at shard served ≡ o → (s : ServedShard) × (served_at shard served ≡ Some s) × (s.view ≡ view)
    by_option None none = absurd (let e : None ≡ Some view = rw none at is in cc)
    by_option (Some s) some = (s, some, (let e : Some s.view ≡ Some view = rw some at is in cc))

-- the parts of a fill of a held item, in what was seen of its shard
front_is_fill : (types : EdgeTypes) (n : Node) (query : Query) (floor : ℕ) (fill : SealedItem) (s : ServedShard) → IsTrueNode n → AreTold n.served
    → served_at (key_shard (query_key query)) n.served ≡ Some s → IsFrontHeld types query floor (item_at n.items (query_key query)) (Some (item_of fill))
    → IsFill s.view.entries (query_key query) fill.version s.marks.low fill.content
front_is_fill types n query floor fill s is told at front = by_item (item_at n.items (query_key query)) refl front
  where
    by_item : (o : Option Item) → item_at n.items (query_key query) ≡ o → IsFrontHeld types query floor o (Some (item_of fill))
        → IsFill s.view.entries (query_key query) fill.version s.marks.low fill.content
    by_item None none front = absurd (cc)
    by_item (Some item) some front =
        let logs = is.told told in
        let true_served = logs.served (key_shard (query_key query)) s at in
        let true_item = logs.items (query_key query) item s some at in
        subst (λ v. IsFill s.view.entries (query_key query) v s.marks.low fill.content) (sym front.1) (record {
          exact = (fronts_decide types query item.content).exact s.view.entries item.version fill.content front.2 true_item.exact;
          since = record {
            within = true_served.within s.marks.low (low_is_marked s.marks);
            since = items_reach_the_mark.reaches s (query_key query) item true_served true_item;
          };
        })

-- what a node hands on is a fill
pub handed_is_sealed : (types : EdgeTypes) (n : Node) (query : Query) (floor : ℕ) (fill : SealedItem) → IsTrueNode n → HandsOn types n query floor (Some fill)
    → IsSealed fill
handed_is_sealed types n query floor fill is hands told =
    let of = hands.1 in
    let at = served_of_view n.served (key_shard (query_key query)) fill.note of.note_is in
    let all_told : AreTold n.served = λ k t there. is.alike k (key_shard (query_key query)) t at.0 there at.1 ∙ (ap (λ v. v.log.told) at.2 ∙ told) in
    let low : low_at (key_shard (query_key query)) n.served ≡ at.0.marks.low = rw at.1 refl in
    let here = front_is_fill types n query floor fill at.0 is all_told at.1 hands.0 in
    subst (λ v. IsFill v.entries fill.key fill.version fill.as_of fill.content) at.2
    (subst (λ k. IsFill at.0.view.entries k fill.version fill.as_of fill.content) (sym of.key_is)
    (subst (λ l. IsFill at.0.view.entries (query_key query) fill.version l fill.content) (sym (of.as_of_is ∙ low)) here))

pub handed : {E : Type 0} (old new : Node) (key : Key) (r : Result (Option SealedItem) E) → IsDistinct same_key (keys_held old.items) → IsTrueNode old
    → IfOk r (λ handed. new ≡ handed_on key handed old) → OnErr r (new ≡ old) → IsTrueNode new
handed old new key (Ok found) distinct is same same_err = subst IsTrueNode (sym same) (by_found (is_some found))
  where
    by_found : (b : Bool) → IsTrueNode (record old { items = if b then promoted (same_key key) old.items else old.items })
    by_found true = fewer_is_true old (promoted (same_key key) old.items) is (λ q item h. held_promoted old.items key q item distinct h)
    by_found false = is
handed old new key (Err e) distinct is same same_err = subst IsTrueNode (sym same_err) is

pub copied : (old new : Node) (fill : SealedItem) (kept : Kept) → IsDistinct same_key (keys_held old.items) → IsTrueNode old
    → log_at (key_shard fill.key) old.served ≡ Some fill.note.log → IsSealed fill → OnTrue (is_yes kept) (MeetsAt (key_shard fill.key) fill.note old.served)
    → GivesKept (own_kept_of (top_at (key_shard fill.key) old.served) fill.as_of) kept → new ≡ with_copy fill kept old → IsTrueNode new
copied old new fill kept distinct is log sealed meets due same = subst IsTrueNode (sym same) (elim (cases_Bool (is_yes kept)) [
  | inl yes_is ↦ (
      let met : MeetsAt (key_shard fill.key) fill.note old.served = rw yes_is at meets in
      let took_true = took_own_is_true fill kept old distinct is (is_served old.served (key_shard fill.key) fill.note.log log) met sealed due in
      rw yes_is (rw yes_is at took_true))
  | inr no_keep ↦ rw no_keep is
])
