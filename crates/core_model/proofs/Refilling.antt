-- A follower stays one of its core, and each of its refills can be asked for.
use Rattle.std.proofs.Common.{◌≡◌, ℕ, ◌≤◌, true, List, [], ◌∷◌, Option, Some, None, refl, ap, sym, subst, ◌∙◌, inl, inr, arith}
use Rattle.std.proofs.lemmas.Bool.{cases_Bool}
use Rattle.std.specs.List.{AllByRecursion, IsDistinct}
use Rattle.std.specs.Map.{keys_of as keys_held}
use Rattle.std.specs.Option.{option_map}
use Rattle.std.specs.Prelude.{◌<◌, IfSome, IsSome, IsTrue}
use Rattle.tao_base.specs.EdgeTypes.{EdgeTypes}
use Rattle.tao_base.specs.Keys.{key_shard, same_key}
use Rattle.tao_base.specs.Queries.{query_key, query_shard}
use Rattle.tao_base.specs.declared.id.Key.{Key}
use Rattle.tao_base.specs.declared.id.Key.TheVariants.{Obj, List as Assocs}
use Rattle.cache_items.specs.Delivered.{content_row, dropped_lists, row_of, stale_row}
use Rattle.cache_items.specs.Node.{Items, Node, delivered, is_stale, item_at, without_stale}
use Rattle.cache_items.specs.declared.delivered.DroppedList.{DroppedList}
use Rattle.cache_items.specs.declared.item.Item.{Item}
use Rattle.follower_cache.proofs.cache_node_lemmas.Bounds.{items_are_fewer}
use Rattle.follower_cache.proofs.cache_node_lemmas.Processing.{distinct_dropped, named_versions}
use Rattle.follower_cache.proofs.cache_node_lemmas.ServedAt.{changed_there}
use Rattle.follower_cache.specs.cache_node.True.{AreTold, IsServed, IsTrueNode}
use Rattle.follower_cache.specs.Refills.{Queues, QueuesRow, refill_at, refill_of}
use Rattle.follower_cache.specs.Seen.{FollowerState}
use Rattle.follower_cache.specs.declared.queue.Refill.{Refill}
use Rattle.graph_model.proofs.Later.{all_append, all_map}
use Rattle.graph_model.proofs.Members.{All-in, IsIn, all_from_in, all_in}
use Rattle.graph_model.specs.Log.{version}
use Rattle.graph_model.specs.Soundness.{IsSound}
use Rattle.graph_model.specs.Told.{WhereTold}
use Rattle.maint_msg.specs.Maints.{SeenMaint}
use Rattle.maint_msg.specs.declared.key_versions.KeyVersion.{KeyVersion}
use Rattle.node_name.specs.declared.NodeName.{NodeName}
use Rattle.cache_items.specs.sealed_item.declared.content.Content.{Content}
use Rattle.cache_items.specs.sealed_item.declared.content.Content.TheVariants.{Object as ObjectIs, List as ListIs}
use Rattle.served_shards.specs.Served.{ServedShard, changed_at, marking, seeing, served_at}
use Rattle.shard_log.proofs.Beginnings.{longer_begins}
use Rattle.shard_log.proofs.GrowthLemmas.{beginnings_are_sound, versions_stay}
use Rattle.shard_log.specs.View.{Grows, longer_view}
use Rattle.tao_schema.specs.Schema.{types_of}
use Rattle.topology.specs.Config.{Settings}
use Rattle.core_model.specs.Consistent.{IsFollowerOf, IsNodeOf}
use Rattle.core_model.specs.Fleet.{regions_of, serves_in_turn}
use Rattle.core_model.specs.Laws.{FollowersStay}
use Rattle.core_model.specs.Messages.{AreRefillsFor, DeliversThere, IsMessageFor, IsRefillFor, TakesRefill}
use Rattle.core_model.specs.Pens.{IsSeen, Pens, Rise}
use Rattle.core_model.proofs.NodesSeen.{node_rises, seen-told, seen_meet, served-at}
use Rattle.core_model.proofs.Staying.{begins_node, delivers_node}
use Rattle.core_model.proofs.Turns.{serves_its_turn, turn_of}

-- ---- what is queued

queued_row : (R : Refill → Type 0) (o : Option Refill) (old new : List Refill) → QueuesRow o old new → IfSome o R → AllByRecursion R old → AllByRecursion R new
queued_row R None old new queues holds all = subst (AllByRecursion R) (sym queues) all
queued_row R (Some refill) old new queues holds all = elim queues [
  | inl same ↦ subst (AllByRecursion R) (sym same) all
  | inr more ↦ subst (AllByRecursion R) (sym more.1) (all_append R old (refill ∷ []) all (holds, tt))
]

-- what holds of the refill of each list that was dropped holds of each that waits then
queued : (R : Refill → Type 0) (types : EdgeTypes) (rows : List DroppedList) (old new : List Refill) → Queues types rows old new
    → AllByRecursion (λ row. IfSome (refill_of types row) R) rows → AllByRecursion R old → AllByRecursion R new
queued R types [] old new queues holds all = subst (AllByRecursion R) (sym queues) all
queued R types (row ∷ rows) old new queues holds all =
    queued R types rows queues.0 new queues.2 holds.1 (queued_row R (refill_of types row) old queues.0 queues.1 holds.0 all)

-- ---- the lists that are dropped

-- it holds of the key's list, where an item of the key is held
abbrev HoldsHeld : (DroppedList → Type 0) → Items → KeyVersion → Type 0
HoldsHeld P items k = (item : Item) (count : ℕ) → item_at items k.key ≡ Some item → P (record { key = k.key; version = k.version; length = count })

content_holds : (P : DroppedList → Type 0) (k : KeyVersion) (content : Content)
    → ((count : ℕ) → P (record { key = k.key; version = k.version; length = count }))
    → AllByRecursion P (content_row k content)
content_holds P k (ObjectIs found) holds = tt
content_holds P k (ListIs prefix) holds = (holds _, tt)

row_holds : (P : DroppedList → Type 0) (items : Items) (k : KeyVersion) (o : Option Item) → item_at items k.key ≡ o → HoldsHeld P items k
    → AllByRecursion P (row_of k o)
row_holds P items k None is holds = tt
row_holds P items k (Some item) is holds = content_holds P k item.content (λ count. holds item count is)

stale_holds : (P : DroppedList → Type 0) (items : Items) (k : KeyVersion) → HoldsHeld P items k → AllByRecursion P (stale_row items k)
stale_holds P items k holds = elim (cases_Bool (is_stale items k)) [
  | inl stale ↦ rw stale (row_holds P items k (item_at items k.key) refl holds)
  | inr fresh ↦ rw fresh tt
]

-- what holds of each list that is named and held holds of each that is dropped
dropped_hold : (P : DroppedList → Type 0) (ks : List KeyVersion) (items : Items) → IsDistinct same_key (keys_held items) → AllByRecursion (HoldsHeld P items) ks
    → AllByRecursion P (dropped_lists items ks)
dropped_hold P [] items distinct holds = tt
dropped_hold P (k ∷ ks) items distinct holds =
    let left : Items = without_stale k items in
    all_append P (stale_row items k) (dropped_lists left ks) (stale_holds P items k holds.0)
    (dropped_hold P ks left (distinct_dropped (k ∷ []) items distinct)
    (all_map (HoldsHeld P items) (HoldsHeld P left) (λ j was item count at. was item count ((items_are_fewer items distinct).left (k ∷ []) j.key item at)) ks
    holds.1))

-- ---- the logs of a node

some_served : (served : List ServedShard) (shard : ℕ) → IsServed served shard → (t : ServedShard) × (served_at shard served ≡ Some t)
some_served served shard is = by_option (served_at shard served) refl is
  where
    by_option : (o : Option ServedShard) → served_at shard served ≡ o → IsSome o → (t : ServedShard) × (served_at shard served ≡ Some t)
    by_option None none some = absurd (cc)
    by_option (Some t) found some = (t, found)

module _ (s : Settings) (pens : Pens) (name : NodeName) where
  -- where one of the logs that it serves is told, each is
  alike_told : (node : Node) (shard other : ℕ) (t : ServedShard) → IsNodeOf s pens name node → IsServed node.served shard → (pens shard).log.told ≡ true
      → served_at other node.served ≡ Some t → t.view.log.told ≡ true
  alike_told node shard other t is served told at =
      let one = some_served node.served shard served in
      is.truth.alike other shard t one.0 at one.1 ∙ seen-told pens shard one.0.view (served-at pens shard node.served one.0 is.seen one.1) told

  log_told : (node : Node) (shard other : ℕ) → IsNodeOf s pens name node → IsServed node.served shard → IsServed node.served other
      → (pens shard).log.told ≡ true
      → (pens other).log.told ≡ true
  log_told node shard other is served at told =
      let one = some_served node.served other at in
      let seen = served-at pens other node.served one.0 is.seen one.1 in
      ap (λ l. l.told) seen.log_is ∙ alike_told node shard other one.0 is served told one.1

  -- ---- what a message names

  module _ (m : SeenMaint) (old new : Node) (same : new ≡ delivered m old) (message : IsMessageFor s pens name m) (before : IsNodeOf s pens name old)
      (after : IsNodeOf s pens name new) where
    serves_it : (node : Node) → IsNodeOf s pens name node → IsServed node.served m.shard
    serves_it node is = (serves_its_turn s pens name node m.shard).serves is message.here message.serves

    -- what the message's note has seen is sound
    note_sound : (pens m.shard).log.told ≡ true → IsSound m.note.entries
    note_sound told =
        let was = some_served old.served m.shard (serves_it old before) in
        let seen = served-at pens m.shard old.served was.0 before.seen was.1 in
        let grows : Grows m.note (longer_view was.0.view m.note) = record {
          log_is = sym seen.log_is ∙ message.seen.log_is;
          begins = (longer_begins was.0.view.entries m.note.entries (pens m.shard).entries seen.begins message.seen.begins).2;
        } in
        let mid : List ServedShard = changed_at m.shard (seeing m.note) old.served in
        let there : served_at m.shard new.served ≡ Some (marking m.position (seeing m.note was.0)) =
        ap (λ (n : Node). served_at m.shard n.served) same ∙ (changed_there m.shard (marking m.position) (λ t. refl) mid
        ∙ ap (option_map (marking m.position)) (changed_there m.shard (seeing m.note) (λ t. refl) old.served ∙ ap (option_map (seeing m.note)) was.1)) in
        let all : AreTold new.served = λ other t at. alike_told new m.shard other t after (serves_it new after) told at in
        beginnings_are_sound.begins m.note (longer_view was.0.view m.note) grows
        (λ own. ((after.truth.told all).served m.shard (marking m.position (seeing m.note was.0)) there).sound)
        (seen-told pens m.shard m.note message.seen told)

    -- a key that it names has come to its version
    named_reached : (k : KeyVersion) → IsServed old.served (key_shard k.key) → IsIn k m.keys
        → WhereTold (pens (key_shard k.key)).log.told (k.version ≤ version (pens (key_shard k.key)).entries k.key)
    named_reached k served named told =
        let on = log_told old (key_shard k.key) m.shard before served (serves_it old before) told in
        let names = message.names (seen-told pens m.shard m.note message.seen on) in
        let low = all_in (λ j. j.version ≤ version m.note.entries j.key) m.keys k
        (named_versions m.note.entries m.position m.keys (note_sound on) names.names) named in
        let rises = versions_stay.version_rises m.note (pens m.shard) k.key message.seen in
        let high : k.version ≤ version (pens m.shard).entries k.key = omega arith in
        subst (λ shard. k.version ≤ version (pens shard).entries k.key) (sym (All-in (λ j. key_shard j.key ≡ m.shard) m.keys k names.here named)) high

  -- ---- what can be asked for

  refill_for : (key : Key) (row : DroppedList) → key_shard key < s.shards → IsTrue (serves_in_turn (regions_of s) name (key_shard key))
      → WhereTold (pens (key_shard key)).log.told (row.version ≤ version (pens (key_shard key)).entries key)
      → IfSome (refill_at (types_of s.schema) key row) (IsRefillFor s pens name)
  refill_for (Obj id) row here serves reached = tt
  refill_for (Assocs id1 atype) row here serves reached = record { here = here; serves = serves; reached = reached }

  delivers_refills : (m : SeenMaint) (dropped : ℕ) (old new : FollowerState) → DeliversThere (types_of s.schema) m dropped old new → IsMessageFor s pens name m
      → IsDistinct same_key (keys_held old.node.items) → IsNodeOf s pens name new.node → IsFollowerOf s pens name old → AreRefillsFor s pens name new.refills
  delivers_refills m dropped old new delivers message distinct after is =
      queued (IsRefillFor s pens name) (types_of s.schema) (dropped_lists old.node.items m.keys) old.refills new.refills delivers.refills
      (dropped_hold (λ row. IfSome (refill_of (types_of s.schema) row) (IsRefillFor s pens name)) m.keys old.node.items distinct
      (all_from_in (HoldsHeld (λ row. IfSome (refill_of (types_of s.schema) row) (IsRefillFor s pens name)) old.node.items) m.keys (λ k named item count at.
      let served = is.node.truth.items_here k.key item at in
      let turn = turn_of s pens name old.node (key_shard k.key) is.node served in
      refill_for k.key (record { key = k.key; version = k.version; length = count }) turn.0 turn.1
      (named_reached m old.node new.node delivers.node.node_is message is.node after k served named)))) is.refills

  follower_delivers : (m : SeenMaint) (dropped : ℕ) (old new : FollowerState) → DeliversThere (types_of s.schema) m dropped old new → IsMessageFor s pens name m
      → IsDistinct same_key (keys_held old.node.items) → IsTrueNode new.node → IsFollowerOf s pens name old → IsFollowerOf s pens name new
  follower_delivers m dropped old new delivers message distinct truth is =
      let after : IsNodeOf s pens name new.node =
      delivers_node s (IsSeen pens) (seen_meet pens) name m old.node new.node delivers.node.node_is message.seen distinct truth is.node in
      record { node = after; refills = delivers_refills m dropped old new delivers message distinct after is }

  refill_rises : (later : Pens) (refill : Refill) → Rise pens later → IsRefillFor s pens name refill → IsRefillFor s later name refill
  refill_rises later refill rise is =
      let shard : ℕ = query_shard refill.query in
      let grows : Grows (pens shard) (later shard) = rise shard in
      record {
        here = is.here;
        serves = is.serves;
        reached = λ told.
            let was = is.reached (ap (λ l. l.told) (sym grows.log_is) ∙ told) in
            let rises = versions_stay.version_rises (pens shard) (later shard) (query_key refill.query) grows in
            omega arith;
      }

  takes_refill : (refill : Option Refill) (old new : FollowerState) → TakesRefill refill old new → IsFollowerOf s pens name old
      → IsFollowerOf s pens name new × IfSome refill (IsRefillFor s pens name)
  takes_refill None old new takes is = (subst (IsFollowerOf s pens name) (sym takes.1) is, tt)
  takes_refill (Some refill) old new takes is =
      let all : AreRefillsFor s pens name (refill ∷ new.refills) = subst (AreRefillsFor s pens name) takes.0 is.refills in
      (record { node = subst (λ (f : FollowerState). IsNodeOf s pens name f.node) (sym takes.1) is.node; refills = all.1 }, all.0)

  pub followers_stay : FollowersStay s pens name
  followers_stay = record {
    rises = λ later f rise is. record {
      node = node_rises s pens later name f.node rise is.node;
      refills = all_map (IsRefillFor s pens name) (IsRefillFor s later name) (λ refill was. refill_rises later refill rise was) f.refills is.refills;
    };
    same = λ old new node same is. record { node = node; refills = subst (AreRefillsFor s pens name) (sym same) is.refills };
    begins = λ at old new begins truth is. record {
      node = begins_node s (IsSeen pens) (seen_meet pens) name at old.node new.node begins.node truth is.node;
      refills = subst (AreRefillsFor s pens name) (sym begins.refills) tt;
    };
    delivers = follower_delivers;
    takes = takes_refill;
  }
