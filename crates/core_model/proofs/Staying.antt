-- A node stays the one of its name, whatever it does.
use Rattle.std.proofs.Common.{◌≡◌, ℕ, ◌-◌, Bool, true, false, List, [], ◌∷◌, length, map, Option, Some, None, refl, ap, sym, subst, ◌∙◌, inl, inr}
use Rattle.std.proofs.lemmas.Bool.{cases_Bool}
use Rattle.std.specs.List.{IsDistinct}
use Rattle.std.specs.Map.{keys_of as keys_held}
use Rattle.std.specs.Prelude.{if◌then◌else◌, ◌==◌}
use Rattle.tao_base.specs.EdgeTypes.{EdgeTypes}
use Rattle.tao_base.specs.Keys.{key_shard, same_key}
use Rattle.tao_base.specs.Queries.{query_key}
use Rattle.tao_base.specs.declared.entry.Entry.{Entry}
use Rattle.tao_base.specs.declared.entry.Touch.{Touch}
use Rattle.tao_base.specs.declared.id.Key.{Key}
use Rattle.cache_items.specs.changeset.Changes.{change_by}
use Rattle.cache_items.specs.Kept.{is_yes, item_of, took, with_item}
use Rattle.cache_items.specs.Node.{Items, Node, caught_up, delivered, dropped, met, processed, with_ended_ask, without, without_last}
use Rattle.cache_items.specs.TakenEntry.{AppliesEntry, TakesEntry, TakesTouches}
use Rattle.cache_items.specs.declared.look.Kept.{Kept}
use Rattle.cache_items.specs.declared.look.Look.{Look}
use Rattle.cache_items.specs.declared.look.Look.TheVariants.{Hit, Miss}
use Rattle.follower_cache.proofs.cache_node_lemmas.Bounds.{items_are_fewer, items_stay_within}
use Rattle.follower_cache.proofs.cache_node_lemmas.Keys.{held_take}
use Rattle.follower_cache.proofs.cache_node_lemmas.TakenEntries.{distinct_change}
use Rattle.follower_cache.specs.cache_node.Laws.{KeepsShard}
use Rattle.follower_cache.specs.cache_node.True.{IsTrueNode}
use Rattle.follower_cache.specs.cache_node.Within.{AreFewer, AreWithin}
use Rattle.follower_cache.specs.Seen.{FollowerState}
use Rattle.leader_tier.specs.LeaderReads.{GivesAnswer, KeepsGiven, asked_read}
use Rattle.leader_tier.specs.TakenWrites.{TakesWritten}
use Rattle.lru.specs.LruCache.{promoted}
use Rattle.maint_msg.specs.KeyVersions.{keys_of as keys_touched}
use Rattle.maint_msg.specs.Maints.{SeenMaint}
use Rattle.node_name.specs.declared.NodeName.{NodeName}
use Rattle.cache_items.specs.sealed_item.Decided.{IsWithinBound}
use Rattle.cache_items.specs.sealed_item.Fills.{SealedItem}
use Rattle.served_shards.specs.Begun.{restarted}
use Rattle.served_shards.specs.Served.{ServedShard, changed_at, forgetting, marking, seeing}
use Rattle.shard_log.specs.View.{LogName, View}
use Rattle.leader_tier.specs.shard_tables.StoreView.{Store}
use Rattle.leader_tier.specs.shard_tables.declared.leader_answer.LeaderAnswer.{LeaderAnswer}
use Rattle.leader_tier.specs.shard_tables.declared.leader_answer.LeaderAnswer.TheVariants as leader
use Rattle.tao_keeper.specs.KeeperState.{KeeperState}
use Rattle.tao_schema.specs.Schema.{key_bound, types_of}
use Rattle.topology.specs.Config.{Settings}
use Rattle.core_model.specs.Consistent.{AreRight, IsRightNode}
use Rattle.core_model.specs.Emptied.{Anew, RestartEach, Restarts}
use Rattle.core_model.specs.Laws.{MessagesStay, NodesStay, RightNodesStay}
use Rattle.core_model.specs.Pens.{IsSeen, KeepsMeets, Pens, SeenRule}
use Rattle.core_model.specs.Reads.{AfterLook, IsRightAnswer, IsRightFill, LeaderAnswers, StoreCalls, Wanted}
use Rattle.core_model.proofs.NodesSeen.{right-forgets, right-marks, right-meets, seen-rises, seen_meet}

-- ---- the shards that are served

abbrev numbers_of : List ServedShard → List ℕ
numbers_of served = map (λ t. t.shard) served

-- a shard that is changed keeps its number
pub numbers_stay : (shard : ℕ) (f : ServedShard → ServedShard) (served : List ServedShard) → KeepsShard f
    → numbers_of (changed_at shard f served) ≡ numbers_of served
numbers_stay shard f [] keeps = refl
numbers_stay shard f (s ∷ ss) keeps = elim (cases_Bool (s.shard == shard)) [
  | inl here ↦ rw here (ap (λ n. n ∷ numbers_of ss) (keeps s))
  | inr there ↦ rw there (ap (λ ns. s.shard ∷ ns) (numbers_stay shard f ss keeps))
]

-- ---- the items that are held

-- what was held stays within the bounds after the changesets of some touches
pub touches_within : (types : EdgeTypes) (note : View) (ts : List Touch) (old new : Items) → IsDistinct same_key (keys_held old)
    → TakesTouches types note ts old new
    → AreWithin types old → AreWithin types new
touches_within types note [] old new distinct same within = subst (AreWithin types) (sym same) within
touches_within types note (t ∷ ts) old new distinct takes within =
    touches_within types note ts takes.0 new (distinct_change (key_bound types t.key) old takes.0 (change_by t note) distinct takes.1) takes.2
    ((items_stay_within types old).changed (change_by t note) takes.0 distinct takes.1 within)

-- an item that is looked at stands first, or all stays
used_within : (types : EdgeTypes) (items : Items) (key : Key) (used : Bool) → IsDistinct same_key (keys_held items) → AreWithin types items
    → AreWithin types (if used then promoted (same_key key) items else items)
used_within types items key true distinct within =
    (items_stay_within types items).fewer (promoted (same_key key) items) ((items_are_fewer items distinct).used key) within
used_within types items key false distinct within = within

-- ---- a node

module _ (s : Settings) (Seen : SeenRule) (meets : KeepsMeets Seen) (name : NodeName) where
  -- what it is made of is still what it should be
  pub node_after : (from to : Node) → IsRightNode s Seen name from → IsTrueNode to → numbers_of to.served ≡ numbers_of from.served → AreRight Seen to.served
      → AreWithin (types_of s.schema) to.items → IsRightNode s Seen name to
  node_after from to is truth numbers seen within = record { shards = numbers ∙ is.shards; seen = seen; truth = truth; within = within }

  -- what it serves stays
  pub node_same : (from to : Node) → IsRightNode s Seen name from → IsTrueNode to → to.served ≡ from.served → AreWithin (types_of s.schema) to.items
      → IsRightNode s Seen name to
  node_same from to is truth same within = node_after from to is truth (ap numbers_of same) (subst (AreRight Seen) (sym same) is.seen) within

  -- it is changed at one shard
  pub node_changed : (shard : ℕ) (f : ServedShard → ServedShard) (from to : Node) → IsRightNode s Seen name from → IsTrueNode to → KeepsShard f
      → AreRight Seen (changed_at shard f from.served) → to.served ≡ changed_at shard f from.served → AreWithin (types_of s.schema) to.items
      → IsRightNode s Seen name to
  node_changed shard f from to is truth keeps seen same within =
      node_after from to is truth (ap numbers_of same ∙ numbers_stay shard f from.served keeps) (subst (AreRight Seen) (sym same) seen) within

  pub looks_node : (key : Key) (look : Look) (ask : Option ℕ) (from to : Node) → AfterLook key look ask from to → IsDistinct same_key (keys_held from.items)
      → IsTrueNode to
      → IsRightNode s Seen name from → IsRightNode s Seen name to
  looks_node key (Hit answer version) ask from to looks distinct truth is =
      node_same from to is truth (ap (λ (n : Node). n.served) looks.1)
      (subst (λ (n : Node). AreWithin (types_of s.schema) n.items) (sym looks.1) (used_within (types_of s.schema) from.items key true distinct is.within))
  looks_node key Miss None from to looks distinct truth is = subst (IsRightNode s Seen name) (sym looks.1) is
  looks_node key Miss (Some number) from to looks distinct truth is =
      node_changed (key_shard key) forgetting from to is truth (λ t. refl) (right-forgets Seen (key_shard key) from.served is.seen)
      (ap (λ (n : Node). n.served) looks.2)
      (subst (λ (n : Node). AreWithin (types_of s.schema) n.items) (sym looks.2) is.within)

  -- an ask that ends
  ended_same : (ask : Option ℕ) (n : Node) → ((with_ended_ask ask n).served ≡ n.served) × ((with_ended_ask ask n).items ≡ n.items)
  ended_same None n = (refl, refl)
  ended_same (Some number) n = (refl, refl)

  pub ends_node : (ask : Option ℕ) (from to : Node) → to ≡ with_ended_ask ask from → IsTrueNode to → IsRightNode s Seen name from → IsRightNode s Seen name to
  ends_node ask from to same truth is =
      let end = ended_same ask from in
      node_same from to is truth (ap (λ (n : Node). n.served) same ∙ end.0)
      (subst (AreWithin (types_of s.schema)) (sym (ap (λ (n : Node). n.items) same ∙ end.1)) is.within)

  -- a fill that is kept, or not
  took_within : (fill : SealedItem) (kept : Bool) (n : Node) → IsDistinct same_key (keys_held n.items) → IsWithinBound (types_of s.schema) fill.key fill.content
      → AreWithin (types_of s.schema) n.items → AreWithin (types_of s.schema) (if kept then with_item fill.key (item_of fill) n else n).items
  took_within fill true n distinct bound within = (items_stay_within (types_of s.schema) n.items).kept n.most fill.key (item_of fill) distinct bound within
  took_within fill false n distinct bound within = within

  took_served : (fill : SealedItem) (kept : Bool) (n : Node) → (if kept then with_item fill.key (item_of fill) n else n).served ≡ n.served
  took_served fill true n = refl
  took_served fill false n = refl

  -- of a node that has ended an ask, or none
  pub takes_node : (fill : SealedItem) (kept : Kept) (ask : Option ℕ) (from to : Node) → to ≡ took fill kept (with_ended_ask ask from)
      → Seen (key_shard fill.key) fill.note
      → IsWithinBound (types_of s.schema) fill.key fill.content → IsDistinct same_key (keys_held from.items) → IsTrueNode to → IsRightNode s Seen name from
      → IsRightNode s Seen name to
  takes_node fill kept ask from to same seen bound distinct truth is =
      let end = ended_same ask from in
      let mid : Node = with_ended_ask ask from in
      let apart : IsDistinct same_key (keys_held mid.items) = subst (λ xs. IsDistinct same_key (keys_held xs)) (sym end.1) distinct in
      let held : AreWithin (types_of s.schema) mid.items = subst (AreWithin (types_of s.schema)) (sym end.1) is.within in
      node_changed (key_shard fill.key) (seeing fill.note) from to is truth (λ t. refl)
      (right-meets Seen meets (key_shard fill.key) fill.note from.served seen is.seen)
      (ap (λ (n : Node). n.served) same ∙ ap (changed_at (key_shard fill.key) (seeing fill.note)) (took_served fill (is_yes kept) mid ∙ end.0))
      (subst (λ (n : Node). AreWithin (types_of s.schema) n.items) (sym same) (took_within fill (is_yes kept) mid apart bound held))

  -- what was given for a read is of its key
  given_seen : (read_key : Key) (fill : SealedItem) → fill.key ≡ read_key → Seen (key_shard read_key) fill.note
      → Seen (key_shard fill.key) fill.note
  given_seen key fill same seen = subst (λ k. Seen (key_shard k) fill.note) (sym same) seen

  given_within : (key : Key) (fill : SealedItem) → fill.key ≡ key → IsWithinBound (types_of s.schema) key fill.content
      → IsWithinBound (types_of s.schema) fill.key fill.content
  given_within key fill same within = subst (λ k. IsWithinBound (types_of s.schema) k fill.content) (sym same) within

  -- a leader's copy of a fill
  copies_node : (fill : SealedItem) (kept : Kept) (yes_or_not : Bool) (from to : Node) → is_yes kept ≡ yes_or_not
      → to ≡ (if yes_or_not then took fill kept from else from)
      → Seen (key_shard fill.key) fill.note → IsWithinBound (types_of s.schema) fill.key fill.content → IsDistinct same_key (keys_held from.items)
      → IsTrueNode to
      → IsRightNode s Seen name from → IsRightNode s Seen name to
  copies_node fill kept true from to which same seen bound distinct truth is = takes_node fill kept None from to same seen bound distinct truth is
  copies_node fill kept false from to which same seen bound distinct truth is = subst (IsRightNode s Seen name) (sym same) is

  -- a leader that answered of its store
  gives_node : (read : Wanted) (given : LeaderAnswer) (from to : Node) → KeepsGiven from given to → IsRightAnswer (types_of s.schema) Seen read given
      → IsDistinct same_key (keys_held from.items) → IsTrueNode to → IsRightNode s Seen name from → IsRightNode s Seen name to
  gives_node read (leader.Filled fill) from to keeps is_given distinct truth is =
      copies_node fill keeps.0 (is_yes keeps.0) from to refl keeps.2 (given_seen (query_key read.query) fill is_given.key_is is_given.seen)
      (given_within (query_key read.query) fill is_given.key_is is_given.within) distinct truth is
  gives_node read (leader.Past answer version total note) from to keeps is_given distinct truth is = subst (IsRightNode s Seen name) (sym keeps) is
  gives_node read (leader.Behind version) from to keeps is_given distinct truth is = subst (IsRightNode s Seen name) (sym keeps) is

  -- or of an item of its own
  pub answered_node : (read : Wanted) (given : LeaderAnswer) (store : Store) (before after : KeeperState) (from to : Node)
      → GivesAnswer (asked_read (types_of s.schema) from read.query read.floor) store given to before after
      → IsRightAnswer (types_of s.schema) Seen read given
      → IsDistinct same_key (keys_held from.items) → IsTrueNode to → IsRightNode s Seen name from → IsRightNode s Seen name to
  answered_node read given store before after from to answers is_given distinct truth is = elim answers [
    | inl own ↦
        node_same from to is truth (ap (λ (n : Node). n.served) own.node_is)
        (subst (λ (n : Node). AreWithin (types_of s.schema) n.items) (sym own.node_is)
        (used_within (types_of s.schema) from.items (query_key read.query) true distinct is.within))
    | inr reads ↦ gives_node read given from to reads.keeps is_given distinct truth is
  ]

  pub answers_node : (read : Wanted) (given : LeaderAnswer) (calls : StoreCalls) (from to : Node)
      → LeaderAnswers (types_of s.schema) read given calls from to → IsRightAnswer (types_of s.schema) Seen read given
      → IsDistinct same_key (keys_held from.items) → IsTrueNode to → IsRightNode s Seen name from → IsRightNode s Seen name to
  answers_node read given calls from to answers is_given distinct truth is =
      answered_node read given answers.store calls.before calls.after from to answers.answers is_given distinct truth is

  pub keeps_node : (read : Wanted) (ask : Option ℕ) (fill : SealedItem) (kept : Kept) (from to : Node) → to ≡ took fill kept (with_ended_ask ask from)
      → IsRightFill (types_of s.schema) Seen read fill → IsDistinct same_key (keys_held from.items) → IsTrueNode to → IsRightNode s Seen name from
      → IsRightNode s Seen name to
  keeps_node read ask fill kept from to same is_given distinct truth is =
      takes_node fill kept ask from to same (given_seen (query_key read.query) fill is_given.key_is is_given.seen)
      (given_within (query_key read.query) fill is_given.key_is is_given.within) distinct truth is

  -- it met a note of a shard's log, and marked a position
  marked_node : (shard position : ℕ) (note : View) (from to : Node)
      → to.served ≡ changed_at shard (marking position) (changed_at shard (seeing note) from.served) → Seen shard note
      → AreWithin (types_of s.schema) to.items → IsTrueNode to → IsRightNode s Seen name from → IsRightNode s Seen name to
  marked_node shard position note from to served seen within truth is =
      let mid : List ServedShard = changed_at shard (seeing note) from.served in
      node_after from to is truth
      (ap numbers_of served ∙ numbers_stay shard (marking position) mid (λ t. refl) ∙ numbers_stay shard (seeing note) from.served (λ t. refl))
      (subst (AreRight Seen) (sym served) (right-marks Seen shard position mid (right-meets Seen meets shard note from.served seen is.seen))) within

  -- the entry was taken, and its position marked
  pub entry_node : (shard : ℕ) (entry : Entry) (note : View) (from to : Node) → TakesEntry (types_of s.schema) shard entry note from to → Seen shard note
      → IsDistinct same_key (keys_held from.items) → IsTrueNode to → IsRightNode s Seen name from → IsRightNode s Seen name to
  entry_node shard entry note from to takes seen distinct truth is =
      marked_node shard entry.position note from to (ap (λ (n : Node). n.served) takes.node_is) seen
      (touches_within (types_of s.schema) note entry.touches from.items to.items distinct takes.items is.within) truth is

  -- a message
  pub delivers_node : (m : SeenMaint) (from to : Node) → to ≡ delivered m from → Seen m.shard m.note → IsDistinct same_key (keys_held from.items)
      → IsTrueNode to
      → IsRightNode s Seen name from → IsRightNode s Seen name to
  delivers_node m from to same seen distinct truth is =
      marked_node m.shard m.position m.note from to (ap (λ (n : Node). n.served) same) seen
      (subst (λ (n : Node). AreWithin (types_of s.schema) n.items) (sym same)
      ((items_stay_within (types_of s.schema) from.items).fewer (dropped from.items m.keys) ((items_are_fewer from.items distinct).left m.keys) is.within))
      truth is

  -- entries that were processed
  caught_numbers : (shard : ℕ) (es : List Entry) (n : Node) → numbers_of (caught_up shard es n).served ≡ numbers_of n.served
  caught_numbers shard [] n = refl
  caught_numbers shard (e ∷ es) n =
      caught_numbers shard es (processed shard e.position (keys_touched e) n) ∙ numbers_stay shard (marking e.position) n.served (λ t. refl)

  caught_seen : (shard : ℕ) (es : List Entry) (n : Node) → AreRight Seen n.served → AreRight Seen (caught_up shard es n).served
  caught_seen shard [] n seen = seen
  caught_seen shard (e ∷ es) n seen =
      caught_seen shard es (processed shard e.position (keys_touched e) n) (right-marks Seen shard e.position n.served seen)

  pub processes_node : (shard : ℕ) (es : List Entry) (note : View) (from to : Node) → to ≡ caught_up shard es (met shard note from) → Seen shard note
      → IsDistinct same_key (keys_held from.items) → IsTrueNode to → IsRightNode s Seen name from → IsRightNode s Seen name to
  processes_node shard es note from to same seen distinct truth is =
      let mid : Node = met shard note from in
      node_after from to is truth
      (ap (λ (n : Node). numbers_of n.served) same ∙ caught_numbers shard es mid ∙ numbers_stay shard (seeing note) from.served (λ t. refl))
      (subst (λ (n : Node). AreRight Seen n.served) (sym same)
      (caught_seen shard es mid (right-meets Seen meets shard note from.served seen is.seen)))
      (subst (λ (n : Node). AreWithin (types_of s.schema) n.items) (sym same)
      ((items_stay_within (types_of s.schema) from.items).caught shard es mid refl distinct is.within))

  pub writes_node : (shard : ℕ) (entry : Option Entry) (note : View) (from to : Node) → TakesWritten (types_of s.schema) shard entry note from to
      → Seen shard note
      → IsDistinct same_key (keys_held from.items) → IsTrueNode to → IsRightNode s Seen name from → IsRightNode s Seen name to
  writes_node shard None note from to takes seen distinct truth is = subst (IsRightNode s Seen name) (sym takes) is
  writes_node shard (Some entry) note from to takes seen distinct truth is = entry_node shard entry note from to takes seen distinct truth is

  -- the entry was taken, and nothing marked
  pub applies_node : (shard : ℕ) (entry : Entry) (note : View) (from to : Node) → AppliesEntry (types_of s.schema) shard entry note from to
      → Seen shard note
      → IsDistinct same_key (keys_held from.items) → IsTrueNode to → IsRightNode s Seen name from → IsRightNode s Seen name to
  applies_node shard entry note from to applies seen distinct truth is =
      node_changed shard (seeing note) from to is truth (λ t. refl) (right-meets Seen meets shard note from.served seen is.seen)
      (ap (λ (n : Node). n.served) applies.node_is)
      (touches_within (types_of s.schema) note entry.touches from.items to.items distinct applies.items is.within)

  -- it holds fewer items
  pub fewer_node : (items : Items) (from to : Node) → to ≡ record from { items = items } → AreFewer from.items items → IsTrueNode to
      → IsRightNode s Seen name from → IsRightNode s Seen name to
  fewer_node items from to same fewer truth is =
      node_same from to is truth (ap (λ (n : Node). n.served) same)
      (subst (λ (n : Node). AreWithin (types_of s.schema) n.items) (sym same) ((items_stay_within (types_of s.schema) from.items).fewer items fewer is.within))

  -- ---- a node that is emptied

  no_items : (items : Items) → items ≡ [] → AreWithin (types_of s.schema) items
  no_items items none = subst (AreWithin (types_of s.schema)) (sym none) (λ key item h. absurd (cc))

  -- the shards that begin anew are those that were served, and what was seen of them is still seen
  begun_numbers : (at : Anew) (ss : List ServedShard) (lows : List ℕ) (notes : List View) → RestartEach Seen at ss lows notes
      → numbers_of (restarted ss lows notes) ≡ numbers_of ss
  begun_numbers at [] [] [] each = refl
  begun_numbers at [] [] (note ∷ notes) each = absurd each
  begun_numbers at [] (low ∷ lows) notes each = absurd each
  begun_numbers at (t ∷ ts) [] notes each = absurd each
  begun_numbers at (t ∷ ts) (low ∷ lows) [] each = absurd each
  begun_numbers at (t ∷ ts) (low ∷ lows) (note ∷ notes) each = ap (λ ns. t.shard ∷ ns) (begun_numbers at ts lows notes each.1)

  begun_seen : (at : Anew) (ss : List ServedShard) (lows : List ℕ) (notes : List View) → RestartEach Seen at ss lows notes → AreRight Seen ss
      → AreRight Seen (restarted ss lows notes)
  begun_seen at [] [] [] each seen = tt
  begun_seen at [] [] (note ∷ notes) each seen = absurd each
  begun_seen at [] (low ∷ lows) notes each seen = absurd each
  begun_seen at (t ∷ ts) [] notes each seen = absurd each
  begun_seen at (t ∷ ts) (low ∷ lows) [] each seen = absurd each
  begun_seen at (t ∷ ts) (low ∷ lows) (note ∷ notes) each seen =
      (meets t.shard t.view note seen.0 each.0.seen, begun_seen at ts lows notes each.1 seen.1)

  pub begins_node : (at : Anew) (from to : Node) → Restarts Seen at from to → IsTrueNode to → IsRightNode s Seen name from → IsRightNode s Seen name to
  begins_node at from to begins truth is =
      node_after from to is truth
      (ap (λ (n : Node). numbers_of n.served) begins.node_is ∙ begun_numbers at from.served begins.lows begins.notes begins.each)
      (subst (λ (n : Node). AreRight Seen n.served) (sym begins.node_is) (begun_seen at from.served begins.lows begins.notes begins.each is.seen))
      (no_items to.items (ap (λ (n : Node). n.items) begins.node_is))

  pub right_nodes_stay : RightNodesStay s Seen name
  right_nodes_stay = record {
    looks = λ read look ask old new looks distinct truth is. looks_node (query_key read.query) look ask old.node new.node looks.node distinct truth is;
    answers = answers_node;
    keeps = λ read ask fill answer kept old new keeps given distinct truth is.
        keeps_node read ask fill kept old.node new.node (ap (λ (f : FollowerState). f.node) keeps.node_is) given distinct truth is;
    ends = λ ask old new ends truth is. ends_node ask old.node new.node (ap (λ (f : FollowerState). f.node) ends) truth is;
    writes = writes_node;
    applies = λ shard entry note old new applies seen distinct truth is. applies_node shard entry note old.node new.node applies.node seen distinct truth is;
    evicts = λ key old new same distinct truth is. fewer_node (without key old.items) old new same
        ((items_are_fewer old.items distinct).without_one key) truth is;
    evicts_last = λ old new same truth is. fewer_node (without_last old.items) old new same
        (λ key item h. held_take (length old.items - 1) old.items key item h) truth is;
    delivers = λ m dropped old new delivers message distinct truth is. delivers_node m old new delivers.node_is message.seen distinct truth is;
    processes = processes_node;
    begins = begins_node;
  }

-- nodes whose pens are had
pub nodes_stay : (s : Settings) (pens : Pens) (name : NodeName) → NodesStay s pens name
nodes_stay s pens name = right_nodes_stay s (IsSeen pens) (seen_meet pens) name

-- and nodes of which only the names of the logs are known
pub named_nodes_stay : (s : Settings) (log : ℕ → LogName) (name : NodeName) → RightNodesStay s (λ shard view. view.log ≡ log shard) name
named_nodes_stay s log name = right_nodes_stay s (λ shard view. view.log ≡ log shard) (λ shard view note was is. was) name

-- what a message names was seen of a log that goes on
pub messages_stay : MessagesStay
messages_stay = record {
  rises = λ s pens later name m rise is. record {
    here = is.here;
    serves = is.serves;
    seen = seen-rises pens later m.shard m.note rise is.seen;
    names = is.names;
  };
}
