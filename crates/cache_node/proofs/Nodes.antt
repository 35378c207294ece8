-- What each call leaves is true of its logs.
use Rattle.std.proofs.Common.{◌≡◌, ℕ, ◌-◌, ◌<◌, ◌^◌, Bool, true, false, List, [], ◌∷◌, length, take, Option, Some, None, Result, Ok, Err, IfOk, OnErr, refl}
use Rattle.std.proofs.Common.{sym, ◌∙◌, ap, subst, arith, inl, inr}
use Rattle.std.proofs.lemmas.Bool.{cases_Bool}
use Rattle.std.specs.List.{IsDistinct}
use Rattle.std.specs.Map.{keys_of as keys_held}
use Rattle.std.specs.Option.{option_map}
use Rattle.std.specs.Prelude.{All, IfNone, IfSome, OnOk, OnSome, drop, if◌then◌else◌}
use Rattle.tao_base.specs.declared.entry.Entry.{Entry}
use Rattle.tao_base.specs.declared.id.Key.{Key}
use Rattle.tao_base.specs.EdgeTypes.{EdgeTypes}
use Rattle.tao_base.specs.declared.query.Answer.{Answer}
use Rattle.tao_base.specs.declared.query.Query.{Query}
use Rattle.graph_model.proofs.Later.{all_append}
use Rattle.tao_base.specs.Queries.{query_key}
use Rattle.tao_base.specs.Keys.{key_shard, same_key}
use Rattle.graph_model.specs.Soundness.{IsSound}
use Rattle.graph_model.specs.Told.{WhereTold}
use Rattle.shard_log.specs.View.{Grows, LogName, View, longer_view}
use Rattle.lru.specs.LruCache.{promoted}
use Rattle.low_water.specs.Marks.{is_marked}
use Rattle.ask_table.specs.Asks.{fresh, with_ask}
use Rattle.cache_items.specs.changeset.Changes.{IsOneTouch, SeenChange}
use Rattle.cache_items.proofs.maint_msg_lemmas.MaintLemmas.{maint_stays}
use Rattle.cache_items.specs.maint_msg.Maints.{IsMaint, SeenMaint}
use Rattle.cache_items.specs.sealed_item.Fills.{IsSealed, SealedItem}
use Rattle.cache_node.proofs.Answering.{fill_answers, look_answers}
use Rattle.cache_node.proofs.Changing.{changed_is_true}
use Rattle.cache_node.proofs.Filling.{ended_is_true, took_fill_is_true, took_own_is_true}
use Rattle.cache_node.proofs.Keys.{held_fewer, held_promoted, held_take}
use Rattle.cache_node.proofs.Processing.{caught_up_is_true, follow_named, processed_is_true}
use Rattle.cache_node.proofs.ServedAt.{changed_here, changed_served, changed_there}
use Rattle.cache_node.proofs.Truth.{asks_are_true, fewer_is_true, forgetting_keeps, forgot_is_true, forgotten, seeing_keeps, met_is_true}
use Rattle.cache_items.specs.declared.look.Kept.{Kept}
use Rattle.cache_items.specs.declared.look.Look.{Look}
use Rattle.cache_items.specs.Kept.{GivesKept, ask_at, is_yes, kept_of, own_kept_of, took}
use Rattle.cache_node.specs.Answered.{LookAnswers, ViewAnswers}
use Rattle.cache_items.specs.sealed_item.Decided.{content_answer, content_decides}
use Rattle.cache_items.specs.Look.{is_hit, look_of}
use Rattle.served_shards.specs.Meetings.{MeetsAt}
use Rattle.cache_items.specs.Node.{Node, caught_up, delivered, with_ended_ask, item_at, met, with_opened_ask, without, without_last}
use Rattle.served_shards.specs.Served.{ServedShard, changed_at, forgetting, log_at, low_at, seeing, served_at, top_at, view_at}
use Rattle.cache_items.specs.Taken.{TakesChange, with_change}
use Rattle.cache_node.specs.True.{IsServed, IsTrueAskOf, IsTrueNode}

-- what is had of a shard whose log is known
pub served_of_log : (served : List ServedShard) (shard : ℕ) (log : LogName) → log_at shard served ≡ Some log
    → (s : ServedShard) × (served_at shard served ≡ Some s) × (s.view.log ≡ log)
served_of_log served shard log is = by_option (served_at shard served) refl
  where
    by_option : (o : Option ServedShard) → served_at shard served ≡ o → (s : ServedShard) × (served_at shard served ≡ Some s) × (s.view.log ≡ log)
    by_option None none = absurd (let e : None ≡ Some log = rw none at is in cc)
    by_option (Some s) some = (s, some, (let e : Some s.view.log ≡ Some log = rw some at is in cc))

pub is_served : (served : List ServedShard) (shard : ℕ) (log : LogName) → log_at shard served ≡ Some log → IsServed served shard
is_served served shard log is = let at = served_of_log served shard log is in rw at.1 refl

pub same_log : (o : Option LogName) (log : LogName) → o ≡ Some log → IfSome o (λ other. other ≡ log)
same_log o log is = rw is refl

pub evicted : (old new : Node) (key : Key) → IsDistinct same_key (keys_held old.items) → IsTrueNode old → new ≡ record old { items = without key old.items }
    → IsTrueNode new
evicted old new key distinct is same =
    subst IsTrueNode (sym same) (fewer_is_true old (without key old.items) is (λ q item h. held_fewer key q old.items item distinct h))

pub last_evicted : (old new : Node) → IsTrueNode old → new ≡ record old { items = without_last old.items } → IsTrueNode new
last_evicted old new is same =
    subst IsTrueNode (sym same) (fewer_is_true old (without_last old.items) is (λ q item h. held_take (length old.items - 1) old.items q item h))

pub looked : {E : Type 0} (old new : Node) (key : Key) (r : Result Look E) → IsDistinct same_key (keys_held old.items) → IsTrueNode old
    → IfOk r (λ look. new ≡ record old { items = if is_hit look then promoted (same_key key) old.items else old.items }) → OnErr r (new ≡ old) → IsTrueNode new
looked old new key (Ok look) distinct is same same_err = subst IsTrueNode (sym same) (by_hit (is_hit look))
  where
    by_hit : (b : Bool) → IsTrueNode (record old { items = if b then promoted (same_key key) old.items else old.items })
    by_hit true = fewer_is_true old (promoted (same_key key) old.items) is (λ q item h. held_promoted old.items key q item distinct h)
    by_hit false = is
looked old new key (Err e) distinct is same same_err = subst IsTrueNode (sym same_err) is

opened_is_true : (n : Node) (key : Key) → IsTrueNode n → IsServed n.served (key_shard key) → IsTrueNode (with_opened_ask key n)
opened_is_true n key is served =
    let shard : ℕ = key_shard key in
    let m : Node = record n { served = changed_at (key_shard key) forgetting n.served } in
    let forgot = forgot_is_true n (key_shard key) is in
    let low : ℕ = low_at (key_shard key) n.served in
    asks_are_true m (with_ask key (low_at (key_shard key) n.served) n.asks) forgot
    (all_append (λ a. IsServed m.served (key_shard a.key)) n.asks.asks (fresh n.asks key low ∷ []) forgot.asks_here
    (changed_served (key_shard key) (key_shard key) forgetting n.served forgetting_keeps served, tt))
    (λ told was. all_append (IsTrueAskOf m.served) n.asks.asks (fresh n.asks key low ∷ []) was.asks (
      (λ after at.
          let c = changed_here (key_shard key) forgetting n.served after forgetting_keeps at in
          let low_is : low_at (key_shard key) n.served ≡ c.before.marks.low = rw c.was refl in
          let same = c.is in
          let after_low : after.marks.low ≡ c.before.marks.low = ap (λ (s : ServedShard). s.marks.low) c.is in
          record {
            begun = omega arith;
            known = omega arith;
            since = λ p v on above touch.
                let below = (forgotten c.before.marks p (subst (λ (s : ServedShard). is_marked s.marks p ≡ true) c.is on)).0 in
                absurd (omega arith);
          }),
      tt,
    ))

pub opened : {X : Type 0} (old new : Node) (key : Key) (r : Option X) → IsTrueNode old → IsServed old.served (key_shard key)
    → OnSome r (new ≡ with_opened_ask key old) → IfNone r (new ≡ old) → IsTrueNode new
opened old new key (Some x) is served same same_none = subst IsTrueNode (sym same) (opened_is_true old key is served)
opened old new key None is served same same_none = subst IsTrueNode (sym same_none) is

pub ask_ended : (old new : Node) (ask : ℕ) → IsTrueNode old → new ≡ with_ended_ask (Some ask) old → IsTrueNode new
ask_ended old new ask is same = subst IsTrueNode (sym same) (ended_is_true (Some ask) old is)

pub filled : {E : Type 0} (old new : Node) (fill : SealedItem) (ask : Option ℕ) (r : Result (Answer × Kept) E) → IsDistinct same_key (keys_held old.items)
    → IsTrueNode old
    → log_at (key_shard fill.key) old.served ≡ Some fill.note.log → IsSealed fill
    → IfSome ask (λ number. IfSome (ask_at number old.asks) (λ a. a.key ≡ fill.key))
    → IfOk r (λ x. MeetsAt (key_shard fill.key) fill.note old.served) → IfOk r (λ x. GivesKept (kept_of ask old.asks fill.version fill.as_of) x.1)
    → IfOk r (λ x. new ≡ took fill x.1 (with_ended_ask ask old)) → OnErr r (new ≡ with_ended_ask ask old) → IsTrueNode new
filled old new fill ask (Ok x) distinct is log sealed on_key meets due same same_err =
    subst IsTrueNode (sym same) (took_fill_is_true fill x.1 ask old distinct is
    (is_served old.served (key_shard fill.key) fill.note.log log) meets sealed on_key due)
filled old new fill ask (Err e) distinct is log sealed on_key meets due same same_err = subst IsTrueNode (sym same_err) (ended_is_true ask old is)

-- a node that took a fill has seen, of the fill's shard, what the fill's note has seen
took_sees : (fill : SealedItem) (kept : Kept) (n : Node) → MeetsAt (key_shard fill.key) fill.note n.served
    → IfSome (view_at (key_shard fill.key) (took fill kept n).served) (Grows fill.note)
took_sees fill kept n meets = elim (cases_Bool (is_yes kept)) [
  | inl on ↦ rw on sees
  | inr off ↦ rw off sees
]
  where
    shard : ℕ
    shard = key_shard fill.key

    by_served : (o : Option ServedShard) → served_at shard n.served ≡ o → IfSome (option_map (λ s. s.view) (option_map (seeing fill.note) o)) (Grows fill.note)
    by_served None none = tt
    by_served (Some s) some = (meets.meets s some).from_note

    sees : IfSome (view_at shard (changed_at shard (seeing fill.note) n.served)) (Grows fill.note)
    sees = subst (λ o. IfSome (option_map (λ s. s.view) o) (Grows fill.note)) (sym (changed_there shard (seeing fill.note) (seeing_keeps fill.note).shard n.served))
        (by_served (served_at shard n.served) refl)

pub fill_sees : {E : Type 0} (old new : Node) (fill : SealedItem) (ask : Option ℕ) (r : Result (Answer × Kept) E)
    → IfOk r (λ x. MeetsAt (key_shard fill.key) fill.note old.served) → IfOk r (λ x. new ≡ took fill x.1 (with_ended_ask ask old))
    → OnOk r (IfSome (view_at (key_shard fill.key) new.served) (Grows fill.note))
fill_sees old new fill None (Ok x) meets same =
    subst (λ (n : Node). IfSome (view_at (key_shard fill.key) n.served) (Grows fill.note)) (sym same) (took_sees fill x.1 old meets)
fill_sees old new fill (Some ask) (Ok x) meets same =
    subst (λ (n : Node). IfSome (view_at (key_shard fill.key) n.served) (Grows fill.note)) (sym same) (took_sees fill x.1 (with_ended_ask (Some ask) old) meets)
fill_sees old new fill ask (Err e) meets same = tt

pub filled_own : {E : Type 0} (old new : Node) (fill : SealedItem) (r : Result (Answer × Kept) E) → IsDistinct same_key (keys_held old.items) → IsTrueNode old
    → log_at (key_shard fill.key) old.served ≡ Some fill.note.log → IsSealed fill
    → IfOk r (λ x. MeetsAt (key_shard fill.key) fill.note old.served)
    → IfOk r (λ x. GivesKept (own_kept_of (top_at (key_shard fill.key) old.served) fill.as_of) x.1)
    → IfOk r (λ x. new ≡ took fill x.1 old) → OnErr r (new ≡ old) → IsTrueNode new
filled_own old new fill (Ok x) distinct is log sealed meets due same same_err =
    subst IsTrueNode (sym same) (took_own_is_true fill x.1 old distinct is (is_served old.served (key_shard fill.key) fill.note.log log) meets sealed due)
filled_own old new fill (Err e) distinct is log sealed meets due same same_err = subst IsTrueNode (sym same_err) is

pub changed : (old new : Node) (c : SeenChange) (bound : ℕ) → IsDistinct same_key (keys_held old.items) → IsTrueNode old
    → MeetsAt (key_shard c.key) c.note old.served
    → IsOneTouch c → c.after < 2 ^ 64 → TakesChange bound (item_at old.items c.key) c old.items new.items → new ≡ with_change c new.items old → IsTrueNode new
changed old new c bound distinct is meets touch bits takes same =
    subst IsTrueNode (sym same) (changed_is_true old c bound new.items distinct is meets touch bits takes)

pub message_came : (old new : Node) (m : SeenMaint) → IsDistinct same_key (keys_held old.items) → IsTrueNode old → log_at m.shard old.served ≡ Some m.note.log
    → IsMaint m
    → MeetsAt m.shard m.note old.served → new ≡ delivered m old → IsTrueNode new
message_came old new m distinct is log message meets same =
    let at = served_of_log old.served m.shard m.note.log log in
    let there : served_at m.shard (met m.shard m.note old).served ≡ Some (seeing m.note at.0) =
    changed_there m.shard (seeing m.note) (seeing_keeps m.note).shard old.served ∙ ap (option_map (seeing m.note)) at.1 in
    subst IsTrueNode (sym same)
    (processed_is_true m.shard m.position m.keys (met m.shard m.note old) distinct (met_is_true old m.shard m.note is meets) (seeing m.note at.0) there
    (λ told. maint_stays m (longer_view at.0.view m.note) (meets.meets at.0 at.1).from_note message told))

pub entries_came : (old new : Node) (shard : ℕ) (entries : List Entry) (note : View) → IsDistinct same_key (keys_held old.items) → IsTrueNode old
    → log_at shard old.served ≡ Some note.log
    → WhereTold note.log.told (IsSound note.entries) → WhereTold note.log.told (entries ≡ take (length entries) (drop (low_at shard old.served) note.entries))
    → WhereTold note.log.told (All (λ e. All (λ t. key_shard t.key ≡ shard) e.touches) entries) → MeetsAt shard note old.served
    → new ≡ caught_up shard entries (met shard note old) → IsTrueNode new
entries_came old new shard entries note distinct is log sound next here meets same =
    let at = served_of_log old.served shard note.log log in
    let there : served_at shard (met shard note old).served ≡ Some (seeing note at.0) =
    changed_there shard (seeing note) (seeing_keeps note).shard old.served ∙ ap (option_map (seeing note)) at.1 in
    subst IsTrueNode (sym same)
    (caught_up_is_true shard entries (met shard note old) distinct (met_is_true old shard note is meets) (seeing note at.0) there
    (λ told.
    let on : note.log.told ≡ true = ap (λ (l : LogName). l.told) (sym at.2) ∙ told in
    follow_named note (longer_view at.0.view note) shard (low_at shard old.served) entries (meets.meets at.0 at.1).from_note (sound on) (next on) (here on)))

pub look_legal : {E : Type 0} (types : EdgeTypes) (n : Node) (query : Query) (floor : ℕ) (r : Result Look E) → IsTrueNode n
    → IfOk r (λ look. look ≡ look_of types (item_at n.items (query_key query)) query floor) → IfOk r (LookAnswers types n.served query)
look_legal types n query floor (Ok look) is same = look_answers types n query floor look is same
look_legal types n query floor (Err e) is same = tt

pub fill_legal : {E : Type 0} (types : EdgeTypes) (query : Query) (fill : SealedItem) (r : Result (Answer × Kept) E) → fill.key ≡ query_key query
    → content_decides types fill.content query ≡ true → IsSealed fill
    → IfOk r (λ x. x.0 ≡ content_answer types fill.content query) → IfOk r (λ x. ViewAnswers types fill.note query x.0 fill.version)
fill_legal types query fill (Ok x) key decided sealed same =
    subst (λ a. ViewAnswers types fill.note query a fill.version) (sym same) (fill_answers types query fill key decided sealed)
fill_legal types query fill (Err e) key decided sealed same = tt
