-- No low-water mark of a node falls, whatever stage it does.
use Rattle.std.proofs.Common.{◌≡◌, ℕ, ◌≤◌, Bool, true, false, List, [], ◌∷◌, Option, Some, None, refl, ap, sym, subst, ◌∙◌, inl, inr, arith}
use Rattle.std.proofs.lemmas.Bool.{cases_Bool, eqb-true, le-leb, or_left}
use Rattle.std.specs.List.{list_any}
use Rattle.std.specs.Prelude.{◌==◌, ⊤, if◌then◌else◌, nat_le}
use Rattle.tao_base.specs.EdgeTypes.{EdgeTypes}
use Rattle.tao_base.specs.Keys.{key_shard}
use Rattle.tao_base.specs.Queries.{query_key}
use Rattle.tao_base.specs.declared.entry.Entry.{Entry}
use Rattle.tao_base.specs.declared.id.Key.{Key}
use Rattle.cache_items.specs.HandedOn.{with_copy}
use Rattle.cache_items.specs.Kept.{is_yes, item_of, took, with_item}
use Rattle.cache_items.specs.Node.{Node, caught_up, delivered, met, processed, with_ended_ask}
use Rattle.cache_items.specs.TakenEntry.{AppliesEntry}
use Rattle.cache_items.specs.declared.look.Kept.{Kept}
use Rattle.cache_items.specs.declared.look.Look.{Look}
use Rattle.cache_items.specs.declared.look.Look.TheVariants.{Hit, Miss}
use Rattle.follower_cache.proofs.cache_node_lemmas.ServedAt.{KeepsLog}
use Rattle.follower_cache.specs.Seen.{FollowerState}
use Rattle.leader_tier.specs.LeaderReads.{KeepsGiven}
use Rattle.leader_tier.specs.TakenWrites.{TakesWritten}
use Rattle.low_water.proofs.AddedMarks.{mark_adds, window_none}
use Rattle.graph_model.specs.Told.{WhereTold}
use Rattle.low_water.specs.Marks.{IsWindow, Marks, is_marked, marks}
use Rattle.maint_msg.specs.KeyVersions.{keys_of}
use Rattle.maint_msg.specs.Maints.{SeenMaint}
use Rattle.maint_msg.specs.declared.key_versions.KeyVersion.{KeyVersion}
use Rattle.cache_items.specs.sealed_item.Fills.{SealedItem}
use Rattle.served_shards.specs.Begun.{restarted}
use Rattle.served_shards.specs.Served.{ServedShard, changed_at, forgetting, log_at, marking, seeing}
use Rattle.shard_log.specs.View.{View}
use Rattle.leader_tier.specs.shard_tables.declared.leader_answer.LeaderAnswer.{LeaderAnswer}
use Rattle.leader_tier.specs.shard_tables.declared.leader_answer.LeaderAnswer.TheVariants as leader
use Rattle.core_model.specs.Consistent.{MarksGoOn, MarksRise, ShardGoesOn, is_told, marks_at}
use Rattle.core_model.specs.Emptied.{Anew, BeginEach, BeginsAnew, IsLowFor, MayBeginAnew, at_marks, at_stores}
use Rattle.core_model.specs.Evictions.{Evicts}
use Rattle.core_model.specs.Laws.{NodesMarkOn}
use Rattle.core_model.specs.Messages.{Processes}
use Rattle.core_model.specs.Pens.{Pens}
use Rattle.core_model.specs.Reads.{AfterLook, LeaderAnswers, StoreCalls, Wanted}
use Rattle.core_model.specs.Stores.{store_length}

-- ---- the shards that are served

-- marks rise, told or not
record Rises (old new : Marks) : Type 0 where
  low : old.low ≤ new.low
  window : IsWindow old → IsWindow new

rises_same : (m : Marks) → Rises m m
rises_same m = record { low = omega arith; window = λ w. w }

rises_told : (told : Bool) (old new : Marks) → Rises old new → MarksRise told old new
rises_told told old new rises = record { low = λ t. rises.low; window = rises.window }

shard_same : (k : ℕ) (served : List ServedShard) → ShardGoesOn k served served
shard_same k served = record {
  log = refl;
  marks = rises_told (is_told (log_at k served)) (marks_at k served) (marks_at k served) (rises_same (marks_at k served));
}

shard_on : (k : ℕ) (old mid new : List ServedShard) → ShardGoesOn k old mid → ShardGoesOn k mid new → ShardGoesOn k old new
shard_on k old mid new first second = record {
  log = second.log ∙ first.log;
  marks = record {
    low = λ told.
        let a = first.marks.low told in
        let b = second.marks.low (ap is_told first.log ∙ told) in
        omega arith;
    window = λ w. second.marks.window (first.marks.window w);
  };
}

-- what is had of one shard changes, stays of its log, and its marks rise
changed_marks : (shard k : ℕ) (f : ServedShard → ServedShard) (served : List ServedShard) → KeepsLog f → ((s : ServedShard) → Rises s.marks (f s).marks)
    → ShardGoesOn k served (changed_at shard f served)
changed_marks shard k f [] keeps rises = shard_same k []
changed_marks shard k f (s ∷ ss) keeps rises = elim (cases_Bool (s.shard == shard)) [
  | inl on ↦ rw on (elim (cases_Bool (s.shard == k)) [
    | inl here ↦ (
        let there : ((f s).shard == k) ≡ true = ap (λ n. n == k) (keeps.shard s) ∙ here in
        record { log = rw (here, there) (ap Some (keeps.log s)); marks = rw (here, there) (rises_told s.view.log.told s.marks (f s).marks (rises s)) })
    | inr other ↦ (
        let there : ((f s).shard == k) ≡ false = ap (λ n. n == k) (keeps.shard s) ∙ other in
        record { log = rw (other, there) refl; marks = rw (other, there) (shard_same k ss).marks })
  ])
  | inr off ↦ rw off (elim (cases_Bool (s.shard == k)) [
    | inl here ↦ record { log = rw here refl; marks = rw here (rises_told s.view.log.told s.marks s.marks (rises_same s.marks)) }
    | inr other ↦ (
        let rest = changed_marks shard k f ss keeps rises in
        record { log = rw other rest.log; marks = rw other rest.marks })
  ])
]

-- ---- a node

pub marks_stay : (n : Node) → MarksGoOn n n
marks_stay n shard = shard_same shard n.served

pub marks_go_on : (old mid new : Node) → MarksGoOn old mid → MarksGoOn mid new → MarksGoOn old new
marks_go_on old mid new first second shard = shard_on shard old.served mid.served new.served (first shard) (second shard)

-- the shards that it serves are these after a stage
served_so : (from to : Node) (served : List ServedShard) → to.served ≡ served
    → ((shard : ℕ) → ShardGoesOn shard from.served served) → MarksGoOn from to
served_so from to served same rises shard = subst (λ l. ShardGoesOn shard from.served l) (sym same) (rises shard)

-- they stay
pub served_stays : (from to : Node) → to.served ≡ from.served → MarksGoOn from to
served_stays from to same = served_so from to from.served same (marks_stay from)

same_node : (from to : Node) → to ≡ from → MarksGoOn from to
same_node from to same = served_stays from to (ap (λ (n : Node). n.served) same)

-- it is that node after a stage
becomes : (from to mid : Node) → to ≡ mid → MarksGoOn from mid → MarksGoOn from to
becomes from to mid same on = subst (MarksGoOn from) (sym same) on

meets : (shard : ℕ) (note : View) (n : Node) → MarksGoOn n (met shard note n)
meets shard note n k = changed_marks shard k (seeing note) n.served (record { shard = λ s. refl; log = λ s. refl }) (λ s. rises_same s.marks)

marks_one : (shard position k : ℕ) (served : List ServedShard) → ShardGoesOn k served (changed_at shard (marking position) served)
marks_one shard position k served =
    changed_marks shard k (marking position) served (record { shard = λ s. refl; log = λ s. refl })
    (λ s. (let adds = mark_adds s.marks position in record { low = adds.later; window = adds.window }))

processes_one : (shard position : ℕ) (keys : List KeyVersion) (n : Node) → MarksGoOn n (processed shard position keys n)
processes_one shard position keys n k = marks_one shard position k n.served

takes : (fill : SealedItem) (kept : Kept) (n : Node) → MarksGoOn n (took fill kept n)
takes fill kept n =
    let mid : Node = if is_yes kept then with_item fill.key (item_of fill) n else n in
    marks_go_on n mid (took fill kept n) (served_stays n mid (keeps_served (is_yes kept))) (meets (key_shard fill.key) fill.note mid)
  where
    keeps_served : (kept : Bool) → (if kept then with_item fill.key (item_of fill) n else n).served ≡ n.served
    keeps_served true = refl
    keeps_served false = refl

copies : (fill : SealedItem) (kept : Kept) (yes : Bool) (n : Node) → MarksGoOn n (if yes then took fill kept n else n)
copies fill kept true n = takes fill kept n
copies fill kept false n = marks_stay n

ended : (ask : Option ℕ) (n : Node) → MarksGoOn n (with_ended_ask ask n)
ended None n = marks_stay n
ended (Some number) n = marks_stay n

caught : (shard : ℕ) (es : List Entry) (n : Node) → MarksGoOn n (caught_up shard es n)
caught shard [] n = marks_stay n
caught shard (e ∷ es) n =
    let once : Node = processed shard e.position (keys_of e) n in
    marks_go_on n once (caught_up shard es once) (processes_one shard e.position (keys_of e) n) (caught shard es once)

-- ---- each stage

looks_on : (key : Key) (look : Look) (ask : Option ℕ) (from to : Node) → AfterLook key look ask from to → MarksGoOn from to
looks_on key (Hit answer version) ask from to looks = served_stays from to (ap (λ (n : Node). n.served) looks.1)
looks_on key Miss None from to looks = same_node from to looks.1
looks_on key Miss (Some number) from to looks =
    served_so from to (changed_at (key_shard key) forgetting from.served) (ap (λ (n : Node). n.served) looks.2)
    (λ k. changed_marks (key_shard key) k forgetting from.served (record { shard = λ s. refl; log = λ s. refl })
    (λ s. record { low = omega arith; window = λ w. window_none s.marks.low }))

keeps_given : (from to : Node) (given : LeaderAnswer) → KeepsGiven from given to → MarksGoOn from to
keeps_given from to (leader.Filled fill) keeps =
    becomes from to (with_copy fill keeps.0 from) keeps.2 (copies fill keeps.0 (is_yes keeps.0) from)
keeps_given from to (leader.Past answer version total note) keeps = same_node from to keeps
keeps_given from to (leader.Behind version) keeps = same_node from to keeps

answers_on : (types : EdgeTypes) (read : Wanted) (given : LeaderAnswer) (calls : StoreCalls) (from to : Node) → LeaderAnswers types read given calls from to
    → MarksGoOn from to
answers_on types read given calls from to does = elim does.answers [
  | inl own ↦ served_stays from to (ap (λ (n : Node). n.served) own.node_is)
  | inr reads ↦ keeps_given from to given reads.keeps
]

keeps_on : (ask : Option ℕ) (fill : SealedItem) (kept : Kept) (from to : Node) → to ≡ took fill kept (with_ended_ask ask from) → MarksGoOn from to
keeps_on ask fill kept from to same =
    let mid : Node = with_ended_ask ask from in
    becomes from to (took fill kept mid) same (marks_go_on from mid (took fill kept mid) (ended ask from) (takes fill kept mid))

writes_on : (types : EdgeTypes) (shard : ℕ) (entry : Option Entry) (note : View) (from to : Node) → TakesWritten types shard entry note from to
    → MarksGoOn from to
writes_on types shard None note from to takes_none = same_node from to takes_none
writes_on types shard (Some e) note from to entry =
    let mid : Node = met shard note from in
    served_so from to (changed_at shard (marking e.position) mid.served) (ap (λ (n : Node). n.served) entry.node_is)
    (λ k. shard_on k from.served mid.served (changed_at shard (marking e.position) mid.served) (meets shard note from k)
    (marks_one shard e.position k mid.served))

applies_on : (types : EdgeTypes) (shard : ℕ) (entry : Entry) (note : View) (from to : Node) → AppliesEntry types shard entry note from to → MarksGoOn from to
applies_on types shard entry note from to applies =
    served_so from to (met shard note from).served (ap (λ (n : Node). n.served) applies.node_is) (meets shard note from)

evicts_on : (key : Option Key) (held : Bool) (from to : Node) → Evicts key held from to → MarksGoOn from to
evicts_on (Some key) held from to does = served_stays from to (ap (λ (n : Node). n.served) does.1)
evicts_on None held from to does = served_stays from to (ap (λ (n : Node). n.served) does.1)

delivers_on : (m : SeenMaint) (from to : Node) → to ≡ delivered m from → MarksGoOn from to
delivers_on m from to same =
    let mid : Node = met m.shard m.note from in
    becomes from to (delivered m from) same
    (marks_go_on from mid (delivered m from) (meets m.shard m.note from) (processes_one m.shard m.position m.keys mid))

processes_on : (shard : ℕ) (es : List Entry) (note : View) (from to : Node) → Processes shard es note from to → MarksGoOn from to
processes_on shard es note from to same =
    let mid : Node = met shard note from in
    becomes from to (caught_up shard es mid) same (marks_go_on from mid (caught_up shard es mid) (meets shard note from) (caught shard es mid))

-- ---- a node that is emptied

low_is_marked : (m : Marks) → is_marked m m.low ≡ true
low_is_marked m = or_left (nat_le m.low m.low) (list_any (λ x. m.low == x) m.ahead) (le-leb m.low m.low (omega arith))

-- a shard begins anew where its store stands, which has come to what was marked
begun_rises : (told : Bool) (m : Marks) (low : ℕ) → WhereTold told (m.low ≤ low) → MarksRise told m (marks low [])
begun_rises told m low rises = record { low = rises; window = λ w. window_none low }

-- the low-water mark of a shard that begins anew isn't below the one that it had
abbrev IsNotBelow : Anew → ℕ → List ServedShard → Type 0
IsNotBelow at_marks k ss = ⊤
IsNotBelow (at_stores at) k ss = (is_told (log_at k ss) ≡ true → at.tells ≡ true)
    × WhereTold at.tells ((position : ℕ) → is_marked (marks_at k ss) position ≡ true → position ≤ store_length at.tables at.region k)

low_rises : (at : Anew) (k : ℕ) (s : ServedShard) (ss : List ServedShard) (low : ℕ) → (s.shard == k) ≡ true → IsLowFor at s low
    → IsNotBelow at k (s ∷ ss) → WhereTold s.view.log.told (s.marks.low ≤ low)
low_rises at_marks k s ss low here low_is not_below told = omega arith
low_rises (at_stores at) k s ss low here low_is not_below told =
    let tells = not_below.0 (rw here told) in
    let is = low_is tells in
    let most = not_below.1 tells s.marks.low (rw here (low_is_marked s.marks)) in
    let same : store_length at.tables at.region s.shard ≡ store_length at.tables at.region k =
    ap (store_length at.tables at.region) (eqb-true s.shard k here) in
    omega arith

not_below_rest : (at : Anew) (k : ℕ) (s : ServedShard) (ss : List ServedShard) → (s.shard == k) ≡ false → IsNotBelow at k (s ∷ ss) → IsNotBelow at k ss
not_below_rest at_marks k s ss other not_below = tt
not_below_rest (at_stores at) k s ss other not_below =
    (λ is. not_below.0 (rw other is), λ tells position on. not_below.1 tells position (rw other on))

begun_marks : (pens : Pens) (at : Anew) (k : ℕ) (ss : List ServedShard) (lows : List ℕ) (notes : List View) → BeginEach pens at ss lows notes
    → IsNotBelow at k ss → ShardGoesOn k ss (restarted ss lows notes)
begun_marks pens at k [] [] [] each not_below = shard_same k []
begun_marks pens at k [] [] (note ∷ notes) each not_below = absurd each
begun_marks pens at k [] (low ∷ lows) notes each not_below = absurd each
begun_marks pens at k (s ∷ ss) [] notes each not_below = absurd each
begun_marks pens at k (s ∷ ss) (low ∷ lows) [] each not_below = absurd each
begun_marks pens at k (s ∷ ss) (low ∷ lows) (note ∷ notes) each not_below = elim (cases_Bool (s.shard == k)) [
  | inl here ↦ (
      let rises = low_rises at k s ss low here each.0.low_is not_below in
      record { log = rw here refl; marks = rw here (begun_rises s.view.log.told s.marks low rises) })
  | inr other ↦ (
      let rest = begun_marks pens at k ss lows notes each.1 (not_below_rest at k s ss other not_below) in
      record { log = rw other rest.log; marks = rw other rest.marks })
]

not_below_at : (at : Anew) (n : Node) → MayBeginAnew at n → (k : ℕ) → IsNotBelow at k n.served
not_below_at at_marks n may k = tt
not_below_at (at_stores at) n may k = (may.0 k, λ tells. may.1 tells k)

begins_on : (pens : Pens) (at : Anew) (from to : Node) → BeginsAnew pens at from to → MayBeginAnew at from → MarksGoOn from to
begins_on pens at from to begins may =
    served_so from to (restarted from.served begins.lows begins.notes) (ap (λ (n : Node). n.served) begins.node_is)
    (λ k. begun_marks pens at k from.served begins.lows begins.notes begins.each (not_below_at at from may k))

pub nodes_mark_on : NodesMarkOn
nodes_mark_on = record {
  looks = λ types read look ask old new looks. looks_on (query_key read.query) look ask old.node new.node looks.node;
  answers = answers_on;
  keeps = λ types read ask fill answer kept old new keeps.
      keeps_on ask fill kept old.node new.node (ap (λ (f : FollowerState). f.node) keeps.node_is);
  ends = λ ask old new ends.
      becomes old.node new.node (with_ended_ask ask old.node) (ap (λ (f : FollowerState). f.node) ends) (ended ask old.node);
  writes = writes_on;
  applies = λ types shard entry note old new applies. applies_on types shard entry note old.node new.node applies.node;
  evicts = evicts_on;
  delivers = λ m dropped old new delivers. delivers_on m old new delivers.node_is;
  processes = processes_on;
  begins = begins_on;
  in_turn = marks_go_on;
}
