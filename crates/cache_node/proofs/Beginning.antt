-- A node that begins, or begins anew, is true of its logs.
use Rattle.std.proofs.Common.{◌≡◌, ℕ, ◌≤◌, Bool, true, false, List, [], ◌∷◌, length, Some, None, refl, sym, ◌∙◌, ap, subst, inl, inr, arith}
use Rattle.std.proofs.lemmas.Bool.{cases_Bool, leb-true, or_cases}
use Rattle.std.specs.List.{AllByRecursion}
use Rattle.std.specs.Prelude.{◌==◌, nat_le}
use Rattle.cache_node.proofs.ServedAt.{alike_stays}
use Rattle.shard_log.proofs.Beginnings.{begins-length}
use Rattle.shard_log.specs.View.{View, longer_view}
use Rattle.low_water.specs.Marks.{is_marked, marks}
use Rattle.served_shards.specs.Begun.{AreReached, AreToldAlike, begun_at, restarted}
use Rattle.cache_items.specs.Node.{empty_node, emptied, Node}
use Rattle.served_shards.specs.Meetings.{AreSeenSound, MeetEach}
use Rattle.served_shards.specs.Served.{ServedShard, restarting, served_at}
use Rattle.cache_node.specs.True.{AreAlike, IsTrueNode, IsTrueServed}

-- a node without items and asks is true where its shards are
empty_is_true : (n : Node) → n.items ≡ [] → n.asks.asks ≡ [] → AreAlike n.served
    → ((shard : ℕ) (s : ServedShard) → served_at shard n.served ≡ Some s → s.view.log.told ≡ true → IsTrueServed s) → IsTrueNode n
empty_is_true n no_items no_asks alike shards = record {
  items_here = λ key item h. absurd (let none : None ≡ Some item = rw no_items at h in cc);
  asks_here = rw no_asks tt;
  alike = alike;
  told = λ told. record {
    served = λ shard s at. shards shard s at (told shard s at);
    items = λ key item s h at. absurd (let none : None ≡ Some item = rw no_items at h in cc);
    asks = rw no_asks tt;
  };
}

low_within : (low p most : ℕ) → low ≤ most → is_marked (marks low []) p ≡ true → p ≤ most
low_within low p most le on = elim (or_cases (nat_le p low) false on) [
  | inl below ↦ (let down = leb-true p low below in omega arith)
  | inr never ↦ absurd (cc)
]

begun_true : (shards lows : List ℕ) (notes : List View) → AreReached lows notes → AreSeenSound (begun_at shards lows notes)
    → (k : ℕ) (s : ServedShard) → served_at k (begun_at shards lows notes) ≡ Some s → s.view.log.told ≡ true → IsTrueServed s
begun_true [] lows notes reached sound k s at told = absurd (cc)
begun_true (shard ∷ shards) [] notes reached sound k s at told = absurd (cc)
begun_true (shard ∷ shards) (low ∷ lows) [] reached sound k s at told = absurd (cc)
begun_true (shard ∷ shards) (low ∷ lows) (note ∷ notes) reached sound k s at told = elim (cases_Bool (shard == k)) [
  | inl on ↦ (
      let first : ServedShard = record { shard = shard; marks = marks low []; view = note } in
      let e : Some first ≡ Some s = rw on at at in
      let same : first ≡ s = cc in
      let first_told : note.log.told ≡ true = ap (λ (s : ServedShard). s.view.log.told) same ∙ told in
      subst IsTrueServed same (record { sound = sound.0 first_told; within = λ p mark. low_within low p (length note.entries) (reached.0 first_told) mark }))
  | inr off ↦ begun_true shards lows notes reached.1 sound.1 k s (rw off at at) told
]

-- what is begun with is told as the notes are
begun_told : (shards lows : List ℕ) (notes : List View) (is : Bool) → AllByRecursion (λ v. v.log.told ≡ is) notes
    → (k : ℕ) (s : ServedShard) → served_at k (begun_at shards lows notes) ≡ Some s → s.view.log.told ≡ is
begun_told [] lows notes is each k s at = absurd (cc)
begun_told (shard ∷ shards) [] notes is each k s at = absurd (cc)
begun_told (shard ∷ shards) (low ∷ lows) [] is each k s at = absurd (cc)
begun_told (shard ∷ shards) (low ∷ lows) (note ∷ notes) is each k s at = elim (cases_Bool (shard == k)) [
  | inl on ↦ (
      let first : ServedShard = record { shard = shard; marks = marks low []; view = note } in
      let e : Some first ≡ Some s = rw on at at in
      let same : first ≡ s = cc in
      ap (λ (s : ServedShard). s.view.log.told) (sym same) ∙ each.0)
  | inr off ↦ begun_told shards lows notes is each.1 k s (rw off at at)
]

begun_alike : (shards lows : List ℕ) (notes : List View) → AreToldAlike notes → AreAlike (begun_at shards lows notes)
begun_alike shards lows notes alike i j s t at_s at_t =
    begun_told shards lows notes alike.told alike.each i s at_s ∙ sym (begun_told shards lows notes alike.told alike.each j t at_t)

pub made_is_true : (most : ℕ) (shards lows : List ℕ) (notes : List View) → AreReached lows notes → AreToldAlike notes
    → AreSeenSound (begun_at shards lows notes)
    → IsTrueNode (empty_node most (begun_at shards lows notes))
made_is_true most shards lows notes reached alike sound =
    empty_is_true (empty_node most (begun_at shards lows notes)) refl refl (begun_alike shards lows notes alike) (begun_true shards lows notes reached sound)

restarted_true : (ss : List ServedShard) (lows : List ℕ) (notes : List View) → AreReached lows notes → MeetEach ss notes
    → (k : ℕ) (s : ServedShard) → served_at k (restarted ss lows notes) ≡ Some s → s.view.log.told ≡ true → IsTrueServed s
restarted_true [] lows notes reached meets k s at told = absurd (cc)
restarted_true (s ∷ ss) [] [] reached meets k after at told = absurd meets
restarted_true (s ∷ ss) [] (note ∷ notes) reached meets k after at told = absurd reached
restarted_true (s ∷ ss) (low ∷ lows) [] reached meets k after at told = absurd reached
restarted_true (s ∷ ss) (low ∷ lows) (note ∷ notes) reached meets k after at told = elim (cases_Bool (s.shard == k)) [
  | inl on ↦ (
      let first : ServedShard = restarting low note s in
      let e : Some first ≡ Some after = rw on at at in
      let same : first ≡ after = cc in
      let first_told : s.view.log.told ≡ true = ap (λ (s : ServedShard). s.view.log.told) same ∙ told in
      let note_told : note.log.told ≡ true = ap (λ l. l.told) (sym meets.0.from_note.log_is) ∙ first_told in
      let longer = begins-length note.entries (longer_view s.view note).entries meets.0.from_note.begins in
      let le = reached.0 note_told in
      subst IsTrueServed same (record {
        sound = meets.0.sound first_told;
        within = λ p mark. low_within low p (length (longer_view s.view note).entries) (omega arith) mark;
      }))
  | inr off ↦ restarted_true ss lows notes reached.1 meets.1 k after (rw off at at) told
]

-- a shard that began anew is of the log that it was of
restarted_back : (ss : List ServedShard) (lows : List ℕ) (notes : List View) (k : ℕ) (after : ServedShard) → served_at k (restarted ss lows notes) ≡ Some after
    → (before : ServedShard) × (served_at k ss ≡ Some before) × (after.view.log ≡ before.view.log)
restarted_back [] lows notes k after at = absurd (cc)
restarted_back (s ∷ ss) [] notes k after at = (after, at, refl)
restarted_back (s ∷ ss) (low ∷ lows) [] k after at = (after, at, refl)
restarted_back (s ∷ ss) (low ∷ lows) (note ∷ notes) k after at = elim (cases_Bool (s.shard == k)) [
  | inl on ↦ (
      let first : ServedShard = restarting low note s in
      let e : Some first ≡ Some after = rw on at at in
      let same : first ≡ after = cc in
      (s, rw on refl, ap (λ (s : ServedShard). s.view.log) (sym same)))
  | inr off ↦ (let r = restarted_back ss lows notes k after (rw off at at) in (r.0, rw off r.1, r.2))
]

pub emptied_is_true : (n : Node) (lows : List ℕ) (notes : List View) → AreAlike n.served → AreReached lows notes → MeetEach n.served notes
    → IsTrueNode (emptied lows notes n)
emptied_is_true n lows notes alike reached meets =
    empty_is_true (emptied lows notes n) refl refl (alike_stays n.served (restarted n.served lows notes) (restarted_back n.served lows notes) alike)
    (restarted_true n.served lows notes reached meets)
