-- A node that catches up raises its low-water mark over the entries.
use Rattle.std.proofs.Common.{◌≡◌, ℕ, ◌+◌, ◌≤◌, true, List, [], ◌∷◌, length, Some, refl, sym, ◌∙◌, ap, subst, inl, inr, arith}
use Rattle.std.proofs.lemmas.Bool.{both_ways, cases_lt, eq-eqb, le-leb, or_right, and_from}
use Rattle.std.specs.Option.{option_map}
use Rattle.std.specs.Prelude.{◌==◌, ◌&&◌, nat_le}
use Rattle.tao_base.specs.declared.entry.Entry.{Entry}
use Rattle.low_water.proofs.AddedMarks.{mark_adds}
use Rattle.low_water.specs.Marks.{IsWindow, Marks, is_marked, with_mark}
use Rattle.cache_items.specs.maint_msg.KeyVersions.{keys_of}
use Rattle.cache_node.proofs.ServedAt.{changed_there}
use Rattle.cache_node.proofs.Truth.{marking_keeps}
use Rattle.cache_node.specs.Laws.{CatchingUpReaches, FollowFrom}
use Rattle.cache_items.specs.Node.{Node, caught_up, processed}
use Rattle.served_shards.specs.Served.{ServedShard, changed_at, marking, served_at}

-- the position after a low-water mark that is not above it raises it so far
mark_reaches : (m : Marks) (low : ℕ) → IsWindow m → low ≤ m.low → low + 1 ≤ (with_mark (low + 1) m).low
mark_reaches m low window le = elim (cases_lt low m.low) [
  | inl below ↦ (let later = (mark_adds m (low + 1)).later in omega arith)
  | inr at ↦ (
      let adds = mark_adds m (low + 1) in
      let later = adds.later in
      let next : ((low + 1) == (low + 1)) ≡ true = eq-eqb (low + 1) (low + 1) refl in
      let near : nat_le (low + 1) (m.low + 1024) ≡ true = le-leb (low + 1) (m.low + 1024) (omega arith) in
      let on : is_marked (with_mark (low + 1) m) (low + 1) ≡ true =
      adds.marked (low + 1) ∙ or_right (is_marked m (low + 1)) ((low + 1) == (low + 1) && nat_le (low + 1) (m.low + 1024))
      (and_from ((low + 1) == (low + 1)) (nat_le (low + 1) (m.low + 1024)) next near) in
      elim (cases_lt (with_mark (low + 1) m).low (low + 1)) [
        | inl short ↦ (
            let same : low + 1 ≡ (with_mark (low + 1) m).low + 1 = omega arith in
            absurd (both_ways (is_marked (with_mark (low + 1) m) ((with_mark (low + 1) m).low + 1)) (adds.greatest window)
            (subst (λ q. is_marked (with_mark (low + 1) m) q ≡ true) same on)))
        | inr enough ↦ enough
      ])
]

reaches : (shard low : ℕ) (entries : List Entry) (n : Node) (s : ServedShard) → served_at shard n.served ≡ Some s → IsWindow s.marks → low ≤ s.marks.low
    → FollowFrom low entries
    → (after : ServedShard) × (served_at shard (caught_up shard entries n).served ≡ Some after) × (after.view ≡ s.view)
    × (low + length entries ≤ after.marks.low)
reaches shard low [] n s at window le follow = (s, at, refl, omega arith)
reaches shard low (e ∷ es) n s at window le follow =
    let there : served_at shard (changed_at shard (marking e.position) n.served) ≡ Some (marking e.position s) =
    changed_there shard (marking e.position) (marking_keeps e.position).shard n.served ∙ ap (option_map (marking e.position)) at in
    let up : low + 1 ≤ (with_mark e.position s.marks).low =
    subst (λ p. low + 1 ≤ (with_mark p s.marks).low) (sym follow.0) (mark_reaches s.marks low window le) in
    let rest =
    reaches shard (low + 1) es (processed shard e.position (keys_of e) n) (marking e.position s) there
    ((mark_adds s.marks e.position).window window) up follow.1 in
    let far = rest.3 in
    (rest.0, rest.1, rest.2, omega arith)

pub catching_up_reaches : CatchingUpReaches
catching_up_reaches = record {
  caught_up = λ shard entries n s at window follow.
      let r = reaches shard s.marks.low entries n s at window (omega arith) follow in
      record { reached = r.0; at = r.1; view_is = r.2; low = r.3 };
}
