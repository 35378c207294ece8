-- Entries of a log within one of its beginnings, and what was seen of it.
use Rattle.std.proofs.Common.{◌≡◌, ℕ, zero, suc, ◌<◌, ◌≤◌, ◌⊎◌, List, [], ◌∷◌, ◌++◌, length, drop, inl, inr, sym, ap, ◌∙◌, subst, arith}
use Rattle.std.proofs.lemmas.Bool.{cases_lt}
use Rattle.std.proofs.lemmas.List.{take-append-drop, take_all}
use Rattle.std.specs.Prelude.{Some, slice_get}
use Rattle.tao_base.specs.Ids.{shard_of}
use Rattle.tao_base.specs.declared.entry.Entry.{Entry}
use Rattle.graph_model.specs.Log.{entry_at}
use Rattle.graph_model.specs.Soundness.{EdgeUpdate}
use Rattle.write_model.proofs.Growing.{entry_at-more}
use Rattle.write_model.specs.Merges.{IsWritten}
use Rattle.locked_model.specs.Locked.{IsSeenOf}

slice_get-before : {X : Type 0} (xs more : List X) (n : ℕ) (x : X) → n < length xs → slice_get (xs ++ more) n ≡ Some x → slice_get xs n ≡ Some x
slice_get-before [] more n x lt h = absurd (omega (arith, lt))
slice_get-before (y ∷ ys) more zero x lt h = h
slice_get-before (y ∷ ys) more (suc n) x lt h = slice_get-before ys more n x (omega (arith, lt)) h

pub entry_at-before : (log more : List Entry) (position : ℕ) (e : Entry) → position ≤ length log → entry_at (log ++ more) position ≡ Some e
    → entry_at log position ≡ Some e
entry_at-before log more zero e le h = absurd (cc)
entry_at-before log more (suc n) e le h = slice_get-before log more n e (omega (arith, le)) h

-- what came after the entries that were seen
pub seen_more : (seen log : List Entry) → IsSeenOf seen log → log ≡ seen ++ drop (length seen) log
seen_more seen log h = sym (take-append-drop (length seen) log) ∙ ap (λ front. front ++ drop (length seen) log) (sym h)

pub seen_whole : (log : List Entry) → IsSeenOf log log
seen_whole log = sym (take_all (length log) log (omega arith))

module _ (shard : ℕ) (seen log : ℕ → List Entry) (begins : IsSeenOf (seen shard) (log shard)) (u : EdgeUpdate) (here : shard_of u.0 ≡ shard) where
  abbrev more : List Entry
  more = drop (length (seen shard)) (log shard)

  -- a record that was seen in a log stands there
  pub seen_stands : IsWritten seen u → IsWritten log u
  seen_stands w = record {
    position = w.position;
    entry = w.entry;
    stands = subst (λ i. entry_at (log i) w.position ≡ Some w.entry) (sym here)
        (subst (λ l. entry_at l w.position ≡ Some w.entry) (sym (seen_more (seen shard) (log shard) begins))
        (entry_at-more (seen shard) more w.position w.entry (subst (λ i. entry_at (seen i) w.position ≡ Some w.entry) here w.stands)));
    writes = w.writes;
  }

  -- a record of a log was seen, or came after
  pub seen_or_past : (w : IsWritten log u) → IsWritten seen u ⊎ (length (seen shard) < w.position)
  seen_or_past w = elim (cases_lt (length (seen shard)) w.position) [
    | inl past ↦ inr past
    | inr within ↦ inl (record {
      position = w.position;
      entry = w.entry;
      stands = subst (λ i. entry_at (seen i) w.position ≡ Some w.entry) (sym here)
          (entry_at-before (seen shard) more w.position w.entry within
          (subst (λ l. entry_at l w.position ≡ Some w.entry) (seen_more (seen shard) (log shard) begins)
          (subst (λ i. entry_at (log i) w.position ≡ Some w.entry) here w.stands)));
      writes = w.writes;
    })
  ]
