-- The marks after any calls: by induction over the calls.
use Rattle.std.proofs.Common.{◌≡◌, ℕ, ◌+◌, ◌≤◌, Bool, true, false, ◌||◌, ◌&&◌, List, [], ◌∷◌, refl, sym, ◌∙◌, arith, inl, inr}
use Rattle.std.specs.Prelude.{nat_le}
use Rattle.std.proofs.lemmas.Bool.{le-leb, cases_lt, or_left, both_ways}
use Rattle.low_water.specs.History.{MarkCall, Mark, ForgetAhead, marks_after, low_after, was_marked, LowIsGreatest}
use Rattle.low_water.specs.Marks.{is_marked, IsWindow}
use Rattle.low_water.proofs.AddedMarks.{any, or_false, mark_adds, window_none, window_greatest}

window_after : (first : ℕ) (calls : List MarkCall) → IsWindow (marks_after first calls)
window_after first [] = window_none first
window_after first (Mark p ∷ earlier) = (mark_adds (marks_after first earlier) p).window (window_after first earlier)
window_after first (ForgetAhead ∷ earlier) = window_none (low_after first earlier)

above_first : (first : ℕ) (calls : List MarkCall) → first ≤ low_after first calls
above_first first [] = omega arith
above_first first (Mark p ∷ earlier) = omega (arith, above_first first earlier, (mark_adds (marks_after first earlier) p).later)
above_first first (ForgetAhead ∷ earlier) = above_first first earlier

low_of_marked : (a b : Bool) → (a || false) ≡ ((a || b) && a)
low_of_marked true b = refl
low_of_marked false true = refl
low_of_marked false false = refl

marked_after : (first : ℕ) (calls : List MarkCall) (q : ℕ) → is_marked (marks_after first calls) q ≡ was_marked first calls q
marked_after first [] q = sym (or_false (nat_le q first))
marked_after first (Mark p ∷ earlier) q = rw (← marked_after first earlier q) ((mark_adds (marks_after first earlier) p).marked q)
marked_after first (ForgetAhead ∷ earlier) q = rw (← marked_after first earlier q)
    (low_of_marked (nat_le q (low_after first earlier)) (any q (marks_after first earlier).ahead))

pub low_greatest : (first : ℕ) (calls : List MarkCall) → LowIsGreatest first calls
low_greatest first calls =
    let above = above_first first calls in
    record {
      above = above;
      all = λ q l h. sym (marked_after first calls q) ∙ or_left (nat_le q (low_after first calls)) (any q (marks_after first calls).ahead)
          (le-leb q (low_after first calls) h);
      greatest = λ n all. elim (cases_lt (low_after first calls) n) [
        | inr below ↦ below
        | inl over ↦ absurd (both_ways _ (window_greatest (marks_after first calls) (window_after first calls))
            (marked_after first calls (low_after first calls + 1) ∙ all (low_after first calls + 1) (omega arith) (omega arith)))
      ];
      marked = marked_after first calls;
      later = λ call. later_than call;
    }
  where
    later_than : (call : MarkCall) → low_after first calls ≤ low_after first (call ∷ calls)
    later_than (Mark p) = (mark_adds (marks_after first calls) p).later
    later_than ForgetAhead = omega arith
