-- What the marks are after any calls since they began.
use Rattle.std.specs.Prelude.{◌≡◌, ℕ, ◌+◌, ◌<◌, ◌≤◌, Bool, true, ◌||◌, ◌&&◌, ◌==◌, nat_le, List, [], ◌∷◌}
use Rattle.low_water.specs.Marks.{Marks, marks, is_marked, with_mark}

-- a call that changes the marks
pub data MarkCall : Type 0 where
  Mark : ℕ → MarkCall
  ForgetAhead : MarkCall

-- the marks that began at this position, after the calls, the latest first
abbrev pub marks_after : ℕ → List MarkCall → Marks
marks_after first [] = marks first []
marks_after first (Mark p ∷ earlier) = with_mark p (marks_after first earlier)
marks_after first (ForgetAhead ∷ earlier) = marks (marks_after first earlier).low []

-- the low-water mark of the marks that began at this position, after the calls, the latest first
abbrev pub low_after : ℕ → List MarkCall → ℕ
low_after first calls = (marks_after first calls).low

-- the position was marked while at most 1,024 ahead, and was not above the low-water mark when those were forgotten since
abbrev pub was_marked : ℕ → List MarkCall → ℕ → Bool
was_marked first [] q = nat_le q first
was_marked first (Mark p ∷ earlier) q = was_marked first earlier q || (q == p && nat_le p (low_after first earlier + 1024))
was_marked first (ForgetAhead ∷ earlier) q = was_marked first earlier q && nat_le q (low_after first earlier)

-- each position above the first one up to n was marked while at most 1,024 ahead, and not forgotten since
abbrev pub AllMarked : ℕ → List MarkCall → ℕ → Type 0
AllMarked first calls n = (q : ℕ) → first < q → q ≤ n → was_marked first calls q ≡ true

-- the low-water mark is the greatest n such that all positions above the first one up to n were marked
-- while at most 1,024 ahead and not forgotten since, and a further call doesn't lower it
pub record LowIsGreatest (first : ℕ) (calls : List MarkCall) : Type 0 where
  pub above : first ≤ low_after first calls
  pub all : AllMarked first calls (low_after first calls)
  pub greatest : (n : ℕ) → AllMarked first calls n → n ≤ low_after first calls
  pub marked : (q : ℕ) → is_marked (marks_after first calls) q ≡ was_marked first calls q
  pub later : (call : MarkCall) → low_after first calls ≤ low_after first (call ∷ calls)
