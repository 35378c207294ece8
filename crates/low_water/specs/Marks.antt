-- Which positions of a shard's log a node has processed.
use Rattle.std.specs.Prelude.{◌≡◌, ℕ, ◌+◌, ◌≤◌, Bool, false, ◌||◌, ◌&&◌, ◌==◌, nat_lt, nat_le, if◌then◌else◌, fold, max, List, [], ◌∷◌, All}
use Rattle.std.specs.List.{list_any}
use Rattle.tao_base.specs.Ids.{IsRising}

-- the low-water mark, and the marked positions above it in rising order
pub record Marks : Type 0 where
  pub low : ℕ
  pub ahead : List ℕ

-- the marks with this low-water mark and these marked positions above it
abbrev pub marks : ℕ → List ℕ → Marks
marks low ahead = record { low = low; ahead = ahead }

-- the position is marked: all up to the low-water mark are
abbrev pub is_marked : Marks → ℕ → Bool
is_marked m q = nat_le q m.low || list_any (λ x. q == x) m.ahead

-- the low-water mark is the greatest number up to which all are marked
abbrev pub IsGreatest : Marks → Type 0
IsGreatest m = is_marked m (m.low + 1) ≡ false

-- the positions ahead rise, past the first one above the low-water mark, up to 1,024 ahead of it
pub record IsWindow (m : Marks) : Type 0 where
  pub rising : IsRising ((m.low + 1) ∷ m.ahead)
  pub near : All (λ q. q ≤ m.low + 1024) m.ahead

-- the greatest marked position
abbrev pub top_of : Marks → ℕ
top_of m = fold max m.low m.ahead

-- the position put in its place among rising ones, unless it is there
abbrev pub inserted : ℕ → List ℕ → List ℕ
inserted p [] = p ∷ []
inserted p (q ∷ qs) = if nat_lt p q then p ∷ q ∷ qs else (if p == q then q ∷ qs else q ∷ inserted p qs)

-- the marks with the low-water mark raised over the positions that follow it without a gap
abbrev pub marks_from : ℕ → List ℕ → Marks
marks_from low [] = marks low []
marks_from low (q ∷ qs) = if q == low + 1 then marks_from q qs else marks low (q ∷ qs)

-- the position is above the low-water mark, and at most 1,024 ahead of it
abbrev pub is_in_window : Marks → ℕ → Bool
is_in_window m p = nat_lt m.low p && nat_le p (m.low + 1024)

-- the marks after one more position was marked
abbrev pub with_mark : ℕ → Marks → Marks
with_mark p m = if is_in_window m p then marks_from m.low (inserted p m.ahead) else m

-- no more than this position was marked, and this one where it is at most 1,024 ahead
abbrev pub AddsMark : Marks → Marks → ℕ → Type 0
AddsMark old new p = (q : ℕ) → is_marked new q ≡ (is_marked old q || (q == p && nat_le p (old.low + 1024)))
