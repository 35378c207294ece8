-- What one more mark does, and which position is the greatest.
use Rattle.std.specs.Prelude.{◌≡◌, ℕ, ◌≤◌, true}
use Rattle.low_water.specs.Marks.{Marks, is_marked, top_of, with_mark, IsGreatest, IsWindow, AddsMark}

-- one more mark adds the position alone, doesn't lower the low-water mark, and leaves it the greatest number
-- up to which all are marked
pub record MarkAdds (m : Marks) (p : ℕ) : Type 0 where
  pub marked : AddsMark m (with_mark p m) p
  pub later : m.low ≤ (with_mark p m).low
  pub window : IsWindow m → IsWindow (with_mark p m)
  pub greatest : IsWindow m → IsGreatest (with_mark p m)

-- the top is marked, and no marked position is above it
pub record TopIsGreatest (m : Marks) : Type 0 where
  pub marked : is_marked m (top_of m) ≡ true
  pub greatest : (q : ℕ) → is_marked m q ≡ true → q ≤ top_of m
