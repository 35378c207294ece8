-- Worked examples of marks that an ask forgets.
use Rattle.std.specs.Prelude.{◌≡◌, [], ◌∷◌}
use Rattle.low_water.specs.Marks.{Marks, marks, with_mark}

-- the low-water mark is 2, and position 4 is marked ahead of it
abbrev pub one_ahead : Marks
one_ahead = with_mark 4 (marks 2 [])

-- Position 4 is forgotten: it counts as not marked until it is marked again. Else the low-water mark would pass it.
pub record MarksByExample : Type 0 where
  pub ahead : one_ahead ≡ marks 2 (4 ∷ [])
  pub forgotten : with_mark 3 (marks one_ahead.low []) ≡ marks 3 []
  pub again : with_mark 4 (with_mark 3 (marks one_ahead.low [])) ≡ marks 4 []
  pub not_forgotten : with_mark 3 one_ahead ≡ marks 4 []
