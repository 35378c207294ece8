-- Where a log is cut.
use Rattle.std.specs.Prelude.{ℕ, List, [], ◌∷◌, length, max, min}
use Rattle.tao_keeper.specs.Table.{Table}

-- the least of a number and of these
abbrev pub least_of : ℕ → List ℕ → ℕ
least_of number [] = number
least_of number (mark ∷ marks) = least_of (min number mark) marks

-- the cut that a trim to these marks leaves: the least of the marks and of the log's length, unless the cut is past that
abbrev pub cut_by : Table → List ℕ → ℕ
cut_by table marks = max table.cut (least_of (length table.log) marks)
