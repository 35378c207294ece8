-- The line that a server writes.
use Rattle.std.specs.Prelude.{ℕ, List, [], ◌∷◌, ◌++◌, codes}

-- the line that tells that it can be reached
abbrev pub serving_line : List ℕ
serving_line = codes "{\"ok\":\"serving\"}" ++ 10 ∷ []
