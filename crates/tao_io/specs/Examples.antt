-- Worked lines: `ab`, an empty line, `c` without its end.
use Rattle.std.specs.Prelude.{◌≡◌, [], ◌∷◌, ◌++◌, codes, refl}
use Rattle.tao_io.specs.Lines.{lines_of}

empty_lines_are_skipped : lines_of (codes "ab" ++ 10 ∷ 10 ∷ codes "c") ≡ codes "ab" ∷ codes "c" ∷ []
unfolding lines_of
empty_lines_are_skipped = refl

an_end_begins_no_line : lines_of (codes "ab" ++ 10 ∷ []) ≡ codes "ab" ∷ []
unfolding lines_of
an_end_begins_no_line = refl
