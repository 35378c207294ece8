-- Laws of spellings, each the contract of a function.
use Rattle.std.specs.Prelude.{◌≡◌, ℕ, List, ◌++◌}
use Rattle.tao_base.specs.Spelling.{IsSpelled, spelling}
use Rattle.tao_base.specs.declared.entry.Entry.{Entry}
use Rattle.entry_codec.specs.Values.{EntryFits}

-- bytes that begin with two spellings begin with one
abbrev pub OneSpelling : Type 0
OneSpelling = (e f : Entry) (xs ys : List ℕ) → EntryFits e → IsSpelled e → EntryFits f → IsSpelled f → spelling e ++ xs ≡ spelling f ++ ys → (e ≡ f) × (xs ≡ ys)
