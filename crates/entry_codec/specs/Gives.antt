-- What a reader does, as reading a field.
use Rattle.std.specs.Prelude.{◌≡◌, ℕ, List, Result, Ok, Err, Vec}
use Rattle.std.specs.Borrow.{Bor}
use Rattle.std.specs.declared.alloc.Global.{Global}
use Rattle.entry_codec.specs.Fields.{Rest}
use Rattle.entry_codec.specs.declared.refusal.EntryRefusal.{EntryRefusal}
use Rattle.entry_codec.specs.declared.refusal.EntryRefusal.TheVariants.{BadEntry, OutOfMemory}

-- the reading was refused there, unless memory ran out
abbrev pub IsRefused : {X : Type 0} → EntryRefusal → Result X ℕ → Type 0
IsRefused (BadEntry at) read = read ≡ Err at
IsRefused OutOfMemory read = Unit {0}

-- the result and what is left are those of the reading, unless memory ran out
abbrev pub GivesValue : {X : Type 0} → Result X EntryRefusal → Rest → Result (X × Rest) ℕ → Type 0
GivesValue (Ok x) left read = read ≡ Ok (x, left)
GivesValue (Err refusal) left read = IsRefused refusal read

-- the lent bytes and what is left are those of the reading, unless memory ran out
abbrev pub GivesBytes : Result (Bor (List ℕ)) EntryRefusal → Rest → Result (List ℕ × Rest) ℕ → Type 0
GivesBytes (Ok bytes) left read = read ≡ Ok (bytes.now, left)
GivesBytes (Err refusal) left read = IsRefused refusal read

-- the vector's items and what is left are those of the reading, unless memory ran out
abbrev pub GivesItems : {X : Type 0} → Result (Vec X Global) EntryRefusal → Rest → Result (List X × Rest) ℕ → Type 0
GivesItems (Ok values) left read = read ≡ Ok (values.items, left)
GivesItems (Err refusal) left read = IsRefused refusal read

-- the result is that of the reading, unless memory ran out
abbrev pub Answers : {X : Type 0} → Result X EntryRefusal → Result X ℕ → Type 0
Answers (Ok x) read = read ≡ Ok x
Answers (Err refusal) read = IsRefused refusal read
