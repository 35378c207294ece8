-- How contracts see a pen and a note: as a beginning of a log that was seen.
use Rattle.std.specs.Prelude.{ℕ, ◌≡◌, Bool, List, [], ◌∷◌, length, take, max, nat_le, if◌then◌else◌}
use Rattle.atomic_table.specs.Seated.{TableId}
use Rattle.tao_base.specs.declared.entry.Entry.{Entry}
use Rattle.tao_base.specs.declared.id.Key.{Key}

-- how many entries a log can have
abbrev pub most_entries : ℕ
most_entries = 65536

-- which log it is: its table, whether it is told, and the keys whose counts are pinned
pub record LogName : Type 0 where
  pub table : TableId
  pub told : Bool
  pub pins : List Key

-- a beginning of a log. The pen's is the whole log
pub record View : Type 0 where
  pub log : LogName
  pub entries : List Entry
  -- what the pen has stored at each pin. A note has nothing here
  pub stored : List ℕ
  -- for each pin a version that what is read there is not below
  pub floors : List ℕ

-- the whole list begins with the part
abbrev pub Begins : List Entry → List Entry → Type 0
Begins part whole = part ≡ take (length part) whole

-- a view grows: it is of the same log, and begins with what it was
pub record Grows (old new : View) : Type 0 where
  pub log_is : new.log ≡ old.log
  pub begins : Begins old.entries new.entries

-- the longer of two lists
abbrev pub longer : List Entry → List Entry → List Entry
longer xs ys = if nat_le (length xs) (length ys) then ys else xs

-- the greater of the two floors at each pin
abbrev pub greater : List ℕ → List ℕ → List ℕ
greater [] ys = ys
greater (x ∷ xs) [] = x ∷ xs
greater (x ∷ xs) (y ∷ ys) = max x y ∷ greater xs ys

-- the longer of two views of a log, with the greater floors
abbrev pub longer_view : View → View → View
longer_view v w = record v { entries = longer v.entries w.entries; floors = greater v.floors w.floors }

-- what a note sees that has seen all that the pen has: of the pins, it only has floors
abbrev pub as_note : View → View
as_note v = record v { stored = [] }
