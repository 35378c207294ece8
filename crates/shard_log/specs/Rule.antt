-- The rule of a log's table. Word 0 is the log's length. The entries stand in proofs alone, in the views of the seats: the first seat is the pen's,
-- whose view is the whole log, and the view of each note begins it.
use Rattle.std.specs.Prelude.{ℕ, ◌≡◌, ◌≢◌, ◌+◌, ◌≤◌, List, [], ◌∷◌, ◌++◌, All, length, true}
use mathlib.Core.Option.{some}
use lib.ListN.{get_elem?}
use Rattle.atomic_table.specs.Seated.{TableId}
use Rattle.atomic_table.specs.Table.{State, Step, Me}
use Rattle.tao_base.specs.declared.entry.Entry.{Entry}
use Rattle.tao_base.specs.declared.entry.Kind.TheVariants.{ObjAdd}
use Rattle.tao_base.specs.declared.entry.Origin.TheVariants.{Client}
use Rattle.graph_model.specs.Soundness.{IsSound}
use Rattle.graph_model.specs.Told.{WhereTold}
use Rattle.shard_log.specs.View.{View, Begins, greater, longer, most_entries}
use Rattle.shard_log.specs.declared.rule.Opening.{Opening}
use Rattle.shard_log.specs.declared.rule.Role.TheVariants.{Writes, Reads, Spent}
use Rattle.shard_log.specs.declared.rule.Seen.{Seen}

-- the pen's seat at the start
abbrev pub first_seen : Opening → Seen
first_seen opening = record { role = Writes; told = opening.told; entries = opening.first.items; met = []; pins = []; stored = []; floors = [] }

-- the seat of a new note: it has seen what the seat has that it is split from
abbrev pub reading : Seen → Seen
reading v = record v { role = Reads; stored = [] }

-- the seat of a note that met another: it has the longer view, and remembers both until a load confirms that both begin it
abbrev pub meeting : Seen → Seen → Seen
meeting v w = record v { entries = longer v.entries w.entries; met = v.entries ∷ w.entries ∷ []; floors = greater v.floors w.floors }

-- the seat of a pen that took a note in
abbrev pub taking_in : Seen → Seen → Seen
taking_in v w = record v { met = w.entries ∷ [] }

-- a seat that was taken in
abbrev pub spent : Seen
spent = record { role = Spent; told = true; entries = []; met = []; pins = []; stored = []; floors = [] }

-- the list begins with each of the parts
abbrev pub AllBegin : List (List Entry) → List Entry → Type 0
AllBegin parts whole = All (λ part. Begins part whole) parts

-- a seat that wasn't taken in, beside the pen's: it is of the same log, whose entries begin with its own
pub record Fits (pen v : Seen) : Type 0 where
  pub told_is : v.told ≡ pen.told
  pub pins_are : v.pins ≡ pen.pins
  pub begins : Begins v.entries pen.entries
  pub met : AllBegin v.met v.entries

-- a log: at most so many entries, and where it is told, sound ones
pub record IsLog (v : Seen) : Type 0 where
  pub few : length v.entries ≤ most_entries
  pub sound : WhereTold v.told (IsSound v.entries)

-- what the table keeps at every moment
pub record IsKept {S : Type 0} (s : State S Seen) : Type 0 where
  -- what the pen has seen, which is the log
  pub pen : Seen
  pub log : IsLog pen
  pub words_are : s.words ≡ length pen.entries ∷ pen.stored
  -- the first seat is the pen's, and no other
  pub first : get_elem? s.views 0 ≡ some pen
  pub writes : pen.role ≡ Writes
  pub alone : (id : ℕ) (v : Seen) → get_elem? s.views id ≡ some v → v.role ≡ Writes → id ≡ 0
  -- what each seat has seen that wasn't taken in begins the log
  pub fits : (id : ℕ) (v : Seen) → get_elem? s.views id ≡ some v → v.role ≢ Spent → Fits pen v

-- the entry of no step
abbrev pub no_entry : Entry
no_entry = record { position = 0; kind = ObjAdd; origin = Client 0 0; touches = [] }

-- the entry was added to the seat's view, whose length was found
pub record Adds {S : Type 0} (e : Entry) (step : Step S) (old : Me S Seen) (found : ℕ) (new : Me S Seen) : Type 0 where
  pub seat_is : new ≡ (record (old.0) { entries = old.0.entries ++ e ∷ [] }, old.1)
  pub found_is : found ≡ length old.0.entries

-- the seat's view grew to the length that was found
pub record Looks {S : Type 0} (step : Step S) (old : Me S Seen) (found : ℕ) (new : Me S Seen) : Type 0 where
  pub seat_is : new ≡ (record (old.0) { entries = new.0.entries }, old.1)
  pub found_is : found ≡ length new.0.entries
  pub begins : Begins old.0.entries new.0.entries
  pub log : IsLog (new.0)

-- the views that the seat met begin its own, and it forgets them
pub record Confirms {S : Type 0} (step : Step S) (old : Me S Seen) (found : ℕ) (new : Me S Seen) : Type 0 where
  pub seat_is : new ≡ (record (old.0) { met = [] }, old.1)
  pub begin : AllBegin old.0.met old.0.entries

-- how contracts see a seat
abbrev pub seat_view : {S : Type 0} → TableId → Me S Seen → View
seat_view table me =
    record { log = record { table = table; told = me.0.told; pins = me.0.pins }; entries = me.0.entries; stored = me.0.stored; floors = me.0.floors }

-- the seat is at the table, holds no slot, and has confirmed what it met
pub record IsSeated {S : Type 0} (table own : TableId) (me : Me S Seen) : Type 0 where
  pub table_is : own ≡ table
  pub words_are : table.words ≡ length me.0.pins + 1
  pub bare : me.1 ≡ []
  pub settled : me.0.met ≡ []
  pub log : IsLog (me.0)

-- the pen's seat
pub record IsPen {S : Type 0} (table own : TableId) (me : Me S Seen) (len : ℕ) : Type 0 where
  pub seated : IsSeated table own me
  pub writes : me.0.role ≡ Writes
  pub len_is : len ≡ length me.0.entries

-- a note's seat
pub record IsNote {S : Type 0} (table own : TableId) (me : Me S Seen) : Type 0 where
  pub seated : IsSeated table own me
  pub reads : me.0.role ≡ Reads
  pub stores_nothing : me.0.stored ≡ []
