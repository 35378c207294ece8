-- How contracts see a changeset, and what it says of its note's view.
use Rattle.std.specs.Prelude.{ℕ, ◌≡◌, ◌+◌, ◌-◌, Option, slice_get}
use Rattle.std.specs.Option.{option_map}
use Rattle.tao_base.specs.declared.entry.Change.{Change}
use Rattle.tao_base.specs.declared.entry.Entry.{Entry}
use Rattle.tao_base.specs.declared.entry.Touch.{Touch}
use Rattle.tao_base.specs.declared.id.Key.{Key}
use Rattle.graph_model.specs.Log.{IsTouchOf}
use Rattle.graph_model.specs.Told.{WhereTold}
use Rattle.shard_log.specs.View.{View}

-- a change of a key, which takes it from a version to another, with what was seen of the log
pub record SeenChange : Type 0 where
  pub key : Key
  pub before : ℕ
  pub after : ℕ
  pub change : Change
  pub note : View

-- the changeset that takes a key from one version to another by a change, with what was seen of the log
abbrev pub seen_change : Key → ℕ → ℕ → Change → View → SeenChange
seen_change key before after change note = record { key = key; before = before; after = after; change = change; note = note }

-- the changeset with another note, of one who has seen more of the log
abbrev pub change_with_note : SeenChange → View → SeenChange
change_with_note c note = record c { note = note }

-- the touch that makes the change
abbrev pub own_touch : SeenChange → Touch
own_touch c = record { key = c.key; change = c.change; version = c.after }

-- the change that a touch makes, from the version before its own. A version of 0, which no sound log has, counts as 1
abbrev pub change_by : Touch → View → SeenChange
change_by t note = seen_change t.key (t.version - 1) (t.version - 1 + 1) t.change note

-- the change that the entry makes by the touch at a place, which counts from 0
abbrev pub seen_change_at : Entry → ℕ → View → Option SeenChange
seen_change_at e place note = option_map (λ t. change_by t note) (slice_get e.touches place)

-- the versions follow, and where the log is told, the change is by a touch of what was seen
pub record IsOneTouch (c : SeenChange) : Type 0 where
  pub next : c.after ≡ c.before + 1
  pub touched : WhereTold c.note.log.told (IsTouchOf c.note.entries (own_touch c))
