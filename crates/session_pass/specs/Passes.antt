-- How contracts see the pass of a session, and what it says of what its notes have seen.
use Rattle.std.specs.Prelude.{◌≡◌, ℕ, ◌≤◌, List, [], IfSome, IsSomeAnd, MatchOption, slice_get, slice_index_or, slice_set}
use Rattle.tao_base.specs.Keys.{key_shard}
use Rattle.tao_base.specs.declared.id.Key.{Key}
use Rattle.graph_model.specs.Log.{version}
use Rattle.graph_model.specs.Told.{WhereTold}
use Rattle.shard_log.specs.View.{Grows, View, longer_view}
use Rattle.session_pass.specs.Floors.{LearnsTouches, floor_at, learnt_touches, with_learnt}
use Rattle.tao_base.specs.declared.entry.Entry.{Entry}

-- a session: its number, region and tier, its floors, what it has seen of each shard's log, and how many keys it may learn without memory
pub record SeenPass : Type 0 where
  pub session : ℕ
  pub region : ℕ
  pub tier : ℕ
  pub floors : List (Key × ℕ)
  pub notes : List View
  pub spare : ℕ

-- a key has reached a version in what was seen of a log, where that is told
abbrev pub ReachesIn : View → Key → ℕ → Type 0
ReachesIn note key at = WhereTold note.log.told (at ≤ version note.entries key)

-- a key has reached a version in what was seen of its shard's log. A key of a shard that isn't configured has no version
abbrev pub HasReached : List View → Key → ℕ → Type 0
HasReached notes key at = MatchOption (slice_get notes (key_shard key)) (at ≡ 0) (λ note. ReachesIn note key at)

-- each key has reached its floor
pub record IsPass (pass : SeenPass) : Type 0 where
  pub reached : (key : Key) → HasReached pass.notes key (floor_at pass.floors key)

-- the shard is configured, and the note is of its log
abbrev pub IsNoteOf : ℕ → View → List View → Type 0
IsNoteOf shard note notes = IsSomeAnd (slice_get notes shard) (λ own. own.log ≡ note.log)

-- what was seen of the logs after the note of a shard was met
abbrev pub after_meeting : ℕ → View → List View → List View
after_meeting shard note notes = slice_set notes shard (longer_view (slice_index_or notes shard note) note)

-- what was seen of the shard's log, and what the note has seen, both begin the longer of the two
abbrev pub MeetsNote : ℕ → View → List View → Type 0
MeetsNote shard note notes = IfSome (slice_get notes shard) (λ own. Grows own (longer_view own note) × Grows note (longer_view own note))

-- a session that was told of nothing
abbrev pub new_pass : ℕ → ℕ → ℕ → List View → ℕ → SeenPass
new_pass session region tier notes spare = record { session = session; region = region; tier = tier; floors = []; notes = notes; spare = spare }

-- the pass after a version of a key was learnt, with a note
abbrev pub learnt : Key → ℕ → View → ℕ → SeenPass → SeenPass
learnt key version note spare pass =
    record pass { floors = with_learnt key version pass.floors; notes = after_meeting (key_shard key) note pass.notes; spare = spare }

-- the pass after an entry of the shard's log was learnt, with a note
pub record LearnsEntry (shard : ℕ) (entry : Entry) (note : View) (old new : SeenPass) : Type 0 where
  pub floors : LearnsTouches shard (learnt_touches entry) old.floors new.floors
  pub rest : new ≡ record old { floors = new.floors; notes = after_meeting shard note old.notes; spare = new.spare }
