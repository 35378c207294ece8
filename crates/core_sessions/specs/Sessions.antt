-- Open sessions, in the order of their numbers, and what they have learnt.
use Rattle.std.specs.Prelude.{ℕ, ◌≡◌, ◌≤◌, Bool, List, [], ◌∷◌, ◌++◌, ◌==◌, IfSome, Option, Some, filter, find, map, nat_lt, if◌then◌else◌}
use Rattle.std.specs.List.{list_any}
use Rattle.session_pass.specs.Floors.{Learns, LearnsTouches, floor_at, learnt_touches}
use Rattle.session_pass.specs.Passes.{SeenPass, after_meeting}
use Rattle.shard_log.specs.View.{View}
use Rattle.tao_base.specs.Ids.{IsRising}
use Rattle.tao_base.specs.Keys.{key_shard}
use Rattle.tao_base.specs.declared.entry.Entry.{Entry}
use Rattle.tao_base.specs.declared.id.Key.{Key}
use Rattle.core_sessions.specs.declared.sessions.CallStart.{CallStart}
use Rattle.core_sessions.specs.declared.sessions.OpenSession.{OpenSession}

-- a session: its number, its region and its tier; its floors, each under its key; and what it has seen of each shard's log
pub record Session : Type 0 where
  pub session : ℕ
  pub region : ℕ
  pub tier : ℕ
  pub floors : List (Key × ℕ)
  pub notes : List View

-- the session of a pass, of whose room nothing is said
abbrev pub session_of : SeenPass → Session
session_of p = record { session = p.session; region = p.region; tier = p.tier; floors = p.floors; notes = p.notes }

-- the sessions of the passes, in the order of these
abbrev pub sessions_of : List SeenPass → List Session
sessions_of passes = map session_of passes

-- the number of a session, and its place: region and tier
abbrev pub opening_of : Session → OpenSession
opening_of s = record { session = s.session; region = s.region; tier = s.tier }

-- where a session's read of a key begins: at its place, and at its floor of the key
abbrev pub start_of : Key → Session → CallStart
start_of key s = record { place = opening_of s; floor = floor_at s.floors key }

-- the numbers rise
abbrev pub HaveRisingNumbers : List SeenPass → Type 0
HaveRisingNumbers passes = IsRising (map (λ p. p.session) passes)

-- whether the session is open
abbrev pub is_open : List Session → ℕ → Bool
is_open sessions number = list_any (λ s. s.session == number) sessions

-- the session of that number, where it is open
abbrev pub session_at : List Session → ℕ → Option Session
session_at sessions number = find (λ s. s.session == number) sessions

-- a session that has learnt nothing
abbrev pub new_session : OpenSession → List View → Session
new_session place notes = record { session = place.session; region = place.region; tier = place.tier; floors = []; notes = notes }

-- a session is opened: it stands behind those of lower numbers, and before those of greater ones
abbrev pub with_session : Session → List Session → List Session
with_session new sessions = filter (λ s. nat_lt s.session new.session) sessions ++ new ∷ filter (λ s. nat_lt new.session s.session) sessions

-- a session is now this, and each other stays
abbrev pub with_changed : Session → List Session → List Session
with_changed new sessions = map (λ s. if s.session == new.session then new else s) sessions

-- how many sessions may be open
abbrev pub most_sessions : ℕ
most_sessions = 1024

-- ---- what a session learns

-- the session after an entry of the shard's log was learnt, with a note
pub record LearnsWith (shard : ℕ) (entry : Entry) (note : View) (old new : Session) : Type 0 where
  pub floors : LearnsTouches shard (learnt_touches entry) old.floors new.floors
  pub rest : new ≡ record old { floors = new.floors; notes = after_meeting shard note old.notes }

-- the session of that number learns an entry of the shard's log, with a note, and no other does
pub record SessionLearns (number shard : ℕ) (entry : Entry) (note : View) (old new : List Session) : Type 0 where
  pub from : Session
  pub to : Session
  pub found : session_at old number ≡ Some from
  pub learns : LearnsWith shard entry note from to
  pub is : new ≡ with_changed to old

-- the session after it learnt a version of a key, with a note of the key's shard
pub record LearnsVersionWith (key : Key) (version : ℕ) (note : View) (old new : Session) : Type 0 where
  pub floors : Learns key version old.floors new.floors
  pub rest : new ≡ record old { floors = new.floors; notes = after_meeting (key_shard key) note old.notes }

-- the session of that number learns a version of a key, with a note, and no other does
pub record SessionLearnsVersion (number : ℕ) (key : Key) (version : ℕ) (note : View) (old new : List Session) : Type 0 where
  pub from : Session
  pub to : Session
  pub found : session_at old number ≡ Some from
  pub learns : LearnsVersionWith key version note from to
  pub is : new ≡ with_changed to old

-- ---- room

-- the first pass of that number has room for the keys of an entry
abbrev pub HasRoom : ℕ → List SeenPass → Type 0
HasRoom number passes = IfSome (find (λ p. p.session == number) passes) (λ p. 8 ≤ p.spare)

-- the first pass of that number has room for the keys of both entries of a write
abbrev pub HasRoomForBoth : ℕ → List SeenPass → Type 0
HasRoomForBoth number passes = IfSome (find (λ p. p.session == number) passes) (λ p. 16 ≤ p.spare)
