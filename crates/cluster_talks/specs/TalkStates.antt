-- What a connection has come to.
use Rattle.std.specs.Prelude.{ℕ, ◌≡◌, Bool, true, false}
use Rattle.log_names.specs.Names.{LogNames}
use Rattle.session_pass.specs.Floors.{FloorsRise, HasNoFloors}
use Rattle.session_pass.specs.Passes.{SeenPass}
use Rattle.shared_stores.specs.Making.{Making}
use Rattle.shared_tiers.specs.Calls.{Calling, calling}
use Rattle.shared_tiers.specs.locked_nodes.Passes.{IsPassOf, NotesGrow}

-- between two lines: whether the connection has a session that is open, and what its calls go by
pub record TalkState : Type 0 where
  pub opened : Bool
  pub now : Calling

-- a connection that has come to this
abbrev pub talk_state : Bool → Calling → TalkState
talk_state opened now = record { opened = opened; now = now }

-- the pass, given to the session of a tier
abbrev pub named_pass : ℕ → ℕ → ℕ → SeenPass → SeenPass
named_pass session region tier pass = record pass { session = session; region = region; tier = tier }

-- the connection's session is open: its pass is that of the session, of a tier
abbrev pub opened_for : ℕ → ℕ → ℕ → TalkState → TalkState
opened_for session region tier s = talk_state true (calling (named_pass session region tier s.now.pass) s.now.link)

-- the connection's session is open, and it is this one
pub record IsOpenFor (session : ℕ) (s : TalkState) : Type 0 where
  pub opened : s.opened ≡ true
  pub same : session ≡ s.now.pass.session

-- a connection to the cluster: its pass is the cluster's, and was told of nothing as long as its session isn't open
pub record MayTalk (m : Making) (log : LogNames) (s : TalkState) : Type 0 where
  pub pass : IsPassOf m log s.now.pass
  pub untold : s.opened ≡ false → HasNoFloors s.now.pass.floors

-- a connection goes on: an open session stays open, no floor fell, and what was seen grew
pub record TalkGoesOn (old new : TalkState) : Type 0 where
  pub stays : old.opened ≡ true → new.opened ≡ true
  pub floors : FloorsRise old.now.pass.floors new.now.pass.floors
  pub notes : NotesGrow old.now.pass.notes new.now.pass.notes

-- what a step of a connection to the cluster leaves: such a connection, which goes on
pub record TalksOn (m : Making) (log : LogNames) (old new : TalkState) : Type 0 where
  pub may : MayTalk m log new
  pub goes : TalkGoesOn old new
