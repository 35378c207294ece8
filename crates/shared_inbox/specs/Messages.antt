-- Messages of a cluster's logs, and what contracts see of a pass of an inbox.
use Rattle.std.specs.Prelude.{ℕ, ⊤, List, [], ◌∷◌}
use Rattle.log_names.specs.Names.{IsOfLog, LogNames}
use Rattle.maint_msg.specs.Maints.{SeenMaint}

-- the message is of its shard's log
abbrev pub IsMaintOf : LogNames → SeenMaint → Type 0
IsMaintOf log m = IsOfLog log m.shard m.note

-- each of the messages is of its shard's log
abbrev pub AreMaintsOf : LogNames → List SeenMaint → Type 0
AreMaintsOf log [] = ⊤
AreMaintsOf log (m ∷ ms) = IsMaintOf log m × AreMaintsOf log ms

-- which inbox it is
abbrev pub InboxName : Type 0
InboxName = ℕ × ℕ

-- a pass: of which inbox it is, and how often it found that empty
pub record SeenInboxPass : Type 0 where
  pub inbox : InboxName
  pub empties : ℕ

-- the pass of an inbox that found it empty so often
abbrev pub seen_inbox_pass : InboxName → ℕ → SeenInboxPass
seen_inbox_pass inbox empties = record { inbox = inbox; empties = empties }
