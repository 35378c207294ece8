-- What stands across two runs, one after the other over the same keepers.
use Rattle.std.proofs.Common.{inl, inr}
use Rattle.std.specs.Prelude.{ℕ, ◌≡◌, ⊤, List, [], ◌∷◌, Option, true}
use Rattle.core_model.specs.Stores.{stores_in}
use Rattle.plain_promise.specs.Acknowledged.{IsAcknowledgedIn, StandsAtPosition, no_calls}
use Rattle.plain_promise.specs.Promise.{HasEachOnce}
use Rattle.request_check.specs.declared.checked.CheckedWrite.{CheckedWrite}
use Rattle.tao_base.specs.Writes.{write_shard}
use Rattle.tao_keeper.specs.Growing.{LogsGrow}
use Rattle.tao_keeper.specs.Table.{Stays, Tables}
use Rattle.tao_top.specs.Kept.{StillBegin}
use Rattle.tao_top.specs.Promised.{AreAsPromised, RunKeepsPromise}
use Rattle.tao_top.specs.Served.{Ending, Streams}
use Rattle.tao_top.specs.Step.{Given, ReplyLine, line_read, request_made}
use Rattle.topology.specs.Config.{Settings}
use Rattle.write_model.specs.Merges.{log_of}

-- ---- a run

-- a run: its status and what its words asked for, what the keepers told before it and tell after it, what its source had left and its sink had taken before
-- it, and what its sink had taken after it. Of these its clauses `promise`, `histories` and `still` speak
pub record Ran : Type 0 where
  pub ending : Ending
  pub old : Tables
  pub new : Tables
  pub before : Streams
  pub after : Option (List ℕ)
  pub promise : RunKeepsPromise ending old new before after
  pub histories : LogsGrow true old new
  pub still : StillBegin old new

-- the second began with the tables that the first left. In between the keepers may have been mended, or their file closed and opened again, and the first
-- may have ended with any status
abbrev pub Follows : Ran → Ran → Type 0
Follows first second = Stays first.new second.old

-- ---- what it acknowledged

-- what a run was given took this configuration, and one of its replies acknowledged the write at the position
abbrev pub HaveAcknowledged : (old : Tables) (given : List Given) (replies : List ReplyLine) (new : Tables) → AreAsPromised old given replies new → Settings
    → CheckedWrite → ℕ → Type 0
HaveAcknowledged old (line_read line ∷ given) replies new (inl configured) s write position =
    (configured.settings ≡ s) × IsAcknowledgedIn no_calls configured.runs.saids write position
HaveAcknowledged old (line_read line ∷ given) replies new (inr not) s write position = ⊥
HaveAcknowledged old (request_made request ∷ given) replies new none s write position = ⊥
HaveAcknowledged old [] replies new none s write position = ⊥

-- the run took this configuration, and acknowledged the write at the position
abbrev pub HasAcknowledged : Ran → Settings → CheckedWrite → ℕ → Type 0
HasAcknowledged run s write position = HaveAcknowledged run.old run.promise.given run.promise.replies run.new run.promise.promised s write position

-- what a run was given took this configuration, or none
abbrev pub HaveSettings : (old : Tables) (given : List Given) (replies : List ReplyLine) (new : Tables) → AreAsPromised old given replies new → Settings → Type 0
HaveSettings old (line_read line ∷ given) replies new (inl configured) s = configured.settings ≡ s
HaveSettings old (line_read line ∷ given) replies new (inr not) s = ⊤
HaveSettings old (request_made request ∷ given) replies new none s = ⊤
HaveSettings old [] replies new none s = ⊤

-- the run took this configuration, or none
abbrev pub IsBy : Ran → Settings → Type 0
IsBy run s = HaveSettings run.old run.promise.given run.promise.replies run.new run.promise.promised s

-- ---- the law

-- of two runs, the second of which follows the first
pub record RunsStandAcross : Type 0 where
  -- the second, and any after it, may begin with each line with which the first might
  pub begins : (first second : Ran) → Follows first second → StillBegin first.old second.new
  -- each write that the first acknowledged stands after the second at its position, under its session and number, whatever the second did
  pub stands : (first second : Ran) → Follows first second → (s : Settings) (write : CheckedWrite) (position : ℕ) → HasAcknowledged first s write position
      → StandsAtPosition (stores_in s second.new) write position
  -- it stands once, by the same configuration: the log of its shard has no two entries of one origin
  pub once : (first second : Ran) → Follows first second → (s : Settings) (write : CheckedWrite) (position : ℕ) → HasAcknowledged first s write position
      → IsBy second s → HasEachOnce (log_of (stores_in s second.new).logs (write_shard write.write))
  -- so the second, asked to write it again, says the same position
  pub again : (first second : Ran) → Follows first second → (s : Settings) (write : CheckedWrite) (position said : ℕ)
      → HasAcknowledged first s write position → HasAcknowledged second s write said → said ≡ position
