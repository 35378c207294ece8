-- The statuses of a load.
use Rattle.std.specs.Prelude.{ℕ, ◌≢◌, List, [], ◌∷◌, Contains}
use Rattle.first_line.specs.Interrupts.{interrupt_code}
use Rattle.first_line.specs.declared.FirstStop.{FirstStop}
use Rattle.first_line.specs.declared.FirstStop.TheVariants as stop
use Rattle.load_top.specs.declared.ended.Came.{Came}
use Rattle.load_top.specs.declared.ended.Came.TheVariants.{Settled, Strange, Stuck}

-- the status of a load that ended so
abbrev pub came_code : Came → ℕ
came_code Settled = 0
came_code Stuck = 10
came_code Strange = 12

-- the status where no line of a load was written whole
abbrev pub first_code : FirstStop → ℕ
first_code stop.Configuration = 3
first_code (stop.Interrupted interrupt) = interrupt_code interrupt

-- the statuses that a load may end with
abbrev pub IsStatus : ℕ → Type 0
IsStatus code = Contains (0 ∷ 3 ∷ 4 ∷ 5 ∷ 7 ∷ 9 ∷ 10 ∷ 12 ∷ []) code

-- the status is none of those by which a load's line was written whole
pub record TellsNothing (code : ℕ) : Type 0 where
  pub unsettled : code ≢ 0
  pub unstuck : code ≢ 10
  pub known : code ≢ 12
