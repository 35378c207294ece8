-- Why a run ends before the end of its input, and its causes.
use Rattle.std.specs.Prelude.{ℕ}
use Rattle.counts.specs.Count.{Rose}
use Rattle.first_line.specs.Interrupts.{Faults, InterruptHasCause, interrupt_code}
use Rattle.first_line.specs.declared.FirstStop.{FirstStop}
use Rattle.first_line.specs.declared.FirstStop.TheVariants as first
use Rattle.tao_top.specs.declared.stop.Stop.{Stop}
use Rattle.tao_top.specs.declared.stop.Stop.TheVariants as stop

-- how a run stops at its first line
abbrev pub stop_first : FirstStop → Stop
stop_first first.Configuration = stop.Configuration
stop_first (first.Interrupted i) = stop.Interrupted i

-- the status of a run that stopped
abbrev pub stop_code : Stop → ℕ
stop_code stop.Configuration = 3
stop_code stop.Keepers = 6
stop_code stop.Stores = 8
stop_code (stop.Interrupted i) = interrupt_code i

-- a run stops at the source or the sink only where that count rose, and at the opening of its stores only where the keepers' did
abbrev pub StopHasCause : Faults → Faults → ℕ → ℕ → Stop → Type 0
StopHasCause old new before now stop.Configuration = Unit {0}
StopHasCause old new before now stop.Keepers = Rose before now
StopHasCause old new before now stop.Stores = Unit {0}
StopHasCause old new before now (stop.Interrupted i) = InterruptHasCause old new i
