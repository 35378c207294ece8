-- What a reader does once it has asked its herd.
use Rattle.std.specs.Prelude.{◌≡◌, ℕ, Option, IsSome}
use Rattle.counts.specs.Count.{Counted}
use Rattle.futures.specs.Task.{Hears, IsArmed}
use Rattle.futures.specs.declared.task.context.Context.{Context}
use Rattle.herd_state.specs.declared.name.HerdName.{HerdName}
use Rattle.herd_state.specs.declared.state.Joined.{Joined}
use Rattle.herd_state.specs.declared.state.Joined.TheVariants as joined
use Rattle.read_herds.specs.declared.joining.Turn.{Turn}
use Rattle.read_herds.specs.declared.joining.Turn.TheVariants.{Leads, Waits, Alone}

-- a reader waits only where it has a herd: it counts that, and has registered at the source. Else its count of waits stays
abbrev pub TurnsTo : Option HerdName → ℕ → Context → ℕ → ℕ → Turn → Type 0
TurnsTo name source cx old new Waits = IsSome name × Counted old new × IsArmed cx × Hears cx source
TurnsTo name source cx old new (Leads ticket) = new ≡ old
TurnsTo name source cx old new Alone = new ≡ old

-- what a reader does after each answer of its herd
abbrev pub AfterJoin : Joined → Turn → Type 0
AfterJoin (joined.Lead ticket) turn = turn ≡ Leads ticket
AfterJoin joined.Wait turn = turn ≡ Waits
AfterJoin (joined.Alone waiting) turn = turn ≡ Alone
