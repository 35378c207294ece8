-- What becomes of connections.
use Rattle.std.specs.Prelude.{ℕ, ◌≡◌, ◌+◌, ◌-◌, ◌<◌, ◌^◌, ◌⊎◌, Option, None, Some}
use Rattle.counts.specs.Count.{Counted, Rose}
use Rattle.tao_io.specs.declared.status.Status.{Status}

-- how many jobs were started, how many handed back, and how many of these the server ran
pub record Handed : Type 0 where
  pub started : ℕ
  pub back : ℕ
  pub run : ℕ

abbrev pub handed : ℕ → ℕ → ℕ → Handed
handed started back run = record { started = started; back = back; run = run }

-- a job was started
pub record WasStarted (old new : Handed) : Type 0 where
  pub started : Counted old.started new.started
  pub back : new.back ≡ old.back
  pub run : new.run ≡ old.run

-- a job was handed back, and run
pub record WasRun (old new : Handed) : Type 0 where
  pub started : new.started ≡ old.started
  pub back : Counted old.back new.back
  pub run : Counted old.run new.run

-- one job was started, or was handed back and run
abbrev pub IsStartedOrRun : Handed → Handed → Type 0
IsStartedOrRun old new = WasStarted old new ⊎ WasRun old new

-- a connection was given and its job handed on; where the server ends, neither
abbrev pub TakesConnection : ℕ → ℕ → Handed → Handed → Option Status → Type 0
TakesConnection before now old new None = Counted before now × IsStartedOrRun old new
TakesConnection before now old new (Some status) = (now ≡ before) × (new ≡ old)

-- a server ends: with 0 where its acceptor was at its end, as the count of ends rose, and with 11 where it failed, as the count of faults rose
abbrev pub EndsServer : ℕ → ℕ → ℕ → ℕ → Status → Type 0
EndsServer ends now faults later status =
    ((status.code ≡ 0) × Rose ends now) ⊎ ((status.code ≡ 11) × (now ≡ ends) × Rose faults later)

-- the connections that were given are as many as the jobs that were started and those that were handed back, unless a count stands at its last value
pub record AddUp (given now started later back last : ℕ) : Type 0 where
  pub sum : now < 2 ^ 64 - 1 → later < 2 ^ 64 - 1 → last < 2 ^ 64 - 1 → now + started + back ≡ given + later + last
