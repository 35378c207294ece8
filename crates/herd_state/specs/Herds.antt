-- What a join does, and what an end does.
use Rattle.std.specs.Prelude.{◌≡◌, ◌↔◌, ◌≤◌, ◌<◌, ℕ, IsTrue, List, [], ◌∷◌, ◌++◌, Option, None, Some, Result, Ok, Err, IsSomeAnd, MatchOption, length, ⊤, Bool}
use Rattle.counts.specs.Count.{after_one}
use Rattle.futures.specs.Slot.{IsLeftIn}
use Rattle.futures.specs.Task.{Hears, IsArmed}
use Rattle.futures.specs.declared.task.context.Context.{Context}
use Rattle.futures.specs.declared.task.waker.Waker.{Waker}
use Rattle.tao_base.specs.declared.memory.OutOfMemory.{OutOfMemory}
use Rattle.herd_state.specs.Leads.{Becomes, Leads, StayOpen, wakers_of}
use Rattle.herd_state.specs.declared.name.HerdName.{HerdName}
use Rattle.herd_state.specs.declared.state.Joined.{Joined}
use Rattle.herd_state.specs.declared.state.Joined.TheVariants.{Lead, Wait, Alone}

abbrev pub Outcome : Type 0
Outcome = Result Joined OutOfMemory

-- whether 1,024 wait
abbrev pub IsFull : List Waker → Bool → Type 0
IsFull wakers full = IsTrue full ↔ (1024 ≤ length wakers)

-- Between two moments of a poll, a waker of its task was put behind those who wait
abbrev pub ComesLast : Context → Context → List Waker → List Waker → Type 0
ComesLast cx after old new = (waker : Waker) × IsLeftIn cx after (Some waker) × (new ≡ old ++ waker ∷ [])

-- the task waits behind all others, or there is no memory and they are the same
abbrev pub TakesIn : Context → Context → List Waker → List Waker → Result Unit OutOfMemory → Type 0
TakesIn cx after old new (Ok done) = ComesLast cx after old new
TakesIn cx after old new (Err why) = new ≡ old

-- what comes of a join where a lead of the name is open, and what those who wait for it become
abbrev pub WaitsAs : Context → Context → List Waker → List Waker → Outcome → Type 0
WaitsAs cx after old new (Ok (Lead ticket)) = ⊥
WaitsAs cx after old new (Ok Wait) = (length old < 1024) × ComesLast cx after old new
WaitsAs cx after old new (Ok (Alone waiting)) = (waiting ≡ 1024) × (length old ≡ 1024) × (new ≡ old)
WaitsAs cx after old new (Err why) = new ≡ old

-- a lead is opened, for which nobody waits
abbrev pub OpensAs : HerdName → Leads → Leads → Result HerdName OutOfMemory → Type 0
OpensAs name old new (Ok ticket) = (ticket ≡ name) × Becomes name (Some []) old new
OpensAs name old new (Err why) = StayOpen old new

-- what comes of a join of the task of a poll, by what it answers: the poll and the leads before and behind it
abbrev pub JoinsAs : HerdName → Context → Context → Leads → Leads → Outcome → Type 0
JoinsAs name cx after old new (Ok (Lead ticket)) = (ticket ≡ name) × (wakers_of old name ≡ None) × Becomes name (Some []) old new
JoinsAs name cx after old new (Ok Wait) =
    IsSomeAnd (wakers_of old name) (λ wakers. (now : List Waker)
    × (length wakers < 1024) × ComesLast cx after wakers now × Becomes name (Some now) old new)
JoinsAs name cx after old new (Ok (Alone waiting)) =
    (waiting ≡ 1024) × IsSomeAnd (wakers_of old name) (λ wakers. length wakers ≡ 1024) × StayOpen old new
JoinsAs name cx after old new (Err why) = StayOpen old new

-- the count of waits behind a join
abbrev pub waits_after : Outcome → ℕ → ℕ
waits_after (Ok Wait) waits = after_one waits
waits_after (Ok (Lead ticket)) waits = waits
waits_after (Ok (Alone waiting)) waits = waits
waits_after (Err why) waits = waits

-- a task that waits has registered at the source
abbrev pub IsHeard : ℕ → Context → Outcome → Type 0
IsHeard source cx (Ok Wait) = IsArmed cx × Hears cx source
IsHeard source cx (Ok (Lead ticket)) = ⊤
IsHeard source cx (Ok (Alone waiting)) = ⊤
IsHeard source cx (Err why) = ⊤

-- those who waited, where a lead was open; nobody where it wasn't
abbrev pub GivesThose : Option (List Waker) → List Waker → Type 0
GivesThose found given = MatchOption found (given ≡ []) (λ wakers. given ≡ wakers)

-- the lead of a name is closed, and those who waited for it are given
abbrev pub EndsAs : HerdName → Leads → Leads → List Waker → Type 0
EndsAs name old new given = GivesThose (wakers_of old name) given × Becomes name None old new
