-- What the settle of a closed cluster says.
use Rattle.std.specs.Prelude.{ℕ, ◌≡◌, ◌⊎◌, Bool, IfErr, Result, Ok, Err, Vec}
use Rattle.counts.specs.Count.{Rose}
use Rattle.core_nodes.specs.declared.settling.SettleStop.{SettleStop}
use Rattle.core_nodes.specs.declared.settling.SettleStop.TheVariants.{OutOfMemory, Unsettled}
use Rattle.unlocked_nodes.specs.core_repairs.Stops.{unsettled_as}
use Rattle.replies.specs.declared.refusals.UnsettledWhy.TheVariants.{KeeperFault}
use Rattle.replies.specs.declared.reply.Reply.{Reply}
use Rattle.replies.specs.declared.reply.Reply.TheVariants.{Settled}
use Rattle.topology.specs.Config.{Settings}
use Rattle.topology.specs.States.{all_up}
use Rattle.unlocked_nodes.specs.Settling.{ClosedNow, ComesTo, SettlesClosed, StopsClosed}

-- a keeper's fault is said only where the count rose
abbrev pub RoseIfSaid : ℕ → ℕ → SettleStop → Type 0
RoseIfSaid before now given = (shard : ℕ) → given ≡ Unsettled shard KeeperFault → Rose before now

-- what it stops with, where a fault of a keeper is said only as the count rose; else it is want of memory
pub record HasRisen (before now : ℕ) (given said : SettleStop) : Type 0 where
  pub said_is : (said ≡ given) ⊎ (said ≡ OutOfMemory)
  pub rose : RoseIfSaid before now said

-- what came of it is said, a keeper's fault only as the count rose
abbrev pub IsSaid : {A : Type 0} → ℕ → ℕ → Result A SettleStop → Result A SettleStop → Type 0
IsSaid before now (Ok logs) said = said ≡ Ok logs
IsSaid before now (Err given) said = (one : SettleStop) × (said ≡ Err one) × HasRisen before now given one

-- what came of it, as the keepers show it after any number of calls on stores that none stands for; a fault of theirs is said only as their own counts rose
pub record ComesOver {A : Type 0} (tells : Bool) (s : Settings) (result : Result (Vec ℕ A) SettleStop) (old : ClosedNow) (after : ℕ → ClosedNow) : Type 0 where
  pub strays : ℕ
  pub comes : ComesTo tells s result old (after strays)
  pub rose : IfErr result (RoseIfSaid old.outside.keepers.faults (after 0).outside.keepers.faults)

-- it came to no end, for this cause
pub record StopsOver (tells : Bool) (s : Settings) (old : ClosedNow) (reply : Reply) (after : ℕ → ClosedNow) : Type 0 where
  pub given : SettleStop
  pub strays : ℕ
  pub reply_is : reply ≡ unsettled_as (all_up s) given
  pub stops : StopsClosed tells s given old (after strays)
  pub rose : RoseIfSaid old.outside.keepers.faults (after 0).outside.keepers.faults given

-- what the reply to the settle of a closed cluster says, as the keepers show it after any number of calls on stores that none stands for
abbrev pub AnswersClosed : Bool → Settings → ClosedNow → Reply → (ℕ → ClosedNow) → Type 0
AnswersClosed tells s old (Settled logs) after = (strays : ℕ) × SettlesClosed tells s logs old (after strays)
AnswersClosed tells s old reply after = StopsOver tells s old reply after
