-- What a call on a cluster begins with.
use Rattle.std.specs.Prelude.{ℕ, ◌≤◌, ◌-◌, ◌≡◌}
use Rattle.counts.specs.Count.{Rose}
use Rattle.hop_count.specs.Hops.{hops_after}
use Rattle.shard_log.specs.View.{View}
use Rattle.tao_link.specs.Shown.{LinkShown}

-- what the pass had seen of the log of the shard that the call is of, and the link's counts of carries and of faults
pub record Begun : Type 0 where
  pub seen : View
  pub carries : ℕ
  pub faults : ℕ

-- a call that begins so
abbrev pub begun : View → LinkShown → Begun
begun seen link = record { seen = seen; carries = link.carries; faults = link.faults }

-- the hops of a call are the carries that the link counted since it began
pub record CountsHops (begun : Begun) (carries hops : ℕ) : Type 0 where
  pub later : begun.carries ≤ carries
  pub hops_are : hops ≡ hops_after 0 (carries - begun.carries)

-- the link has failed since the call began
abbrev pub HasFailed : Begun → ℕ → Type 0
HasFailed begun faults = Rose begun.faults faults
