-- What holds of the fields of every `LowWater`.
use Rattle.std.specs.Prelude.{◌≡◌, ◌+◌, ◌<◌, ◌≤◌, true, false}
use Rattle.low_water.specs.RingWords.{bit, IsClearAbove}
use Rattle.low_water.specs.declared.LowWater.TheInside.{Inside}

-- the bit above low is clear, that of top is set where it is above low, and those above top are clear
pub record IsRing (a : Inside) : Type 0 where
  pub low_top : a.low ≤ a.top
  pub near : a.top ≤ a.low + 1024
  pub next : bit a.ring (a.low + 1) ≡ false
  pub top_set : a.low < a.top → bit a.ring a.top ≡ true
  pub above : IsClearAbove a.ring a.low a.top
