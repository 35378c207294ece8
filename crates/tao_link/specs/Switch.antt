-- A link that fails where it is cut.
use Rattle.std.specs.Prelude.{ℕ, List, [], Option, Some, None}
use Rattle.tao_link.specs.Shown.{LinkShown}
use Rattle.tao_link.specs.declared.link.Carry.{Carry}

-- the carries that are cut, how many carries there were and how many failed, and the last one that did
pub record Switched : Type 0 where
  pub cuts : List Carry
  pub carries : ℕ
  pub faults : ℕ
  pub failed : Option Carry

-- nothing is cut, and nothing was carried yet
abbrev pub uncut : Switched
uncut = record { cuts = []; carries = 0; faults = 0; failed = None }

-- what contracts see of a link that can be cut, which tells its cuts
abbrev pub switch_shown : Switched → LinkShown
switch_shown link = record { cuts = Some link.cuts; carries = link.carries; faults = link.faults; failed = link.failed }
