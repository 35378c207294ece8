-- A link that fails where its plan says so.
use Rattle.std.specs.Prelude.{ℕ, List, Option, None}
use Rattle.counts.specs.Planned.{Planned, from_one}
use Rattle.tao_link.specs.Shown.{LinkShown}
use Rattle.tao_link.specs.declared.link.Carry.{Carry}

-- the carries with those of them that fail, how many failed, and the last one that did
pub record LinkPlan : Type 0 where
  pub carries : Planned
  pub faults : ℕ
  pub failed : Option Carry

-- a link whose carries of the listed numbers fail, before the first carry
abbrev pub plan_of : List ℕ → LinkPlan
plan_of fails = record { carries = from_one fails; faults = 0; failed = None }

-- what contracts see of a link with a plan, which tells no cuts
abbrev pub planned_shown : LinkPlan → LinkShown
planned_shown link = record { cuts = None; carries = link.carries.count; faults = link.faults; failed = link.failed }
