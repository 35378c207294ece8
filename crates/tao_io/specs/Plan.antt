-- What a source and a sink over memory hold, with the calls that they fail at.
use Rattle.std.specs.Prelude.{◌≡◌, ℕ, List, Result}
use Rattle.counts.specs.Count.{after_one, CountsError}
use Rattle.counts.specs.Planned.{Planned, after_next, from_one}

-- the calls with those of them that fail, and how many faults there were
pub record Plan : Type 0 where
  pub calls : Planned
  pub faults : ℕ

-- nothing was counted yet
abbrev pub new_plan : List ℕ → Plan
new_plan fails = record { calls = from_one fails; faults = 0 }

-- one call was made and counted, and its fault too where it failed
pub record CountsCall {T E : Type 0} (old new : Plan) (result : Result T E) : Type 0 where
  pub calls : new.calls ≡ after_next old.calls
  pub faults : CountsError old.faults new.faults result

-- a source over memory: the bytes left, and its plan
pub record PlannedSource : Type 0 where
  pub left : List ℕ
  pub plan : Plan

-- a sink over memory: the bytes taken, and its plan
pub record PlannedSink : Type 0 where
  pub taken : List ℕ
  pub plan : Plan

-- a fault was counted, and nothing else
abbrev pub CountsFault : Plan → Plan → Type 0
CountsFault old new = new ≡ record old { faults = after_one old.faults }
