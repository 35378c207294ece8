-- What holds at each state of a run.
use Rattle.std.specs.Prelude.{⊤, Bool, List}
use Rattle.tao_core.specs.Core.{IsCoreOf}
use Rattle.tao_top.specs.Step.{Given, ReplyLine, Runs, RunStage, State, disagreeing, ended, serving, waiting}
use Rattle.core_nodes.specs.Outside.{Outside}

-- the core that serves may be used with the keepers' tables, at a stage
abbrev pub MayServeAt : Bool → RunStage → Outside → Type 0
MayServeAt tells waiting around = ⊤
MayServeAt tells (serving core) around = IsCoreOf tells around.keepers.told core
MayServeAt tells ended around = ⊤
MayServeAt tells (disagreeing s) around = ⊤

-- a run may go on from a state
abbrev pub MayGoOn : Bool → State → Type 0
MayGoOn tells state = MayServeAt tells state.stage state.outside

-- what may go on at first may go on after all that is given
pub record RunsGoOn (tells : Bool) : Type 0 where
  pub on : (old new : State) (given : List Given) (replies : List ReplyLine) → MayGoOn tells old → Runs tells old given replies new → MayGoOn tells new
