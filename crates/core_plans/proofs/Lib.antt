pub mod AsksHeld
mod ChosenLeaders
mod ComingBack
pub mod Choosing
mod CommitLemmas
mod GivenUp
pub mod HeldReadLemmas
pub mod HeldReadStages
pub mod Missing
mod PlanMaps
pub mod Standing
pub mod WholeStages
pub mod WritesGoOn
pub mod HeldWriteStages
pub mod StagesLeft
pub mod InTurn
mod InverseThere
pub mod ReadEndings
pub mod ReadRefusals
mod ReadsHeld
pub mod RefusedWrites
mod ShortOfMemory
pub mod StageLemmas
mod Taking
pub mod UpNodes
mod WholeReads
pub mod WholeRuns
mod WholeWays
pub mod WholeUp
mod WholeWrites
pub mod WriteRefusals
