pub mod Beginning
pub mod Dues
pub mod Emptying
pub mod Ends
pub mod FleetView
pub mod MasterWrites
pub mod Opening
pub mod Outside
pub mod Repairs
pub mod Settling
pub mod Shown
pub mod Stages
pub mod Streams
pub mod Trimming
pub use Rattle.edge_repair.specs as edge_repair
pub use Rattle.node_stages.specs as node_stages
