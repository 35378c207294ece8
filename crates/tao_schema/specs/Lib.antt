pub mod AssocTypes
pub mod Index
pub mod Names
pub mod ObjectTypes
pub mod Rules
pub mod Schema
