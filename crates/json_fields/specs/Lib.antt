pub mod View
pub mod Members
pub mod Fields
pub mod Items
pub mod Json
