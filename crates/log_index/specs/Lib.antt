pub mod IndexOf
pub mod KeyIndex
pub mod KeyState
pub mod Positions
