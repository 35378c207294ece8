pub mod Held
pub mod HeldLaws
pub mod HeldReads
pub mod HeldWrites
pub mod LedBy
pub mod Needs
pub mod WholeCalls
pub mod WholeLaws
