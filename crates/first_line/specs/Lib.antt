pub mod First
pub mod Interrupts
