pub mod Committed
pub mod LeftOpen
pub mod MergedThere
pub mod Origins
