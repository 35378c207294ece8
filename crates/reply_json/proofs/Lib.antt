mod KeptReads
mod Parts
pub mod OneLine
pub mod TextOf
