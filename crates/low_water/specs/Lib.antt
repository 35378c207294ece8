pub mod History
pub mod Laws
pub mod Marks
pub mod Ring
pub mod RingWords
