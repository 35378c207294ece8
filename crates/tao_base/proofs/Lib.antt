pub mod IdSets
pub mod InOrder
pub mod RisingNumbers
pub mod SameKeys
pub mod Tests
