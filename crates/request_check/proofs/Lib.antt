pub mod PlacedNodes
pub mod Placing
pub mod PlacingCaches
pub mod PlacingHealth
pub mod PlacingRequests
pub mod PlacingStores
