pub mod MemberPlaces
pub mod Strange
pub mod TokenSteps
