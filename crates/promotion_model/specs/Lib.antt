pub mod Promotion
pub mod PromotionLaws
