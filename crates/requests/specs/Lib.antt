pub mod CallWords
pub mod PlanWords
pub mod CacheWords
pub mod StoreWords
pub mod HealthWords
pub mod LinkWords
pub mod RequestWords
