pub mod EmptyStores
